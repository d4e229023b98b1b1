use Rattle.fm_core.proofs.Words.{stands_there, sym, ◌∙◌, is_handle}
use Rattle.fm_core.proofs.files.handle_in.Goals as goal

pub returns-in-Some : goal.returns-in-Some
returns-in-Some c = sym (stands_there (is_handle c.args.handle) c.args.handles.now c.in-Some.at _ (sym c.index_of_handle.ensures ∙ c.in-Some.is)).found
