use Rattle.fm_core.proofs.Words.{absent, found_read, stands_there, without_none, ap, position, sym, ◌∙◌, is_handle}
use Rattle.fm_core.proofs.files.close_in.Goals as goal

pub returns-in-Some-clause-found : goal.returns-in-Some-clause-found
returns-in-Some-clause-found c =
    found_read (is_handle c.args.handle) c.args.handles.now.items c.in-Some.at c.remove.result
    (ap (position (is_handle c.args.handle)) (sym c.deref.ensures.value) ∙ sym c.index_of_handle.ensures ∙ c.in-Some.is) c.remove.ensures.value

pub returns-in-Some-clause-items : goal.returns-in-Some-clause-items
returns-in-Some-clause-items c =
    c.remove.ensures.items ∙ (stands_there (is_handle c.args.handle) c.args.handles.now.items c.in-Some.at c.remove.result
    (ap (position (is_handle c.args.handle)) (sym c.deref.ensures.value) ∙ sym c.index_of_handle.ensures ∙ c.in-Some.is)).goes

pub returns-in-None-clause-found : goal.returns-in-None-clause-found
returns-in-None-clause-found c =
    sym (absent (is_handle c.args.handle) c.args.handles.now.items
    (ap (position (is_handle c.args.handle)) (sym c.deref.ensures.value) ∙ sym c.index_of_handle.ensures ∙ c.in-None.is))

pub returns-in-None-clause-items : goal.returns-in-None-clause-items
returns-in-None-clause-items c =
    sym (without_none (is_handle c.args.handle) c.args.handles.now.items (sym (returns-in-None-clause-found c)))
