use Rattle.fm_core.proofs.Words.{absent, stands_there, FileHandle, ap, position, sym, ◌∙◌, change_none, is_handle, with_phase, slice_set}
use Rattle.fm_core.proofs.files.phase_in.Goals as goal

pub returns-in-Some-clause-items : goal.returns-in-Some-clause-items
returns-in-Some-clause-items c =
    ap (λ (x : FileHandle). slice_set c.args.handles.now.items c.in-Some.at (with_phase c.args.phase x)) c.index_mut.ensures.value
    ∙ (stands_there (is_handle c.args.handle) c.args.handles.now.items c.in-Some.at c.index_mut.result.now
    (ap (position (is_handle c.args.handle)) (sym c.deref.ensures.value) ∙ sym c.index_of_handle.ensures ∙ c.in-Some.is)).writes (with_phase c.args.phase)

pub returns-in_default-clause-items : goal.returns-in_default-clause-items
returns-in_default-clause-items c =
    sym (change_none (is_handle c.args.handle) (with_phase c.args.phase) c.args.handles.now.items (absent (is_handle c.args.handle) c.args.handles.now.items
    (ap (position (is_handle c.args.handle)) (sym c.deref.ensures.value) ∙ sym c.index_of_handle.ensures ∙ c.in_default.is)))
