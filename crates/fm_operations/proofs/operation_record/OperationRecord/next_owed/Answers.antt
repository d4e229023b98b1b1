use Rattle.fm_operations.proofs.Words.{ap, sym, slice_get, ask_at, owed, FlowRecord}
use Rattle.std.proofs.Common.{◌∙◌}
use Rattle.fm_operations.proofs.Noted.{owed_at}
use Rattle.fm_operations.proofs.operation_record.OperationRecord.next_owed.Goals as goal

pub returns : goal.returns
returns c =
    c.ask_at.ensures ∙ ap (λ es. ask_at es c.in_ok-top.field-0) c.deref.ensures.value
    ∙ owed_at c.self.inside.entries.items _ c.self.invariant.1.1.1.1.1 (sym c.top.ensures ∙ c.in_ok-top.was)
    ∙ ap (λ (r : FlowRecord). slice_get (owed r.entries) 0) c.self.view_is
