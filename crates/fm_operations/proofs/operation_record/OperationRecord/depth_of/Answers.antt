use Rattle.fm_operations.proofs.Words.{ap, ask_at, owed, FlowRecord}
use Rattle.std.proofs.Common.{◌∙◌, position}
use Rattle.fm_operations.specs.Drains.{is_of, is_some_of}
use Rattle.fm_operations.proofs.Depths.{placed_alike}
use Rattle.fm_operations.proofs.operation_record.OperationRecord.depth_of.Goals as goal

pub returns : goal.returns
returns c =
    c.depth_of.ensures ∙ ap (λ es. position (λ place. is_some_of c.args.instance.0 (ask_at es place)) c.self.inside.owed) c.deref.ensures.value
    ∙ placed_alike (ask_at c.self.inside.entries.items) c.args.instance.0 c.self.inside.owed _ c.self.invariant.1.1.1.1.1.asks
    ∙ ap (λ (r : FlowRecord). position (is_of c.args.instance.0) (owed r.entries)) c.self.view_is
