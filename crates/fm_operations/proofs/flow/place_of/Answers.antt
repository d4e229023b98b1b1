use Rattle.fm_operations.proofs.Words.{ap, sym, arith, length, FlowRecord}
use Rattle.std.proofs.Common.{◌∙◌, ◌-◌}
use Rattle.fm_types.specs.declared.ids.OpId.{OpId}
use Rattle.fm_types.proofs.Rising.{stands_rising}
use Rattle.fm_operations.proofs.flow.place_of.Goals as goal

pub returns-then-number : goal.returns-then-number
returns-then-number c =
    let is = ap (λ (r : FlowRecord). r.number.0) (sym c.index-operations-count.is ∙ sym c.as_ref.ensures) ∙ ap (λ (o : OpId). o.0)
    (sym c.number.ensures) ∙ c.if-number.true in
    stands_rising (λ (r : FlowRecord). r.number.0) c.args.number.0 c.args.operations.now
    (length c.args.operations.now - 1) c.index-operations-count.result c.requires (omega arith) is
