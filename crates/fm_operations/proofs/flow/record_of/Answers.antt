use Rattle.fm_operations.proofs.Words.{ap, sym, Some, FlowRecord, is_number}
use Rattle.std.proofs.Common.{◌∙◌}
use Rattle.std.specs.Option.{option_copied}
use Rattle.fm_types.proofs.Firsts.{absent, stands_there}
use Rattle.fm_operations.proofs.flow.record_of.Goals as goal

pub returns-in_err-place : goal.returns-in_err-place
returns-in_err-place c = ap option_copied c.from_residual.ensures
    ∙ sym (absent (is_number c.args.number) c.args.operations.now (sym c.place_of.ensures ∙ c.in_err-place.was))

pub returns : goal.returns
returns c =
    let there = stands_there (is_number c.args.number) c.args.operations.now c.in_ok-place.place c.index-operations-place.result
    (sym c.place_of.ensures ∙ c.in_ok-place.was) in
    ap (λ (r : FlowRecord). Some r) (c.as_ref.ensures ∙ c.index-operations-place.is) ∙ sym there.found
