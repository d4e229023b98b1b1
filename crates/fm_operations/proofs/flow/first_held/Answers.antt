use Rattle.fm_operations.proofs.Words.{ap, sym, Some, FlowRecord}
use Rattle.std.proofs.Common.{◌∙◌}
use Rattle.std.specs.Option.{option_copied}
use Rattle.fm_operations.specs.Holds.{is_held}
use Rattle.fm_types.proofs.Firsts.{absent, stands_there}
use Rattle.fm_operations.proofs.flow.first_held.Goals as goal

pub returns-in_err-place : goal.returns-in_err-place
returns-in_err-place c = ap option_copied c.from_residual.ensures
    ∙ sym (absent (is_held c.args.hold c.args.instance.0) c.args.operations.now (sym c.held_place.ensures ∙ c.in_err-place.was))

pub returns : goal.returns
returns c =
    let there = stands_there (is_held c.args.hold c.args.instance.0) c.args.operations.now c.in_ok-place.place
    c.index-operations-place.result (sym c.held_place.ensures ∙ c.in_ok-place.was) in
    ap (λ (r : FlowRecord). Some r) (c.as_ref.ensures ∙ c.index-operations-place.is) ∙ sym there.found
