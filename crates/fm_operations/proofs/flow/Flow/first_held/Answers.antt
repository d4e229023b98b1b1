use Rattle.fm_operations.proofs.Words.{ap, sym, None, Some}
use Rattle.std.proofs.Common.{◌∙◌}
use Rattle.std.specs.Option.{option_copied}
use Rattle.fm_operations.proofs.Holds.{first_told}
use Rattle.fm_operations.proofs.flow.Flow.first_held.Goals as goal

pub returns-in_err-operation : goal.returns-in_err-operation
returns-in_err-operation c =
    first_told c.args.hold c.args.instance.0 c.deref.result.now None c.from_residual.result c.self.view_is c.deref.ensures.value c.self.invariant.0.ascending
    (sym (ap option_copied c.in_err-operation.was) ∙ c.first_held.ensures) c.from_residual.ensures

pub returns : goal.returns
returns c =
    first_told c.args.hold c.args.instance.0 c.deref.result.now (Some c.in_ok-operation.operation.now)
    (Some c.number.result) c.self.view_is c.deref.ensures.value
    c.self.invariant.0.ascending (sym (ap option_copied c.in_ok-operation.was) ∙ c.first_held.ensures) (ap Some c.number.ensures)
