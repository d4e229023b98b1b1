use Rattle.fm_operations.proofs.Words.{ap, sym}
use Rattle.std.proofs.Common.{◌∙◌}
use Rattle.fm_operations.specs.Holds.{same_number}
use Rattle.fm_operations.proofs.Holds.{held_there}
use Rattle.fm_operations.proofs.operation_record.OperationRecord.is_held.Goals as goal

pub returns : goal.returns
returns c =
    c.is_that.ensures ∙ ap (same_number c.args.instance.0) c.holder.ensures
    ∙ sym (held_there c.args.hold c.args.instance.0 c.args.self.now.stage c.args.self.now.entries c.laws.ensures.course)
