use Rattle.fm_operations.proofs.Words.{ap, owed}
use Rattle.std.proofs.Common.{◌∙◌, is_some}
use Rattle.fm_operations.specs.Drains.{is_of}
use Rattle.fm_operations.proofs.Depths.{any_placed}
use Rattle.fm_operations.proofs.operation_record.OperationRecord.owes.Goals as goal

pub returns : goal.returns
returns c = c.is_some.ensures ∙ ap is_some c.depth_of.ensures ∙ any_placed (is_of c.args.instance.0) (owed c.args.self.now.entries)
