use Rattle.fm_stack.proofs.Words.{set_is_updated}
use Rattle.fm_stack.specs.Dismounting.{volume_in}
use Rattle.std.proofs.Common.{refl}
use Rattle.fm_stack.proofs.volume.set_phase.Goals as goal

pub returns : goal.returns
returns c = set_is_updated (volume_in c.args.phase) c.args.rows.now.items c.args.at c.index_mut.result.now _ c.requires c.index_mut.ensures.value refl
