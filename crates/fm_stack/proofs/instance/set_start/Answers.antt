use Rattle.fm_stack.proofs.Words.{set_is_updated}
use Rattle.fm_stack.specs.Detaching.{with_start}
use Rattle.std.proofs.Common.{refl}
use Rattle.fm_stack.proofs.instance.set_start.Goals as goal

pub returns : goal.returns
returns c = set_is_updated (with_start c.args.start) c.args.rows.now.items c.args.at c.index_mut.result.now _ c.requires c.index_mut.ensures.value refl
