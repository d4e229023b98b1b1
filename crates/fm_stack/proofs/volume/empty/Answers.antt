use Rattle.fm_stack.proofs.Words.{set_is_updated}
use Rattle.fm_stack.specs.Dismounting.{emptied_in}
use Rattle.std.proofs.Common.{ap}
use Rattle.fm_stack.proofs.volume.empty.Goals as goal

pub returns : goal.returns
returns c = set_is_updated emptied_in c.args.rows.now.items c.args.at c.index_mut-row.result.now _ c.requires
    c.index_mut-row.ensures.value (ap (λ p. record c.index_mut-row.result.now { phase = p }) c.emptied-row.ensures)
