use Rattle.fm_local.proofs.Words.{numbered, WORKER}
use Rattle.fm_local.proofs.instances.Cleanups.{cleans_more}
use Rattle.fm_local.proofs.instances.Tidiness.{tidies_both}
use Rattle.fm_local.proofs.cleanups.clean_all.Goals as goal

pub loop-preserved : goal.loop-preserved
loop-preserved g c =
    let old = c.args.state.now in
    let said = c.loop-test.ensures in (
      cleans_more g.F.Minifilter.cleanup_may (numbered c.args.filters.now) WORKER old c.loop.state c.clean_next.new.state c.loop.invariant.0 said.cleans,
      tidies_both old c.loop.state c.clean_next.new.state c.loop.invariant.1 said.tidies,
    )
