use Rattle.fm_local.proofs.Words.{slice_get, numbered}
use Rattle.fm_local.proofs.operations.FoundFilter.{calls_found}
use Rattle.fm_local.proofs.callbacks.goes_down.Goals as goal

pub returns-clause-rest : goal.returns-clause-rest
returns-clause-rest g c =
    calls_found (numbered c.args.filters.now) (slice_get c.args.work.now.state.stack.instances c.args.instance.0) c.filter_of.result
    c.filter_of.ensures g.F.Minifilter.is_quiet
    c.of.result c.args.work.now c.ask_pre.new.port c.of.ensures c.ask_pre.ensures.quiet c.ask_pre.ensures.far
