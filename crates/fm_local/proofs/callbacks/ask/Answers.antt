use Rattle.fm_local.proofs.Words.{slice_get, numbered}
use Rattle.fm_local.proofs.operations.FoundFilter.{calls_found}
use Rattle.fm_local.proofs.callbacks.ask.Goals as goal

pub returns-in-Setup-clause-rest : goal.returns-in-Setup-clause-rest
returns-in-Setup-clause-rest g c =
    calls_found (numbered c.args.filters.now) (slice_get c.args.work.now.state.stack.instances c.args.instance.0) c.filter_of.result
    c.filter_of.ensures g.F.Minifilter.is_quiet
    c.of-filter.result c.args.work.now c.ask_setup.new.port c.of-filter.ensures c.ask_setup.ensures.quiet c.ask_setup.ensures.far

pub returns-in-Query-clause-rest : goal.returns-in-Query-clause-rest
returns-in-Query-clause-rest g c =
    calls_found (numbered c.args.filters.now) (slice_get c.args.work.now.state.stack.instances c.args.instance.0) c.filter_of.result
    c.filter_of.ensures g.F.Minifilter.is_quiet
    c.of-filter.result c.args.work.now c.ask_query.new.port c.of-filter.ensures c.ask_query.ensures.quiet c.ask_query.ensures.far
