use Rattle.fm_local.proofs.Words.{slice_get, numbered}
use Rattle.fm_local.proofs.operations.FoundFilter.{calls_found}
use Rattle.fm_local.proofs.callbacks.tell.Goals as goal

pub returns-in-Start-clause-rest : goal.returns-in-Start-clause-rest
returns-in-Start-clause-rest g c =
    calls_found (numbered c.args.filters.now) (slice_get c.args.work.now.state.stack.instances c.args.instance.0) c.filter_of.result
    c.filter_of.ensures g.F.Minifilter.is_quiet
    c.of-filter.result c.args.work.now c.tell_start.new.port c.of-filter.ensures c.tell_start.ensures.quiet c.tell_start.ensures.far

pub returns-in-Complete-clause-rest : goal.returns-in-Complete-clause-rest
returns-in-Complete-clause-rest g c =
    calls_found (numbered c.args.filters.now) (slice_get c.args.work.now.state.stack.instances c.args.instance.0) c.filter_of.result
    c.filter_of.ensures g.F.Minifilter.is_quiet
    c.of-filter.result c.args.work.now c.tell_complete.new.port c.of-filter.ensures c.tell_complete.ensures.quiet c.tell_complete.ensures.far

pub returns-in-Drain-clause-rest : goal.returns-in-Drain-clause-rest
returns-in-Drain-clause-rest g c =
    calls_found (numbered c.args.filters.now) (slice_get c.args.work.now.state.stack.instances c.args.instance.0) c.filter_of.result
    c.filter_of.ensures g.F.Minifilter.is_quiet
    c.of-filter.result c.args.work.now c.let_go.new.port c.of-filter.ensures c.let_go.ensures.quiet c.let_go.ensures.far
