use Rattle.fm_local.proofs.Words.{sym}
use Rattle.fm_local.proofs.queues.HandedOut.{passed_over, passed_all}
use Rattle.fm_local.proofs.parts.Parts.take_done.Goals as goal

pub loop-operation-preserved : goal.loop-operation-preserved
loop-operation-preserved g c =
    passed_over c.args.self.now c.loop-operation.self c.take.new.self c.loop-operation.invariant.1 c.in-Some.operation
    c.in_default-collect.field-0 c.collect.new.self c.in_default-collect.ensures.event
    (sym c.in-Some.ensures.first) c.in-Some.ensures.rest c.loop-operation.invariant.0

pub returns-clause-takes : goal.returns-clause-takes
returns-clause-takes g c =
    passed_all c.args.self.now c.loop-operation.self c.take.new.self c.loop-operation.invariant.1
    (sym c.in_default.ensures.first) c.in_default.ensures.rest c.loop-operation.invariant.0
