use Rattle.fm_wire.proofs.Words.{arith}
use Rattle.fm_wire.proofs.Streams.{begins_body, rest_is, splits_at}
use Rattle.fm_wire.proofs.stream.read_frames.Goals as goal

pub loop-body-preserved : goal.loop-body-preserved
loop-body-preserved c =
    let split = c.in-Some.ensures in
    rw c.in_ok-push.ensures.items
    (begins_body c.args.stream.now c.loop-body.frames.items c.loop-body.rest.now c.in-Some.body.now c.in-Some.behind.now c.in_ok-read_body.field-0
    c.loop-body.invariant split.some.0 split.some.1 c.in_ok-read_body.ensures.ok)

pub overflow_sub-result : goal.overflow_sub-result
overflow_sub-result c = (rest_is c.args.stream.now c.loop-body.frames.items c.loop-body.rest.now c.loop-body.invariant).1

pub returns-clause-ok : goal.returns-clause-ok
returns-clause-ok c =
    (splits_at c.args.stream.now c.loop-body.frames.items c.loop-body.rest.now c.loop-body.invariant c.in_default.ensures.none, omega arith)
