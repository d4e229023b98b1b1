use Rattle.std.proofs.Common.{ap}
use Rattle.fm_queue.specs.Passes.{tally_of}
use Rattle.fm_worker.proofs.Handing.{put_on}
use Rattle.fm_worker.proofs.worker.Worker.queue_resumed.Goals as goal

pub jobs-preserved : goal.jobs-preserved
jobs-preserved g c =
    let was = c.jobs.self.own in
    let is = c.put.new.own in
    put_on (tally_of c.args.self.now.own.pass).puts c.args.self.now.own.port.resumed was.port.resumed is.port.resumed c.take.new.self
    c.in-Some-first.operation c.first.result
    (tally_of was.pass) (tally_of is.pass) c.put.result c.jobs.invariant c.first.ensures c.in-Some-first.is c.put.ensures.put c.if-not-put.false
    (ap (λ p. p.resumed) c.put.ensures.port) c.take.ensures.rest
