use Rattle.fm_local.proofs.Words.{Err, Ok, ap, WORKER, Parts, subst, sym}
use Rattle.fm_local.proofs.queues.Places.{collected_out, still_out}
use Rattle.fm_local.proofs.queues.ManagerWaits.{collects_wait}
use Rattle.fm_local.specs.Waits.{IsApart, Waiting}
use Rattle.fm_local.proofs.parts.Parts.reply.Goals as goal

pub returns-in-Ok-clause-out : goal.returns-in-Ok-clause-out
returns-in-Ok-clause-out g c out =
    still_out WORKER c.collect.new.self c.hand_out.new.self.work.state (ap (λ m. m.work.state.workers) c.hand_out.ensures.kept)
    (collected_out WORKER c.args.self.now.work.state c.args.operation (Ok c.in-Ok.answer) c.collect.new.self c.in-Ok.ensures.event out)

pub returns-in-Err-clause-out : goal.returns-in-Err-clause-out
returns-in-Err-clause-out g c = collected_out WORKER c.args.self.now.work.state c.args.operation (Err c.in-Err.status) c.collect.new.self c.in-Err.ensures.event

pub returns-in-Ok-clause-waits : goal.returns-in-Ok-clause-waits
returns-in-Ok-clause-waits g c waits apart =
    let old = c.args.self.now in
    subst (λ (m : Parts g.row.F.Denot g.row.B.Denot). Waiting m × IsApart c.args.operation m) (sym c.hand_out.ensures.kept) (
      collects_wait old.work.state c.args.operation (Ok c.in-Ok.answer) c.collect.new.self old.work.resumed.items.items
          old.finished.items.items c.in-Ok.ensures.event apart.0 apart.1 waits,
      apart,
    )

pub returns-in-Err-clause-waits : goal.returns-in-Err-clause-waits
returns-in-Err-clause-waits g c waits apart =
    let old = c.args.self.now in (
      collects_wait old.work.state c.args.operation (Err c.in-Err.status) c.collect.new.self old.work.resumed.items.items
          old.finished.items.items c.in-Err.ensures.event apart.0 apart.1 waits,
      apart,
    )
