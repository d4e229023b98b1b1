use Rattle.fm_local.proofs.Words.{Err, Ok, World, ◌∙◌, ap, refl, sym, none-some, numbered, WORKER}
use Rattle.fm_local.proofs.queues.Places.{drained_out, draining_in, same_out}
use Rattle.fm_local.proofs.instances.Drains.{drains_none, drains_one, drains_refused}
use Rattle.fm_local.proofs.instances.Detaches.{drain_same, drained_none}
use Rattle.fm_local.proofs.instances.DrainCount.{drained_less}
use Rattle.fm_local.proofs.queues.LooseOperations.{drain_taken}
use Rattle.fm_local.proofs.queues.Waits.{waits_on}
use Rattle.fm_local.proofs.parts.Parts.drain_first.Goals as goal

pub returns-in-Ok-Some-clause-drains : goal.returns-in-Ok-Some-clause-drains
returns-in-Ok-Some-clause-drains g c =
    drains_one g.F.Minifilter.drained (numbered c.args.self.now.filters) WORKER c.args.instance c.args.self.now.work.state
    c.in-Ok-Some.field-0 c.drain_take.new.self c.in-Ok-Some.ensures.event c.in-Ok-Some.operation c.in-Ok-Some.completion
    c.in-Ok-Some.field-0-is
    c.drain_early.ensures.called c.drain_early.result c.drain_early.new.self.work.state c.drain_early.ensures.ends

pub returns-in-Ok-Some-clause-none : goal.returns-in-Ok-Some-clause-none
returns-in-Ok-Some-clause-none g c none =
    let is = drained_none WORKER c.args.instance c.args.self.now.work.state c.in-Ok-Some.field-0 c.drain_take.new.self none c.in-Ok-Some.ensures.event in
    absurd (none-some _ (sym is ∙ c.in-Ok-Some.field-0-is))

pub returns-in-Ok-None-clause-drains : goal.returns-in-Ok-None-clause-drains
returns-in-Ok-None-clause-drains g c =
    drains_none g.F.Minifilter.drained (numbered c.args.self.now.filters) WORKER c.args.instance c.args.self.now.work.state
    c.in-Ok-None.field-0 c.drain_take.new.self c.in-Ok-None.ensures.event c.in-Ok-None.field-0-is

pub returns-in-Ok-None-clause-none : goal.returns-in-Ok-None-clause-none
returns-in-Ok-None-clause-none g c none =
    let old = c.args.self.now in (
      refl,
      ap (λ (w : World). record old { work = record old.work { state = w } })
          (drain_same WORKER c.args.instance old.work.state (Ok c.in-Ok-None.field-0) c.drain_take.new.self none c.in-Ok-None.ensures.event),
    )

pub returns-in-Err-clause-drains : goal.returns-in-Err-clause-drains
returns-in-Err-clause-drains g c =
    drains_refused g.F.Minifilter.drained (numbered c.args.self.now.filters) WORKER c.args.instance c.args.self.now.work.state
    c.in-Err.field-0 c.drain_take.new.self c.in-Err.ensures.event

pub returns-in-Err-clause-none : goal.returns-in-Err-clause-none
returns-in-Err-clause-none g c none =
    let old = c.args.self.now in (
      refl,
      ap (λ (w : World). record old { work = record old.work { state = w } })
          (drain_same WORKER c.args.instance old.work.state (Err c.in-Err.field-0) c.drain_take.new.self none c.in-Err.ensures.event),
    )

pub returns-in-Ok-Some-clause-out : goal.returns-in-Ok-Some-clause-out
returns-in-Ok-Some-clause-out g c out =
    let taken = rw c.in-Ok-Some.field-0-is at c.in-Ok-Some.ensures.event in
    drained_out WORKER c.drain_take.new.self c.drain_early.new.self.work.state c.drain_early.result c.in-Ok-Some.operation c.args.instance
    (draining_in WORKER c.args.self.now.work.state c.args.instance c.drain_take.new.self c.in-Ok-Some.operation c.in-Ok-Some.completion
    taken) c.drain_early.ensures.ends

pub returns-in-Ok-None-clause-out : goal.returns-in-Ok-None-clause-out
returns-in-Ok-None-clause-out g c =
    same_out WORKER c.args.self.now.work.state c.drain_take.new.self
    (drains_none g.F.Minifilter.drained (numbered c.args.self.now.filters) WORKER c.args.instance c.args.self.now.work.state
    c.in-Ok-None.field-0 c.drain_take.new.self c.in-Ok-None.ensures.event c.in-Ok-None.field-0-is).0

pub returns-in-Err-clause-out : goal.returns-in-Err-clause-out
returns-in-Err-clause-out g c =
    same_out WORKER c.args.self.now.work.state c.drain_take.new.self
    (drains_refused g.F.Minifilter.drained (numbered c.args.self.now.filters) WORKER c.args.instance c.args.self.now.work.state
    c.in-Err.field-0 c.drain_take.new.self c.in-Err.ensures.event).0

pub returns-in-Ok-Some-clause-less : goal.returns-in-Ok-Some-clause-less
returns-in-Ok-Some-clause-less g c _ =
    drained_less WORKER c.args.instance c.args.self.now.work.state c.in-Ok-Some.operation c.in-Ok-Some.completion c.drain_take.new.self
    (rw c.in-Ok-Some.field-0-is at c.in-Ok-Some.ensures.event)
    c.drain_early.result c.drain_early.new.self.work.state c.drain_early.ensures.ends

pub returns-in-Ok-Some-clause-waits : goal.returns-in-Ok-Some-clause-waits
returns-in-Ok-Some-clause-waits g c waits =
    c.drain_early.ensures.waits (waits_on _ _ _ _ (λ p. drain_taken p c.args.self.now.work.state WORKER c.args.instance
    (Ok c.in-Ok-Some.field-0) c.drain_take.new.self c.in-Ok-Some.ensures.event) waits)

pub returns-in-Ok-None-clause-waits : goal.returns-in-Ok-None-clause-waits
returns-in-Ok-None-clause-waits g c waits =
    waits_on _ _ _ _ (λ p. drain_taken p c.args.self.now.work.state WORKER c.args.instance
    (Ok c.in-Ok-None.field-0) c.drain_take.new.self c.in-Ok-None.ensures.event) waits

pub returns-in-Err-clause-waits : goal.returns-in-Err-clause-waits
returns-in-Err-clause-waits g c waits =
    waits_on _ _ _ _ (λ p. drain_taken p c.args.self.now.work.state WORKER c.args.instance (Err c.in-Err.field-0) c.drain_take.new.self
    c.in-Err.ensures.event) waits
