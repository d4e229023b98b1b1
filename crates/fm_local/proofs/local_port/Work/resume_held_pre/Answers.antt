use Rattle.fm_local.proofs.Words.{Err, Ok, ◌∙◌, ap, WORKER}
use Rattle.fm_local.specs.Waits.{standing_with}
use Rattle.fm_local.proofs.queues.Hands.{resume_pre_hand}
use Rattle.fm_local.proofs.queues.Standing.{resume_pre_stands}
use Rattle.fm_local.proofs.queues.Room.{not_full}
use Rattle.fm_local.proofs.local_port.Work.resume_held_pre.Goals as goal

pub returns-in_err-resume_pre-clause-stands : goal.returns-in_err-resume_pre-clause-stands
returns-in_err-resume_pre-clause-stands c =
    let old = c.args.self.now in
    (resume_pre_stands old.state WORKER c.resume_pre.new.self c.args.operation c.args.verdict
    (Err c.in_err-resume_pre.field-0.0) c.laws.ensures c.in_err-resume_pre.ensures.event old.resumed.items.items)

pub returns-clause-stands : goal.returns-clause-stands
returns-clause-stands c =
    let old = c.args.self.now in
    let queued = c.put.ensures.room (not_full _ _ _ c.is_full.ensures c.if-is_full.false) in
    (ap (λ os. standing_with os c.resume_pre.new.self) queued
    ∙ resume_pre_stands old.state WORKER c.resume_pre.new.self c.args.operation c.args.verdict
    (Ok tt) c.laws.ensures c.in_ok-resume_pre.ensures.event old.resumed.items.items)

pub returns-in_err-resume_pre-clause-hand : goal.returns-in_err-resume_pre-clause-hand
returns-in_err-resume_pre-clause-hand c =
    let old = c.args.self.now in
    resume_pre_hand old.state WORKER c.resume_pre.new.self c.laws.ensures c.args.operation c.args.verdict
    (Err c.in_err-resume_pre.field-0.0) c.in_err-resume_pre.ensures.event

pub returns-clause-hand : goal.returns-clause-hand
returns-clause-hand c =
    let old = c.args.self.now in
    resume_pre_hand old.state WORKER c.resume_pre.new.self c.laws.ensures c.args.operation c.args.verdict (Ok tt) c.in_ok-resume_pre.ensures.event
