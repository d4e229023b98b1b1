use Rattle.fm_local.proofs.Words.{World, ◌∙◌, ap, refl, WORKER, Err, Ok}
use Rattle.fm_local.proofs.operations.AnyTurns.{calls_both, calls_untraced}
use Rattle.fm_local.proofs.instances.Detaches.{start_flow, start_refused}
use Rattle.fm_local.proofs.queues.Places.{same_out, start_out, started_in}
use Rattle.fm_local.proofs.queues.SameOperations as unmoved
use Rattle.fm_local.proofs.queues.ManagerWaits.{same_flow}
use Rattle.fm_local.proofs.parts.Parts.start_and_drain.Goals as goal

pub returns-in-Ok-clause-drains : goal.returns-in-Ok-clause-drains
returns-in-Ok-clause-drains g c =
    let started = c.start_teardown.new.self in
    let here = c.start.new.self in
    let there = started_in WORKER c.args.self.now.work.state c.args.instance started c.in-Ok.ensures.event in
    let drains = rw (ap (λ m. m.filters) c.start.ensures.kept) at c.drain_all.ensures.drains in
    (started, here.work.state, c.in-Ok.ensures.event, c.start.ensures.called, c.start.ensures.ends there, drains)

pub returns-in-Err-clause-drains : goal.returns-in-Err-clause-drains
returns-in-Err-clause-drains g c = (c.in-Err.field-0, c.in-Err.ensures.event)

pub returns-in-Ok-clause-quiet : goal.returns-in-Ok-clause-quiet
returns-in-Ok-clause-quiet g c plain rests is =
    let old = c.args.self.now in
    let started = c.start_teardown.new.self in
    let back = c.start.new.self.work.state in
    let event = c.in-Ok.ensures.event in
    let quiet = c.start.ensures.quiet plain (started_in WORKER old.work.state c.args.instance started event) in
    let kept = c.start.ensures.kept in
    let flow = start_flow WORKER c.args.instance old.work.state rests.idle started event back quiet.0 in
    let same = c.drain_all.ensures.none (ap (λ f. f.operations) flow ∙ rests.operations) in
    record {
      started = started;
      starts = event;
      returns = rw (ap (λ m. m.work.state) same) quiet.0;
      bases = ap (λ m. m.bases) same ∙ ap (λ m. m.bases) kept;
      filters = ap (λ m. m.filters) same ∙ ap (λ m. m.filters) kept;
      resumed = ap (λ m. m.work.resumed) same ∙ quiet.1;
    }

pub returns-in-Err-clause-none : goal.returns-in-Err-clause-none
returns-in-Err-clause-none g c is =
    let old = c.args.self.now in
    ap (λ (w : World). record old { work = record old.work { state = w } })
    (start_refused WORKER c.args.instance old.work.state c.in-Err.field-0 c.start_teardown.new.self c.in-Err.ensures.event)

pub returns-in-Ok-clause-out : goal.returns-in-Ok-clause-out
returns-in-Ok-clause-out g c out =
    let started = c.start_teardown.new.self in
    let there = started_in WORKER c.args.self.now.work.state c.args.instance started c.in-Ok.ensures.event in
    c.drain_all.ensures.out (start_out WORKER started c.start.new.self.work.state c.args.instance there (c.start.ensures.ends there))

pub returns-in-Err-clause-out : goal.returns-in-Err-clause-out
returns-in-Err-clause-out g c =
    let old = c.args.self.now.work.state in
    same_out WORKER old c.start_teardown.new.self (start_refused WORKER c.args.instance old c.in-Err.field-0 c.start_teardown.new.self c.in-Err.ensures.event)

pub returns-in-Ok-clause-kept : goal.returns-in-Ok-clause-kept
returns-in-Ok-clause-kept g c =
    let old = c.args.self.now in
    calls_both old c.start.new.self c.drain_all.new.self (calls_untraced old c.start.new.self c.start.ensures.kept) c.drain_all.ensures.kept

pub returns-in-Err-clause-kept : goal.returns-in-Err-clause-kept
returns-in-Err-clause-kept g c = refl

pub returns-in-Ok-clause-waits : goal.returns-in-Ok-clause-waits
returns-in-Ok-clause-waits g c waits =
    c.drain_all.ensures.waits (c.start.ensures.waits (same_flow _ _ _ _
    (unmoved.starting c.args.self.now.work.state c.start_teardown.new.self WORKER c.args.instance (Ok tt) c.in-Ok.ensures.event) waits))

pub returns-in-Err-clause-waits : goal.returns-in-Err-clause-waits
returns-in-Err-clause-waits g c waits =
    same_flow _ _ _ _ (unmoved.starting c.args.self.now.work.state c.start_teardown.new.self WORKER c.args.instance
    (Err c.in-Err.field-0) c.in-Err.ensures.event) waits
