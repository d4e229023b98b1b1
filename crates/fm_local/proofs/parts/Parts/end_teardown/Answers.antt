use Rattle.fm_local.proofs.Words.{◌∙◌, ap, inr, refl, sym, WORKER, Err, Ok}
use Rattle.fm_local.proofs.instances.NoneDue.{none_completed}
use Rattle.fm_local.proofs.operations.AnyTurns.{calls_untraced}
use Rattle.fm_local.proofs.instances.Detaches.{completes}
use Rattle.fm_local.proofs.queues.Places.{complete_out, completing_in, same_out}
use Rattle.fm_local.proofs.instances.Ready.{settled_after}
use Rattle.fm_local.proofs.instances.Rest.{complete_refused}
use Rattle.fm_local.proofs.queues.SameOperations as unmoved
use Rattle.fm_local.proofs.queues.ManagerWaits.{same_flow}
use Rattle.fm_local.proofs.parts.Parts.end_teardown.Goals as goal

pub returns-in_err-complete_teardown-clause-quiet : goal.returns-in_err-complete_teardown-clause-quiet
returns-in_err-complete_teardown-clause-quiet g c plain rests settled was =
    absurd (completes WORKER c.args.instance c.args.self.now.work.state c.in_err-complete_teardown.field-0.0 c.complete_teardown.new.self rests was
    (sym c.is_stopping.ensures ∙ c.if-not-is_stopping.false) c.in_err-complete_teardown.ensures.event)

pub returns-clause-quiet : goal.returns-clause-quiet
returns-clause-quiet g c plain rests settled was =
    let old = c.args.self.now in
    let completing = c.complete_teardown.new.self in
    let event = c.in_ok-complete_teardown.ensures.event in
    let quiet = c.complete.ensures.quiet plain (completing_in WORKER old.work.state c.args.instance completing event) in
    let kept = c.complete.ensures.kept in
    let after =
    settled_after old c.complete.new.self c.settle.new.self quiet.1 (ap (λ m. m.bases) kept)
    (ap (λ m. m.filters) kept) settled c.settle.ensures.tidies c.settle.ensures.kept in
    (refl, inr (completing, c.complete.new.self.work.state, event, quiet.0, after.0), after.1)

pub returns-then-not-is_stopping-clause-tells : goal.returns-then-not-is_stopping-clause-tells
returns-then-not-is_stopping-clause-tells g c =
    rw (sym c.is_stopping.ensures ∙ c.if-not-is_stopping.true) (refl, refl)

pub returns-clause-tells : goal.returns-clause-tells
returns-clause-tells g c =
    let old = c.args.self.now in
    let completing = c.complete_teardown.new.self in
    let event = c.in_ok-complete_teardown.ensures.event in
    rw (sym c.is_stopping.ensures ∙ c.if-not-is_stopping.false)
    (inr (
      completing,
      c.complete.new.self,
      event,
      c.complete.ensures.called,
      c.complete.ensures.ends (completing_in WORKER old.work.state c.args.instance completing event),
      calls_untraced old c.complete.new.self c.complete.ensures.kept,
      c.settle.ensures.all,
      refl,
    ))

pub returns-in_err-complete_teardown-clause-between : goal.returns-in_err-complete_teardown-clause-between
returns-in_err-complete_teardown-clause-between g c before =
    let event = c.in_err-complete_teardown.ensures.event in
    let refused = c.complete_teardown.new.self in
    let why = c.in_err-complete_teardown.field-0.0 in
    record {
      waits = same_flow _ _ _ _ (unmoved.completing c.args.self.now.work.state refused WORKER c.args.instance (Err why) event) before.waits;
      out = same_out WORKER c.args.self.now.work.state refused
          (complete_refused c.args.self.now.work.state WORKER c.args.instance why refused event) before.out;
      none_due = none_completed WORKER c.args.self.now.work.state c.args.instance why refused event before.none_due;
    }

pub returns-clause-between : goal.returns-clause-between
returns-clause-between g c before =
    let event = c.in_ok-complete_teardown.ensures.event in
    let mid = c.complete_teardown.new.self in
    let there = completing_in WORKER c.args.self.now.work.state c.args.instance mid event in
    record {
      waits = c.settle.ensures.waits (c.complete.ensures.waits
          (same_flow _ _ _ _ (unmoved.completing c.args.self.now.work.state mid WORKER c.args.instance (Ok tt) event) before.waits));
      out = c.settle.ensures.out (complete_out WORKER mid c.complete.new.self.work.state c.args.instance there (c.complete.ensures.ends there));
      none_due = c.settle.ensures.none_due;
    }
