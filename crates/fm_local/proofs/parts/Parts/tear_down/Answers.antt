use Rattle.fm_local.proofs.Words.{Parts, ◌∙◌, ap, inl, inr, refl, err_from_is_err_and, WORKER}
use Rattle.fm_local.proofs.queues.Places.{finished_out, still_out}
use Rattle.fm_local.proofs.instances.NoneDue.{none_finished}
use Rattle.fm_local.proofs.instances.LastEvents.{ends_well}
use Rattle.fm_local.proofs.instances.Ready.{not_ok, started_still}
use Rattle.fm_local.proofs.queues.SameOperations as unmoved
use Rattle.fm_local.proofs.queues.ManagerWaits.{same_flow}
use Rattle.fm_local.proofs.parts.Parts.tear_down.Goals as goal

pub returns-in_err-end_teardown-clause-quiet : goal.returns-in_err-end_teardown-clause-quiet
returns-in_err-end_teardown-clause-quiet g c plain rests settled =
    let first = c.begin_teardown.ensures.quiet plain rests settled in
    let still = started_still WORKER c.args.self.now c.begin_teardown.new.self plain rests c.args.instance c.laws.ensures first in
    absurd (not_ok c.in_err-end_teardown.field-0.0 (c.in_err-end_teardown.ensures.quiet still.0.plain still.0.rests still.0.settled still.1).0)

pub returns-clause-quiet : goal.returns-clause-quiet
returns-clause-quiet g c plain rests settled =
    let old = c.args.self.now in
    let mid = c.begin_teardown.new.self in
    let first = c.begin_teardown.ensures.quiet plain rests settled in
    let still = started_still WORKER old mid plain rests c.args.instance c.laws.ensures first in
    let then = c.in_ok-end_teardown.ensures.quiet still.0.plain still.0.rests still.0.settled still.1 in
    let kept = c.clean_up.ensures.kept in (
      (mid.work.state, c.end_teardown.new.self.work.state, c.clean_up.new.self.work.state, first.0, then.1, c.clean_up.ensures.tidies, c.finish.ensures.event),
      record {
        bases = ap (λ m. m.bases) kept ∙ then.2.bases ∙ first.1.bases;
        filters = ap (λ m. m.filters) kept ∙ then.2.filters ∙ first.1.filters;
        settled = ap (λ m. m.work.resumed.items.items) kept ∙ then.2.settled;
      },
    )

pub returns-in_err-end_teardown-clause-goes : goal.returns-in_err-end_teardown-clause-goes
returns-in_err-end_teardown-clause-goes g c plain rests settled leaves =
    let first = c.begin_teardown.ensures.quiet plain rests settled in
    let still = started_still WORKER c.args.self.now c.begin_teardown.new.self plain rests c.args.instance c.laws.ensures first in
    absurd (not_ok c.in_err-end_teardown.field-0.0 (c.in_err-end_teardown.ensures.quiet still.0.plain still.0.rests still.0.settled still.1).0)

pub returns-clause-goes : goal.returns-clause-goes
returns-clause-goes g c plain rests settled leaves =
    let old = c.args.self.now in
    let mid = c.begin_teardown.new.self in
    let first = c.begin_teardown.ensures.quiet plain rests settled in
    let still = started_still WORKER old mid plain rests c.args.instance c.laws.ensures first in
    let then = c.in_ok-end_teardown.ensures.quiet still.0.plain still.0.rests still.0.settled still.1 in
    ends_well WORKER c.args.instance old.work.state mid.work.state c.end_teardown.new.self.work.state c.clean_up.new.self.work.state
    c.laws.ensures rests first.0 then.1 c.clean_up.ensures.tidies
    leaves c.laws-2.ensures c.clean_up.ensures.none c.finish.result c.finish.new.self c.finish.ensures.event c.finish.ensures.waiting

pub returns-in_err-end_teardown-clause-tears : goal.returns-in_err-end_teardown-clause-tears
returns-in_err-end_teardown-clause-tears g c =
    let exit = err_from_is_err_and c.from_residual.result c.from_residual.ensures.1 in
    rw (exit.1, exit.2) (c.begin_teardown.new.self, c.begin_teardown.ensures.drains, inl (refl, c.in_err-end_teardown.ensures.tells))

pub returns-clause-tears : goal.returns-clause-tears
returns-clause-tears g c =
    let ended = c.finish.new.self in
    let kept = ap (λ (m : Parts g.row.F.Denot g.row.B.Denot). record m { work = record m.work { state = ended } }) c.clean_up.ensures.kept in (
      c.begin_teardown.new.self,
      c.begin_teardown.ensures.drains,
      inr (
        c.end_teardown.new.self,
        c.clean_up.new.self.work.state,
        c.in_ok-end_teardown.ensures.tells,
        c.clean_up.ensures.cleans,
        c.finish.ensures.event,
        kept,
      ),
    )

pub returns-in_err-end_teardown-clause-between : goal.returns-in_err-end_teardown-clause-between
returns-in_err-end_teardown-clause-between g c before = c.in_err-end_teardown.ensures.between (c.begin_teardown.ensures.between before)

pub returns-clause-between : goal.returns-clause-between
returns-clause-between g c before =
    let told = c.in_ok-end_teardown.ensures.between (c.begin_teardown.ensures.between before) in
    let tidy = c.clean_up.new.self.work.state in
    let event = c.finish.ensures.event in
    let out = still_out WORKER c.end_teardown.new.self.work.state tidy c.clean_up.ensures.tidies.workers told.out in
    record {
      waits = same_flow _ _ _ _ (unmoved.finished tidy c.finish.new.self c.args.instance c.finish.result event) (c.clean_up.ensures.waits told.waits);
      out = finished_out WORKER tidy c.args.instance c.finish.result c.finish.new.self event out;
      none_due = none_finished WORKER tidy c.args.instance c.finish.result c.finish.new.self event c.clean_up.ensures.none;
    }
