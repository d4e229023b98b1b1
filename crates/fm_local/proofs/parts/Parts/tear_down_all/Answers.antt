use Rattle.fm_local.proofs.Words.{err_from_is_err_and, WORKER, RESUMPTIONS, TURNS}
use Rattle.fm_local.proofs.instances.Ready.{not_ok, settled_both, torn_first, first_still}
use Rattle.fm_local.proofs.instances.Teardowns.{tears_more}
use Rattle.fm_local.proofs.parts.Parts.tear_down_all.Goals as goal

pub returns-in_err-tear_down_if-clause-quiet : goal.returns-in_err-tear_down_if-clause-quiet
returns-in_err-tear_down_if-clause-quiet g c plain rests settled =
    let old = c.args.self.now in
    let now = c.loop-at.self in
    let first = c.loop-at.invariant.0 plain rests settled in
    let still = first_still WORKER old now plain rests c.args.filter c.loop-at.at first in
    absurd (not_ok c.in_err-tear_down_if.field-0.0 (c.in_err-tear_down_if.ensures.quiet still.plain still.rests still.settled).0)

pub loop-at-preserved : goal.loop-at-preserved
loop-at-preserved g c = (
  λ plain rests settled.
      let old = c.args.self.now in
      let now = c.loop-at.self in
      let new = c.tear_down_if.new.self in
      let first = c.loop-at.invariant.0 plain rests settled in
      let still = first_still WORKER old now plain rests c.args.filter c.loop-at.at first in
      let step = c.in_ok-tear_down_if.ensures.quiet still.plain still.rests still.settled in
      (torn_first WORKER c.args.filter c.loop-at.at old.work.state now.work.state new.work.state first.0 step.1, settled_both old now new first.1 step.2),
  tears_more g.F.Minifilter g.B.Base WORKER TURNS RESUMPTIONS c.args.filter c.loop-at.at c.args.self.now c.loop-at.self
      c.tear_down_if.new.self c.loop-at.invariant.1 c.in_ok-tear_down_if.ensures.tears,
  λ before. c.in_ok-tear_down_if.ensures.between (c.loop-at.invariant.2 before),
)

pub returns-in_err-tear_down_if-clause-tears : goal.returns-in_err-tear_down_if-clause-tears
returns-in_err-tear_down_if-clause-tears g c =
    let exit = err_from_is_err_and c.from_residual.result c.from_residual.ensures.1 in
    rw (exit.1, exit.2) (c.loop-at.at, c.loop-at.self, c.loop-at.invariant.1, c.in_err-tear_down_if.ensures.tears)

pub returns-in_err-tear_down_if-clause-between : goal.returns-in_err-tear_down_if-clause-between
returns-in_err-tear_down_if-clause-between g c before = c.in_err-tear_down_if.ensures.between (c.loop-at.invariant.2 before)
