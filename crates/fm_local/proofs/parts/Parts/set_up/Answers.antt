use Rattle.fm_local.proofs.Words.{◌∙◌, refl, sym, AgreesAt, WORKER, RESUMPTIONS, TURNS}
use Rattle.fm_local.proofs.queues.Places.{finished_out, setup_out}
use Rattle.fm_local.proofs.instances.NoneDue.{ends_tidily, none_finished}
use Rattle.fm_local.proofs.operations.AnyTurns.{calls_untraced, ends_accepted, ends_refused}
use Rattle.fm_local.proofs.queues.SameOperations as unmoved
use Rattle.fm_local.proofs.queues.ManagerWaits.{same_flow}
use Rattle.fm_local.proofs.parts.Parts.set_up.Goals as goal

pub returns-then-is_err-clause-none_due : goal.returns-then-is_err-clause-none_due
returns-then-is_err-clause-none_due g c =
    none_finished WORKER c.settle.new.self.work.state c.args.instance c.finish.result c.finish.new.self c.finish.ensures.event c.settle.ensures.none_due

pub returns-then-is_err-clause-ends : goal.returns-then-is_err-clause-ends
returns-then-is_err-clause-ends g c = (c.setup-accepted.new.self.work.state, c.setup-accepted.ensures.ends)

pub returns-else-is_err-clause-ends : goal.returns-else-is_err-clause-ends
returns-else-is_err-clause-ends g c = (c.setup-accepted.new.self.work.state, c.setup-accepted.ensures.ends)

pub returns-then-is_err-clause-out : goal.returns-then-is_err-clause-out
returns-then-is_err-clause-out g c there =
    finished_out WORKER c.settle.new.self.work.state c.args.instance c.finish.result c.finish.new.self c.finish.ensures.event
    (c.settle.ensures.out (setup_out WORKER c.args.self.now.work.state
    c.setup-accepted.new.self.work.state c.setup-accepted.result
    (AgreesAt g.F.Minifilter.setup_may c.args.self.now.filters c.args.self.now.work.state c.args.instance) c.args.instance there
    c.setup-accepted.ensures.ends))

pub returns-else-is_err-clause-out : goal.returns-else-is_err-clause-out
returns-else-is_err-clause-out g c there =
    c.settle.ensures.out (setup_out WORKER c.args.self.now.work.state c.setup-accepted.new.self.work.state c.setup-accepted.result
    (AgreesAt g.F.Minifilter.setup_may c.args.self.now.filters c.args.self.now.work.state c.args.instance) c.args.instance there c.setup-accepted.ensures.ends)

pub returns-then-is_err-clause-tidily : goal.returns-then-is_err-clause-tidily
returns-then-is_err-clause-tidily g c = ends_tidily WORKER c.args.instance c.setup-accepted.result c.finish.new.self
    (c.settle.new.self.work.state, c.finish.result, c.settle.ensures.none_due, c.finish.ensures.event)

pub returns-then-is_err-clause-settles : goal.returns-then-is_err-clause-settles
returns-then-is_err-clause-settles g c = (
  c.setup-accepted.new.self,
  c.settle.new.self,
  c.setup-accepted.ensures.ends,
  calls_untraced c.args.self.now c.setup-accepted.new.self c.setup-accepted.ensures.kept,
  c.settle.ensures.all,
  ends_refused g.F.Minifilter g.B.Base WORKER TURNS RESUMPTIONS c.args.instance c.settle.new.self _ c.setup-accepted.result
      (sym c.is_err.ensures.value ∙ c.if-is_err.true) (c.finish.result, c.finish.ensures.event, refl),
)

pub returns-else-is_err-clause-settles : goal.returns-else-is_err-clause-settles
returns-else-is_err-clause-settles g c = (
  c.setup-accepted.new.self,
  c.settle.new.self,
  c.setup-accepted.ensures.ends,
  calls_untraced c.args.self.now c.setup-accepted.new.self c.setup-accepted.ensures.kept,
  c.settle.ensures.all,
  ends_accepted g.F.Minifilter g.B.Base WORKER TURNS RESUMPTIONS c.args.instance c.settle.new.self c.setup-accepted.result
      (sym c.is_err.ensures.value ∙ c.if-is_err.false),
)

pub returns-then-is_err-clause-waits : goal.returns-then-is_err-clause-waits
returns-then-is_err-clause-waits g c waits =
    same_flow _ _ _ _ (unmoved.finished c.settle.new.self.work.state c.finish.new.self c.args.instance c.finish.result
    c.finish.ensures.event) (c.settle.ensures.waits (c.setup-accepted.ensures.waits waits))

pub returns-else-is_err-clause-waits : goal.returns-else-is_err-clause-waits
returns-else-is_err-clause-waits g c waits =
    c.settle.ensures.waits (c.setup-accepted.ensures.waits waits)
