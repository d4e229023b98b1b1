use Rattle.fm_local.proofs.Words.{ap, refl, sym, Place, WORKER}
use Rattle.fm_local.proofs.queues.Places.{in_still, routine_ends}
use Rattle.fm_local.proofs.queues.SameOperations as unmoved
use Rattle.fm_local.proofs.queues.ManagerWaits.{same_flow}
use Rattle.fm_local.proofs.parts.Parts.run_item.Goals as goal

pub returns-clause-ends : goal.returns-clause-ends
returns-clause-ends g c i file there =
    let worked = c.do_work.new.work in
    let still = in_still WORKER (Place.Routine i file) c.args.self.now.work.state worked.state c.do_work.ensures.far there in
    rw (ap (λ m. m.work) c.note_left.ensures) (
      worked,
      c.do_work.ensures.works,
      c.do_work.ensures.far,
      routine_ends WORKER worked.state c.routine_returned.new.self c.routine_returned.result i file still c.routine_returned.ensures.event,
      refl,
    )

pub returns-clause-waits : goal.returns-clause-waits
returns-clause-waits g c ended waits =
    rw (ap (λ m. m.work) c.note_left.ensures)
    (same_flow _ _ _ _ (unmoved.routine_returned c.do_work.new.work.state c.routine_returned.new.self WORKER c.routine_returned.result
    c.routine_returned.ensures.event)
    (c.do_work.ensures.waits ended waits))
