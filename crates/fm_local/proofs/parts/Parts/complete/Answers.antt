use Rattle.fm_local.proofs.Words.{Ok, ◌∙◌, ap, subst, sym, CompleteReturns, Place, numbered, WORKER, Parts}
use Rattle.fm_local.specs.Places.{IsIn}
use Rattle.fm_local.specs.declared.local_port.Work.{Work}
use Rattle.fm_local.proofs.queues.Places.{in_still, quiet_in, complete_ends}
use Rattle.fm_local.proofs.queues.SameOperations as unmoved
use Rattle.fm_local.proofs.queues.ManagerWaits.{same_flow}
use Rattle.fm_local.specs.Waits.{Waiting}
use Rattle.fm_local.proofs.parts.Parts.complete.Goals as goal

-- the callback leaves the worker in its place, the return takes it out, and to note leaks changes no World
pub returns-clause-ends : goal.returns-clause-ends
returns-clause-ends g c there =
    let told = c.tell.new.work.state in
    let still = in_still WORKER (Place.Complete c.args.instance) c.args.self.now.work.state told c.tell.ensures.rest.far there in
    rw (ap (λ m. m.work.state) c.note_left.ensures) (
      told,
      c.tell.ensures.rest.far,
      complete_ends WORKER told c.complete_returned.new.self c.complete_returned.result c.args.instance
          still c.complete_returned.ensures.event,
    )

pub returns-clause-quiet : goal.returns-clause-quiet
returns-clause-quiet g c plain there =
    let old = c.args.self.now in
    let same = c.tell.ensures.rest.quiet (quiet_in g.F.Minifilter.pre_may g.F.Minifilter.post_may g.F.Minifilter.is_quiet
    (numbered old.filters) old.work.state.stack c.args.instance plain) in
    let still = subst (λ (d : Work). IsIn WORKER (Place.Complete c.args.instance) d.state) (sym same) there in
    let ends = complete_ends WORKER c.tell.new.work.state c.complete_returned.new.self c.complete_returned.result c.args.instance still
    c.complete_returned.ensures.event in
    let returns = subst (λ (d : Work). CompleteReturns d.state WORKER (Ok tt) c.complete_returned.new.self) same ends in
    (rw (ap (λ m. m.work.state) c.note_left.ensures) returns, ap (λ m. m.work.resumed) c.note_left.ensures ∙ ap (λ d. d.resumed) same)

pub returns-clause-waits : goal.returns-clause-waits
returns-clause-waits g c waits =
    subst (λ (m : Parts g.row.F.Denot g.row.B.Denot). Waiting m) (sym c.note_left.ensures)
    (same_flow _ _ _ _ (unmoved.completed c.tell.new.work.state c.complete_returned.new.self WORKER c.complete_returned.result
    c.complete_returned.ensures.event)
    (c.tell.ensures.rest.waits c.args.self.now.finished.items.items waits))
