use Rattle.fm_local.proofs.Words.{World, ◌∙◌, ap, BasesCarry, numbered, WORKER, subst, sym}
use Rattle.fm_world.specs.Workers.{gives_nothing}
use Rattle.fm_local.proofs.operations.DoneTurns.{says_done}
use Rattle.fm_local.proofs.operations.NextPlaces.{lent}
use Rattle.fm_local.proofs.queues.Places.{makes_out}
use Rattle.fm_local.proofs.queues.ManagerWaits.{done_ended, done_said, given, nexts_wait}
use Rattle.fm_local.specs.Waits.{IsEnded}
use Rattle.fm_local.proofs.parts.Parts.turn.Goals as goal

pub returns-clause-at_once : goal.returns-clause-at_once
returns-clause-at_once g c done =
    let old = c.args.self.now in
    let is = says_done old.work.state WORKER c.args.operation c.next-said.result c.next-said.new.self done c.next-said.ensures.event in
    let acts = c.act.ensures.at_once is in
    (acts.0, acts.1 ∙ ap (λ (w : World). record old { work = record old.work { state = w } }) (c.next-said.ensures.nothing (ap gives_nothing is)))

pub returns-clause-takes : goal.returns-clause-takes
returns-clause-takes g c = (c.next-said.result, c.next-said.new.self, c.next-said.ensures.event, c.act.ensures.ends, c.act.ensures.makes)

pub returns-clause-out : goal.returns-clause-out
returns-clause-out g c out =
    let old = c.args.self.now in
    let mid = c.next-said.new.self in
    let lends = lent WORKER c.args.operation old.work.state c.laws.ensures out c.next-said.result mid c.next-said.ensures.event in
    makes_out WORKER g.F.Minifilter.pre_may g.F.Minifilter.post_may g.F.Minifilter.drained (BasesCarry g.B.Base.folder g.B.Base.faults)
    (numbered old.filters) c.args.operation c.next-said.result mid old.bases.all.items
    c.act.new.self.work.state c.act.new.self.bases.all.items lends c.act.ensures.makes

pub returns-clause-waits : goal.returns-clause-waits
returns-clause-waits g c waits apart =
    let old = c.args.self.now in
    let said = c.next-said in
    c.act.ensures.waits (given WORKER c.args.operation old.work.state said.result said.new.self c.laws.ensures said.ensures.event)
    (nexts_wait WORKER c.args.operation old.work.state said.result said.new.self old.work.resumed.items.items old.finished.items.items
    said.ensures.event apart.0 apart.1 waits) apart

pub returns-clause-ended : goal.returns-clause-ended
returns-clause-ended g c is =
    let old = c.args.self.now in
    let said = c.next-said in
    let done = done_said WORKER c.args.operation old.work.state said.result said.new.self (sym is ∙ c.act.ensures.ends) in
    subst (λ (w : World). IsEnded w.flow c.args.operation) (sym (ap (λ m. m.work.state) (c.act.ensures.at_once done).1))
    (done_ended WORKER c.args.operation old.work.state said.result said.new.self done said.ensures.event)
