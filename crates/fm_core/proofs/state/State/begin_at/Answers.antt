use Rattle.fm_core.proofs.Words.{Asks, subst, sym, Request}
use Rattle.fm_world.proofs.Words.{Begins, BeginsAt}
use Rattle.fm_world.proofs.Requests.{begin_at_does}
use Rattle.fm_core.proofs.Operated.{asks_begins}
use Rattle.fm_core.proofs.state.State.begin_at.Goals as goal

pub returns-in-List-clause-event : goal.returns-in-List-clause-event
unfolding Begins
returns-in-List-clause-event c =
    subst (λ (b : Request). BeginsAt c.args.is_lower c.args.self.now b c.begin_list.result c.begin_list.new.self) (sym c.in-List.is) c.begin_list.ensures

pub returns-in-List-clause-hand : goal.returns-in-List-clause-hand
returns-in-List-clause-hand c =
    (begin_at_does c.args.is_lower c.args.self.now c.args.what c.begin_list.result c.begin_list.new.self (returns-in-List-clause-event c)).1

pub returns-in-OnVolume-clause-event : goal.returns-in-OnVolume-clause-event
unfolding Begins
returns-in-OnVolume-clause-event c =
    subst (λ (b : Request). BeginsAt c.args.is_lower c.args.self.now b c.begin_other.result c.begin_other.new.self) (sym c.in-OnVolume.is)
    c.begin_other.ensures

pub returns-in-OnVolume-clause-hand : goal.returns-in-OnVolume-clause-hand
returns-in-OnVolume-clause-hand c =
    (begin_at_does c.args.is_lower c.args.self.now c.args.what c.begin_other.result c.begin_other.new.self (returns-in-OnVolume-clause-event c)).1

pub returns-in-Create-clause-event : goal.returns-in-Create-clause-event
unfolding Begins
returns-in-Create-clause-event c =
    subst (λ (b : Request). BeginsAt c.args.is_lower c.args.self.now b c.begin_create.result c.begin_create.new.self) (sym c.in-Create.is)
    c.begin_create.ensures

pub returns-in-Create-clause-hand : goal.returns-in-Create-clause-hand
returns-in-Create-clause-hand c =
    (begin_at_does c.args.is_lower c.args.self.now c.args.what c.begin_create.result c.begin_create.new.self (returns-in-Create-clause-event c)).1

pub returns-in-OnHandle-clause-event : goal.returns-in-OnHandle-clause-event
returns-in-OnHandle-clause-event c =
    subst (λ (b : Request). BeginsAt c.args.is_lower c.args.self.now b c.begin_on.result c.begin_on.new.self) (sym c.in-OnHandle.is)
    (asks_begins c.args.is_lower c.args.self.now c.in-OnHandle.handle c.in-OnHandle.request c.begin_on.result c.begin_on.new.self
    (subst (λ p. Asks c.args.is_lower c.args.self.now c.in-OnHandle.handle p c.begin_on.result c.begin_on.new.self) c.into_params.ensures c.begin_on.ensures))

pub returns-in-OnHandle-clause-hand : goal.returns-in-OnHandle-clause-hand
returns-in-OnHandle-clause-hand c =
    (begin_at_does c.args.is_lower c.args.self.now c.args.what c.begin_on.result c.begin_on.new.self (returns-in-OnHandle-clause-event c)).1
