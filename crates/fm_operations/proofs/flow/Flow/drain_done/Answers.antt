use Rattle.fm_operations.proofs.Words.{refl, sym, ap, is_spent, Some}
use Rattle.std.proofs.Common.{◌∙◌}
use Rattle.fm_operations.specs.Drains.{RunsEarly, early_over}
use Rattle.fm_operations.proofs.Flows.{uncounted, found, itself, said_there, kept_set}
use Rattle.fm_operations.proofs.Drains.{sound_over, stays_over, over_uncreated, done_stays, done_goes, kept_gone, over_leaves}
use Rattle.fm_operations.proofs.Follows.{Leaves, follows_less, may_leave}
use Rattle.fm_operations.proofs.flow.Flow.drain_done.Goals.{After-early_over}
use Rattle.fm_operations.proofs.flow.Flow.drain_done.Goals as goal

left : (c : After-early_over) → Leaves (Some c.args.instance) c.as_mut-operation.result.now c.early_over.new.self
left c =
    let there = found c.args.number c.self.view_is (sym c.standing-place.ensures) c.deref.ensures.value refl
    c.as_mut-operation.ensures.value c.index_mut.ensures.value in
    over_leaves c.args.instance c.as_mut-operation.result.now (said_there there (RunsEarly c.args.instance) c.requires) c.early_over.ensures

pub early_over-requires : goal.early_over-requires
early_over-requires c =
    said_there (found c.args.number c.self.view_is (sym c.standing-place.ensures) c.deref.ensures.value refl
    c.as_mut-operation.ensures.value c.index_mut.ensures.value) (RunsEarly c.args.instance) c.requires

-- it goes
pub invariant_of-self : goal.invariant_of-self
invariant_of-self c =
    let there = found c.args.number c.self.view_is (sym c.standing-place.ensures) c.deref.ensures.value refl
    c.as_mut-operation.ensures.value c.index_mut.ensures.value in
    let runs = said_there there (RunsEarly c.args.instance) c.requires in
    let follows = follows_less there c.self.invariant (Some c.args.instance) c.leaves.ensures.table c.leaves.ensures.after
    (left (goal.at.invariant_of-self c).After-early_over) in
    kept_gone c.args.instance (itself there) c.early_over.ensures (sym c.is_spent.ensures ∙ c.if-is_spent.true) c.remove.ensures.items
    runs follows c.self.invariant

pub returns-then-is_spent : goal.returns-then-is_spent
returns-then-is_spent c =
    let there = found c.args.number c.self.view_is (sym c.standing-place.ensures) c.deref.ensures.value refl
    c.as_mut-operation.ensures.value c.index_mut.ensures.value in
    done_goes c.args.instance there c.early_over.ensures (sym c.is_spent.ensures ∙ c.if-is_spent.true) c.remove.ensures.items

-- it stays
pub invariant_of-self-else-is_spent : goal.invariant_of-self-else-is_spent
invariant_of-self-else-is_spent c =
    let there = found c.args.number c.self.view_is (sym c.standing-place.ensures) c.deref.ensures.value refl
    c.as_mut-operation.ensures.value c.index_mut.ensures.value in
    let runs = said_there there (RunsEarly c.args.instance) c.requires in
    let follows = follows_less there c.self.invariant (Some c.args.instance) c.leaves.ensures.table c.leaves.ensures.after
    (left (goal.at.invariant_of-self-else-is_spent c).After-early_over) in
    kept_set there c.self.invariant (early_over c.args.instance) c.early_over.ensures (stays_over c.args.instance)
    (sound_over c.args.instance c.as_mut-operation.result.now runs)
    (λ h needed. ap is_spent (sym c.early_over.ensures) ∙ sym c.is_spent.ensures ∙ c.if-is_spent.false)
    (uncounted c.self.inside.creates c.as_mut-operation.result.now c.early_over.new.self (over_uncreated c.args.instance _ _ c.early_over.ensures)) follows

pub leaves-requires : goal.leaves-requires
leaves-requires c =
    let there = found c.args.number c.self.view_is (sym c.standing-place.ensures) c.deref.ensures.value refl
    c.as_mut-operation.ensures.value c.index_mut.ensures.value in
    may_leave there c.self.invariant (Some c.args.instance) c.early_over.new.self (left (goal.at.leaves-requires c).After-early_over)

pub returns-else-is_spent : goal.returns-else-is_spent
returns-else-is_spent c =
    let there = found c.args.number c.self.view_is (sym c.standing-place.ensures) c.deref.ensures.value refl
    c.as_mut-operation.ensures.value c.index_mut.ensures.value in
    done_stays c.args.instance there c.early_over.ensures (sym c.is_spent.ensures ∙ c.if-is_spent.false)
