-- Laws of hands, for filters that promise what they leave behind.
use Rattle.std.specs.Prelude.{◌≡◌, Bool, true, cond, List, ◌∷◌, Option, Some, None, Result, Ok, Err, ◌||◌}
use Rattle.std.specs.List.{list_any}
use Rattle.std.proofs.Common.{◌∙◌, ap, arith, refl, subst}
use Rattle.std.proofs.lemmas.Option.{none-some}
use Rattle.fm_types.specs.declared.ids.CtxId.{CtxId}
use Rattle.fm_types.specs.declared.status.Status.{Status}
use Rattle.fm_ctx.specs.Bags.{holds, is_id, without}
use Rattle.fm_ctx.specs.declared.set_reply.SetMode.{SetMode}
use Rattle.fm_world.specs.declared.set_answer.SetAnswer.{SetAnswer}
use Rattle.fm_world.specs.declared.set_answer.SetAnswer.TheVariants as answer
use Rattle.fm_filter.specs.Hands.{GainsOld, GainsSet, InHand, Loses, LosesHeld}

same_id : (c : CtxId) → is_id c c ≡ true
same_id c = grind arith

-- the context that came first into the hand is released, and the others stay
pub release_first : (c : CtxId) (others : List CtxId) (result : Result (Unit {0}) Status) (old new : InHand) → old ≡ Some (c ∷ others)
    → Loses c result old new → new ≡ Some others
unfolding holds without
release_first c others result old new was h =
    let held : holds (c ∷ others) c ≡ true = ap (λ b. b || list_any (is_id c) others) (same_id c) in
    let left : without c (c ∷ others) ≡ others = ap (λ b. cond b others (c ∷ without c others)) (same_id c) in
    let lost = subst (LosesHeld c result (c ∷ others) new) held (subst (λ (hand : InHand). Loses c result hand new) was h) in
    lost.1 ∙ ap (λ (hand : List CtxId). Some hand) left

-- a port that says no hand says nothing of an old one
pub old_unsaid : (wants : Bool) (result : Result (Option CtxId) Status) → GainsOld wants result None None
old_unsaid wants (Ok c) = ((λ hand e. absurd (none-some hand e)), refl)
old_unsaid wants (Err why) = refl

pub set_unsaid : (mode : SetMode) (wants : Bool) (result : SetAnswer) → GainsSet mode wants result None None
set_unsaid mode wants (answer.Linked c) = ((λ hand e. absurd (none-some hand e)), (λ hand e. absurd (none-some hand e)), refl)
set_unsaid mode wants (answer.AlreadyDefined c) = ((λ hand e. absurd (none-some hand e)), refl)
set_unsaid mode wants (answer.Refused why) = refl
