-- The replies to a list of requests are those of its folds.
use Rattle.fm_filter.specs.declared.minifilter.Minifilter as filter
use Rattle.fm_base.specs.declared.base.Base as base
use Rattle.fm_local.proofs.Words.{[], ◌∷◌, Completion, Data, Folder, Parts, Option, PostVerdict, PreVerdict, StackWorld, WorkerId, ℕ, ap, ap₂}
use Rattle.fm_local.proofs.Words.{refl, subst, sym, IsReady, BasesCarry, numbered, under, Filters}
use Rattle.fm_local.specs.Actions.{RepliesAreFolds}
use Rattle.fm_local.specs.Requests.{AnswersAll}

pub all_replied : {F B : Type 0} (own : filter.Ghosts F) (below : base.Ghosts B) (k : WorkerId) → RepliesAreFolds own below k
all_replied {F} {B} own below k [] old [] new ready each = record {
  answers = [];
  say = refl;
  fold = (ap (λ (m : Parts F B). under m.bases.all.items m.work.state) each, ap (λ (m : Parts F B). m.work.state.flow.next) each);
  ready = subst (IsReady own below k) (sym each) ready;
}
all_replied {F} {B} own below k [] old (said ∷ replies) new ready each = absurd each
all_replied {F} {B} own below k (what ∷ requests) old [] new ready each = absurd each
all_replied {F} {B} own below k (what ∷ requests) old (said ∷ replies) new ready each =
    let mid = each.0 in
    let one = each.1 ready in
    let rest = all_replied own below k requests mid replies new one.ready each.2 in
    let All : Filters F → StackWorld → Type 0 =
    λ fs s. AnswersAll own.pre_may own.post_may (BasesCarry below.folder below.faults) (numbered fs) s mid.work.state.flow.next
    requests (under mid.bases.all.items mid.work.state) rest.answers
    (under new.bases.all.items new.work.state) new.work.state.flow.next in
    record {
      answers = one.answer ∷ rest.answers;
      say = ap₂ (λ x xs. x ∷ xs) one.says rest.say;
      fold = (
        under mid.bases.all.items mid.work.state,
        mid.work.state.flow.next,
        one.folds,
        subst (λ fs. All fs old.work.state.stack) one.filters (subst (All mid.filters) one.stays rest.fold),
      );
      ready = rest.ready;
    }
