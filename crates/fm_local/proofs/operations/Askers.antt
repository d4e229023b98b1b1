-- What one more visit, and one more postoperation, make of those that asked.
use Rattle.fm_local.proofs.Words.{[], ◌∷◌, ◌≡◌, ◌≤◌, Completion, InstanceId, List, None, Option, Params, Some, WorkerId, false, length, slice_get}
use Rattle.fm_local.proofs.Words.{suc, zero, ℕ, ◌++◌, ◌∙◌, ap, ap₂, arith, inl, inr, map, refl, sym, take, unwrap_or, cases_Bool, false≢true}
use Rattle.fm_local.proofs.Words.{same_Some, times, sees, IsCourse, Ask, Descending, Entry, PreState, Stage, last_visited, owed, visited, asker}
use Rattle.fm_local.proofs.Words.{ArePlain, Bool, may_take, not, ◌==◌, ◌||◌, true, eq-eqb}
use Rattle.std.specs.Prelude.{reverse}
use Rattle.fm_operations.specs.declared.entry.Entry.TheVariants.{Pre}
use Rattle.fm_operations.specs.Entries.{ask_in, visit_of, answers}
use Rattle.fm_operations.specs.Sound.{walk, answer_count}
use Rattle.fm_operations.specs.Steps.{kept_of}
use Rattle.fm_operations.proofs.Owed.{filter_map-push, owed_push_none, left_push_ask, unanswered}
use Rattle.fm_operations.proofs.Course.{unvisited}
use Rattle.fm_operations.proofs.Walks.{Settling, is_callback, walk_parts, drains_follow, opens_after, last_with}
use Rattle.fm_local.specs.Left.{askers}

-- entries that lead from no callback to none are all closed
pub closed_stay : (f : Entry → Entry) → Settling f → (s : Stage) (es : List Entry) (t : Stage) → walk s es ≡ Some t
    → is_callback s ≡ false → is_callback t ≡ false → map f es ≡ es
closed_stay f settling s [] t w p q = refl
closed_stay f settling s (e ∷ es) t w p q =
    let k = walk_parts s e es t w in
    elim (cases_Bool (is_callback k.0)) [
      | inl now ↦ absurd (false≢true (sym q ∙ ap is_callback (same_Some t k.0 (sym k.2 ∙ (drains_follow k.0 es t k.2 now).walks k.0)) ∙ now))
      | inr later ↦ ap₂ (λ x xs. x ∷ xs) (settling e (opens_after s e k.0 k.1 p ∙ later)) (closed_stay f settling k.0 es t k.2 later q)
    ]

-- ---- what was kept

-- one visit more, seen from a place at or above it
pub kept_above : (kept : List Params) (received : Params) (changed : Option Params) (place : ℕ) → place ≤ length kept
    → (sees (kept ++ kept_of received changed) place (unwrap_or changed received) ≡ sees kept place received)
    × (take place (kept ++ kept_of received changed) ≡ take place kept)
kept_above [] received None zero few = (refl, refl)
kept_above [] received None (suc place) few = (refl, refl)
kept_above [] received (Some p) zero few = (refl, refl)
kept_above [] received (Some p) (suc place) few = absurd (omega (arith, few))
kept_above (x ∷ kept) received changed zero few = (refl, refl)
kept_above (x ∷ kept) received changed (suc place) few =
    let rest = kept_above kept received changed place (omega (arith, few)) in
    (rest.0, ap (λ xs. x ∷ xs) rest.1)

-- those that asked before see what they saw
pub askers_above : (k : WorkerId) (asks : List Ask) (kept : List Params) (received : Params) (changed : Option Params) → ArePlain k (length kept) asks
    → askers asks (kept ++ kept_of received changed) (unwrap_or changed received) ≡ askers asks kept received
askers_above k [] kept received changed fall = refl
askers_above k (ask ∷ asks) kept received changed fall =
    let same = kept_above kept received changed ask.place fall.0 in
    ap₂ (λ p ps. asker ask.instance.0 p ask.completion ∷ askers asks ps p) same.0 same.1

-- at the end nothing was kept
pub none_at_end : (kept : List Params) (received : Params) → (sees kept (length kept) received ≡ received) × (take (length kept) kept ≡ kept)
none_at_end [] received = (refl, refl)
none_at_end (x ∷ kept) received = let rest = none_at_end kept received in (rest.0, ap (λ xs. x ∷ xs) rest.1)

-- one that asks now sees what it received
pub asker_now : (i : ℕ) (completion : Completion) (ask : Ask) (asks : List Ask) (kept : List Params) (received : Params) (changed : Option Params)
    → ask.instance.0 ≡ i → ask.completion ≡ completion → ask.place ≡ length kept
    → askers (ask ∷ asks) (kept ++ kept_of received changed) (unwrap_or changed received) ≡ asker i received completion ∷ askers asks kept received
asker_now i completion ask asks kept received changed at gives place =
    let above = kept_above kept received changed ask.place (omega (arith, place)) in
    let p = above.0 ∙ ap (λ n. sees kept n received) place ∙ (none_at_end kept received).0 in
    let ps = above.1 ∙ ap (λ n. take n kept) place ∙ (none_at_end kept received).1 in
    ap₂ (λ q qs. asker ask.instance.0 q ask.completion ∷ askers asks qs q) p ps
    ∙ ap₂ (λ j c. asker j received c ∷ askers asks kept received) at gives

-- ---- one more visit

module _ (es : List Entry) (worker : WorkerId) (i : InstanceId) (place : ℕ) where
  abbrev pub entry_of : PreState → Entry
  entry_of state = Pre (record { instance = i; worker = worker; state = state; place = place })

  pub last_is : (state : PreState) → last_visited (es ++ entry_of state ∷ []) ≡ Some i.0
  last_is state = ap (λ xs. slice_get (reverse xs) 0) (filter_map-push visit_of es (entry_of state)) ∙ last_with (visited es) (Some i.0)

  pub owed_asks : (state : PreState) (ask : Ask) → ask_in (record { instance = i; worker = worker; state = state; place = place })
      state ≡ Some ask → ask.instance ≡ i
      → IsCourse Descending es → times i.0 (visited es) ≡ 0 → owed (es ++ entry_of state ∷ []) ≡ ask ∷ owed es
  owed_asks state ask is at c fresh =
      left_push_ask answers es (entry_of state) ask is (λ j. refl)
      (unanswered ask.instance.0 es (ap (λ (k : InstanceId). answer_count k.0 es) at ∙ unvisited Descending es i.0 c fresh))

  pub owed_goes : (state : PreState) → ask_in (record { instance = i; worker = worker; state = state; place = place }) state ≡ None
      → owed (es ++ entry_of state ∷ []) ≡ owed es
  owed_goes state is = owed_push_none es (entry_of state) is (λ j. refl)

-- ---- the worker that asked

-- a postoperation may be made by the worker of its preoperation, whatever it asked for
pub takes_own : (k : WorkerId) (ask : Ask) → ask.worker ≡ k → may_take k ask ≡ true
takes_own k ask own = by_mark ask.is_synchronized
  where
    same : ask.worker.0 == k.0 ≡ true
    same = eq-eqb ask.worker.0 k.0 (ap (λ (w : WorkerId). w.0) own)

    by_mark : (bound : Bool) → not bound || (ask.worker.0 == k.0) ≡ true
    by_mark true = same
    by_mark false = refl
