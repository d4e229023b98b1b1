-- What callbacks see of an operation's parameters, through its steps.
use Rattle.fm_operations.proofs.Words.{ℕ, List, [], length, take, Option, Some, None, Ok, slice_get, refl, ap, ap₂, sym, arith, same_Some}
use Rattle.fm_operations.proofs.Words.{WorkerId, Params, Ask, FlowRecord, unwound, unwound_to, give_post, unwrap_or, answered_data, kept_of}
use Rattle.fm_operations.proofs.Words.{lent_answer, last_place, kept_held, changed_from, changed_held, subst, cond, cases_Bool, inl, inr, nat_tests}
use Rattle.std.proofs.Common.{◌≡◌, ◌<◌, ◌≤◌, ◌∷◌, ◌++◌, ◌∙◌, nat_lt, zero, suc}
use Rattle.fm_operations.specs.declared.action.FlowAction.TheVariants as action
use Rattle.fm_operations.specs.Seen.{sees, ParametersSeen}

-- what one visit keeps, seen from a place at or above it
kept_here : (kept : List Params) (received : Params) (changed : Option Params) (place : ℕ) → place ≤ length kept
    → sees (kept ++ kept_of received changed) place (unwrap_or changed received) ≡ sees kept place received
kept_here [] received None place few = refl
kept_here [] received (Some p) zero few = refl
kept_here [] received (Some p) (suc place) few = absurd (omega (arith, few))
kept_here (x ∷ kept) received changed zero few = refl
kept_here (x ∷ kept) received changed (suc place) few = kept_here kept received changed place (omega (arith, few))

nothing_at_end : (kept : List Params) (current : Params) → sees kept (length kept) current ≡ current
nothing_at_end [] current = refl
nothing_at_end (x ∷ kept) current = nothing_at_end kept current

-- what was kept before a place is seen there still, and at the place itself the parameters put back are
still_seen : (kept : List Params) (place at : ℕ) (p current : Params) → slice_get kept place ≡ Some p → at ≤ place
    → sees (take place kept) at p ≡ sees kept at current
still_seen [] place at p current found below = cc
still_seen (x ∷ kept) zero zero p current found below = sym (same_Some x p found)
still_seen (x ∷ kept) zero (suc at) p current found below = absurd (omega (arith, below))
still_seen (x ∷ kept) (suc place) zero p current found below = refl
still_seen (x ∷ kept) (suc place) (suc at) p current found below = still_seen kept place at p current found (omega (arith, below))

-- nothing was kept there, nor behind
none_behind : (kept : List Params) (place : ℕ) (current : Params) → slice_get kept place ≡ None → sees kept place current ≡ current
none_behind kept place current none = ap (λ (m : Option Params). unwrap_or m current) none

unwound_seen : (place at : ℕ) (r : FlowRecord) (current : Params) (m : Option Params) → slice_get r.kept place ≡ m → r.params ≡ Some current → at ≤ place
    → ((unwound_to place r m).params ≡ Some (unwrap_or m current)) × (sees (unwound_to place r m).kept at (unwrap_or m current) ≡ sees r.kept at current)
unwound_seen place at r current None found has below = (has, refl)
unwound_seen place at r current (Some p) found has below = (refl, still_seen r.kept place at p current found below)

-- what is kept is seen, whatever goes down
kept_seen : (kept : List Params) (at : ℕ) (p q : Params) → at < length kept → sees kept at p ≡ sees kept at q
kept_seen [] at p q inside = absurd (omega (arith, inside))
kept_seen (x ∷ kept) zero p q inside = refl
kept_seen (x ∷ kept) (suc at) p q inside = kept_seen kept at p q (omega (arith, inside))

held_seen : (kept : List Params) (place at : ℕ) (params current : Params) → place ≤ length kept → at ≤ place
    → sees (kept_held (Some place) kept current) at params ≡ sees kept at current
held_seen kept place at params current few below = elim (cases_Bool (nat_lt place (length kept))) [
  | inl is ↦
      let inside : place < length kept = grind (arith, nat_tests, is) in
      subst (λ b. sees (cond b kept (kept ++ current ∷ [])) at params ≡ sees kept at current) (sym is)
      (kept_seen kept at params current (omega (arith, below, inside)))
  | inr is ↦
      subst (λ b. sees (cond b kept (kept ++ current ∷ [])) at params ≡ sees kept at current) (sym is)
      (kept_here kept current (Some params) at (omega (arith, few, below)))
]

changed_seen : (params : Params) (r : FlowRecord) (current : Params) (place at : ℕ) → r.params ≡ Some current → last_place r.entries ≡ Some place
    → place ≤ length r.kept → at ≤ place
    → ((changed_held params r).params ≡ Some params) × (sees (changed_held params r).kept at params ≡ sees r.kept at current)
changed_seen params r current place at has last few below =
    subst (λ (m : Option Params). ((changed_from params r m).params ≡ Some params)
    × (sees (changed_from params r m).kept at params ≡ sees r.kept at current)) (sym has) (
      refl,
      subst (λ (m : Option ℕ). sees (kept_held m r.kept current) at params ≡ sees r.kept at current) (sym last)
          (held_seen r.kept place at params current few below),
    )

given : (worker : WorkerId) (ask : Ask) (r : FlowRecord) (m : Option Params) (p : Params) → m ≡ Some p
    → (give_post worker ask r m).reply ≡ Ok (action.Post ask.instance (answered_data p (lent_answer r.operation r.answer)) ask.completion)
given worker ask r m p is = ap (λ x. (give_post worker ask r x).reply) is

same_answer : (place : ℕ) (r : FlowRecord) (m : Option Params) → ((unwound_to place r m).operation ≡ r.operation) × ((unwound_to place r m).answer ≡ r.answer)
same_answer place r None = (refl, refl)
same_answer place r (Some p) = (refl, refl)

pub seen : ParametersSeen
seen = record {
  own = λ state returned r. (refl, kept_here r.kept returned.received returned.changed (length r.kept) (omega arith) ∙ nothing_at_end r.kept returned.received);
  above = λ state returned r place few. kept_here r.kept returned.received returned.changed place few;
  post = λ worker ask r current has.
      let m = slice_get r.kept ask.place in
      let same = same_answer ask.place r m in
      given worker ask (unwound ask.place r) (unwound ask.place r).params (sees r.kept ask.place current)
      (unwound_seen ask.place ask.place r current m refl has (omega arith)).0
      ∙ ap₂ (λ operation answer. Ok (action.Post ask.instance
      (answered_data (sees r.kept ask.place current) (lent_answer operation answer)) ask.completion)) same.0 same.1;
  later = λ place at r current has below. unwound_seen place at r current (slice_get r.kept place) refl has below;
  changed = λ params r current place at has last few below. changed_seen params r current place at has last few below;
  held = λ state end r. (refl, refl, refl, refl);
}
