-- Leaving a callback and unlinking many contexts: such changes compose, and keep the laws.
use Rattle.fm_ctx.proofs.Words.{ℕ, Bool, true, List, [], length, set, map, slice_get, count_by, None, is_some, option_map, refl, sym, ap, ap₂, subst}
use Rattle.fm_ctx.proofs.Words.{arith, length-set, none-some, slice_get-map, length-map, get_or-set_same, sum_by-cons, CtxId, one}
use Rattle.fm_ctx.proofs.Words.{is_id, holds, hand_of, without, Context, Slot, ContextTable, context_at, count_in, IsLawful, has_link, Settles}
use Rattle.fm_ctx.proofs.Words.{Sweeps, due_after, released, places, nat_tests, ContextsKept, carried_of}
use Rattle.std.proofs.Common.{◌≡◌, ◌+◌, ◌^◌, ◌<◌, ◌≤◌, ◌∷◌, ◌++◌, ◌∙◌, append_assoc, append-nil, lit≤}
use Rattle.std.proofs.lemmas.List.{nil_from_length, set-set, set-get_or}
use Rattle.std.proofs.lemmas.List.Elements.{All-set}
use Rattle.fm_ctx.specs.Bags.{left_of}
use Rattle.fm_ctx.specs.Settling.{Leaves, kept_noted, more_leaks, noted, swept, swept_slot}
use Rattle.fm_ctx.proofs.Bags.{IsSmall, references_none, references_append, length-without, places_push}
use Rattle.fm_ctx.proofs.Slots.{one_weaker}
use Rattle.fm_ctx.proofs.Counts.{count_released, fresh_after, due_after_fresh, fresh_each}
use Rattle.fm_ctx.proofs.Moves.{SlotsFit, HandsFit, lawful_by}
use Rattle.fm_ctx.proofs.Alike.{settles_alike}
use Rattle.fm_ctx.proofs.Carried.{carried_equal}

-- ---- settling

-- where nothing changes
pub settles_none : (carried : CtxId → ℕ) (t : ContextTable) (carried' : CtxId → ℕ) (t' : ContextTable) → t'.due ≡ t.due
    → ((c : CtxId) → count_in carried' t' c ≡ count_in carried t c)
    → Settles carried t carried' t'
settles_none carried t carried' t' due same = record {
  fresh = [];
  due = due ∙ sym (append-nil t.due);
  each = λ c. grind (arith, nat_tests, references_none, same c);
  falls = λ c. omega (arith, same c);
}

-- one after the other
pub settles_both : {carried : CtxId → ℕ} {t : ContextTable} {carried' : CtxId → ℕ} {t' : ContextTable} {carried'' : CtxId → ℕ} {t'' : ContextTable}
    → Settles carried t carried' t' → Settles carried' t' carried'' t'' → Settles carried t carried'' t''
settles_both {carried} {t} first second = record {
  fresh = first.fresh ++ second.fresh;
  due = second.due ∙ ap (λ (due : List CtxId). due ++ second.fresh) first.due ∙ append_assoc t.due first.fresh second.fresh;
  each = λ c. grind (arith, nat_tests, references_append c first.fresh second.fresh, first.each c, second.each c, first.falls c, second.falls c);
  falls = λ c. omega (arith, first.falls c, second.falls c);
}

-- ---- the laws

settled_keeps : {carried : CtxId → ℕ} {t : ContextTable} {carried' : CtxId → ℕ} {t' : ContextTable} → IsLawful carried t → Settles carried t carried' t'
    → t'.cleaning ≡ t.cleaning → length t'.left ≡ length t.left
    → ((c : CtxId) → is_some (context_at t'.slots c) ≡ is_some (context_at t.slots c)) → SlotsFit t'.slots
    → HandsFit t'.hands → IsLawful carried' t'
settled_keeps {carried} {t} {carried'} {t'} law s cleaning leavers there slots hands =
    lawful_by law slots hands (ap length cleaning) leavers (λ d was.
    let places_now : places t'.due t'.cleaning d ≡ places (t.due ++ s.fresh) t.cleaning d = ap₂ (λ due l. places due l d) s.due cleaning in
    grind (arith, nat_tests, s.falls d, s.each d, there d, places_push t.due t.cleaning s.fresh d))

pub leave_keeps : {carried : CtxId → ℕ} {t t' : ContextTable} (w : ℕ) → IsLawful carried t → Leaves carried t t' w → IsLawful carried t'
leave_keeps {carried} {t} {t'} w law leaves =
    settled_keeps law leaves.settles leaves.cleaning (ap length leaves.left ∙ length-set t.left w (hand_of t.hands w))
    (λ c. ap (λ (slots : List Slot). is_some (context_at slots c)) leaves.slots)
    (subst SlotsFit (sym leaves.slots) (law.once, law.few))
    (subst HandsFit (sym leaves.hands) (length-set t.hands w [] ∙ law.workers, All-set IsSmall t.hands w [] (lit≤ tt) law.small))

-- ---- sweeps

-- the context that an id names after a sweep
pub context_at-swept : (test : Context → Bool) (slots : List Slot) (c : CtxId)
    → context_at (map (swept_slot test) slots) c ≡ option_map (swept test) (context_at slots c)
unfolding context_at
context_at-swept test slots c = grind (arith, nat_tests, slice_get-map (swept_slot test) slots c.slot)

count_map_weaker : {X : Type 0} (p : X → Bool) (f : X → X) (xs : List X) → ((x : X) → p (f x) ≡ true → p x ≡ true) → count_by p (map f xs) ≤ count_by p xs
count_map_weaker p f [] weaker = lit≤ tt
count_map_weaker {X} p f (x ∷ xs) weaker =
    let by : X → ℕ = λ y. one (p y) in
    omega (arith, sum_by-cons by (f x) (map f xs), sum_by-cons by x xs, one_weaker (p (f x)) (p x) (weaker x), count_map_weaker p f xs weaker)

pub sweep_keeps : {carried : CtxId → ℕ} {t t' : ContextTable} (test : Context → Bool) → IsLawful carried t → Sweeps carried test t t' → IsLawful carried t'
sweep_keeps {carried} {t} {t'} test law sweeps =
    settled_keeps law sweeps.settles sweeps.cleaning (ap length sweeps.left)
    (λ c. ap (λ (slots : List Slot). is_some (context_at slots c)) sweeps.slots ∙ grind (arith, context_at-swept test t.slots c))
    (subst SlotsFit (sym sweeps.slots) (
      λ owner object. omega (
        arith,
        law.once owner object,
        count_map_weaker (has_link owner object) (swept_slot test) t.slots
            (λ s has. grind (arith, nat_tests)),
      ),
      omega (arith, length-map t.slots (swept_slot test), law.few),
    ))
    (subst HandsFit (sym sweeps.hands) (law.workers, law.small))

-- ---- one reference goes

pub settles_by_one : (carried : CtxId → ℕ) (t t' : ContextTable) (c : CtxId) → t'.due ≡ due_after carried t c
    → ((d : CtxId) → count_in carried t' d + one (is_id d c) ≡ count_in carried t d) → Settles carried t carried t'
settles_by_one carried t t' c due counts = record {
  fresh = fresh_after (count_in carried t c) c;
  due = due ∙ due_after_fresh carried t c;
  each = fresh_each carried t carried t' c counts;
  falls = λ d. omega (arith, counts d);
}

-- ---- one reference of the hand after another

pub record LeavesSome (old new : ContextsKept) (w : ℕ) : Type 0 where
  pub hands : set new.table.hands w [] ≡ set old.table.hands w []
  pub workers : length new.table.hands ≡ 48
  pub rest : new ≡ record old { table = record old.table { hands = new.table.hands; due = new.table.due } }
  pub settles : Settles (carried_of old) old.table (carried_of old) new.table

pub leave_none : (kept : ContextsKept) (w : ℕ) → length kept.table.hands ≡ 48 → LeavesSome kept kept w
leave_none kept w workers = record {
  hands = refl;
  workers = workers;
  rest = refl;
  settles = settles_none (carried_of kept) kept.table (carried_of kept) kept.table refl (λ c. refl);
}

pub leave_more : {old kept : ContextsKept} {w : ℕ} (c : CtxId) → LeavesSome old kept w → w < 48 → holds (hand_of kept.table.hands w) c ≡ true
    → LeavesSome old (record kept { table = released (carried_of kept) kept.table w c }) w
leave_more {old} {kept} {w} c so_far worker has =
    let t = kept.table in
    let within : w < length t.hands = omega (arith, so_far.workers, worker) in
    let after = released (carried_of kept) t w c in
    let same = carried_equal kept old (ap (λ (k : ContextsKept). k.table.slots) so_far.rest) (ap (λ (k : ContextsKept). k.carried) so_far.rest) in
    let step = settles_by_one (carried_of kept) t after c refl (count_released (carried_of kept) t w c within has) in
    record {
      hands = set-set t.hands w (without c (hand_of t.hands w)) [] ∙ so_far.hands;
      workers = length-set t.hands w (without c (hand_of t.hands w)) ∙ so_far.workers;
      rest = ap (λ (k : ContextsKept). record k { table = record k.table { hands = after.hands; due = after.due } }) so_far.rest;
      settles = settles_both so_far.settles (settles_alike same same step);
    }

-- a hand with no first reference is empty
pub no_first : (hand : List CtxId) → None ≡ slice_get hand 0 → hand ≡ []
no_first [] none = refl
no_first (c ∷ hand) none = absurd (none-some c none)

pub leave_all : {old kept : ContextsKept} {w : ℕ} (n : ℕ) → LeavesSome old kept w → left_of old.table.left w ≡ hand_of old.table.hands w
    → hand_of kept.table.hands w ≡ []
    → n ≡ more_leaks old.table.leaks (length (hand_of old.table.hands w))
    → Leaves (carried_of old) old.table (record kept.table { leaks = n }) w
leave_all {old} {kept} {w} n s noted_so empty counted = record {
  slots = ap (λ (k : ContextsKept). k.table.slots) s.rest;
  hands = sym (set-get_or kept.table.hands w []) ∙ ap (λ (hand : List CtxId). set kept.table.hands w hand) empty ∙ s.hands;
  cleaning = ap (λ (k : ContextsKept). k.table.cleaning) s.rest;
  leaks = counted;
  left = ap (λ (k : ContextsKept). k.table.left) s.rest ∙ sym (set-get_or old.table.left w []) ∙ ap (λ (hand : List CtxId). set old.table.left w hand) noted_so;
  settles = record { fresh = s.settles.fresh; due = s.settles.due; each = s.settles.each; falls = s.settles.falls };
}

-- a hand that is empty leaves nothing
pub leaves_empty : (kept : ContextsKept) (w : ℕ) → length (hand_of kept.table.hands w) ≡ 0 → kept.table.leaks < 2 ^ 64
    → Leaves (carried_of kept) kept.table (noted kept.table w) w
leaves_empty kept w empty few = record {
  slots = refl;
  hands = sym (set-get_or kept.table.hands w []) ∙ ap (λ (hand : List CtxId). set kept.table.hands w hand) (nil_from_length (hand_of kept.table.hands w) empty);
  cleaning = refl;
  leaks = grind (arith, nat_tests, empty);
  left = refl;
  settles = settles_none (carried_of kept) kept.table (carried_of kept) (noted kept.table w) refl (λ c. refl);
}

-- and what is left in another one was noted before
pub leaves_noted : (old : ContextsKept) (w : ℕ) {new : ContextTable} → Leaves (carried_of (kept_noted old w)) (noted old.table w) new w
    → Leaves (carried_of old) old.table new w
unfolding carried_of
leaves_noted old w leaves = record {
  slots = leaves.slots;
  hands = leaves.hands;
  cleaning = leaves.cleaning;
  leaks = leaves.leaks;
  left = leaves.left ∙ set-set old.table.left w (hand_of old.table.hands w) (hand_of old.table.hands w);
  settles = record { fresh = leaves.settles.fresh; due = leaves.settles.due; each = leaves.settles.each; falls = leaves.settles.falls };
}

-- the hand gets shorter
pub hand_shorter : (carried : CtxId → ℕ) (t : ContextTable) (w : ℕ) (c : CtxId) → w < length t.hands → holds (hand_of t.hands w) c ≡ true
    → length (hand_of (released carried t w c).hands w) < length (hand_of t.hands w)
hand_shorter carried t w c within has =
    omega (arith, length-without c (hand_of t.hands w) has, ap length (get_or-set_same t.hands w (without c (hand_of t.hands w)) [] within))
