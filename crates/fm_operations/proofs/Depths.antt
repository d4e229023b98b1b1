-- What an instance is owed, wherever it stands in the stack: how deep, what is read there, and what is left where it goes.
use Rattle.fm_operations.proofs.Words.{ℕ, Bool, true, false, cond, not, List, [], length, map, reverse, find, Option, Some, None, option_map, refl, sym, ap, ap₂}
use Rattle.fm_operations.proofs.Words.{arith, nat_tests, append-nil, reverse-append, slice_get, same_Some, none-some, list_any, Ask, Entry, ask_at, times, instances, without, without_first}
use Rattle.std.proofs.Common.{◌≡◌, ◌+◌, ◌-◌, ◌<◌, ◌≤◌, ◌∷◌, ◌++◌, ◌∙◌, zero, suc, remove, position, nat_lt, is_some}
use Rattle.std.specs.List.{position_or_len}
use Rattle.std.proofs.lemmas.List.{length-reverse}
use Rattle.std.proofs.lemmas.List.Edits.{remove-append_left, remove-append_right}
use Rattle.std.proofs.lemmas.List.Folds.{find_at}
use Rattle.std.proofs.lemmas.Option.{slice_get-map}
use Rattle.std.proofs.lemmas.List.Quantifiers.{position-Some}
use Rattle.fm_types.proofs.Firsts.{stands_there}
use Rattle.fm_operations.specs.Drains.{is_of, is_some_of}
use Rattle.fm_operations.proofs.Owed.{without_none}

-- ---- lists

-- an element that goes, from either end
pub reverse_remove : {X : Type 0} (xs : List X) (j k : ℕ) → j + k + 1 ≡ length xs → reverse (remove xs j) ≡ remove (reverse xs) k
reverse_remove [] j k is = absurd (omega (arith, is))
reverse_remove (x ∷ xs) zero k is =
    let last : k - length xs ≡ 0 = omega (arith, is) in
    sym (ap (λ ys. remove ys k) (reverse-append (x ∷ []) xs) ∙ remove-append_right (reverse xs) (x ∷ []) (length xs) k (length-reverse xs) (omega (arith, is))
    ∙ ap (λ n. reverse xs ++ remove (x ∷ []) n) last ∙ append-nil (reverse xs))
reverse_remove (x ∷ xs) (suc j) k is =
    reverse-append (x ∷ []) (remove xs j) ∙ ap (λ ys. ys ++ x ∷ []) (reverse_remove xs j k (omega (arith, is)))
    ∙ sym (ap (λ ys. remove ys k) (reverse-append (x ∷ []) xs) ∙ remove-append_left (reverse xs) (x ∷ []) k (omega (arith, is, length-reverse xs)))

map_remove : {X Y : Type 0} (f : X → Y) (xs : List X) (k : ℕ) → map f (remove xs k) ≡ remove (map f xs) k
map_remove f [] zero = refl
map_remove f [] (suc k) = refl
map_remove f (x ∷ xs) zero = refl
map_remove f (x ∷ xs) (suc k) = ap (λ ys. f x ∷ ys) (map_remove f xs k)

-- whether one passes, by the place of the first
any_before : {X : Type 0} (p : X → Bool) (xs : List X) → nat_lt (position_or_len p xs) (length xs) ≡ list_any p xs
any_before p [] = grind (arith, nat_tests)
any_before p (x ∷ xs) = grind (arith, nat_tests, any_before p xs)

is_some_if : (b : Bool) (n : ℕ) → is_some (cond b (Some n) None) ≡ b
is_some_if true n = refl
is_some_if false n = refl

pub any_placed : {X : Type 0} (p : X → Bool) (xs : List X) → is_some (position p xs) ≡ list_any p xs
any_placed p xs = is_some_if (nat_lt (position_or_len p xs) (length xs)) (position_or_len p xs) ∙ any_before p xs

place_if : (b : Bool) (n k : ℕ) → cond b (Some n) None ≡ Some k → n ≡ k
place_if true n k is = same_Some n k is
place_if false n k is = absurd (none-some k is)

-- the first that passes is the one at its place
pub found_at : {X : Type 0} (p : X → Bool) (xs : List X) (k : ℕ) → position p xs ≡ Some k → find p xs ≡ slice_get xs k
found_at p xs k is = find_at p xs ∙ ap (slice_get xs) (place_if (nat_lt (position_or_len p xs) (length xs)) (position_or_len p xs) k is)

-- ---- places, and what is asked for there

module _ (at : ℕ → Option Ask) (i : ℕ) where
  firsts_alike : (ks : List ℕ) (asks : List Ask) → map at ks ≡ map Some asks
      → (position_or_len (λ k. is_some_of i (at k)) ks ≡ position_or_len (is_of i) asks) × (length ks ≡ length asks)
  firsts_alike [] [] is = (refl, refl)
  firsts_alike [] (ask ∷ asks) is = cc
  firsts_alike (k ∷ ks) [] is = cc
  firsts_alike (k ∷ ks) (ask ∷ asks) is =
      let here : at k ≡ Some ask = cc in
      let rest : map at ks ≡ map Some asks = cc in
      let more = firsts_alike ks asks rest in
      (ap₂ (λ m n. cond (not (is_some_of i m)) (1 + n) 0) here more.0, ap (λ n. suc n) more.1)

  pub placed_alike : (ks : List ℕ) (asks : List Ask) → map at ks ≡ map Some asks → position (λ k. is_some_of i (at k)) ks ≡ position (is_of i) asks
  placed_alike ks asks is = let alike = firsts_alike ks asks is in ap₂ (λ n len. cond (nat_lt n len) (Some n) None) alike.0 alike.1

some_in : (ask m : Option Ask) → Some ask ≡ option_map Some m → ask ≡ m
some_in ask None is = absurd (none-some ask (sym is))
some_in ask (Some other) is = same_Some ask (Some other) is

-- what is read at a place
pub read_there : (at : ℕ → Option Ask) (ks : List ℕ) (asks : List Ask) (depth place : ℕ) → map at ks ≡ map Some asks
    → slice_get ks depth ≡ Some place → at place ≡ slice_get asks depth
read_there at ks asks depth place is here =
    some_in (at place) (slice_get asks depth)
    (sym (ap (option_map at) here) ∙ sym (slice_get-map at ks depth) ∙ ap (λ xs. slice_get xs depth) is ∙ slice_get-map Some asks depth)

pub left_there : (at : ℕ → Option Ask) (ks : List ℕ) (asks : List Ask) (depth : ℕ) → map at ks ≡ map Some asks
    → map at (remove ks depth) ≡ map Some (remove asks depth)
left_there at ks asks depth is = map_remove at ks depth ∙ ap (λ xs. remove xs depth) is ∙ sym (map_remove Some asks depth)

-- ---- the ask of an instance, which stands once

first_alone : (i : ℕ) (asks : List Ask) → times i (instances asks) ≤ 1 → without_first (is_of i) asks ≡ without i asks
first_alone i [] few = refl
first_alone i (ask ∷ asks) few = grind (arith, nat_tests, few, without_none i asks, first_alone i asks)

pub removed_alone : (i : ℕ) (asks : List Ask) (k : ℕ) → position (is_of i) asks ≡ Some k → times i (instances asks) ≤ 1 → remove asks k ≡ without i asks
removed_alone i [] k is few = cc
removed_alone i (ask ∷ asks) k is few = (stands_there (is_of i) (ask ∷ asks) k ask is).goes ∙ first_alone i (ask ∷ asks) few

pub placed_inside : (i : ℕ) (asks : List Ask) (k : ℕ) → position (is_of i) asks ≡ Some k → k < length asks
placed_inside i [] k is = cc
placed_inside i (ask ∷ asks) k is = (position-Some (is_of i) (ask ∷ asks) k ask is).0

pub owes_counts : (i : ℕ) (asks : List Ask) → list_any (is_of i) asks ≡ true → 1 ≤ times i (instances asks)
owes_counts i [] some = cc
owes_counts i (ask ∷ asks) some = grind (arith, nat_tests, some, owes_counts i asks)

-- ---- what is read of it

pub any_found : {X : Type 0} (p : X → Bool) (xs : List X) → is_some (find p xs) ≡ list_any p xs
any_found p [] = refl
any_found p (x ∷ xs) = grind (arith, any_found p xs)

pub asked_early : (i : ℕ) (es : List Entry) (ks : List ℕ) (asks : List Ask) (depth place : ℕ) → map (ask_at es) ks ≡ map Some asks
    → position (is_of i) asks ≡ Some depth → slice_get ks depth ≡ Some place
    → ask_at es place ≡ find (is_of i) asks
asked_early i es ks asks depth place is deep here = read_there (ask_at es) ks asks depth place is here ∙ sym (found_at (is_of i) asks depth deep)
