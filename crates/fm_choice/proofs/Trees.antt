-- A search that has come to its end has run each path of its tree.
use Rattle.std.proofs.Common.{◌≡◌, ◌∙◌, ◌+◌, ◌<◌, ◌≤◌, ◌⊎◌, ◌++◌, ◌∷◌, [], ℕ, zero, suc, List, Option, Some, inl, inr, All, Contains, drop, map, slice_get, take, refl, sym, ap, ap₂, subst, arith}
use Rattle.std.proofs.lemmas.Option.{none-some, same_Some}
use Rattle.std.proofs.lemmas.Bool.{cases_order}
use Rattle.fm_choice.specs.Choices.{IsLast, IsLastOpen, IsNextPath, taken_of}
use Rattle.fm_choice.specs.Trees.{IsPathOf, IsRunOf, IsWholeSearch, RunsAll, SearchesTo, Takes, below}
use Rattle.fm_choice.specs.declared.choice.Choice.{Choice}

all_head : {X : Type 0} (P : X → Type 0) (x : X) (xs : List X) → All P (x ∷ xs) → P x
all_head P x xs h = h 0 x (omega arith)

all_tail : {X : Type 0} (P : X → Type 0) (x : X) (xs : List X) → All P (x ∷ xs) → All P xs
all_tail P x xs h = λ k d l. h (suc k) d (omega (arith, l))

among_more : (x : List ℕ) (xs : List (List ℕ)) (path : List ℕ) → Contains xs path → Contains (x ∷ xs) path
among_more x xs path h = (suc h.0, omega (arith, h.1), h.2)

among_first : (x : List ℕ) (xs : List (List ℕ)) (path : List ℕ) → path ≡ x → Contains (x ∷ xs) path
among_first x xs path same = (0, omega arith, sym same)

-- a path is another one, goes on from it, or comes after it
abbrev AtOrAfter : List ℕ → List ℕ → Type 0
AtOrAfter [] path = Unit {0}
AtOrAfter (x ∷ from) [] = ⊥
AtOrAfter (x ∷ from) (y ∷ path) = (x < y) ⊎ ((x ≡ y) × AtOrAfter from path)

-- a path comes after what a run took, by an option that the run left
abbrev Beyond : List Choice → List ℕ → Type 0
Beyond [] path = ⊥
Beyond (choice ∷ choices) [] = ⊥
Beyond (choice ∷ choices) (y ∷ path) = ((choice.taken < y) × (y < choice.options)) ⊎ ((choice.taken ≡ y) × Beyond choices path)

-- of a tree's paths from a path on, a run that took that path took one, and left those that are beyond
met_or_beyond : (tree : List ℕ → ℕ) (run : List Choice) (from path : List ℕ) → IsRunOf tree run → Takes from run → IsPathOf tree path → AtOrAfter from path
    → (path ≡ taken_of run) ⊎ Beyond run path
met_or_beyond tree [] from [] is takes on after = inl refl
met_or_beyond tree [] from (y ∷ path) is takes on after = absurd (omega (arith, is, on.0))
met_or_beyond tree (c ∷ run) from [] is takes on after = absurd (omega (arith, is.0, is.1, on))
met_or_beyond tree (c ∷ run) [] (y ∷ path) is takes on after = elim (cases_order c.taken y) [
  | inl same ↦ elim (met_or_beyond (below c.taken tree) run [] path is.2 takes.1 (subst (λ n. IsPathOf (below n tree) path) (sym same) on.1) tt) [
    | inl met ↦ inl (ap₂ (λ n ns. n ∷ ns) (sym same) met)
    | inr beyond ↦ inr (inr (same, beyond))
  ]
  | inr (inl less) ↦ inr (inl (less, omega (arith, is.0, on.0)))
  | inr (inr more) ↦ absurd (omega (arith, more, takes.0))
]
met_or_beyond tree (c ∷ run) (x ∷ from) (y ∷ path) is takes on (inl less) = inr (inl (omega (arith, takes.0, less), omega (arith, is.0, on.0)))
met_or_beyond tree (c ∷ run) (x ∷ from) (y ∷ path) is takes on (inr along) =
    let same : c.taken ≡ y = takes.0 ∙ along.0 in
    elim (met_or_beyond (below c.taken tree) run from path is.2 takes.1 (subst (λ n. IsPathOf (below n tree) path) (sym same) on.1) along.1) [
      | inl met ↦ inl (ap₂ (λ n ns. n ∷ ns) (sym same) met)
      | inr beyond ↦ inr (inr (same, beyond))
    ]

-- a run of which no choice has an untried option left none
none_beyond : (run : List Choice) (path : List ℕ) → All IsLast run → Beyond run path → ⊥
none_beyond [] path last beyond = beyond
none_beyond (c ∷ run) [] last beyond = beyond
none_beyond (c ∷ run) (y ∷ path) last (inl left) = let h : c.options ≤ c.taken + 1 = all_head IsLast c run last in omega (arith, h, left.0, left.1)
none_beyond (c ∷ run) (y ∷ path) last (inr along) = none_beyond run path (all_tail IsLast c run last) along.1

one_more : (n : ℕ) → n + 1 ≡ suc n
one_more n = omega arith

-- the next path comes before all that a run left
next_before : (run : List Choice) (path : List ℕ) (at : ℕ) (choice : Choice) → slice_get run at ≡ Some choice → All IsLast (drop (suc at) run)
    → Beyond run path → AtOrAfter (taken_of (take at run) ++ (choice.taken + 1) ∷ []) path
next_before [] path at choice there behind beyond = absurd beyond
next_before (c ∷ run) [] at choice there behind beyond = absurd beyond
next_before (c ∷ run) (y ∷ path) zero choice there behind (inl left) =
    let taken : c.taken ≡ choice.taken = ap (λ (d : Choice). d.taken) (same_Some c choice there) in
    elim (cases_order (choice.taken + 1) y) [
      | inl same ↦ inr (same, tt)
      | inr (inl less) ↦ inl less
      | inr (inr more) ↦ absurd (omega (arith, more, left.0, taken))
    ]
next_before (c ∷ run) (y ∷ path) zero choice there behind (inr along) = absurd (none_beyond run path behind along.1)
next_before (c ∷ run) (y ∷ path) (suc at) choice there behind (inl left) = inl left.0
next_before (c ∷ run) (y ∷ path) (suc at) choice there behind (inr along) = inr (along.0, next_before run path at choice there behind along.1)

-- each path of the tree was run, or the search still comes to it
met_or_to_come : (tree : List ℕ → ℕ) (runs : List (List Choice)) (next path : List ℕ) → SearchesTo runs next → All (IsRunOf tree) runs → IsPathOf tree path
    → Contains (map taken_of runs) path ⊎ AtOrAfter next path
met_or_to_come tree [] next path to all on = inr (subst (λ (from : List ℕ). AtOrAfter from path) (sym to) tt)
met_or_to_come tree (run ∷ earlier) next path to all on = elim (met_or_to_come tree earlier to.0 path to.1 (all_tail (IsRunOf tree) run earlier all) on) [
  | inl met ↦ inl (among_more (taken_of run) (map taken_of earlier) path met)
  | inr after ↦ elim (met_or_beyond tree run to.0 path (all_head (IsRunOf tree) run earlier all) to.2 on after) [
    | inl met ↦ inl (among_first (taken_of run) (map taken_of earlier) path met)
    | inr beyond ↦
        let turn = to.3 in
        inr (subst (λ (from : List ℕ). AtOrAfter from path) (sym turn.goes) (next_before run path turn.at turn.choice turn.turn.there (subst (λ (n : ℕ). All IsLast (drop n run)) (one_more turn.at) turn.turn.behind) beyond))
  ]
]

pub whole_runs_all : (runs : List (List Choice)) → IsWholeSearch runs → RunsAll runs
whole_runs_all [] whole = absurd whole
whole_runs_all (run ∷ earlier) whole = λ tree all path on. elim (met_or_to_come tree earlier whole.0 path whole.1 (all_tail (IsRunOf tree) run earlier all) on) [
  | inl met ↦ among_more (taken_of run) (map taken_of earlier) path met
  | inr after ↦ elim (met_or_beyond tree run whole.0 path (all_head (IsRunOf tree) run earlier all) whole.2 on after) [
    | inl met ↦ among_first (taken_of run) (map taken_of earlier) path met
    | inr beyond ↦ absurd (none_beyond run path whole.3 beyond)
  ]
]
