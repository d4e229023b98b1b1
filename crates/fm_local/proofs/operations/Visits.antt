-- That the list of instances which an operation is to meet exists, and is one alone.
use Rattle.fm_local.proofs.Words.{[], ◌∷◌, ◌≡◌, ◌≤◌, ◌⊎◌, Bool, Instance, List, None, Operation, Option, Some, StackWorld, VolumeId, false, length}
use Rattle.fm_local.proofs.Words.{slice_get, suc, true, zero, ℕ, ◌&&◌, ◌++◌, ◌+◌, ◌||◌, ◌∙◌, ap, ap₂, arith, count_by, inl, inr, length-append, not}
use Rattle.fm_local.proofs.Words.{refl, subst, sym, cases_Bool, false≢true, nat_tests, same_Some, Visits}
use Rattle.std.proofs.lemmas.Bool.{and_parts, cases_order}
use Rattle.fm_types.proofs.Lists.{pair_at, count_by_weaker}
use Rattle.fm_stack.specs.Instances.{clashes, is_live_on, is_lower, same_altitude, same_name}
use Rattle.fm_stack.specs.Next.{is_to_visit, is_below_cursor, is_candidate, IsHighest, NonePasses}
use Rattle.fm_stack.specs.Stacks.{IsStack}
use Rattle.fm_stack.proofs.Heights.{not_below_itself, lower_after, lower_or_above}
use Rattle.fm_stack.proofs.Visits.{visited_is_live, is_to_visit_few}
use Rattle.fm_world.specs.Descent.{HasRoom, last_of}
use Rattle.fm_world.proofs.Descents.{last_of-push, room_is, room_visits}
use Rattle.fm_local.specs.Visits.{OneWay}

-- ---- the highest of some instances

IsHighestIn : (Instance → Bool) → List Instance → Type 0
IsHighestIn test rows = (i : ℕ) × IsHighest test rows i

module _ (test : Instance → Bool) (row : Instance) (rows : List Instance) where
  -- a lower one more in front
  behind : (i : ℕ) (h : IsHighest test rows i) → (test row ≡ true → is_lower h.row.altitude row.altitude ≡ false) → IsHighest test (row ∷ rows) (suc i)
  behind i h front = record { row = h.row; there = h.there; passes = h.passes; highest = highest }
    where
      highest : (j : ℕ) (other : Instance) → slice_get (row ∷ rows) j ≡ Some other → test other ≡ true → is_lower h.row.altitude other.altitude ≡ false
      highest zero other at passes =
          let same : row ≡ other = same_Some row other at in
          subst (λ (o : Instance). is_lower h.row.altitude o.altitude ≡ false) same (front (ap test same ∙ passes))
      highest (suc j) other at passes = h.highest j other at passes

  none_more : test row ≡ false → NonePasses test rows → NonePasses test (row ∷ rows)
  none_more fails none zero other at = ap test (sym (same_Some row other at)) ∙ fails
  none_more fails none (suc j) other at = none j other at

  -- a higher one more in front
  in_front : test row ≡ true → ((j : ℕ) (other : Instance) → slice_get rows j ≡ Some other → test other ≡ true → is_lower row.altitude other.altitude ≡ false)
      → IsHighest test (row ∷ rows) 0
  in_front passes lower = record { row = row; there = refl; passes = passes; highest = highest }
    where
      highest : (j : ℕ) (other : Instance) → slice_get (row ∷ rows) j ≡ Some other → test other ≡ true → is_lower row.altitude other.altitude ≡ false
      highest zero other at passes = subst (λ (o : Instance). is_lower row.altitude o.altitude ≡ false) (same_Some row other at) (not_below_itself row.altitude)
      highest (suc j) other at passes = lower j other at passes

  over : test row ≡ true → (i : ℕ) (h : IsHighest test rows i) → is_lower h.row.altitude row.altitude ≡ true → IsHighest test (row ∷ rows) 0
  over passes i h higher = in_front passes (λ j other at ok.
      elim (cases_Bool (is_lower row.altitude other.altitude)) [
        | inl lower ↦ absurd (false≢true (sym (h.highest j other at ok) ∙ lower_after h.row.altitude row.altitude other.altitude higher lower))
        | inr not ↦ not
      ])

pub highest_or_none : (test : Instance → Bool) (rows : List Instance) → ((i : ℕ) × IsHighest test rows i) ⊎ NonePasses test rows
highest_or_none test [] = inr (λ j other at. cc)
highest_or_none test (row ∷ rows) =
    elim (highest_or_none test rows) [
      | inl h ↦ elim (cases_Bool (test row)) [
        | inl passes ↦ elim (cases_Bool (is_lower h.1.row.altitude row.altitude)) [
          | inl higher ↦ inl (0, over test row rows passes h.0 h.1 higher)
          | inr lower ↦ inl (suc h.0, behind test row rows h.0 h.1 (λ ok. lower))
        ]
        | inr fails ↦ inl (suc h.0, behind test row rows h.0 h.1 (λ ok. absurd (false≢true (sym fails ∙ ok))))
      ]
      | inr none ↦ elim (cases_Bool (test row)) [
        | inl passes ↦ inl (0, in_front test row rows passes (λ j other at ok. absurd (false≢true (sym (none j other at) ∙ ok))))
        | inr fails ↦ inr (none_more test row rows fails none)
      ]
    ]

-- ---- there is a list

module _ (s : StackWorld) (v : VolumeId) (born : ℕ) (operation : Operation) where
  -- there are no more than 32 in all
  visits_within : (fuel : ℕ) (visited : List ℕ) → 32 ≤ length visited + fuel → HasRoom s v None born operation visited
      → (below : List ℕ) × Visits s v born operation (last_of visited) below
  visits_within zero visited enough room =
      elim (highest_or_none (is_candidate s v (last_of visited) born operation) s.instances) [
        | inl h ↦ absurd (omega (arith, room_is s v None born operation visited h.0 room h.1, enough))
        | inr none ↦ ([], none)
      ]
  visits_within (suc fuel) visited enough room =
      elim (highest_or_none (is_candidate s v (last_of visited) born operation) s.instances) [
        | inl h ↦
            let i : ℕ = h.0 in
            let rest = visits_within fuel (visited ++ i ∷ []) (omega (arith, enough, length-append visited (i ∷ [])))
            (room_visits s v None born operation visited i room h.1) in
            (i ∷ rest.0, (h.1, subst (λ (cursor : Option ℕ). Visits s v born operation cursor rest.0) (last_of-push visited i) rest.1))
        | inr none ↦ ([], none)
      ]

  -- after some visits, with room for those that may come
  pub visits_after : (visited : List ℕ) → HasRoom s v None born operation visited → (below : List ℕ) × Visits s v born operation (last_of visited) below
  visits_after visited room = visits_within 32 visited (omega arith) room

  pub visits_all : IsStack s → born ≤ s.births → (below : List ℕ) × Visits s v born operation None below
  visits_all sound past =
      visits_after [] (record { past = past; room = omega (arith, is_to_visit_few s sound v born operation, no_cursor) })
    where
      no_cursor : count_by (is_candidate s v None born operation) s.instances ≤ count_by (is_to_visit s v born operation) s.instances
      no_cursor = count_by_weaker (is_candidate s v None born operation) (is_to_visit s v born operation) s.instances
          (λ k row there passes. (and_parts (is_to_visit s v born operation row) true passes).0)

  -- ---- and one alone

  live_beside : (a b : Instance) → is_live_on v a ≡ true → is_live_on v b ≡ true → is_live_on a.volume b ≡ true
  live_beside a b here there = grind (arith, nat_tests, here, there)

  clash_parts : (x y n m : Bool) → (x && (y && (n || m))) ≡ false → x ≡ true → y ≡ true → m ≡ false
  clash_parts x y n m h a b = grind arith

  module _ (sound : IsStack s) (cursor : Option ℕ) where
    candidate_live : (row : Instance) → is_candidate s v cursor born operation row ≡ true → is_live_on v row ≡ true
    candidate_live row passes =
        visited_is_live s v born operation row (and_parts (is_to_visit s v born operation row) (is_below_cursor s cursor row) passes).0

    one_highest : (i j : ℕ) → IsHighest (is_candidate s v cursor born operation) s.instances i
        → IsHighest (is_candidate s v cursor born operation) s.instances j → i ≡ j
    one_highest i j h k =
        let Apart = λ (a b : Instance). clashes a b ≡ false in
        let a = h.row in
        let b = k.row in
        let here = candidate_live a h.passes in
        let there = candidate_live b k.passes in
        let not_below = h.highest j b k.there k.passes in
        let not_over = k.highest i a h.there h.passes in
        elim (cases_order i j) [
          | inl e ↦ e
          | inr (inl less) ↦
              let apart = clash_parts (is_live_on a.volume a) (is_live_on a.volume b) (same_name a.name b.name) (same_altitude a.altitude b.altitude)
              (pair_at Apart s.instances i j a b sound.apart less h.there k.there) (live_beside a a here here) (live_beside a b here there) in
              absurd (false≢true (sym not_over ∙ lower_or_above a.altitude b.altitude apart not_below))
          | inr (inr more) ↦
              let apart = clash_parts (is_live_on b.volume b) (is_live_on b.volume a) (same_name b.name a.name) (same_altitude b.altitude a.altitude)
              (pair_at Apart s.instances j i b a sound.apart more k.there h.there) (live_beside b b there there) (live_beside b a there here) in
              absurd (false≢true (sym not_below ∙ lower_or_above b.altitude a.altitude apart not_over))
        ]

  pub visits_alone : (sound : IsStack s) (cursor : Option ℕ) (a b : List ℕ) → Visits s v born operation cursor a → Visits s v born operation cursor b → a ≡ b
  visits_alone sound cursor [] [] h k = refl
  visits_alone sound cursor [] (j ∷ b) h k = absurd (false≢true (sym (h j k.0.row k.0.there) ∙ k.0.passes))
  visits_alone sound cursor (i ∷ a) [] h k = absurd (false≢true (sym (k i h.0.row h.0.there) ∙ h.0.passes))
  visits_alone sound cursor (i ∷ a) (j ∷ b) h k =
      let same : i ≡ j = one_highest sound cursor i j h.0 k.0 in
      ap₂ (λ x xs. x ∷ xs) same
      (visits_alone sound (Some i) a b h.1 (subst (λ (n : ℕ). Visits s v born operation (Some n) b) (sym same) k.1))

pub one_way : OneWay
one_way = record {
  some = λ s v born operation sound past. visits_all s v born operation sound past;
  alone = λ s v born operation cursor a b sound h k. visits_alone s v born operation sound cursor a b h k;
}
