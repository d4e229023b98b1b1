-- The events that unload a filter keep what holds of the stack, and change nothing for operations under way but that fewer are to be visited.
use Rattle.fm_stack.proofs.Words.{FilterId, Follows, Instance, IsKept, Seat, StackWorld, and_parts, cases_Bool, is_attached}
use Rattle.fm_stack.proofs.GoingOn.{GoesOn, StackGoesOn, all_go_on, filter_goes_on, goes_both, goes_on_itself, mapped_at, read_mapped, rows_stay, was_there}
use Rattle.fm_stack.proofs.Teardowns.{stop_goes_on}
use Rattle.fm_stack.specs.Unloading.{filter_emptied, filter_in, is_of, stop_where, unloaded, unloading}
use Rattle.fm_stack.specs.declared.filter.FilterPhase.TheVariants as filter_phase
use Rattle.std.proofs.Common.{◌≡◌, ◌⊎◌, ◌∙◌, ◌&&◌, ℕ, Bool, true, false, cond, List, map, slice_get, Option, Some, ap, refl, subst, sym, inl, inr}
use Rattle.std.proofs.lemmas.Option.{same_Some}
use Rattle.fm_stack.specs.Detaching.{stop_row}

pub stop_where_goes_on : (test : Instance → Bool) (x : Instance) → GoesOn x (stop_where test x)
stop_where_goes_on test x = elim (cases_Bool (test x && is_attached x.phase)) [
  | inl is ↦
      subst (λ b. GoesOn x (cond b (stop_row x) x)) (sym is) (stop_goes_on x (and_parts (test x) (is_attached x.phase) is).1)
  | inr fails ↦ subst (λ b. GoesOn x (cond b (stop_row x) x)) (sym fails) (goes_on_itself x)
]

-- an instance is stopped, or stays as it is
abbrev pub Stops : Instance → Instance → Type 0
Stops x y = (y ≡ x) ⊎ ((is_attached x.phase ≡ true) × (y ≡ stop_row x))

abbrev pub RowsStop : List Instance → List Instance → Type 0
RowsStop rows others = (k : ℕ) (x : Instance) → slice_get rows k ≡ Some x → (y : Instance) × (slice_get others k ≡ Some y) × Stops x y

pub stop_where_stops : (test : Instance → Bool) (x : Instance) → Stops x (stop_where test x)
stop_where_stops test x = elim (cases_Bool (test x && is_attached x.phase)) [
  | inl is ↦ inr ((and_parts (test x) (is_attached x.phase) is).1, ap (λ b. cond b (stop_row x) x) is)
  | inr fails ↦ inl (ap (λ b. cond b (stop_row x) x) fails)
]

pub stop_where_rows : (test : Instance → Bool) (rows : List Instance) → RowsStop rows (map (stop_where test) rows)
stop_where_rows test rows k x there = (stop_where test x, mapped_at (stop_where test) rows k x there, stop_where_stops test x)

-- what is read of an attached instance as of a stopped one stays, whoever is stopped
pub read_stopped : {X : Type 0} (read : Option Instance → X) (test : Instance → Bool) (rows : List Instance)
    → ((x : Instance) → is_attached x.phase ≡ true → read (Some (stop_row x)) ≡ read (Some x)) → (k : ℕ)
    → read (slice_get (map (stop_where test) rows) k) ≡ read (slice_get rows k)
read_stopped read test rows same =
    read_mapped read (stop_where test) rows (λ x. elim (stop_where_stops test x) [
      | inl stays ↦ ap (λ y. read (Some y)) stays
      | inr stops ↦ ap (λ y. read (Some y)) stops.1 ∙ same x stops.0
    ])

-- and those that pass the test aren't attached any more
pub none_attached : (test : Instance → Bool) (rows : List Instance) → ((x : Instance) → test (stop_row x) ≡ test x) → (k : ℕ) (y : Instance)
    → slice_get (map (stop_where test) rows) k ≡ Some y → test y ≡ true → is_attached y.phase ≡ false
none_attached test rows same k y there passed =
    let old = was_there (all_go_on (stop_where test) rows (stop_where_goes_on test)) k y there in
    let new : stop_where test old.0 ≡ y = same_Some (stop_where test old.0) y (sym (mapped_at (stop_where test) rows k old.0 old.1) ∙ there) in
    elim (cases_Bool (test old.0 && is_attached old.0.phase)) [
      | inl is ↦
          let stops : y ≡ stop_row old.0 = sym new ∙ ap (λ b. cond b (stop_row old.0) old.0) is in
          ap (λ (r : Instance). is_attached r.phase) stops
      | inr fails ↦
          let stays : y ≡ old.0 = sym new ∙ ap (λ b. cond b (stop_row old.0) old.0) fails in
          let passes : test old.0 ≡ true = ap test (sym stays) ∙ passed in
          ap (λ (r : Instance). is_attached r.phase) stays ∙ subst (λ b. (b && is_attached old.0.phase) ≡ false) passes fails
    ]

pub unloading_goes_on : (s : StackWorld) (f : FilterId) → StackGoesOn s (unloading s f)
unloading_goes_on s f =
    filter_goes_on s (filter_in filter_phase.Unloading) f.0 (unloading s f).instances (λ x. refl)
    (all_go_on (stop_where (is_of f)) s.instances (stop_where_goes_on (is_of f)))

pub filter_emptied_goes_on : (s : StackWorld) (f : FilterId) → StackGoesOn s (filter_emptied s f)
filter_emptied_goes_on s f = filter_goes_on s (filter_in filter_phase.Emptied) f.0 s.instances (λ x. refl) (rows_stay s.instances)

pub unloaded_goes_on : (s : StackWorld) (f : FilterId) → StackGoesOn s (unloaded s f)
unloaded_goes_on s f = filter_goes_on s (filter_in filter_phase.NotLoaded) f.0 s.instances (λ x. refl) (rows_stay s.instances)

-- ---- of a stack under its other name ----

pub unloads : {kept now : StackWorld} (orders : List (List Seat)) (f : FilterId) → IsKept kept orders → kept ≡ now
    → IsKept (unloading kept f) orders × Follows now (unloading kept f)
unloads {kept} orders f sound same = goes_both (unloading kept f) orders sound same (unloading_goes_on kept f)

pub filter_empties : {kept now : StackWorld} (orders : List (List Seat)) (f : FilterId) → IsKept kept orders → kept ≡ now
    → IsKept (filter_emptied kept f) orders × Follows now (filter_emptied kept f)
filter_empties {kept} orders f sound same = goes_both (filter_emptied kept f) orders sound same (filter_emptied_goes_on kept f)

pub filter_ends : {kept now : StackWorld} (orders : List (List Seat)) (f : FilterId) → IsKept kept orders → kept ≡ now
    → IsKept (unloaded kept f) orders × Follows now (unloaded kept f)
filter_ends {kept} orders f sound same = goes_both (unloaded kept f) orders sound same (unloaded_goes_on kept f)
