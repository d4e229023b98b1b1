-- Cleaning contexts up and ending an instance, from what their parts did.
use Rattle.fm_core.proofs.Words.{refused_in, IsTied, there_changed, ContextsKept, carried_of, headline_from, Place, None, Option, Some, [], ap, arith, cond}
use Rattle.fm_core.proofs.Words.{false, is_some, nat_lt, not, refl, subst, sym, true, ℕ, ◌<◌, ◌∙◌, ◌∷◌, ◌≡◌, ◌≤◌, option_and_then, open_of, IsLawful, Context}
use Rattle.fm_core.proofs.Words.{ContextTable, context_at, Owner, FlowTable, carried, StackWorld, Instance, first_of, CtxId, InstanceId, WorkerId, Status}
use Rattle.fm_core.proofs.Words.{is_gone_at, row_at, IsSound, cleanup_in, World, option_map, slice_get}
use Rattle.fm_world.proofs.Words.{count_cleaning, cleaning_of, cleaned, due_of, emptied, taken_of, Due, is_emptying_at, Phase, filter_of, keeps_links_by}
use Rattle.std.proofs.lemmas.Bool.{le-ltb}
use Rattle.fm_ctx.specs.Cleanup.{after_take_due}
use Rattle.fm_ctx.proofs.Carried.{carried_cleaned}
use Rattle.fm_world.specs.ContextEvents.{finish_refused, left_over, OwnsOnlyWaiting}
use Rattle.fm_world.proofs.Waiting.{waits}
use Rattle.fm_core.specs.Callers.{filter_at}
use Rattle.fm_core.proofs.Called.{table_tied}

-- ---- take_due

-- the context that is due is there, so it is the one that is told
pub due_told : (t : ContextTable) (m : Option CtxId) → slice_get t.due 0 ≡ m
    → ((c : CtxId) → slice_get t.due 0 ≡ Some c → is_some (context_at t.slots c) ≡ true)
    → option_map (λ (d : Due). d.id) (option_and_then (λ c. option_map (due_of c) (context_at t.slots c)) m) ≡ m
due_told t None is there = refl
due_told t (Some c) is there = grind (arith, there c is)

taken_there : (t : ContextTable) (w : ℕ) (m : Option CtxId) (c : CtxId) → is_some (context_at (taken_of t w m).slots c) ≡ is_some (context_at t.slots c)
taken_there t w None c = refl
taken_there t w (Some d) c = there_changed emptied t.slots d c

pub due_tied : (kept after : ContextsKept) (f : FlowTable) (k : WorkerId) → after ≡ record kept { table = after_take_due kept.table k.0 } → IsTied kept f
    → IsTied after f
due_tied kept after f k e tied = table_tied kept after (after_take_due kept.table k.0) f (taken_there kept.table k.0 (slice_get kept.table.due 0)) e tied

-- ---- cleaned

pub cleanup_is : (m : Option Place) (c : CtxId) → cleanup_in m ≡ Some c → m ≡ Some (Place.Cleanup c)
cleanup_is m c h = grind (arith, h)

pub filter_same : (s : StackWorld) (m : Option Context) → filter_at s (option_map (λ (x : Context). x.owner) m) ≡ filter_of s m
filter_same s m = grind arith

pub clean_tied : (kept after : ContextsKept) (f : FlowTable) (k : WorkerId) (c : CtxId) → IsLawful (λ d. carried d f) kept.table → k.0 < 48
    → cleaning_of kept.table.cleaning k.0 ≡ Some c → after ≡ record kept { table = cleaned kept.table k.0 c } → IsTied kept f → IsTied after f
clean_tied kept after f k c law worker busy e tied =
    let none = (count_cleaning k.0 c law worker busy).1 in
    let nothing : carried_of kept c ≡ 0 = omega (arith, tied c, none) in
    subst (λ x. IsTied x f) (sym e) (λ d. sym (carried_cleaned kept k.0 c nothing d) ∙ tied d)

-- ---- finish

-- how far an instance's life has come, by what is read of it
abbrev pub phase_in : Option Instance → Option Phase
phase_in m = option_map (λ (row : Instance). row.phase) m

-- what may end
pub may_end : (m : Option Instance) → refused_in (phase_in m) ≡ None → (is_gone_at m ≡ false) × (is_emptying_at m ≡ true)
may_end m h = (grind (arith, h), grind (arith, h))

-- an instance that may end, owns no context and asked for nothing that is under way
pub ends_free : (w : World) (i : InstanceId) (n : ℕ) → refused_in (phase_in (row_at w.stack i)) ≡ None → n ≡ left_over w i → n ≤ 0
    → finish_refused w i ≡ None
ends_free w i n h count none =
    let open' = left_over w i in
    let ends = may_end (row_at w.stack i) h in
    ap (λ b. cond b (Some Status.NoInstance) (first_of ((not (is_emptying_at (row_at w.stack i)), Status.WrongStep) ∷ (nat_lt 0 open', Status.Busy open')
    ∷ []))) ends.0
    ∙ ap (λ b. cond (not b) (Some Status.WrongStep) (first_of ((nat_lt 0 open', Status.Busy open') ∷ []))) ends.1
    ∙ ap (λ m. cond (nat_lt 0 m) (Some (Status.Busy m)) None) (sym count) ∙ ap (λ b. cond b (Some (Status.Busy n)) None) (le-ltb 0 n none)

emptying_keeps_none : (row : Option Instance) → refused_in (phase_in row) ≡ None → keeps_links_by row ≡ false
emptying_keeps_none None h = refl
emptying_keeps_none (Some row) h = grind arith

-- the contexts of an instance that may end but for them and what it asked for wait for their cleanup
pub only_waiting : {w now : World} (i : InstanceId) → w ≡ now → refused_in (phase_in (row_at w.stack i)) ≡ None → IsSound now → OwnsOnlyWaiting now i
only_waiting {w} {now} i same h sound =
    waits now i (headline_from now sound) (subst (λ (v : World). keeps_links_by (row_at v.stack i) ≡ false) same (emptying_keeps_none (row_at w.stack i) h))
