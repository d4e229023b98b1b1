-- The events on instances, filters and volumes, from what their parts did.
use Rattle.fm_core.proofs.Words.{IsTied, SweptWhere, complete_of, query_of, setup_of, start_of, unload_of, sweeps_alike, carried_equal, ContextsKept}
use Rattle.fm_core.proofs.Words.{carried_of, Place, Bool, Err, List, Ok, Option, Result, Some, ap, arith, subst, sym, true, ℕ, ◌∙◌, ◌≡◌, Leaves, Sweeps}
use Rattle.fm_core.proofs.Words.{is_linked_of, Context, Owner, FlowTable, Instance, Answers, FilterId, InstanceId, WorkerId, Status, put, World, carries}
use Rattle.fm_world.proofs.Words.{after_entering, EmptiesUnless, is_setup}
use Rattle.fm_world.specs.Teardowns.{SweepsWhere}
use Rattle.fm_core.proofs.Losing.{sweeping_tied}
use Rattle.fm_core.specs.Hands.{SweepsUnless}
use Rattle.fm_stack.specs.Events.{is_setup_at}
use Rattle.fm_stack.specs.Detaching as stack

-- ---- an idle worker enters a callback

-- a callback that is permitted is entered
pub entered : (old : World) (k : WorkerId) (there : Place) (refusal : Option Status) (result : Result (Unit {0}) Status)
    (ws : List Place) → stack.Permits refusal result
    → ws ≡ after_entering old.workers k there result
    → Answers refusal result old (record old { workers = ws })
    (λ done. ◌≡◌ {A = World} (record old { workers = ws }) (record old { workers = put old.workers k there }))
entered old k there refusal (Ok done) ws free e = (free, ap (λ x. record old { workers = x }) e)
entered old k there refusal (Err why) ws refused e = (refused, ap (λ x. record old { workers = x }) e)

-- ---- a callback returns, and what its worker holds leaks

pub left_tied : (kept left : ContextsKept) (w : ℕ) (f : FlowTable) → Leaves (carried_of kept) kept.table left.table w
    → left.carried ≡ kept.carried → IsTied kept f → IsTied left f
left_tied kept left w f leaves carried tied c = carried_equal left kept leaves.slots carried c ∙ tied c

-- a callback's end and a sweep take nothing from completions
pub swept_tied : (kept left after : ContextsKept) (i : InstanceId) (w : ℕ) (f : FlowTable)
    → Leaves (carried_of kept) kept.table left.table w → left.carried ≡ kept.carried
    → Sweeps (carried_of left) (is_linked_of (Owner.Instance i)) left.table after.table → after.carried ≡ left.carried → IsTied kept f → IsTied after f
swept_tied kept left after i w f leaves carried sweeps same tied =
    sweeping_tied (is_linked_of (Owner.Instance i)) left after f (record { sweeps = sweeps; carried = same }) (left_tied kept left w f leaves carried tied)

-- an instance that isn't attached loses its links
pub emptied : (old : World) (i : InstanceId) (r : Result (Unit {0}) Status) (left after : ContextsKept) → SweepsUnless r i left after → IsTied left old.flow
    → EmptiesUnless r i old left.table after.table
emptied old i (Ok done) left after e tied = ap (λ (x : ContextsKept). x.table) e
emptied old i (Err why) left after e tied = sweeps_alike tied e.sweeps

pub unless_tied : (i : InstanceId) (r : Result (Unit {0}) Status) (left after : ContextsKept) (f : FlowTable)
    → SweepsUnless r i left after → IsTied left f → IsTied after f
unless_tied i (Ok done) left after f e tied = subst (λ x. IsTied x f) (sym e) tied
unless_tied i (Err why) left after f e tied = sweeping_tied (is_linked_of (Owner.Instance i)) left after f e tied

-- ---- a filter goes

-- contexts lost their links, where the event succeeded
pub where_swept : (old : World) (test : Context → Bool) (result : Result (Unit {0}) Status) (kept after : ContextsKept)
    → old.contexts ≡ kept.table → IsTied kept old.flow
    → SweptWhere result test kept after → SweepsWhere result test old after.table
where_swept old test (Ok done) kept after contexts tied e = subst (λ x. Sweeps (carries old) test x after.table) (sym contexts) (sweeps_alike tied e.sweeps)
where_swept old test (Err why) kept after contexts tied e = ap (λ (x : ContextsKept). x.table) e ∙ sym contexts

pub where_tied : (test : Context → Bool) (result : Result (Unit {0}) Status) (kept after : ContextsKept) (t : FlowTable)
    → SweptWhere result test kept after → IsTied kept t → IsTied after t
where_tied test (Ok done) kept after t e tied = sweeping_tied test kept after t e tied
where_tied test (Err why) kept after t e tied = subst (λ x. IsTied x t) (sym e) tied

-- ---- a place that is such a callback, or isn't

pub query_is : (m : Option Place) (i : InstanceId) → query_of m ≡ Some i → m ≡ Some (Place.Query i)
query_is m i h = grind (arith, h)

pub start_is : (m : Option Place) (i : InstanceId) → start_of m ≡ Some i → m ≡ Some (Place.Start i)
start_is m i h = grind (arith, h)

pub complete_is : (m : Option Place) (i : InstanceId) → complete_of m ≡ Some i → m ≡ Some (Place.Complete i)
complete_is m i h = grind (arith, h)

pub unload_is : (m : Option Place) (f : FilterId) → unload_of m ≡ Some f → m ≡ Some (Place.Unload f)
unload_is m f h = grind (arith, h)

pub setup_is : (m : Option Place) (i : InstanceId) → setup_of m ≡ Some i → m ≡ Some (Place.Setup i)
setup_is m i h = grind (arith, h)

pub setup_at : (row : Option Instance) → (x : Instance) × (row ≡ Some x) × (is_setup x.phase ≡ true) → is_setup_at row ≡ true
setup_at row h = ap is_setup_at h.1 ∙ h.2
