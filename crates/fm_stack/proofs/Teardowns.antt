-- The events that detach an instance keep what holds of the stack, and change nothing for operations under way but that fewer are to be visited.
use Rattle.fm_stack.proofs.Words.{InstanceId, Instance, Phase, StackWorld, Seat, Follows, IsKept, and_parts, or_parts}
use Rattle.fm_stack.proofs.Words.{first_of, is_attached, is_completing, is_stopping, is_detached, is_setup, none_refuses, passes}
use Rattle.fm_stack.proofs.GoingOn.{GoesOn, StackGoesOn, goes_both, one_goes_on, only_rows}
use Rattle.fm_stack.specs.Detaching.{complete_refusals, completing, emptying, in_phase, is_in_complete, is_in_use, is_to_complete}
use Rattle.fm_stack.specs.Detaching.{query_refusals, started, starting, stop_row, stopped, with_start}
use Rattle.fm_stack.specs.declared.instance.Phase.TheVariants as phase
use Rattle.fm_stack.specs.declared.instance.StartMark.{StartMark}
use Rattle.std.proofs.Common.{◌≡◌, ◌∙◌, ℕ, Bool, true, false, not, List, slice_get, Option, Some, None, refl, sym, ap, subst}
use Rattle.fm_types.specs.declared.status.Status.{Status}

-- ---- one instance ----

-- an instance that leaves a phase, which is neither Setup nor Detached, for another one that is neither of them nor Attached
leaves : (x : Instance) (p : Phase) → is_setup x.phase ≡ false → is_detached x.phase ≡ false → is_setup p ≡ false → is_detached p ≡ false
    → is_attached p ≡ false → GoesOn x (in_phase p x)
leaves x p setup detached to left gone = record {
  filter = refl;
  volume = refl;
  name = refl;
  altitude = refl;
  birth = refl;
  setup = to ∙ sym setup;
  detached = left ∙ sym detached;
  attached = λ is. let wrong : false ≡ true = sym gone ∙ is in cc;
}

pub attached_is : (p : Phase) → is_attached p ≡ true → p ≡ phase.Attached
attached_is phase.Attached is = refl
attached_is p is = cc

pub stopping_is : (p : Phase) → is_stopping p ≡ true → p ≡ phase.Stopping
stopping_is phase.Stopping is = refl
stopping_is p is = cc

pub completing_is : (p : Phase) → is_completing p ≡ true → p ≡ phase.Completing
completing_is phase.Completing is = refl
completing_is p is = cc

pub stop_goes_on : (x : Instance) → is_attached x.phase ≡ true → GoesOn x (stop_row x)
stop_goes_on x is = let own = attached_is x.phase is in leaves x phase.Stopping (rw own refl) (rw own refl) refl refl refl

pub mark_goes_on : (m : StartMark) (x : Instance) → GoesOn x (with_start m x)
mark_goes_on m x = record {
  filter = refl;
  volume = refl;
  name = refl;
  altitude = refl;
  birth = refl;
  setup = refl;
  detached = refl;
  attached = λ is. is;
}

complete_goes_on : (x : Instance) → is_stopping x.phase ≡ true → GoesOn x (in_phase phase.Completing x)
complete_goes_on x is = let own = stopping_is x.phase is in leaves x phase.Completing (rw own refl) (rw own refl) refl refl refl

empty_goes_on : (x : Instance) → is_completing x.phase ≡ true → GoesOn x (in_phase phase.Emptying x)
empty_goes_on x is = let own = completing_is x.phase is in leaves x phase.Emptying (rw own refl) (rw own refl) refl refl refl

-- ---- the events ----

-- the row that passes a test
passed : (test : Instance → Bool) (o : Option Instance) (x : Instance) → passes test o ≡ true → o ≡ Some x → test x ≡ true
passed test o x is there = subst (λ p. passes test p ≡ true) there is

pub stopped_goes_on : (s : StackWorld) (i : InstanceId) → passes is_in_use (slice_get s.instances i.0) ≡ true → StackGoesOn s (stopped s i)
stopped_goes_on s i is =
    only_rows s (stopped s i).instances (one_goes_on stop_row s.instances i.0
    (λ x there. stop_goes_on x (passed is_in_use (slice_get s.instances i.0) x is there)))

pub starting_goes_on : (s : StackWorld) (i : InstanceId) → StackGoesOn s (starting s i)
starting_goes_on s i = only_rows s (starting s i).instances (one_goes_on _ s.instances i.0 (λ x there. mark_goes_on StartMark.Made x))

pub started_goes_on : (s : StackWorld) (i : InstanceId) → StackGoesOn s (started s i)
started_goes_on s i = only_rows s (started s i).instances (one_goes_on _ s.instances i.0 (λ x there. mark_goes_on StartMark.Returned x))

pub completing_goes_on : (s : StackWorld) (i : InstanceId) → passes is_to_complete (slice_get s.instances i.0) ≡ true → StackGoesOn s (completing s i)
completing_goes_on s i is =
    only_rows s (completing s i).instances (one_goes_on _ s.instances i.0 (λ x there.
    complete_goes_on x (and_parts (is_stopping x.phase) _ (passed is_to_complete (slice_get s.instances i.0) x is there)).0))

pub emptying_goes_on : (s : StackWorld) (i : InstanceId) → passes is_in_complete (slice_get s.instances i.0) ≡ true → StackGoesOn s (emptying s i)
emptying_goes_on s i is =
    only_rows s (emptying s i).instances (one_goes_on _ s.instances i.0 (λ x there.
    empty_goes_on x (passed is_in_complete (slice_get s.instances i.0) x is there)))

-- ---- where nothing refuses them ----

not_false : (b : Bool) → not b ≡ false → b ≡ true
not_false true is = refl
not_false false is = cc

-- the refusals of a stack under its other name
none_under : {kept now : StackWorld} (refusals : StackWorld → List (Bool × Status)) → kept ≡ now → first_of (refusals now) ≡ None
    → first_of (refusals kept) ≡ None
none_under refusals same none = ap (λ w. first_of (refusals w)) same ∙ none

pub stops : {kept now : StackWorld} (orders : List (List Seat)) (i : InstanceId) (allow : Bool) → IsKept kept orders → kept ≡ now
    → first_of (query_refusals now i allow) ≡ None → IsKept (stopped kept i) orders × Follows now (stopped kept i)
stops {kept} orders i allow sound same none =
    let tests = none_refuses (query_refusals kept i allow) (none_under (λ w. query_refusals w i allow) same none) in
    goes_both (stopped kept i) orders sound same (stopped_goes_on kept i (not_false (passes is_in_use (slice_get kept.instances i.0)) tests.1.0))

pub starts : {kept now : StackWorld} (orders : List (List Seat)) (i : InstanceId) → IsKept kept orders → kept ≡ now
    → IsKept (starting kept i) orders × Follows now (starting kept i)
starts {kept} orders i sound same = goes_both (starting kept i) orders sound same (starting_goes_on kept i)

pub start_ends : {kept now : StackWorld} (orders : List (List Seat)) (i : InstanceId) → IsKept kept orders → kept ≡ now
    → IsKept (started kept i) orders × Follows now (started kept i)
start_ends {kept} orders i sound same = goes_both (started kept i) orders sound same (started_goes_on kept i)

pub completes : {kept now : StackWorld} (orders : List (List Seat)) (i : InstanceId) (is_asked : Bool) (in_flight : ℕ) → IsKept kept orders → kept ≡ now
    → first_of (complete_refusals now i is_asked in_flight) ≡ None → IsKept (completing kept i) orders × Follows now (completing kept i)
completes {kept} orders i is_asked in_flight sound same none =
    let tests = none_refuses (complete_refusals kept i is_asked in_flight) (none_under (λ w. complete_refusals w i is_asked in_flight) same none) in
    let test = passes is_to_complete (slice_get kept.instances i.0) in
    goes_both (completing kept i) orders sound same (completing_goes_on kept i (not_false test (or_parts (not test) is_asked tests.1.0).0))

pub empties : {kept now : StackWorld} (orders : List (List Seat)) (i : InstanceId) → IsKept kept orders → kept ≡ now
    → passes is_in_complete (slice_get now.instances i.0) ≡ true → IsKept (emptying kept i) orders × Follows now (emptying kept i)
empties {kept} orders i sound same is =
    goes_both (emptying kept i) orders sound same
    (emptying_goes_on kept i (ap (λ (w : StackWorld). passes is_in_complete (slice_get w.instances i.0)) same ∙ is))
