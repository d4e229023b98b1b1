-- What events make of workers' numbers of references, said without a World.
use Rattle.fm_world.proofs.Words.{CompleteReturns, CompleteReturnsAt, QueryReturns, QueryReturnsAt, ResumesPre, SetsUp, SetsUpAt, StartReturns, StartReturnsAt}
use Rattle.fm_world.proofs.Words.{AtRoutine, RoutineReturns, RoutineReturnsAt}
use Rattle.fm_world.proofs.Words.{HoldsFewer, KeepsHands, given_with, hand_len, left_by, left_by_setup, taken_by_resume, place_in, sent_in, state_at, first_of}
use Rattle.fm_world.proofs.Words.{CtxId, InstanceId, OpId, Status, WorkerId, PreState, PreVerdict, Completion, hand_of, holds, of_hand, has_post, verdict_counted}
use Rattle.fm_world.proofs.Words.{AtComplete, AtQuery, AtSetup, AtStart, InstanceCallback, worker_at, World, Place, Bool, Err, List, None, Ok, Option, Result, Some, [], ap}
use Rattle.fm_world.proofs.Words.{arith, cond, length, option_map, unwrap_or, refl, slice_get, subst, sym, told, ℕ, ◌+◌, ◌∷◌, ◌≡◌, ◌≤◌, Operation, state_given, FlowRecord, operation_at, not}
use Rattle.std.proofs.lemmas.List.{get_or_past}
use Rattle.fm_world.specs.Hands.{worker_pairs}
use Rattle.fm_world.specs.StepHands.{Left, Resumed, context_in}
use Rattle.fm_stack.specs.Events as stack
use Rattle.fm_stack.specs.Detaching as detach

-- ---- no hand changed

past : (hands : List (List CtxId)) (n : ℕ) → length hands ≤ n → length (hand_of hands n) ≡ 0
past hands n le = ap (λ (hand : List CtxId). length hand) (get_or_past hands n [] le)

pub keeps_pairs : (old new : World) → KeepsHands old new → worker_pairs new ≡ worker_pairs old
keeps_pairs old new h =
    let n = length old.contexts.hands + length new.contexts.hands in
    omega (arith, h n, past old.contexts.hands n (omega arith), past new.contexts.hands n (omega arith))

pub keeps_held : (old new : World) → KeepsHands old new → (k : ℕ) → hand_len k new ≡ hand_len k old
keeps_held old new h k = omega (arith, h k, keeps_pairs old new h)

-- ---- the end of a callback that another refusal returns too

-- the worker isn't in such a callback
wrong_left : (r : Result (Unit {0}) Status) (n m : ℕ) → r ≡ Err Status.WrongStep → m ≡ n → Left r n m
wrong_left r n m wrong same = subst (λ r. Left r n m) (sym wrong) same

done_left : (r : Result (Unit {0}) Status) (n m : ℕ) → r ≡ Ok tt → m ≡ 0 → Left r n m
done_left r n m done none = subst (λ r. Left r n m) (sym done) none

setup_at : (old : World) (k : WorkerId) (accept : Bool) (r : Result (Unit {0}) Status) (new : World) (at : Option Place) (n m : ℕ)
    → SetsUpAt old k accept r new at → m ≡ left_by AtSetup at n → Left r n m
unfolding stack.SetsUp
setup_at old k accept r new at n m h e = grind (arith, wrong_left)

pub setup_left : (old : World) (k : WorkerId) (accept : Bool) (r : Result (Unit {0}) Status) (new : World) → SetsUp old k accept r new
    → hand_len k.0 new ≡ left_by_setup (worker_at old.workers k) (hand_len k.0 old) → Left r (hand_len k.0 old) (hand_len k.0 new)
unfolding SetsUp
setup_left old k accept r new h e = setup_at old k accept r new (worker_at old.workers k) (hand_len k.0 old) (hand_len k.0 new) h e

query_at : (old : World) (k : WorkerId) (allow : Bool) (r : Result (Unit {0}) Status) (new : World) (at : Option Place) (n m : ℕ)
    → QueryReturnsAt old k allow r new at → m ≡ left_by AtQuery at n → Left r n m
unfolding detach.QueryReturns
query_at old k allow r new at n m h e = grind (arith, wrong_left)

pub query_left : (old : World) (k : WorkerId) (allow : Bool) (r : Result (Unit {0}) Status) (new : World) → QueryReturns old k allow r new
    → hand_len k.0 new ≡ left_by AtQuery (worker_at old.workers k) (hand_len k.0 old) → Left r (hand_len k.0 old) (hand_len k.0 new)
unfolding QueryReturns
query_left old k allow r new h e = query_at old k allow r new (worker_at old.workers k) (hand_len k.0 old) (hand_len k.0 new) h e

start_at : (old : World) (k : WorkerId) (r : Result (Unit {0}) Status) (new : World) (at : Option Place) (n m : ℕ)
    → StartReturnsAt old k r new at → m ≡ left_by AtStart at n → Left r n m
start_at old k r new at n m h e = grind (arith, wrong_left, done_left)

pub start_left : (old : World) (k : WorkerId) (r : Result (Unit {0}) Status) (new : World) → StartReturns old k r new
    → hand_len k.0 new ≡ left_by AtStart (worker_at old.workers k) (hand_len k.0 old) → Left r (hand_len k.0 old) (hand_len k.0 new)
unfolding StartReturns
start_left old k r new h e = start_at old k r new (worker_at old.workers k) (hand_len k.0 old) (hand_len k.0 new) h e

complete_at : (old : World) (k : WorkerId) (r : Result (Unit {0}) Status) (new : World) (at : Option Place) (n m : ℕ)
    → CompleteReturnsAt old k r new at → m ≡ left_by AtComplete at n → Left r n m
complete_at old k r new at n m h e = grind (arith, wrong_left, done_left)

pub complete_left : (old : World) (k : WorkerId) (r : Result (Unit {0}) Status) (new : World) → CompleteReturns old k r new
    → hand_len k.0 new ≡ left_by AtComplete (worker_at old.workers k) (hand_len k.0 old) → Left r (hand_len k.0 old) (hand_len k.0 new)
unfolding CompleteReturns
complete_left old k r new h e = complete_at old k r new (worker_at old.workers k) (hand_len k.0 old) (hand_len k.0 new) h e

routine_at : (old : World) (k : WorkerId) (r : Result (Unit {0}) Status) (new : World) (at : Option Place) (n m : ℕ)
    → RoutineReturnsAt old k r new at → m ≡ left_by AtRoutine at n → Left r n m
routine_at old k r new at n m h e = grind (arith, wrong_left, done_left)

pub routine_left : (old : World) (k : WorkerId) (r : Result (Unit {0}) Status) (new : World) → RoutineReturns old k r new
    → hand_len k.0 new ≡ left_by AtRoutine (worker_at old.workers k) (hand_len k.0 old) → Left r (hand_len k.0 old) (hand_len k.0 new)
unfolding RoutineReturns
routine_left old k r new h e = routine_at old k r new (worker_at old.workers k) (hand_len k.0 old) (hand_len k.0 new) h e

-- ---- a preoperation is resumed: what its verdict sends along is at most the context that it names

sent_few : (hand : List CtxId) (given : PreVerdict) (operation : Operation) (has_post : Bool)
    → given_with (sent_in (verdict_counted (of_hand hand given) operation has_post)) ≤ given_with (context_in given)
sent_few hand given operation has_post = grind arith

sent_from : (old : World) (k : WorkerId) (given : PreVerdict) (i : InstanceId) (m : Option FlowRecord)
    → given_with (sent_in (unwrap_or (option_map (state_given old.stack (hand_of old.contexts.hands k.0) i given) m) PreState.Passed))
    ≤ given_with (context_in given)
sent_from old k given i None = omega arith
sent_from old k given i (Some r) =
    sent_few (hand_of old.contexts.hands k.0) given r.operation (has_post old.stack (slice_get old.stack.instances i.0) r.operation)

resumes_few : (old : World) (k : WorkerId) (o : OpId) (given : PreVerdict) (at : Option InstanceId)
    → taken_by_resume old k o given at ≤ given_with (context_in given)
resumes_few old k o given None = omega arith
resumes_few old k o given (Some i) = sent_from old k given i (operation_at o old.flow)

pub resume_left : (old : World) (k : WorkerId) (o : OpId) (given : PreVerdict) (r : Result (Unit {0}) Status) (new : World)
    → HoldsFewer k.0 r (taken_by_resume old k o given (place_in (worker_at old.workers k))) old new → Resumed given r (hand_len k.0 old) (hand_len k.0 new)
resume_left old k o given (Ok done) new h =
    let few = resumes_few old k o given (place_in (worker_at old.workers k)) in
    (omega (arith, h, few), omega (arith, h, few))
resume_left old k o given (Err why) new h = h
