-- Whose turn a synchronized postoperation is.
use Rattle.fm_operations.proofs.Words.{Bool, true, false, cond, Option, Some, None, Err, refl, sym, ap, subst, arith, nat_tests, none-some, same_Some, slice_get}
use Rattle.fm_operations.proofs.Words.{WorkerId, WrongStep, Params, Stage, Ascending, Descending, Ask, FlowRecord, Below, IsSound, ascend, call_post, call_pre, descend, give_post, may_take, next_at, next_of, owed, turn, unwound}
use Rattle.std.proofs.Common.{◌≡◌, ◌≢◌, ◌||◌, ◌∙◌, is_some}
use Rattle.fm_operations.specs.declared.action.Below.TheVariants as below
use Rattle.fm_operations.specs.Holds.{sync_at, sync_of}
use Rattle.fm_operations.specs.Turns.{GivesPost, SynchronizedTurn}
use Rattle.fm_operations.proofs.Seeing.{seen}
use Rattle.fm_operations.proofs.Soundness.{at_stage}

-- where one worker's postoperation comes next
record Waits (own : WorkerId) (stops : Bool) (r : FlowRecord) : Type 0 where
  here : r.collected ≡ false
  goes : stops ≡ false
  stage : r.stage ≡ Ascending
  ask : Ask
  next : slice_get (owed r.entries) 0 ≡ Some ask
  synchronized : ask.is_synchronized ≡ true
  worker : ask.worker ≡ own

waits_at : (own : WorkerId) (stage : Stage) (m : Option Ask) → sync_at stage m ≡ Some own → (stage ≡ Ascending)
    × ((ask : Ask) × (m ≡ Some ask) × (ask.is_synchronized ≡ true) × (ask.worker ≡ own))
waits_at own Ascending (Some ask) h = by_test ask.is_synchronized refl h
  where
    by_test : (b : Bool) → ask.is_synchronized ≡ b → cond b (Some ask.worker) None ≡ Some own
        → (Ascending ≡ Ascending) × ((a : Ask) × (Some ask ≡ Some a) × (a.is_synchronized ≡ true) × (a.worker ≡ own))
    by_test true is h = (refl, (ask, refl, is, same_Some ask.worker own h))
    by_test false is h = absurd (none-some own h)
waits_at own stage m h = absurd (grind (arith, h))

waits : (own : WorkerId) (stops : Bool) (r : FlowRecord) → sync_of stops r ≡ Some own → Waits own stops r
waits own stops r h = by_tests r.collected stops refl refl h
  where
    by_tests : (c s : Bool) → r.collected ≡ c → stops ≡ s → cond (c || s) None (sync_at r.stage (slice_get (owed r.entries) 0)) ≡ Some own → Waits own stops r
    by_tests false false c s h =
        let w = waits_at own r.stage (slice_get (owed r.entries) 0) h in
        record { here = c; goes = s; stage = w.0; ask = w.1.0; next = w.1.1; synchronized = w.1.2; worker = w.1.3 }
    by_tests c s _ _ h = absurd (grind (arith, h))

-- what `next` answers there
turns : (own worker : WorkerId) (lies : Below) (stops : Bool) (r : FlowRecord) (w : Waits own stops r)
    → (next_of worker lies stops r).reply ≡ (cond (may_take worker w.ask) (call_post worker w.ask r) (turn (Err WrongStep) r)).reply
turns own worker lies stops r w = rw (w.here, w.goes, w.stage, w.next) refl

takes : (own worker : WorkerId) (stops : Bool) (r : FlowRecord) (w : Waits own stops r) → worker.0 ≡ own.0 → may_take worker w.ask ≡ true
takes own worker stops r w same = grind (arith, nat_tests, w.worker, same)

waits_for : (own worker : WorkerId) (stops : Bool) (r : FlowRecord) (w : Waits own stops r) → worker.0 ≢ own.0 → may_take worker w.ask ≡ false
waits_for own worker stops r w other = grind (arith, nat_tests, w.worker, w.synchronized, other)

-- its parameters are here, so the postoperation is given
posts : (worker : WorkerId) (ask : Ask) (r : FlowRecord) → r.stage ≡ Ascending → IsSound r → GivesPost (call_post worker ask r).reply
posts worker ask r stage h = by_params r.params refl
  where
    here : is_some r.params ≡ true
    here = (at_stage r Ascending stage h).1

    by_params : (m : Option Params) → r.params ≡ m → GivesPost (call_post worker ask r).reply
    by_params None is = absurd (grind (arith, here, is))
    by_params (Some p) is = subst GivesPost (sym (seen.post worker ask r p is)) tt

-- a worker that isn't asked for by number is told what any is
same_up : (worker other : WorkerId) (stops : Bool) (r : FlowRecord) (m : Option Ask) → cond stops None (sync_at Ascending m) ≡ None
    → (ascend worker stops r m).reply ≡ (ascend other stops r m).reply
same_up worker other stops r None h = refl
same_up worker other true r (Some ask) h = refl
same_up worker other false r (Some ask) h = by_test ask.is_synchronized refl h
  where
    by_test : (b : Bool) → ask.is_synchronized ≡ b → cond b (Some ask.worker) None ≡ None → (ascend worker false r (Some ask)).reply
        ≡ (ascend other false r (Some ask)).reply
    by_test true is h = absurd (none-some ask.worker (sym h))
    by_test false is h =
        let free : (k : WorkerId) → may_take k ask ≡ true = λ k. grind (arith, is) in
        let posted : (k : WorkerId) → (ascend k false r (Some ask)).reply ≡ (call_post k ask r).reply = λ k. rw (free k) refl in
        posted worker ∙ same_post (unwound ask.place r).params ∙ sym (posted other)
      where
        same_post : (m : Option Params) → (give_post worker ask (unwound ask.place r) m).reply ≡ (give_post other ask (unwound ask.place r) m).reply
        same_post None = refl
        same_post (Some p) = refl

same_down : (worker other : WorkerId) (lies : Below) (r : FlowRecord) → (descend worker lies r).reply ≡ (descend other lies r).reply
same_down worker other (below.Instance i true) r = by_params r.params
  where
    by_params : (m : Option Params) → (call_pre worker i r m).reply ≡ (call_pre other i r m).reply
    by_params None = refl
    by_params (Some p) = refl
same_down worker other (below.Instance i false) r = refl
same_down worker other below.Call r = refl
same_down worker other (below.Known status) r = refl

same_turn : (worker other : WorkerId) (lies : Below) (stops : Bool) (r : FlowRecord) → sync_of stops r ≡ None
    → (next_of worker lies stops r).reply ≡ (next_of other lies stops r).reply
same_turn worker other lies stops r h = by_collected r.collected h
  where
    by_stage : (stage : Stage) → cond stops None (sync_at stage (slice_get (owed r.entries) 0)) ≡ None
        → (next_at worker lies stops r stage).reply ≡ (next_at other lies stops r stage).reply
    by_stage Descending h = same_down worker other lies r
    by_stage Ascending h = same_up worker other stops r (slice_get (owed r.entries) 0) h
    by_stage stage h = grind arith

    by_collected : (c : Bool) → cond (c || stops) None (sync_at r.stage (slice_get (owed r.entries) 0)) ≡ None
        → (cond c (turn (Err WrongStep) r) (next_at worker lies stops r r.stage)).reply
        ≡ (cond c (turn (Err WrongStep) r) (next_at other lies stops r r.stage)).reply
    by_collected true h = refl
    by_collected false h = by_stage r.stage h

pub turn_of : SynchronizedTurn
turn_of = record {
  own = λ own worker lies stops r h is.
      let w = waits own stops r is in
      let by = turns own worker lies stops r w in (
        λ same. subst GivesPost (sym (by ∙ ap (λ b. (cond b (call_post worker w.ask r) (turn (Err WrongStep) r)).reply)
            (takes own worker stops r w same))) (posts worker w.ask r w.stage h),
        λ other. by ∙ ap (λ b. (cond b (call_post worker w.ask r) (turn (Err WrongStep) r)).reply) (waits_for own worker stops r w other),
      );
  any = λ worker other lies stops r none. same_turn worker other lies stops r none;
}
