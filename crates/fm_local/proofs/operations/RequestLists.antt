-- The requests of a list, one after the other, are answered as their folds say.
use Rattle.fm_local.proofs.Words.{[], ◌∷◌, ◌≡◌, Answer, BaseCall, Completion, Data, List, Option, PostVerdict, PreVerdict, Some, StackWorld, Status}
use Rattle.fm_local.proofs.Words.{WorkerId, World, slice_get, worker_at, ℕ, ◌∙◌, ap, ap₂, refl, subst, sym, FileRequest, Request, FileTable, IsSound}
use Rattle.fm_local.proofs.Words.{IsPlainFilter, Under, IsAtRest, NoneStops, Tidies, under}
use Rattle.fm_world.proofs.Runs.{run_keeps}
use Rattle.fm_local.specs.Requests.{Performs, ClosesAfter, AnswersOne, AnswersAll, DoesTidily, DoesClose, DoesOne, DoesAll, CarriedAreFolds}
use Rattle.fm_local.proofs.operations.RequestFold.{answered}

module _ {F D : Type 0} (pre : F → Data → PreVerdict → Data → Type 0) (post : F → Data → Completion → PostVerdict → Data → Type 0) (is_quiet : F → Type 0)
    (carries : D → BaseCall → Answer → D → Type 0) (filters : ℕ → Option F) (k : WorkerId) (plain : (n : ℕ) (f : F)
    → filters n ≡ Some f → IsPlainFilter pre post is_quiet f)
    (s : StackWorld) (quiet : NoneStops s) where
  -- sound, at rest, over that stack
  pub record RestsOver (w : World) : Type 0 where
    pub sound : IsSound w
    pub rests : IsAtRest k w
    pub stack : w.stack ≡ s

  -- what was answered, and that all is ready again
  pub record Ready (P : Under D → ℕ → Type 0) (new : World) (e : D) : Type 0 where
    pub ready : RestsOver new
    pub holds : P (under e new) new.flow.next

  tidied : (old new : World) → Tidies old new → RestsOver old → RestsOver new
  tidied old new t ready = record {
    sound = run_keeps old t.steps t.replies new t.run ready.sound;
    rests = record {
      operations = ap (λ f. f.operations) t.flow ∙ ready.rests.operations;
      idle = ap (λ ws. worker_at ws k) t.workers ∙ ready.rests.idle;
      all = λ j a at. ready.rests.all j a (ap (λ ws. slice_get ws j) (sym t.workers) ∙ at);
    };
    stack = t.stack ∙ ready.stack;
  }

  pub one_tidily : (what : Request) (old : World) (d : D) (answer : Answer) (new : World) (e : D) → RestsOver old
      → DoesTidily pre post carries filters k what old d answer new e
      → Ready (λ u n. Performs pre post carries filters s old.flow.next what (under d old) answer u n) new e
  one_tidily what old d answer new e ready h =
      let calm : NoneStops old.stack = subst NoneStops (sym ready.stack) quiet in
      let a = answered pre post is_quiet carries filters k what old d answer h.0 e plain ready.sound ready.rests calm h.1 in
      let mid : RestsOver h.0 = record { sound = a.sound; rests = a.rests; stack = a.stays ∙ ready.stack } in
      record {
        ready = tidied h.0 new h.2 mid;
        holds =
            subst (λ (n : ℕ). Performs pre post carries filters s old.flow.next what (under d old) answer (under e new) n) (sym (ap (λ f. f.next) h.2.flow))
            (subst (λ (fs : FileTable). Performs pre post carries filters s old.flow.next what (under d old) answer
            (record { device = e; files = fs }) h.0.flow.next) (sym h.2.files)
            (subst (λ (t : StackWorld). Performs pre post carries filters t old.flow.next what (under d old) answer
            (under e h.0) h.0.flow.next) ready.stack a.performs));
      }

  one_close : (st : Status) (what : Request) (old : World) (d : D) (cleanup answer : Answer) (new : World) (e : D) → RestsOver old
      → DoesClose pre post carries filters k st what old d cleanup answer new e
      → Ready (λ u n. ClosesAfter pre post carries filters s st old.flow.next what (under d old) cleanup answer u n) new e
  one_close Status.Success what old d cleanup answer new e ready h = let r = one_tidily what old d answer new e ready h in
      record { ready = r.ready; holds = r.holds }
  one_close Status.WrongStep what old d cleanup answer new e ready h = let r = one_tidily what old d answer new e ready h in
      record { ready = r.ready; holds = r.holds }
  one_close _ what old d cleanup answer new e ready h = record {
    ready = subst RestsOver (sym h.1) ready;
    holds = (h.0, ap₂ (λ dev fs. record { device = dev; files = fs }) h.2 (ap (λ (w : World). w.files) h.1), ap (λ (w : World). w.flow.next) h.1);
  }

  pub one_done : (what : Request) (old : World) (d : D) (answer : Answer) (new : World) (e : D) → RestsOver old
      → DoesOne pre post carries filters k what old d answer new e
      → Ready (λ u n. AnswersOne pre post carries filters s old.flow.next what (under d old) answer u n) new e
  one_done (Request.OnHandle h FileRequest.Close) old d answer new e ready does =
      let first = one_tidily (Request.OnHandle h FileRequest.Cleanup) old d does.2 does.0 does.1 ready does.3 in
      let then = one_close does.2.status (Request.OnHandle h FileRequest.Close) does.0 does.1 does.2 answer new e first.ready does.4 in
      record { ready = then.ready; holds = (under does.1 does.0, does.2, does.0.flow.next, first.holds, then.holds) }
  one_done what old d answer new e ready does = let r = one_tidily what old d answer new e ready does in record { ready = r.ready; holds = r.holds }

  all_done : (requests : List Request) (old : World) (d : D) (answers : List Answer) (new : World) (e : D) → RestsOver old
      → DoesAll pre post carries filters k requests old d answers new e
      → Ready (λ u n. AnswersAll pre post carries filters s old.flow.next requests (under d old) answers u n) new e
  all_done [] old d [] new e ready h = record {
    ready = subst RestsOver (sym h.0) ready;
    holds = (ap₂ (λ dev fs. record { device = dev; files = fs }) h.1 (ap (λ (w : World). w.files) h.0), ap (λ (w : World). w.flow.next) h.0);
  }
  all_done [] old d (answer ∷ answers) new e ready h = absurd h
  all_done (what ∷ requests) old d [] new e ready h = absurd h
  all_done (what ∷ requests) old d (answer ∷ answers) new e ready h =
      let first = one_done what old d answer h.0 h.1 ready h.2 in
      let rest = all_done requests h.0 h.1 answers new e first.ready h.3 in
      record { ready = rest.ready; holds = (under h.1 h.0, h.0.flow.next, first.holds, rest.holds) }

pub all_answered : {F D : Type 0} (pre : F → Data → PreVerdict → Data → Type 0) (post : F → Data → Completion → PostVerdict → Data
    → Type 0) (is_quiet : F → Type 0)
    (carries : D → BaseCall → Answer → D → Type 0) → CarriedAreFolds pre post is_quiet carries
all_answered pre post is_quiet carries filters k requests old d answers new e plain sound rests quiet h =
    let r = all_done pre post is_quiet carries filters k plain old.stack quiet requests old d answers new e
    (record { sound = sound; rests = rests; stack = refl }) h in
    record { performs = r.holds; rests = r.ready.rests; sound = r.ready.sound; stays = r.ready.stack }
