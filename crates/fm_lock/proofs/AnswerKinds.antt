-- What an event by a hand makes of the hand, read off its answer: one lemma for each kind of answer.
use Rattle.fm_lock.specs.Events.{HandAfter, Holding}
use Rattle.fm_lock.specs.Replies.{context_in, done_in, drained_in, old_in, set_in}
use Rattle.fm_lock.specs.Views.{HandView}
use Rattle.fm_callback_data.specs.declared.verdict.Completion.{Completion}
use Rattle.fm_types.specs.declared.ids.CtxId.{CtxId}
use Rattle.fm_types.specs.declared.ids.OpId.{OpId}
use Rattle.fm_types.specs.declared.status.Status.{Status}
use Rattle.fm_world.specs.StepHands.{Holds}
use Rattle.fm_world.specs.Steps.{OfContext, OfDone, OfDrained, OfOld, OfSet}
use Rattle.fm_world.specs.declared.refused.Refused.{Refused}
use Rattle.fm_world.specs.declared.set_answer.SetAnswer.{SetAnswer}
use Rattle.fm_world.specs.declared.step.Step.{Step}
use Rattle.fm_world.specs.declared.step.StepReply.{StepReply}
use Rattle.fm_world.specs.declared.step.StepReply.TheVariants as reply
use Rattle.std.proofs.Common.{Err, Ok, Option, Result, ap, arith, subst, sym, ℕ, ◌≡◌}

-- an event that changes no hand
pub stays : (s : Step) (hand : HandView) (given : Result StepReply (Refused Step)) (after : HandView)
    → ((answer : StepReply) → Holds s answer hand.held after.held → after.held ≡ hand.held) → HandAfter s hand given after → after ≡ hand
stays s hand (Ok answer) after same h = let held = same answer h.1 in grind (arith, held, h.0)
stays s hand (Err refused) after same h = h.1

done_at : (P : Result (Unit {0}) Status → Type 0) (answer : StepReply) → OfDone answer P → P (done_in (Ok answer))
done_at P (reply.Filter r) h = absurd h
done_at P (reply.Volume r) h = absurd h
done_at P (reply.Instance r) h = absurd h
done_at P (reply.Operation r) h = absurd h
done_at P (reply.Action r) h = absurd h
done_at P (reply.Done r) h = h
done_at P (reply.Held r) h = absurd h
done_at P (reply.Drained r) h = absurd h
done_at P (reply.Dropped r) h = absurd h
done_at P (reply.Answer r) h = absurd h
done_at P (reply.Context r) h = absurd h
done_at P (reply.Set r) h = absurd h
done_at P (reply.Old r) h = absurd h
done_at P (reply.Body r) h = absurd h
done_at P (reply.Number r) h = absurd h
done_at P (reply.Due r) h = absurd h

pub done_held : (s : Step) (Says : Result (Unit {0}) Status → ℕ → ℕ → Type 0) (hand : HandView)
    (given : Result StepReply (Refused Step)) (result : Result (Unit {0}) Status) (after : HandView)
    → ((answer : StepReply) → Holds s answer hand.held after.held → OfDone answer (λ r. Says r hand.held after.held))
    → ((n m : ℕ) → m ≡ n → Says (Err Status.WrongStep) n m) → HandAfter s hand given after → result ≡ done_in given → Holding (Says result) hand after
done_held s Says hand (Ok answer) result after holds wrong h is =
    (h.0, subst (λ r. Says r hand.held after.held) (sym is) (done_at (λ r. Says r hand.held after.held) answer (holds answer h.1)))
done_held s Says hand (Err refused) result after holds wrong h is =
    let same : after ≡ hand = h.1 in
    (ap (λ (v : HandView). v.worker) same, subst (λ r. Says r hand.held after.held) (sym is) (wrong hand.held after.held (ap (λ (v : HandView). v.held) same)))

context_at : (P : Result CtxId Status → Type 0) (answer : StepReply) → OfContext answer P → P (context_in (Ok answer))
context_at P (reply.Filter r) h = absurd h
context_at P (reply.Volume r) h = absurd h
context_at P (reply.Instance r) h = absurd h
context_at P (reply.Operation r) h = absurd h
context_at P (reply.Action r) h = absurd h
context_at P (reply.Done r) h = absurd h
context_at P (reply.Held r) h = absurd h
context_at P (reply.Drained r) h = absurd h
context_at P (reply.Dropped r) h = absurd h
context_at P (reply.Answer r) h = absurd h
context_at P (reply.Context r) h = h
context_at P (reply.Set r) h = absurd h
context_at P (reply.Old r) h = absurd h
context_at P (reply.Body r) h = absurd h
context_at P (reply.Number r) h = absurd h
context_at P (reply.Due r) h = absurd h

pub context_held : (s : Step) (Says : Result CtxId Status → ℕ → ℕ → Type 0) (hand : HandView) (given : Result StepReply (Refused Step))
    (result : Result CtxId Status) (after : HandView)
    → ((answer : StepReply) → Holds s answer hand.held after.held → OfContext answer (λ r. Says r hand.held after.held))
    → ((n m : ℕ) → m ≡ n → Says (Err Status.WrongStep) n m) → HandAfter s hand given after → result ≡ context_in given → Holding (Says result) hand after
context_held s Says hand (Ok answer) result after holds wrong h is =
    (h.0, subst (λ r. Says r hand.held after.held) (sym is) (context_at (λ r. Says r hand.held after.held) answer (holds answer h.1)))
context_held s Says hand (Err refused) result after holds wrong h is =
    let same : after ≡ hand = h.1 in
    (ap (λ (v : HandView). v.worker) same, subst (λ r. Says r hand.held after.held) (sym is) (wrong hand.held after.held (ap (λ (v : HandView). v.held) same)))

old_at : (P : Result (Option CtxId) Status → Type 0) (answer : StepReply) → OfOld answer P → P (old_in (Ok answer))
old_at P (reply.Filter r) h = absurd h
old_at P (reply.Volume r) h = absurd h
old_at P (reply.Instance r) h = absurd h
old_at P (reply.Operation r) h = absurd h
old_at P (reply.Action r) h = absurd h
old_at P (reply.Done r) h = absurd h
old_at P (reply.Held r) h = absurd h
old_at P (reply.Drained r) h = absurd h
old_at P (reply.Dropped r) h = absurd h
old_at P (reply.Answer r) h = absurd h
old_at P (reply.Context r) h = absurd h
old_at P (reply.Set r) h = absurd h
old_at P (reply.Old r) h = h
old_at P (reply.Body r) h = absurd h
old_at P (reply.Number r) h = absurd h
old_at P (reply.Due r) h = absurd h

pub old_held : (s : Step) (Says : Result (Option CtxId) Status → ℕ → ℕ → Type 0) (hand : HandView)
    (given : Result StepReply (Refused Step)) (result : Result (Option CtxId) Status) (after : HandView)
    → ((answer : StepReply) → Holds s answer hand.held after.held → OfOld answer (λ r. Says r hand.held after.held))
    → ((n m : ℕ) → m ≡ n → Says (Err Status.WrongStep) n m) → HandAfter s hand given after → result ≡ old_in given → Holding (Says result) hand after
old_held s Says hand (Ok answer) result after holds wrong h is =
    (h.0, subst (λ r. Says r hand.held after.held) (sym is) (old_at (λ r. Says r hand.held after.held) answer (holds answer h.1)))
old_held s Says hand (Err refused) result after holds wrong h is =
    let same : after ≡ hand = h.1 in
    (ap (λ (v : HandView). v.worker) same, subst (λ r. Says r hand.held after.held) (sym is) (wrong hand.held after.held (ap (λ (v : HandView). v.held) same)))

drained_at : (P : Result (Option (OpId × Completion)) Status → Type 0) (answer : StepReply) → OfDrained answer P → P (drained_in (Ok answer))
drained_at P (reply.Filter r) h = absurd h
drained_at P (reply.Volume r) h = absurd h
drained_at P (reply.Instance r) h = absurd h
drained_at P (reply.Operation r) h = absurd h
drained_at P (reply.Action r) h = absurd h
drained_at P (reply.Done r) h = absurd h
drained_at P (reply.Held r) h = absurd h
drained_at P (reply.Drained r) h = h
drained_at P (reply.Dropped r) h = absurd h
drained_at P (reply.Answer r) h = absurd h
drained_at P (reply.Context r) h = absurd h
drained_at P (reply.Set r) h = absurd h
drained_at P (reply.Old r) h = absurd h
drained_at P (reply.Body r) h = absurd h
drained_at P (reply.Number r) h = absurd h
drained_at P (reply.Due r) h = absurd h

pub drained_held : (s : Step) (Says : Result (Option (OpId × Completion)) Status → ℕ → ℕ → Type 0) (hand : HandView)
    (given : Result StepReply (Refused Step)) (result : Result (Option (OpId × Completion)) Status) (after : HandView)
    → ((answer : StepReply) → Holds s answer hand.held after.held → OfDrained answer (λ r. Says r hand.held after.held))
    → ((n m : ℕ) → m ≡ n → Says (Err Status.WrongStep) n m) → HandAfter s hand given after → result ≡ drained_in given → Holding (Says result) hand after
drained_held s Says hand (Ok answer) result after holds wrong h is =
    (h.0, subst (λ r. Says r hand.held after.held) (sym is) (drained_at (λ r. Says r hand.held after.held) answer (holds answer h.1)))
drained_held s Says hand (Err refused) result after holds wrong h is =
    let same : after ≡ hand = h.1 in
    (ap (λ (v : HandView). v.worker) same, subst (λ r. Says r hand.held after.held) (sym is) (wrong hand.held after.held (ap (λ (v : HandView). v.held) same)))

set_at : (P : SetAnswer → Type 0) (answer : StepReply) → OfSet answer P → P (set_in (Ok answer))
set_at P (reply.Filter r) h = absurd h
set_at P (reply.Volume r) h = absurd h
set_at P (reply.Instance r) h = absurd h
set_at P (reply.Operation r) h = absurd h
set_at P (reply.Action r) h = absurd h
set_at P (reply.Done r) h = absurd h
set_at P (reply.Held r) h = absurd h
set_at P (reply.Drained r) h = absurd h
set_at P (reply.Dropped r) h = absurd h
set_at P (reply.Answer r) h = absurd h
set_at P (reply.Context r) h = absurd h
set_at P (reply.Set r) h = h
set_at P (reply.Old r) h = absurd h
set_at P (reply.Body r) h = absurd h
set_at P (reply.Number r) h = absurd h
set_at P (reply.Due r) h = absurd h

pub set_held : (s : Step) (Says : SetAnswer → ℕ → ℕ → Type 0) (hand : HandView) (given : Result StepReply (Refused Step))
    (result : SetAnswer) (after : HandView)
    → ((answer : StepReply) → Holds s answer hand.held after.held → OfSet answer (λ r. Says r hand.held after.held))
    → ((n m : ℕ) → m ≡ n → Says (SetAnswer.Refused Status.WrongStep) n m) → HandAfter s hand given after → result ≡ set_in given
    → Holding (Says result) hand after
set_held s Says hand (Ok answer) result after holds wrong h is =
    (h.0, subst (λ r. Says r hand.held after.held) (sym is) (set_at (λ r. Says r hand.held after.held) answer (holds answer h.1)))
set_held s Says hand (Err refused) result after holds wrong h is =
    let same : after ≡ hand = h.1 in
    (ap (λ (v : HandView). v.worker) same, subst (λ r. Says r hand.held after.held) (sym is) (wrong hand.held after.held (ap (λ (v : HandView). v.held) same)))
