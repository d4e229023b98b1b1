-- Of the operations that ended the first is handed out: where they wait, none of them lacks its answer.
use Rattle.fm_local.proofs.Words.{[], ◌∷◌, ◌≡◌, Answer, Bool, Err, FlowRecord, Parts, List, None, Ok, OpId, Option, Some, Status, World, cond, false, not, option_map, refl, subst, sym, true, unwrap_or, ◌&&◌, ◌++◌, ap, arith, operation_at, Collects, Reply}
use Rattle.std.specs.Prelude.{All}
use Rattle.std.proofs.lemmas.List.Elements.{All-head, All-tail}
use Rattle.fm_operations.specs.Table.{collect_reply, is_collectable}
use Rattle.fm_local.specs.Actions.{GivesFinished, HasNoAnswer, TakesDone}
use Rattle.fm_local.specs.Waits.{HandsOut, IsEnded, Wait, Waiting, are_apart, is_among}
use Rattle.fm_local.proofs.queues.ManagerWaits.{collects_wait}

-- what ended has its answer
has_answer : (w : World) (o : OpId) → IsEnded w.flow o → HasNoAnswer w o → ⊥
unfolding Collects
has_answer w o ended (why, none) = by_record (operation_at o w.flow) ended none.0
  where
    by_mark : (b : Bool) (r : FlowRecord) → b ≡ true → Err why ≡ cond b (Ok r.answer) (Err Status.WrongStep) → ⊥
    by_mark true r is h = cc
    by_mark false r is h = cc

    by_record : (m : Option FlowRecord) → unwrap_or (option_map is_collectable m) false ≡ true
        → Err why ≡ unwrap_or (option_map collect_reply m) (Err Status.WrongStep) → ⊥
    by_record None is h = cc
    by_record (Some r) is h = by_mark (is_collectable r) r is h

-- the first of those that ended
first_waits : (w : World) (resumed ended : List OpId) (o : OpId) → Wait w.flow resumed (o ∷ ended) → Wait w.flow resumed ended
    × (is_among o resumed ≡ false) × (is_among o ended ≡ false)
first_waits w resumed ended o h =
    let k = parts (not (is_among o ended)) (are_apart ended) h.once in (
      record {
        going = h.going;
        done = All-tail (IsEnded w.flow) o ended h.done;
        others = All-tail (λ (p : OpId). is_among p resumed ≡ false) o ended h.others;
        once = k.1;
      },
      All-head (λ (p : OpId). is_among p resumed ≡ false) o ended h.others,
      untrue (is_among o ended) k.0,
    )
  where
    parts : (a b : Bool) → a && b ≡ true → (a ≡ true) × (b ≡ true)
    parts a b h = grind arith

    untrue : (a : Bool) → not a ≡ true → a ≡ false
    untrue a h = grind arith

module _ {F B : Type 0} (old new : Parts F B) (waits : Waiting old) where
  none_waits : (ended : List OpId) → old.finished.items.items ≡ ended → All (HasNoAnswer old.work.state) ended → ended ≡ []
  none_waits [] is none = refl
  none_waits (o ∷ ended) is none =
      absurd (has_answer old.work.state o
      (All-head (IsEnded old.work.state.flow) o ended (subst (λ (os : List OpId). All (IsEnded old.work.state.flow) os) is waits.done))
      (All-head (HasNoAnswer old.work.state) o ended none))

  none_passed : (passed : List OpId) (o : OpId) → old.finished.items.items ≡ passed ++ o ∷ new.finished.items.items → All (HasNoAnswer old.work.state) passed
      → old.finished.items.items ≡ o ∷ new.finished.items.items
  none_passed [] o is none = is
  none_passed (p ∷ passed) o is none =
      absurd (has_answer old.work.state p
      (All-head (IsEnded old.work.state.flow) p (passed ++ o ∷ new.finished.items.items)
      (subst (λ (os : List OpId). All (IsEnded old.work.state.flow) os) is waits.done))
      (All-head (HasNoAnswer old.work.state) p passed none))

  pub hands_out : (said : Option (OpId × Reply)) → GivesFinished old said new → HandsOut old.finished.items.items old said new
  hands_out None (none, rest, same) =
      subst (λ (os : List OpId). HandsOut os old None new) (sym (none_waits old.finished.items.items refl none)) (refl, same, rest)
  hands_out (Some (o, said)) (answer, (passed, is, none, collects), e) =
      subst (λ (os : List OpId). HandsOut os old (Some (o, said)) new) (sym (none_passed passed o is none))
      (answer, ap (λ (r : Reply). Some (o, r)) e, collects, refl)

  -- and those that are left wait on
  pub waits_without : (o : OpId) (answer : Answer) → TakesDone old (Some (o, answer)) new → new.work.resumed ≡ old.work.resumed → Waiting new
  waits_without o answer (passed, is, none, collects) same =
      let here = first_waits old.work.state old.work.resumed.items.items new.finished.items.items o
      (subst (λ (os : List OpId). Wait old.work.state.flow old.work.resumed.items.items os) (none_passed passed o is none) waits) in
      subst (λ (os : List OpId). Wait new.work.state.flow os new.finished.items.items) (sym (ap (λ q. q.items.items) same))
      (collects_wait old.work.state o (Ok answer) new.work.state old.work.resumed.items.items new.finished.items.items collects here.1 here.2 here.0)
