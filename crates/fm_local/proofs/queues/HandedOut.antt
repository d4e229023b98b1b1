-- Which of the operations that ended is handed out.
use Rattle.fm_local.proofs.Words.{[], ◌∷◌, ◌≡◌, ◌++◌, ◌∙◌, Bool, Err, FlowRecord, List, None, Ok, OpId, Option, Some, Status, World, Parts, ap, cond, drop, subst, false, refl, slice_get, sym, true, Collects, FlowTable}
use Rattle.std.specs.Prelude.{All, option_map, unwrap_or}
use Rattle.std.proofs.Common.{append_assoc, append-nil}
use Rattle.std.proofs.lemmas.List.Elements.{All-append, All-cons, All-nil}
use Rattle.fm_operations.specs.Table.{collect_reply, collected_in, is_collectable, operation_at}
use Rattle.fm_local.specs.Actions.{HasNoAnswer}
use Rattle.fm_local.specs.declared.bounded.Bounded.{Bounded}
use Rattle.fm_local.proofs.operations.AnyTurns.{head, none_left}

-- a refusal changes nothing
pub refused_collect : (old : World) (o : OpId) (why : Status) (new : World) → Collects old o (Err why) new → new ≡ old
unfolding Collects
refused_collect old o why new h = h.1 ∙ ap (λ (t : FlowTable). record old { flow = t }) (by_record (operation_at o old.flow) h.0)
  where
    by_mark : (b : Bool) (r : FlowRecord) (t other : FlowTable) → Err why ≡ cond b (Ok r.answer) (Err Status.WrongStep) → cond b other t ≡ t
    by_mark true r t other h = cc
    by_mark false r t other h = refl

    by_record : (m : Option FlowRecord) → Err why ≡ unwrap_or (option_map collect_reply m) (Err Status.WrongStep) → collected_in o old.flow m ≡ old.flow
    by_record None h = refl
    by_record (Some r) h = by_mark (is_collectable r) r old.flow _ h

-- those before the ones that are left have no answer
abbrev pub Passed : {F B : Type 0} → Parts F B → List OpId → Type 0
Passed old left = (passed : List OpId) × (old.finished.items.items ≡ passed ++ left) × All (HasNoAnswer old.work.state) passed

module _ {F B : Type 0} (old now : Parts F B) (taken : Bounded OpId) (kept : now ≡ record old { finished = now.finished }) where
  state : now.work.state ≡ old.work.state
  state = ap (λ (m : Parts F B). m.work.state) kept

  -- one more is passed over
  pub passed_over : (o : OpId) (why : Status) (after : World) → Collects now.work.state o (Err why) after → slice_get now.finished.items.items 0 ≡ Some o
      → taken.items.items ≡ drop 1 now.finished.items.items → Passed old now.finished.items.items
      → Passed old taken.items.items × (record now { work = record now.work { state = after }; finished = taken } ≡ record old { finished = taken })
  passed_over o why after collects first rest (passed, is, none) =
      let same : after ≡ now.work.state = refused_collect now.work.state o why after collects in
      let has_none : HasNoAnswer old.work.state o =
      (why, subst (λ (w : World). Collects w o (Err why) w) state (subst (λ (w : World). Collects now.work.state o (Err why) w) same collects)) in (
        (
          passed ++ o ∷ [],
          is ∙ ap (λ xs. passed ++ xs) (head o now.finished.items.items taken.items.items first rest) ∙ sym (append_assoc passed (o ∷ []) taken.items.items),
          All-append (HasNoAnswer old.work.state) passed (o ∷ []) none
              (All-cons (HasNoAnswer old.work.state) o [] has_none (All-nil (HasNoAnswer old.work.state))),
        ),
        ap (λ (w : World). record now { work = record now.work { state = w }; finished = taken }) same
            ∙ ap (λ (m : Parts F B). record m { finished = taken }) kept,
      )

  -- all are
  pub passed_all : slice_get now.finished.items.items 0 ≡ None → taken.items.items ≡ drop 1 now.finished.items.items → Passed old now.finished.items.items
      → All (HasNoAnswer old.work.state) old.finished.items.items × (taken.items.items ≡ []) × (now.work ≡ old.work)
  passed_all none rest (passed, is, no_answer) =
      let empty = none_left now.finished.items.items taken.items.items none rest in (
        subst (All (HasNoAnswer old.work.state)) (sym (is ∙ ap (λ xs. passed ++ xs) empty.0 ∙ append-nil passed)) no_answer,
        empty.1,
        ap (λ (m : Parts F B). m.work) kept,
      )
