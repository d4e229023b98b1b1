-- An operation that is done is in flight only where its drains run.
use Rattle.fm_operations.proofs.Words.{ℕ, true, false, List, [], Some, sym, ap, refl, arith, same_Some, cases_Bool, inl, inr, list_any, Stage, Descending, Ask, Entry, walk, way_of, is_open, false≢true}
use Rattle.fm_operations.proofs.Words.{times, owed, instances, opens, drain_opens, is_running_drain, FlowRecord, IsSound, done_at, is_done}
use Rattle.std.proofs.Common.{◌≡◌, ◌∷◌, ◌∙◌}
use Rattle.fm_operations.specs.Counts.{opens_at, drain_opens_at, flight}
use Rattle.fm_operations.proofs.Counting.{none_running}
use Rattle.fm_operations.proofs.Walks.{walk_parts, is_callback, drains_follow, opens_after}

-- an operation that is done is in flight where its drains run, and nowhere else
opens_walked : (i : ℕ) (s : Stage) (es : List Entry) (t : Stage) → walk s es ≡ Some t → is_callback s ≡ false → is_callback t ≡ false
    → opens i es ≡ drain_opens i es
opens_walked i s [] t w p q = refl
opens_walked i s (e ∷ es) t w p q =
    let k = walk_parts s e es t w in
    elim (cases_Bool (is_callback k.0)) [
      | inl now ↦ let same = same_Some t k.0 (sym k.2 ∙ (drains_follow k.0 es t k.2 now).walks k.0) in absurd (false≢true (sym q ∙ ap is_callback same ∙ now))
      | inr later ↦
          let closed : opens_at i e ≡ drain_opens_at i e = closed_opens i e (opens_after s e k.0 k.1 p ∙ later) in
          omega (arith, closed, opens_walked i k.0 es t k.2 later q)
    ]
  where
    closed_opens : (i : ℕ) (e : Entry) → is_open e ≡ false → opens_at i e ≡ drain_opens_at i e
    closed_opens i e h = grind (arith, h)

pub done_calm : (s : Stage) (asks : List Ask) → done_at s asks ≡ true → (asks ≡ []) × (is_callback (way_of s) ≡ false)
done_calm s asks h = grind arith

pub done_flies : (r : FlowRecord) → IsSound r → is_done r ≡ true → list_any is_running_drain r.entries ≡ false → (j : ℕ) → flight j r ≡ 0
done_flies r h done none j =
    let calm = done_calm r.stage (owed r.entries) done in
    omega (
      arith,
      opens_walked j Descending r.entries (way_of r.stage) h.course.order refl calm.1,
      none_running j r.entries none,
      ap (λ xs. times j (instances xs)) calm.0,
    )
