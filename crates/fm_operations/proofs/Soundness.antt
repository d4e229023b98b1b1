-- What keeps the laws of an operation, whatever the step.
use Rattle.fm_operations.proofs.Words.{not, List, [], length, Option, option_to_list, subst, ap, arith, length-append, true}
use Rattle.fm_operations.proofs.Words.{Params, Answer, with_entry, Stage, Entry, visit_of, visited, HandleId, FlowRecord, IsCourse, IsSound, All}
use Rattle.fm_operations.proofs.Words.{Bool, IfSome, cases_Bool, inl, inr, is_done, is_spent, lends, keeps_more, false, list_any, is_running_drain, sym}
use Rattle.std.proofs.Common.{◌≡◌, ◌+◌, ◌≤◌, ◌&&◌, ◌∷◌, ◌++◌, ◌∙◌, is_some}
use Rattle.fm_callback_data.specs.Params.{fit}
use Rattle.fm_operations.proofs.Owed.{filter_map-push}
use Rattle.fm_operations.proofs.Words.{IsPlaced}

-- a step leaves the number and the mark
pub record Stays (r s : FlowRecord) : Type 0 where
  pub number : s.number.0 ≡ r.number.0
  pub collected : s.collected ≡ r.collected

pub stays_so : {r s : FlowRecord} → s.number.0 ≡ r.number.0 → s.collected ≡ r.collected → Stays r s
stays_so number collected = record { number = number; collected = collected }

-- a step of an operation that isn't done leaves a record that is needed
pub unspent : (r s : FlowRecord) → Stays r s → is_done r ≡ false → IsSound r → is_spent s ≡ false
unspent r s stays undone h = elim (cases_Bool s.collected) [
  | inl out ↦ let done = h.collected (sym stays.collected ∙ out) in cc
  | inr kept ↦ ap (λ (b : Bool). b && not (list_any is_running_drain s.entries)) kept
]

-- what is said of the stage, where that is known
pub at_stage : (r : FlowRecord) (s : Stage) → r.stage ≡ s → IsSound r → IsCourse s r.entries × (is_some r.params ≡ not (lends s))
    × (length r.kept + keeps_more s ≤ length (visited r.entries))
at_stage r s st h = subst (λ t. IsCourse t r.entries × (is_some r.params ≡ not (lends t))
    × (length r.kept + keeps_more t ≤ length (visited r.entries))) st (h.course, h.here, h.places)

-- an operation that isn't done and isn't collected moves on
pub sound_moved : (r : FlowRecord) (t : Stage) (es : List Entry) (params : Option Params) (kept : List Params) (answer : Answer)
    (handle : Option HandleId) → IsSound r → is_done r ≡ false
    → IsCourse t es → is_some params ≡ not (lends t) → IfSome params (λ p. fit r.operation r.path p ≡ true) → All (λ p. fit r.operation r.path p ≡ true) kept
    → length kept + keeps_more t ≤ length (visited es) → IsPlaced t es kept → length answer.bytes ≤ 32768
    → IsSound (record r { stage = t; entries = es; params = params; kept = kept; answer = answer; handle = handle })
sound_moved r t es params kept answer handle h undone course here fits all places placed bytes =
    record { course = course; here = here; params = fits; kept = all; places = places; placed = placed; bytes = bytes; collected = λ k. let d = h.collected k in cc }

-- by one more entry
pub sound_pushed : (r : FlowRecord) (s t : Stage) (e : Entry) (params : Option Params) (answer : Answer) (handle : Option HandleId)
    → r.stage ≡ s → IsSound r → is_done r ≡ false
    → IsCourse t (r.entries ++ e ∷ []) → is_some params ≡ not (lends t) → IfSome params (λ p. fit r.operation r.path p ≡ true)
    → keeps_more t ≤ keeps_more s + length (option_to_list (visit_of e)) → IsPlaced t (r.entries ++ e ∷ []) r.kept → length answer.bytes ≤ 32768
    → IsSound (record (with_entry e t r) { params = params; answer = answer; handle = handle })
sound_pushed r s t e params answer handle st h undone course here fits more placed bytes =
    let a = ap length (filter_map-push visit_of r.entries e) ∙ length-append (visited r.entries) (option_to_list (visit_of e)) in
    sound_moved r t (r.entries ++ e ∷ []) params r.kept answer handle h undone course here fits h.kept (omega (arith, a, (at_stage r s st h).2, more)) placed bytes
