-- A write on its way down through shifts, and a read on its way down and up again.
use Rattle.fm_local.proofs.Words.{[], ◌∷◌, ◌≡◌, Answer, Bool, Completion, Data, Finished, Folder, Instance, List, Operation, Option, Params}
use Rattle.fm_local.proofs.Words.{PostVerdict, PreVerdict, Some, StackWorld, slice_get, true, ℕ, ◌∙◌, ap, inl, inr, subst, sym, Registration, Success}
use Rattle.fm_local.proofs.Words.{answered_data, fresh_data, returned_answer, verdict_counted, has_post, BasesCarry, BaseMay, Subject, Under}
use Rattle.fm_local.proofs.Words.{filter_in, filter_in_row, Asker, Chain, Descends, Leads, Rises, Visit, asker}
use Rattle.std.specs.Prelude.{All}
use Rattle.std.proofs.lemmas.List.Elements.{All-head, All-tail, All-cons}
use Rattle.fm_types.specs.Masks.{has_operation}
use Rattle.fm_types.specs.declared.status.Status.TheVariants.{NoMemory}
use Rattle.fm_stack.specs.Next.{has_pre_in, has_post_in}
use Rattle.fm_stack.specs.declared.filter.Filter.{Filter}
use Rattle.fm_world.specs.Events.{has_pre}
use Rattle.fm_samples.specs.Common.{plain_completion}
use Rattle.fm_samples.specs.Sample.{SamplesPre, SamplesPost}
use Rattle.fm_samples.specs.Shift.{ShiftsPre, ShiftsPost, raised, lowered}
use Rattle.fm_samples.specs.declared.sample.Sample.{Sample}
use Rattle.fm_local.specs.Chains.{PreMay, PostMay}
use Rattle.fm_local.specs.Shifts.{IsShift, sample_chain}

-- bytes raised once by each instance, and lowered once for each that asked
abbrev pub raised_by : List ℕ → List ℕ → List ℕ
raised_by [] bytes = bytes
raised_by (i ∷ is) bytes = raised_by is (raised bytes)

abbrev pub lowered_by : List Asker → List ℕ → List ℕ
lowered_by [] bytes = bytes
lowered_by (a ∷ above) bytes = lowered_by above (lowered bytes)

-- those that asked, once these instances were met as well
abbrev pub asked_by : List ℕ → Params → List Asker → List Asker
asked_by [] p asked = asked
asked_by (i ∷ is) p asked = asked_by is p (asker i p plain_completion ∷ asked)

module _ {B : Type 0} (folder : B → Option Folder) (faults : B → ℕ) (filters : ℕ → Option Sample) (s : StackWorld) (x : Subject) where
  abbrev pub IsShiftOf : ℕ → Type 0
  IsShiftOf i = IsShift filters s i

  abbrev pub AskedByShift : Asker → Type 0
  AskedByShift a = IsShift filters s a.instance

  module _ (i : ℕ) (h : IsShift filters s i) where
    filter_is : filter_in filters s i ≡ Some (Sample.Shift h.shift)
    filter_is = ap (filter_in_row filters) h.there ∙ h.runs

    has_pre_as : (operation : Operation) → has_pre s (slice_get s.instances i) operation ≡ has_operation 6 operation
    has_pre_as operation =
        ap (λ (row : Option Instance). has_pre s row operation) h.there ∙ ap (λ (f : Option Filter). has_pre_in f operation) h.loaded
        ∙ ap (λ (r : Registration). has_operation r.pre.0 operation) h.registered

    has_post_as : (operation : Operation) → has_post s (slice_get s.instances i) operation ≡ has_operation 2 operation
    has_post_as operation =
        ap (λ (row : Option Instance). has_post s row operation) h.there ∙ ap (λ (f : Option Filter). has_post_in f operation) h.loaded
        ∙ ap (λ (r : Registration). has_operation r.post.0 operation) h.registered

    before_as : (given : Data) (answer : PreVerdict) (back : Data) → PreMay SamplesPre (filter_in filters s i) given answer back → ShiftsPre given answer back
    before_as given answer back may = subst (λ (f : Option Sample). PreMay SamplesPre f given answer back) filter_is may

    after_as : (given : Data) (completion : Completion) (answer : PostVerdict) (back : Data)
        → PostMay SamplesPost (filter_in filters s i) given completion answer back → ShiftsPost given completion answer back
    after_as given completion answer back may = subst (λ (f : Option Sample). PostMay SamplesPost f given completion answer back) filter_is may

  abbrev Writes : Chain (Under (List B))
  Writes = sample_chain folder faults filters s x Operation.Write

  abbrev Reads : Chain (Under (List B))
  Reads = sample_chain folder faults filters s x Operation.Read

  -- a write that succeeded reached the base, its bytes raised by each
  pub went_down : (is : List ℕ) (offset : ℕ) (bytes : List ℕ) (old new : Under (List B)) (answer : Answer) → All IsShiftOf is
      → Descends Writes is (Params.Write offset bytes) [] old answer new → answer.status ≡ Success
      → BaseMay (BasesCarry folder faults) (record x { operation = Operation.Write }) (Params.Write offset (raised_by is bytes)) old answer new
  went_down [] offset bytes old new answer shifts h ok =
      subst (λ (a : Answer). BaseMay (BasesCarry folder faults) (record x { operation = Operation.Write }) (Params.Write offset bytes) old a new) (sym h.2) h.1
  went_down (i ∷ is) offset bytes old new answer shifts h ok =
      let here : IsShift filters s i = All-head IsShiftOf i is shifts in
      let below : All IsShiftOf is = All-tail IsShiftOf i is shifts in
      let p = Params.Write offset bytes in
      let visit : Visit Writes (Descends Writes is) i true p [] old answer new =
      subst (λ (called : Bool). Visit Writes (Descends Writes is) i called p [] old answer new) (has_pre_as i here Operation.Write) h in
      let Led : PreVerdict → Data → Type 0 =
      λ given back. Leads Writes (Descends Writes is) i p back [] (verdict_counted given Operation.Write (Writes.has_post i)) old answer new in
      elim (before_as i here (fresh_data p) visit.0 visit.1 visit.2) [
        | inl raises ↦
            went_down is offset (raised bytes) old new answer below
            (subst (λ (back : Data). Led PreVerdict.NoCallback back) raises.1 (subst (λ (given : PreVerdict). Led given visit.1) raises.0 visit.3)) ok
        | inr ends ↦
            let led : Led (PreVerdict.Complete NoMemory) visit.1 = subst (λ (given : PreVerdict). Led given visit.1) ends.0 visit.3 in
            let s : NoMemory ≡ Success = sym (ap (λ (a : Answer). a.status) led.0) ∙ ok in
            cc
      ]

  -- what a read brought from the base, and what becomes of it
  pub record WentDown (is : List ℕ) (p : Params) (asked : List Asker) (old : Under (List B)) (answer : Answer) (new : Under (List B)) : Type 0 where
    pub given : Answer
    pub base : BaseMay (BasesCarry folder faults) (record x { operation = Operation.Read }) p old given new
    pub up : Rises Reads (asked_by is p asked) given answer

  pub read_down : (is : List ℕ) (offset len : ℕ) (asked : List Asker) (old new : Under (List B)) (answer : Answer) → All IsShiftOf is
      → Descends Reads is (Params.Read offset len) asked old answer new → WentDown is (Params.Read offset len) asked old answer new
  read_down [] offset len asked old new answer shifts h = record { given = h.0; base = h.1; up = h.2 }
  read_down (i ∷ is) offset len asked old new answer shifts h =
      let here : IsShift filters s i = All-head IsShiftOf i is shifts in
      let below : All IsShiftOf is = All-tail IsShiftOf i is shifts in
      let p = Params.Read offset len in
      let visit : Visit Reads (Descends Reads is) i true p asked old answer new =
      subst (λ (called : Bool). Visit Reads (Descends Reads is) i called p asked old answer new) (has_pre_as i here Operation.Read) h in
      let Led : PreVerdict → Data → Bool → Type 0 =
      λ given back has. Leads Reads (Descends Reads is) i p back asked (verdict_counted given Operation.Read has) old answer new in
      let asks = before_as i here (fresh_data p) visit.0 visit.1 visit.2 in
      let led : Led (PreVerdict.WithCallback plain_completion) (fresh_data p) true =
      subst (λ (has : Bool). Led (PreVerdict.WithCallback plain_completion) (fresh_data p) has) (has_post_as i here Operation.Read)
      (subst (λ (back : Data). Led (PreVerdict.WithCallback plain_completion) back (Reads.has_post i)) asks.1
      (subst (λ (given : PreVerdict). Led given visit.1 (Reads.has_post i)) asks.0 visit.3)) in
      let rest = read_down is offset len (asker i p plain_completion ∷ asked) old new answer below led in
      record { given = rest.given; base = rest.base; up = rest.up }

  -- those that asked are all of shift
  pub all_asked : (is : List ℕ) (p : Params) (asked : List Asker) → All IsShiftOf is → All AskedByShift asked → All AskedByShift (asked_by is p asked)
  all_asked [] p asked shifts before = before
  all_asked (i ∷ is) p asked shifts before =
      all_asked is p (asker i p plain_completion ∷ asked) (All-tail IsShiftOf i is shifts)
      (All-cons AskedByShift (asker i p plain_completion) asked (All-head IsShiftOf i is shifts) before)

  -- on its way up, an answer keeps its status, and its bytes are lowered by each
  pub came_up : (asked : List Asker) (before answer : Answer) → All AskedByShift asked → Rises Reads asked before answer
      → (answer.status ≡ before.status) × (answer.bytes ≡ lowered_by asked before.bytes)
  came_up [] before answer shifts h = (ap (λ (a : Answer). a.status) h, ap (λ (a : Answer). a.bytes) h)
  came_up (a ∷ above) before answer shifts h =
      let here : IsShift filters s a.instance = All-head AskedByShift a above shifts in
      let lowers = (after_as a.instance here (answered_data a.received before) a.completion Finished h.0 h.1).1 in
      let rest = came_up above (returned_answer Operation.Read before h.0) answer (All-tail AskedByShift a above shifts) h.2 in
      (rest.0 ∙ ap (λ (d : Data). d.status) lowers, rest.1 ∙ ap (λ (d : Data). lowered_by above d.out) lowers)
