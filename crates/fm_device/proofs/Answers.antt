-- What the calls of a base say, as an operation is answered.
use Rattle.std.specs.Prelude.{◌≡◌, ℕ, Bool, true, false, List, Option, Some, None, Result, Ok, Err, IsOk, IsSome, refl}
use Rattle.std.proofs.Common.{sym, ap, ◌∙◌}
use Rattle.fm_types.specs.declared.status.Status.{Status}
use Rattle.fm_types.specs.declared.status.Status.TheVariants.{Success, NoMemory, DeviceFault}
use Rattle.fm_callback_data.specs.declared.answer.Answer.{Answer}
use Rattle.fm_base.specs.Folders.{Folder}
use Rattle.fm_base.specs.Answers.{Makes, MakesKnown, Tells, TellsKnown, faults_after}
use Rattle.fm_device.specs.Devices.{bare, faults_told, done_as, told_as, sized_as, made_as, made_of, AnswersAs, KnownAs}

-- what a base counts is what its answer tells
pub counted_done : (faults : ℕ) (result : Result (Unit {0}) Status) → faults_after faults result ≡ faults_told (done_as result).status faults
counted_done faults (Ok done) = refl
counted_done faults (Err DeviceFault) = refl
counted_done faults (Err status) = refl

pub counted_told : (faults : ℕ) (result : Result (List ℕ) Status) → faults_after faults result ≡ faults_told (told_as result).status faults
counted_told faults (Ok bytes) = refl
counted_told faults (Err DeviceFault) = refl
counted_told faults (Err status) = refl

pub counted_sized : (faults : ℕ) (result : Result ℕ Status) → faults_after faults result ≡ faults_told (sized_as result).status faults
counted_sized faults (Ok size) = refl
counted_sized faults (Err DeviceFault) = refl
counted_sized faults (Err status) = refl

-- bare answers of two statuses differ
apart : (answer : Answer) (s t : Status) → answer ≡ bare s → answer ≡ bare t → s ≡ t
apart answer s t one other = ap (λ (a : Answer). a.status) (sym one ∙ other)

-- an answer that succeeds neither wants memory nor tells of a fault
module _ (path : List ℕ) (changes grows : Bool) (said : Answer) (made old new : Folder) (answer : Answer) where
  succeeded : answer.status ≡ Success → answer ≡ said → new ≡ made → AnswersAs path changes grows said made old new answer
  succeeded ok is makes = record {
    says = λ _ _. (is, makes);
    wants = λ e. let s : Success ≡ NoMemory = sym ok ∙ ap (λ (a : Answer). a.status) e in cc;
    fails = λ e. let s : Success ≡ DeviceFault = sym ok ∙ ap (λ (a : Answer). a.status) e in cc;
  }

-- so does one that changes nothing and is refused with another status
module _ (path : List ℕ) (changes grows : Bool) (said : Answer) (made old new : Folder) (status : Status) where
  wanting : (grows ≡ true) × (said.status ≡ Success) × (new ≡ old) → AnswersAs path changes grows said made old new (bare NoMemory)
  wanting h = record {
    says = λ none. absurd (none refl);
    wants = λ _. h;
    fails = λ e. let s : NoMemory ≡ DeviceFault = ap (λ (a : Answer). a.status) e in cc;
  }

  refused : (status ≡ NoMemory → ⊥) → (status ≡ DeviceFault → ⊥) → bare status ≡ said → new ≡ made
      → AnswersAs path changes grows said made old new (bare status)
  refused memory fault is makes = record {
    says = λ _ _. (is, makes);
    wants = λ e. absurd (memory (ap (λ (a : Answer). a.status) e));
    fails = λ e. absurd (fault (ap (λ (a : Answer). a.status) e));
  }

module _ (path : List ℕ) (grows : Bool) where
  -- a call that makes something of the folder
  made_said : (wanted : Folder → Result Folder Status) (old new : Folder) (result : Result (Unit {0}) Status) → Makes path wanted old new result
      → (result ≡ Err NoMemory → grows ≡ true) → AnswersAs path true grows (made_as (wanted old)) (made_of (wanted old) old) old new (done_as result)
  made_said wanted old new (Ok done) makes may =
      succeeded path true grows _ _ old new (bare Success) refl (ap made_as (sym makes)) (sym (ap (λ w. made_of w old) makes))
  made_said wanted old new (Err NoMemory) makes may =
      wanting path true grows _ _ old new NoMemory (may refl, granted (wanted old) makes.1, makes.0)
    where
      granted : (w : Result Folder Status) → IsOk w → (made_as w).status ≡ Success
      granted (Ok folder) h = refl
      granted (Err status) h = cc
  made_said wanted old new (Err DeviceFault) makes may = record {
    says = λ _ none. absurd (none refl);
    wants = λ e. let s : DeviceFault ≡ NoMemory = ap (λ (a : Answer). a.status) e in cc;
    fails = λ _. makes;
  }
  made_said wanted old new (Err status) makes may =
      refused path true grows _ _ old new status (λ e. cc) (λ e. cc) (ap made_as (sym makes.0)) (makes.1 ∙ sym (ap (λ w. made_of w old) makes.0))

  -- the same of a base that may not know its folder
  pub made_known : (wanted : Folder → Result Folder Status) (old new : Option Folder) (result : Result (Unit {0}) Status)
      → MakesKnown path wanted old new result
      → (IsSome old → result ≡ Err NoMemory → grows ≡ true)
      → KnownAs old new (λ was is. AnswersAs path true grows (made_as (wanted was)) (made_of (wanted was) was) was is (done_as result))
  made_known wanted None new result makes may = makes
  made_known wanted (Some old) None result makes may = makes
  made_known wanted (Some old) (Some new) result makes may = made_said wanted old new result makes (may refl)

-- a call that tells of something: an error by its status alone, and a value with success
module _ {T : Type 0} (answers : Result T Status → Answer) (errors : (status : Status) → answers (Err status) ≡ bare status)
    (values : (value : T) → (answers (Ok value)).status ≡ Success) (path : List ℕ) (grows : Bool) where
  granted : (wanted : Result T Status) → IsOk wanted → (answers wanted).status ≡ Success
  granted (Ok value) h = values value
  granted (Err status) h = cc

  told_said : (wanted result : Result T Status) (old new : Folder) → Tells wanted result → new ≡ old → (result ≡ Err NoMemory → grows ≡ true)
      → AnswersAs path false grows (answers wanted) old old new (answers result)
  told_said wanted (Ok value) old new tells same may = succeeded path false grows _ old old new _ (values value) (ap answers (sym tells)) same
  told_said wanted (Err NoMemory) old new tells same may =
      rw (errors NoMemory) (wanting path false grows _ old old new NoMemory (may refl, granted wanted tells, same))
  told_said wanted (Err DeviceFault) old new tells same may = rw (errors DeviceFault) (record {
    says = λ _ none. absurd (none refl);
    wants = λ e. let s : DeviceFault ≡ NoMemory = ap (λ (a : Answer). a.status) e in cc;
    fails = λ _. same;
  })
  told_said wanted (Err status) old new tells same may =
      rw (errors status) (refused path false grows _ old old new status (λ e. cc) (λ e. cc) (sym (errors status) ∙ ap answers (sym tells)) same)

  pub told_known : (wanted : Folder → Result T Status) (old new : Option Folder) (result : Result T Status) → TellsKnown wanted old result → new ≡ old
      → (IsSome old → result ≡ Err NoMemory → grows ≡ true)
      → KnownAs old new (λ was is. AnswersAs path false grows (answers (wanted was)) was was is (answers result))
  told_known wanted None new result tells same may = same
  told_known wanted (Some old) None result tells same may = cc
  told_known wanted (Some old) (Some new) result tells same may =
      told_said (wanted old) result old new tells (some_of same) (may refl)
    where
      some_of : Some new ≡ Some old → new ≡ old
      some_of e = cc
