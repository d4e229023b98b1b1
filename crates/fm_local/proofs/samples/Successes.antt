-- What follows where an operation on a file was answered with success: the device carried it out.
use Rattle.fm_local.proofs.Words.{◌≡◌, ◌⊎◌, Answer, BaseCall, Bool, Folder, List, None, Option, Params, Some, Status, bare_answer, false}
use Rattle.fm_local.proofs.Words.{option_and_then, slice_get, true, ℕ, ◌∙◌, ap, cond, inl, inr, refl, subst, sym, false≢true, Success}
use Rattle.fm_local.proofs.Words.{is_within_limits, base_counted, HandleId, BasesCarry, BaseMay, Subject, Under, known_answer}
use Rattle.std.specs.Prelude.{IsSome}
use Rattle.fm_types.specs.declared.status.Status.TheVariants.{NoMemory, NoHandle, BadRequest, DeviceFault}
use Rattle.fm_device.specs.Devices.{KnownAs, CarriesAny, CarriesOn, CarriesWithin, answer_to, made_by, made_of, is_listing}
use Rattle.fm_operations.specs.Answered.{is_success, success_of}
use Rattle.fm_local.specs.Shifts.{folder_of}
use Rattle.fm_local.specs.Chains.{BaseMayBy, call_on}

-- an answer with nothing but a status, where that is no success
pub no_success : (answer : Answer) (status : Status) → answer ≡ bare_answer status → answer.status ≡ Success → status ≡ Success
no_success answer status is ok = sym (ap (λ (a : Answer). a.status) is) ∙ ok

-- a call on a file that succeeded
pub record Carried (path : Option (List ℕ)) (p : Params) (old new : Folder) (answer : Answer) : Type 0 where
  pub file : List ℕ
  pub named : path ≡ Some file
  pub said : answer ≡ answer_to file p old
  pub made : new ≡ made_of (made_by file p old) old

module _ (p : Params) (old new : Folder) (answer : Answer) (ok : answer.status ≡ Success) where
  within : (file : List ℕ) (fits : Bool) → CarriesWithin fits file p old new answer → Carried (Some file) p old new answer
  within file true h =
      let done = h.says (λ e. let s : NoMemory ≡ Success = no_success answer NoMemory e ok in cc) (λ e. let s : DeviceFault ≡ Success =
      no_success answer DeviceFault e ok in cc) in
      record { file = file; named = refl; said = done.0; made = done.1 }
  within file false h = let s : BadRequest ≡ Success = no_success answer BadRequest h.0 ok in cc

  carried_on : (path : Option (List ℕ)) → CarriesOn false path p old new answer → Carried path p old new answer
  carried_on None h = let s : BadRequest ≡ Success = no_success answer BadRequest h.0 ok in cc
  carried_on (Some file) h = within file (is_within_limits p) h

  pub carried : (path : Option (List ℕ)) → is_listing p ≡ false → CarriesAny path p old new answer → Carried path p old new answer
  carried path is h = carried_on path (subst (λ (b : Bool). CarriesOn b path p old new answer) is h)

-- the call of a volume whose base knows its folder
pub record KnownCall {B : Type 0} (folder : B → Option Folder) (old new : List B) (call : BaseCall) (answer : Answer) : Type 0 where
  pub was : Folder
  pub is : Folder
  pub before : folder_of folder old call.volume.0 ≡ Some was
  pub after : folder_of folder new call.volume.0 ≡ Some is
  pub done : Carried call.path call.params was is answer

module _ {B : Type 0} (folder : B → Option Folder) (faults : B → ℕ) (old new : List B) (call : BaseCall) (answer : Answer) (ok : answer.status ≡ Success)
    (files : is_listing call.params ≡ false) where
  by_folders : (a b : B) → slice_get old call.volume.0 ≡ Some a → slice_get new call.volume.0 ≡ Some b → (f g : Option Folder) → folder a ≡ f → folder b ≡ g
      → KnownAs f g (λ was is. CarriesAny call.path call.params was is answer) → IsSome f → KnownCall folder old new call answer
  by_folders a b at_a at_b None g is_f is_g known some = absurd (false≢true some)
  by_folders a b at_a at_b (Some f) None is_f is_g known some = absurd known
  by_folders a b at_a at_b (Some f) (Some g) is_f is_g known some = record {
    was = f;
    is = g;
    before = ap (option_and_then folder) at_a ∙ is_f;
    after = ap (option_and_then folder) at_b ∙ is_g;
    done = carried call.params f g answer ok call.path files known;
  }

  by_base : (m : Option B) → slice_get old call.volume.0 ≡ m → BasesCarry folder faults old call answer new
      → IsSome (option_and_then folder m) → KnownCall folder old new call answer
  by_base None at h some = absurd (false≢true some)
  by_base (Some a) at h some = let b = h.carried a at in by_folders a b.0 at b.1 (folder a) (folder b.0) refl refl b.2.known some

  pub known_call : BasesCarry folder faults old call answer new → IsSome (folder_of folder old call.volume.0) → KnownCall folder old new call answer
  known_call h some = by_base (slice_get old call.volume.0) refl h some

pub success_is : (status : Status) → is_success status ≡ true → status ≡ Success
success_is Success h = refl
success_is _ h = cc

-- what counts of an answer is a success where the answer is one
counted_by : (p : Params) (answer : Answer) (handle : HandleId) (b : Bool) → is_success answer.status ≡ b
    → (cond b (success_of p answer handle) (bare_answer answer.status)).status ≡ Success → answer.status ≡ Success
counted_by p answer handle true is ok = success_is answer.status is
counted_by p answer handle false is ok = ok

-- the device was called, and succeeded
pub record Called {B : Type 0} (folder : B → Option Folder) (faults : B → ℕ) (x : Subject) (p : Params) (old : Under (List B))
    (given : Answer) (new : Under (List B)) : Type 0 where
  pub answer : Answer
  pub success : is_success answer.status ≡ true
  pub carries : BasesCarry folder faults old.device (call_on x p) answer new.device
  pub counts : given ≡ base_counted p answer (record { 0 = old.files.next })

module _ {B : Type 0} (folder : B → Option Folder) (faults : B → ℕ) (x : Subject) (p : Params) (old new : Under (List B))
    (given : Answer) (ok : given.status ≡ Success) where
  called_by : (known : Option Status) → (known ≡ None) ⊎ (known ≡ Some NoHandle) → BaseMayBy (BasesCarry folder faults) x p known old given new
      → Called folder faults x p old given new
  called_by None or h =
      let counted : (base_counted p h.0 (record { 0 = old.files.next })).status ≡ Success = sym (ap (λ (a : Answer). a.status) h.2) ∙ ok in
      let done : h.0.status ≡ Success = counted_by p h.0 (record { 0 = old.files.next }) (is_success h.0.status) refl counted in
      record { answer = h.0; success = ap is_success done; carries = h.1; counts = h.2 }
  called_by (Some status) (inl none) h = cc
  called_by (Some status) (inr is) h =
      let s : status ≡ Success = no_success given status h.0 ok in let t : NoHandle ≡ Success = cc in cc

  -- of an operation whose base is called wherever its handle is open
  pub called : (known_answer old.files x ≡ None) ⊎ (known_answer old.files x ≡ Some NoHandle) → BaseMay (BasesCarry folder faults) x p old given new
      → Called folder faults x p old given new
  called or h = called_by (known_answer old.files x) or h
