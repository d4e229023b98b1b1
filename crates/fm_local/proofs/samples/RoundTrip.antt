-- A read gives what a write brought, through shifts alone.
use Rattle.fm_local.proofs.Words.{[], ◌∷◌, ◌≡◌, ◌⊎◌, Answer, Bool, Err, Folder, List, None, Ok, Operation, Option, Params, Some, StackWorld}
use Rattle.fm_local.proofs.Words.{bare_answer, false, length, true, ℕ, ◌&&◌, ◌<◌, ◌∙◌, ap, arith, cond, drop, inl, inr, nat_lt, refl, subst, sym}
use Rattle.fm_local.proofs.Words.{take, same_Some, Success, base_counted, FileTable, handle_at, HandleId, StreamId, BasesCarry, BaseMay, Subject}
use Rattle.fm_local.proofs.Words.{Under, Asker, asker}
use Rattle.std.specs.Prelude.{nat_le, All, IsSome, is_none}
use Rattle.std.specs.FinMap.{get}
use Rattle.std.proofs.lemmas.List.{length-map}
use Rattle.std.proofs.lemmas.List.Elements.{All-map, All-nil}
use Rattle.fm_types.specs.ByteLists.{written}
use Rattle.fm_types.specs.declared.status.Status.TheVariants.{NoHandle, FileNotFound, EndOfFile}
use Rattle.fm_base.specs.Folders.{changed, change_at, told, tell_at, bytes_from}
use Rattle.fm_base.proofs.Writes.{read_back}
use Rattle.fm_device.specs.Devices.{made_as, made_of, told_as}
use Rattle.fm_operations.specs.Answered.{success_of, is_success}
use Rattle.fm_operations.specs.Table.{empty_table}
use Rattle.fm_world.specs.Events.{known_at}
use Rattle.fm_samples.specs.Common.{plain_completion}
use Rattle.fm_samples.specs.Shift.{raised, raised_byte}
use Rattle.fm_samples.specs.declared.sample.Sample.{Sample}
use Rattle.fm_samples.proofs.Plain.{all_back}
use Rattle.fm_local.specs.Chains.{call_on}
use Rattle.fm_local.specs.Shifts.{folder_of, file_at, FileStays, ShiftRound}
use Rattle.fm_local.proofs.samples.ShiftedBytes.{raised_by, lowered_by, asked_by, AskedByShift, went_down, read_down, all_asked, came_up}
use Rattle.fm_local.proofs.samples.Successes.{called, known_call, success_is}

abbrev IsByte : ℕ → Type 0
IsByte byte = byte < 256

raised_small : (bytes : List ℕ) → All IsByte (raised bytes)
raised_small bytes = All-map IsByte raised_byte bytes (λ k d within. omega arith)

-- what was raised on the way down is lowered on the way up
all_round : (is : List ℕ) (p : Params) (asked : List Asker) (bytes : List ℕ) → All IsByte bytes
    → lowered_by (asked_by is p asked) (raised_by is bytes) ≡ lowered_by asked bytes
all_round [] p asked bytes small = refl
all_round (i ∷ is) p asked bytes small =
    all_round is p (asker i p plain_completion ∷ asked) (raised bytes) (raised_small bytes) ∙ ap (lowered_by asked) (all_back bytes small)

length-raised_by : (is : List ℕ) (bytes : List ℕ) → length (raised_by is bytes) ≡ length bytes
length-raised_by [] bytes = refl
length-raised_by (i ∷ is) bytes = length-raised_by is (raised bytes) ∙ length-map bytes raised_byte

-- the base's answer to a read or a write is known where no handle is open, and that is no success
known_read : (files : FileTable) (s : Option StreamId) (h : Option HandleId) → (known_at files empty_table Operation.Read s h ≡ None)
    ⊎ (known_at files empty_table Operation.Read s h ≡ Some NoHandle)
known_read files None h = inl refl
known_read files (Some s) None = inl refl
known_read files (Some s) (Some h) = elim (is_none (handle_at h files)) as (λ b. (cond b (Some NoHandle) None ≡ None)
    ⊎ (cond b (Some NoHandle) None ≡ Some NoHandle)) [ true ↦ inr refl | false ↦ inl refl ]

known_write : (files : FileTable) (s : Option StreamId) (h : Option HandleId) → (known_at files empty_table Operation.Write s h ≡ None)
    ⊎ (known_at files empty_table Operation.Write s h ≡ Some NoHandle)
known_write files None h = inl refl
known_write files (Some s) None = inl refl
known_write files (Some s) (Some h) = elim (is_none (handle_at h files)) as (λ b. (cond b (Some NoHandle) None ≡ None)
    ⊎ (cond b (Some NoHandle) None ≡ Some NoHandle)) [ true ↦ inr refl | false ↦ inl refl ]

-- a change that is answered with success was made
change_made : (change : List ℕ → List ℕ) (path : List ℕ) (was : Folder) (found : Option (List ℕ)) → (made_as (change_at change path was found)).status ≡ Success
    → change_at change path was found ≡ Ok (made_of (change_at change path was found) was)
change_made change path was None ok = cc
change_made change path was (Some file) ok = refl

-- what is told with success
told_so : (offset len : ℕ) (found : Option (List ℕ)) → (told_as (tell_at (bytes_from offset len) found)).status ≡ Success
    → tell_at (bytes_from offset len) found ≡ Ok (told_as (tell_at (bytes_from offset len) found)).bytes
told_so offset len None ok = cc
told_so offset len (Some file) ok = by_end (nat_le (length file) offset && nat_lt 0 len) ok
  where
    by_end : (past : Bool) → (told_as (cond past (Err EndOfFile) (Ok (take len (drop offset file))))).status ≡ Success
        → cond past (Err EndOfFile) (Ok (take len (drop offset file))) ≡ Ok (told_as (cond past (Err EndOfFile) (Ok (take len (drop offset file))))).bytes
    by_end true ok = cc
    by_end false ok = refl

known_from : (m : Option Folder) (path file : List ℕ) → file_at m path ≡ Some file → IsSome m
known_from None path file is = cc
known_from (Some f) path file is = refl

-- what tells nothing but the bytes written tells them
told_one : (bytes out : List ℕ) (found : Option (List ℕ)) → tell_at (λ _. Ok bytes) found ≡ Ok out → bytes ≡ out
told_one bytes out None h = cc
told_one bytes out (Some file) h = cc

-- a file that was written is there
gone : (path : List ℕ) (offset : ℕ) (put : List ℕ) (was is : Folder) → change_at (written offset put) path was (get was path) ≡ Ok is
    → told (λ _. Ok put) path was ≡ Err FileNotFound → ⊥
gone path offset put was is made none = by_found (get was path) made none
  where
    by_found : (found : Option (List ℕ)) → change_at (written offset put) path was found ≡ Ok is → tell_at (λ _. Ok put) found ≡ Err FileNotFound → ⊥
    by_found None made none = cc
    by_found (Some file) made none = cc

is_there : (path : List ℕ) (offset : ℕ) (put : List ℕ) (was is : Folder) → changed (written offset put) path was ≡ Ok is
    → (found : Option (List ℕ)) → get is path ≡ found
    → (file : List ℕ) × (get is path ≡ Some file)
is_there path offset put was is made None at =
    absurd (gone path offset put was is made
    (read_back path offset put (Some was) (Some is) (Err FileNotFound) made (ap (tell_at (bytes_from offset (length put))) at)))
is_there path offset put was is made (Some file) at = (file, at)

-- the bytes that count of a read
counted_bytes : (offset len : ℕ) (answer : Answer) (handle : HandleId) → is_success answer.status ≡ true
    → (base_counted (Params.Read offset len) answer handle).bytes ≡ answer.bytes
counted_bytes offset len answer handle ok = ap (λ b. (cond b (success_of (Params.Read offset len) answer handle) (bare_answer answer.status)).bytes) ok

module _ {B : Type 0} (folder : B → Option Folder) (faults : B → ℕ) (filters : ℕ → Option Sample) (s : StackWorld) (x : Subject) where
  abbrev on_write : Subject
  on_write = record x { operation = Operation.Write }

  abbrev on_read : Subject
  on_read = record x { operation = Operation.Read }

  -- what is in the file after a write that the base carried out
  record Written (offset : ℕ) (bytes : List ℕ) (old mid : Under (List B)) : Type 0 where
    file : List ℕ
    named : x.path ≡ Some file
    was : Folder
    is : Folder
    after : folder_of folder mid.device x.volume.0 ≡ Some is
    made : changed (written offset bytes) file was ≡ Ok is

  written_so : (offset : ℕ) (bytes : List ℕ) (old mid : Under (List B)) (given : Answer) → given.status ≡ Success
      → IsSome (folder_of folder old.device x.volume.0)
      → BaseMay (BasesCarry folder faults) on_write (Params.Write offset bytes) old given mid → Written offset bytes old mid
  written_so offset bytes old mid given ok known h =
      let c = called folder faults on_write (Params.Write offset bytes) old mid given ok (known_write old.files x.stream x.handle) h in
      let done : c.answer.status ≡ Success = success_is c.answer.status c.success in
      let k = known_call folder faults old.device mid.device (call_on on_write (Params.Write offset bytes)) c.answer done refl c.carries known in
      let said : (made_as (changed (written offset bytes) k.done.file k.was)).status ≡ Success = sym (ap (λ (a : Answer). a.status) k.done.said) ∙ done in
      record {
        file = k.done.file;
        named = k.done.named;
        was = k.was;
        is = k.is;
        after = k.after;
        made = change_made (written offset bytes) k.done.file k.was (get k.was k.done.file) said ∙ ap Ok (sym k.done.made);
      }

  -- what is told of the file by a read that the base carried out
  read_so : (offset len : ℕ) (file : List ℕ) (old new : Under (List B)) (given : Answer) → given.status ≡ Success → x.path ≡ Some file
      → IsSome (folder_of folder old.device x.volume.0)
      → BaseMay (BasesCarry folder faults) on_read (Params.Read offset len) old given new
      → tell_at (bytes_from offset len) (file_at (folder_of folder old.device x.volume.0) file) ≡ Ok given.bytes
  read_so offset len file old new given ok named known h =
      let p = Params.Read offset len in
      let c = called folder faults on_read p old new given ok (known_read old.files x.stream x.handle) h in
      let done : c.answer.status ≡ Success = success_is c.answer.status c.success in
      let k = known_call folder faults old.device new.device (call_on on_read p) c.answer done refl c.carries known in
      let said : (told_as (told (bytes_from offset len) k.done.file k.was)).status ≡ Success = sym (ap (λ (a : Answer). a.status) k.done.said) ∙ done in
      let same : file ≡ k.done.file = same_Some file k.done.file (sym named ∙ k.done.named) in
      let bytes : given.bytes ≡ c.answer.bytes =
      ap (λ (a : Answer). a.bytes) c.counts ∙ counted_bytes offset len c.answer (record { 0 = old.files.next }) c.success in
      ap (λ m. tell_at (bytes_from offset len) (file_at m file)) k.before
      ∙ ap (λ path. told (bytes_from offset len) path k.was) same
      ∙ told_so offset len (get k.was k.done.file) said
      ∙ ap Ok (ap (λ (a : Answer). a.bytes) (sym k.done.said) ∙ sym bytes)

  -- it is told by a read of as many bytes
  came_back : (offset : ℕ) (put : List ℕ) (old mid later new : Under (List B)) (w : Written offset put old mid) (given : Answer)
      → given.status ≡ Success → FileStays folder x mid later
      → BaseMay (BasesCarry folder faults) on_read (Params.Read offset (length put)) later given new → put ≡ given.bytes
  came_back offset put old mid later new w given ok stays h =
      let there : file_at (folder_of folder later.device x.volume.0) w.file ≡ get w.is w.file = stays w.file w.named ∙ ap (λ m. file_at m w.file) w.after in
      let file = is_there w.file offset put w.was w.is w.made (get w.is w.file) refl in
      let known = known_from (folder_of folder later.device x.volume.0) w.file file.0 (there ∙ file.1) in
      let tells : told (bytes_from offset (length put)) w.file w.is ≡ Ok given.bytes =
      ap (tell_at (bytes_from offset (length put))) (sym there) ∙ read_so offset (length put) w.file later new given ok w.named known h in
      told_one put given.bytes (get w.was w.file) (read_back w.file offset put (Some w.was) (Some w.is) (Ok given.bytes) w.made tells)

pub round : {B : Type 0} (folder : B → Option Folder) (faults : B → ℕ) → ShiftRound folder faults
round folder faults filters s x is offset bytes old mid later new wrote read shifts small known down wrote_ok stays up read_ok =
    let p = Params.Read offset (length bytes) in
    let w = written_so folder faults filters s x offset (raised_by is bytes) old mid wrote wrote_ok known
    (went_down folder faults filters s x is offset bytes old mid wrote shifts down wrote_ok) in
    let r = read_down folder faults filters s x is offset (length bytes) [] later new read shifts up in
    let came = came_up folder faults filters s x (asked_by is p []) r.given read
    (all_asked folder faults filters s x is p [] shifts (All-nil (AskedByShift folder faults filters s x))) r.up in
    let base : BaseMay (BasesCarry folder faults) (record x { operation = Operation.Read })
    (Params.Read offset (length (raised_by is bytes))) later r.given new =
    subst (λ (n : ℕ). BaseMay (BasesCarry folder faults) (record x { operation = Operation.Read }) (Params.Read offset n) later r.given new)
    (sym (length-raised_by is bytes)) r.base in
    came.1
    ∙ ap (lowered_by (asked_by is p [])) (sym (came_back folder faults filters s x offset (raised_by is bytes) old mid later new w
    r.given (sym came.0 ∙ read_ok) stays base))
    ∙ all_round is p [] bytes small
