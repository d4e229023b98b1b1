-- What a write leaves is read back from the same place.
use Rattle.fm_base.proofs.Words.{lt-leb, cond-false, length-take, length-replicate, eq_by_cmp_equiv, nat_list_cmp_total, get, insert}
use Rattle.fm_base.proofs.Words.{get-insert, resized, written, Status, NoMemory, DeviceFault, FileNotFound, Folder, change_at, changed}
use Rattle.fm_base.proofs.Words.{tell_at, told, bytes_from, Makes, MakesKnown, Tells, TellsKnown}
use Rattle.std.specs.Prelude.{◌≡◌, ℕ, ◌+◌, false, cond, List, [], ◌∷◌, ◌++◌, length, take, drop, Option, Some}
use Rattle.std.specs.Prelude.{None, ◌<◌, ◌&&◌, nat_le, nat_lt, Result, Ok, Err, IsOk, refl}
use Rattle.std.proofs.Common.{sym, ap, subst, ◌∙◌, arith, length-append, append_assoc}
use Rattle.std.proofs.lemmas.Bool.Decides.{nat_tests}
use Rattle.std.proofs.Math.Seq.{take-append_seam, drop-append_seam}

pub length-resized : (n : ℕ) (bytes : List ℕ) → length (resized n bytes) ≡ n
length-resized n bytes = simp (length-append, length-take, length-replicate) (omega arith)

-- what was written lies where it was written
pub written_back : (offset : ℕ) (bytes old : List ℕ) → take (length bytes) (drop offset (written offset bytes old)) ≡ bytes
written_back offset [] old = refl
written_back offset (byte ∷ bytes) old =
    let front = resized offset old in
    let back = drop (offset + length (byte ∷ bytes)) old in
    let behind : drop offset ((front ++ byte ∷ bytes) ++ back) ≡ (byte ∷ bytes) ++ back =
    ap (λ n. drop n ((front ++ byte ∷ bytes) ++ back)) (sym (length-resized offset old))
    ∙ ap (drop (length front)) (append_assoc front (byte ∷ bytes) back) ∙ drop-append_seam front ((byte ∷ bytes) ++ back) in
    ap (take (length (byte ∷ bytes))) behind ∙ take-append_seam (byte ∷ bytes) back

-- a read of as many bytes isn't refused, and tells them
past_end : (offset : ℕ) (bytes old : List ℕ) → (nat_le (length (written offset bytes old)) offset && nat_lt 0 (length bytes)) ≡ false
past_end offset [] old = grind (arith, nat_tests)
past_end offset (byte ∷ bytes) old =
    let long : offset < length (written offset (byte ∷ bytes) old) = simp (length-append, length-take, length-replicate) (omega arith) in
    rw (lt-leb (length (written offset (byte ∷ bytes) old)) offset long) refl

told_back : (offset : ℕ) (bytes old : List ℕ) → bytes_from offset (length bytes) (written offset bytes old) ≡ Ok bytes
told_back offset bytes old = cond-false _ _ _ (past_end offset bytes old) ∙ ap Ok (written_back offset bytes old)

-- a changed file was there, and has what the change made of it
record Changed (change : List ℕ → List ℕ) (path : List ℕ) (old new : Folder) : Type 0 where
  file : List ℕ
  before : get old path ≡ Some file
  after : get new path ≡ Some (change file)

changed_file : (change : List ℕ → List ℕ) (path : List ℕ) (old new : Folder) (found : Option (List ℕ)) → get old path ≡ found
    → change_at change path old found ≡ Ok new → Changed change path old new
changed_file change path old new None before h = cc
changed_file change path old new (Some file) before h =
    let made : insert old path (change file) ≡ new = cc in
    record {
      file = file;
      before = before;
      after = ap (λ folder. get folder path) (sym made) ∙ get-insert nat_list_cmp_total old path (change file) path
          ∙ ap (λ b. cond b (Some (change file)) (get old path)) ((eq_by_cmp_equiv nat_list_cmp_total).refl path);
    }

-- of a base that knows its folder, a read after a write tells what was written
pub read_back : (path : List ℕ) (offset : ℕ) (bytes : List ℕ) (old new : Option Folder) (result : Result (List ℕ) Status)
    → MakesKnown {T = Unit {0}} path (changed (written offset bytes) path) old new (Ok tt)
    → TellsKnown (told (bytes_from offset (length bytes)) path) new result
    → TellsKnown (told (λ _. Ok bytes) path) old result
read_back path offset bytes None new result makes tells = tt
read_back path offset bytes (Some old) None result makes tells = absurd makes
read_back path offset bytes (Some old) (Some new) result makes tells =
    let file = changed_file (written offset bytes) path old new (get old path) refl makes in
    let now : told (bytes_from offset (length bytes)) path new ≡ Ok bytes =
    ap (tell_at (bytes_from offset (length bytes))) file.after ∙ told_back offset bytes file.file in
    let wanted : told (λ _. Ok bytes) path old ≡ Ok bytes = ap (tell_at (λ _. Ok bytes)) file.before in
    subst (λ (said : Result (List ℕ) Status). Tells said result) (now ∙ sym wanted) tells

-- where the write is refused, so is the whole
refused_alike : (change : List ℕ → List ℕ) (path bytes : List ℕ) (old : Folder) (found : Option (List ℕ)) (status : Status)
    → change_at change path old found ≡ Err status → tell_at (λ _. Ok bytes) found ≡ Err status
refused_alike change path bytes old None status h = let same : FileNotFound ≡ status = cc in ap Err same
refused_alike change path bytes old (Some file) status h = cc

-- where nothing refuses the write, nothing refuses the whole
granted_alike : (change : List ℕ → List ℕ) (path bytes : List ℕ) (old : Folder) (found : Option (List ℕ))
    → IsOk (change_at change path old found) → IsOk (tell_at (λ _. Ok bytes) found)
granted_alike change path bytes old None h = cc
granted_alike change path bytes old (Some file) h = refl

refused_known : (change : List ℕ → List ℕ) (path bytes : List ℕ) (old new : Folder) (status : Status)
    → Makes {T = Unit {0}} path (changed change path) old new (Err status) → Tells (told (λ _. Ok bytes) path old) (Err status)
refused_known change path bytes old new NoMemory makes = granted_alike change path bytes old (get old path) makes.1
refused_known change path bytes old new DeviceFault makes = tt
refused_known change path bytes old new status makes = refused_alike change path bytes old (get old path) status makes.0

pub write_refused : (change : List ℕ → List ℕ) (path bytes : List ℕ) (old new : Option Folder) (status : Status)
    → MakesKnown {T = Unit {0}} path (changed change path) old new (Err status) → TellsKnown (told (λ _. Ok bytes) path) old (Err status)
write_refused change path bytes None new status makes = tt
write_refused change path bytes (Some old) None status makes = absurd makes
write_refused change path bytes (Some old) (Some new) status makes = refused_known change path bytes old new status makes
