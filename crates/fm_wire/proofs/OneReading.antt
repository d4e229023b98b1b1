-- Bytes are read in one way.
use Rattle.fm_wire.proofs.Words.{ℕ, cond, List, [], length, get_or, refl, sym, ap, arith, append-nil, number_of, Status}
use Rattle.fm_wire.proofs.Words.{CreateMode, Existing, New, Always, Request, Body, bytes_of_u16, bytes_of_u32, bytes_of_u64, mode_number}
use Rattle.fm_wire.proofs.Words.{file_code, file_fields, request_code, request_fields, control_code, control_fields, reply_code, reply_fields, code_of, fields_of}
use Rattle.std.proofs.Common.{◌≡◌, ◌^◌, ◌<◌, ◌==◌, ◌∷◌, ◌++◌, ◌∙◌}
use Rattle.fm_types.specs.declared.ids.HandleId.{HandleId}
use Rattle.fm_types.specs.declared.ids.VolumeId.{VolumeId}
use Rattle.fm_types.specs.declared.ids.FilterId.{FilterId}
use Rattle.fm_types.specs.declared.status.Status.TheVariants.{Success, NoMemory, BadAltitude, BadName, NameCollision, AltitudeCollision}
use Rattle.fm_types.specs.declared.status.Status.TheVariants.{NoFilter, NoVolume, NoInstance, NotLoaded, AlreadyLoaded, DoNotAttach}
use Rattle.fm_types.specs.declared.status.Status.TheVariants.{DoNotDetach, DeletingObject, NoHandle, BadPath, DeletePending, AccessDenied}
use Rattle.fm_types.specs.declared.status.Status.TheVariants.{DeviceFault, FileNotFound, AlreadyExists, NotRegistered, AlreadyDefined}
use Rattle.fm_types.specs.declared.status.Status.TheVariants.{AlreadyLinked, NoContext, NotHeld, HandFull, NoObject, NotPended, TooMany}
use Rattle.fm_types.specs.declared.status.Status.TheVariants.{WrongStep, EndOfFile, BadRequest, Dismounting, Busy}
use Rattle.fm_callback_data.specs.declared.request.FileRequest.{FileRequest}
use Rattle.fm_callback_data.specs.declared.request.FileRequest.TheVariants as file
use Rattle.fm_callback_data.specs.declared.request.Request.TheVariants as request
use Rattle.fm_callback_data.specs.declared.request.Reply.{Reply}
use Rattle.fm_callback_data.specs.declared.request.Reply.TheVariants as reply
use Rattle.fm_wire.specs.declared.frame.Control.{Control}
use Rattle.fm_wire.specs.declared.frame.Control.TheVariants as control
use Rattle.fm_wire.specs.declared.frame.Body.TheVariants as body
use Rattle.fm_wire.specs.Grammar.{Fits, FitsFile, FitsRequest, FitsControl, FitsReply, KeepsFileLimits, KeepsLimits, KeepsReplyLimits, KeepsRequestLimits, HasCount, Says}
use Rattle.fm_wire.proofs.Parts.{same_parts, same_u16, same_u32, same_u64}
use Rattle.fm_wire.proofs.Forms.{file_apart, request_codes, control_codes, reply_codes}

-- ---- one value for each spelling

handle_is : (a b : HandleId) → a.0 ≡ b.0 → a ≡ b
handle_is a b e = let made : ℕ → HandleId = λ n. record { 0 = n } in ap made e

volume_is : (a b : VolumeId) → a.0 ≡ b.0 → a ≡ b
volume_is a b e = let made : ℕ → VolumeId = λ n. record { 0 = n } in ap made e

filter_is : (a b : FilterId) → a.0 ≡ b.0 → a ≡ b
filter_is a b e = let made : ℕ → FilterId = λ n. record { 0 = n } in ap made e

-- numbers that are all there is
alone_u16 : (m n : ℕ) → m < 2 ^ 16 → n < 2 ^ 16 → bytes_of_u16 m ≡ bytes_of_u16 n → m ≡ n
alone_u16 m n ms ns e = (same_u16 m n [] [] ms ns (append-nil (bytes_of_u16 m) ∙ e ∙ sym (append-nil (bytes_of_u16 n)))).0

alone_u32 : (m n : ℕ) → m < 2 ^ 32 → n < 2 ^ 32 → bytes_of_u32 m ≡ bytes_of_u32 n → m ≡ n
alone_u32 m n ms ns e = (same_u32 m n [] [] ms ns (append-nil (bytes_of_u32 m) ∙ e ∙ sym (append-nil (bytes_of_u32 n)))).0

alone_u64 : (m n : ℕ) → m < 2 ^ 64 → n < 2 ^ 64 → bytes_of_u64 m ≡ bytes_of_u64 n → m ≡ n
alone_u64 m n ms ns e = (same_u64 m n [] [] ms ns (append-nil (bytes_of_u64 m) ∙ e ∙ sym (append-nil (bytes_of_u64 n)))).0

mode_of : ℕ → CreateMode
mode_of number = cond (number == 0) Existing (cond (number == 1) New Always)

mode_again : (mode : CreateMode) → mode_of (mode_number mode) ≡ mode
unfolding mode_of
mode_again Existing = refl
mode_again mode = refl

one_mode : (a b : CreateMode) → mode_number a ≡ mode_number b → a ≡ b
one_mode a b e = sym (mode_again a) ∙ ap (λ (n : ℕ). mode_of n) e ∙ mode_again b

one_file : (r s : FileRequest) → file_code r ≡ file_code s → file_fields r ≡ file_fields s → FitsFile r → FitsFile s → KeepsFileLimits r → KeepsFileLimits s → r ≡ s
one_file (file.Read offset len) (file.Read o n) c f x y k l =
    let first = same_u64 offset o (bytes_of_u32 len) (bytes_of_u32 n) x.0 y.0 f in
    rw (first.0, alone_u32 len n x.1 y.1 first.1) refl
one_file (file.Write offset bytes) (file.Write o b) c f x y k l = let first = same_u64 offset o bytes b x y f in rw (first.0, first.1) refl
one_file (file.SetSize size) (file.SetSize s) c f x y k l = rw (alone_u64 size s x y f) refl
one_file file.QuerySize file.QuerySize c f x y k l = refl
one_file file.Flush file.Flush c f x y k l = refl
one_file file.SetDelete file.SetDelete c f x y k l = refl
one_file file.Restore file.Restore c f x y k l = refl
one_file file.Cleanup s c f x y k l = absurd k
one_file (file.Other major number) s c f x y k l = absurd k
one_file r file.Cleanup c f x y k l = absurd l
one_file r (file.Other major number) c f x y k l = absurd l
one_file file.Close file.Close c f x y k l = refl
one_file _ _ c f x y k l = absurd (omega arith)

one_request : (r s : Request) → request_code r ≡ request_code s → request_fields r ≡ request_fields s → FitsRequest r → FitsRequest s → KeepsRequestLimits r → KeepsRequestLimits s → r ≡ s
one_request (request.Create volume path mode) (request.Create w q n) c f x y k l =
    let v : volume ≡ w = volume_is volume w cc in
    let m : mode ≡ n = one_mode mode n cc in
    let p : path ≡ q = cc in
    rw (v, m, p) refl
one_request (request.OnVolume volume major number) s c f x y k l = absurd k
one_request r (request.OnVolume volume major number) c f x y k l = absurd l
one_request (request.List volume) (request.List w) c f x y k l = rw (volume_is volume w cc) refl
one_request (request.OnHandle handle r) (request.OnHandle h s) c f x y k l =
    let first = same_u64 handle.0 h.0 (file_fields r) (file_fields s) x.0 y.0 f in
    rw (handle_is handle h first.0, one_file r s c first.1 x.1 y.1 k l) refl
one_request (request.OnHandle handle r) (request.Create w q n) c f x y k l = absurd ((file_apart r).0 c)
one_request (request.OnHandle handle r) (request.List w) c f x y k l = absurd ((file_apart r).1 c)
one_request (request.Create w q n) (request.OnHandle handle r) c f x y k l = absurd ((file_apart r).0 (sym c))
one_request (request.List w) (request.OnHandle handle r) c f x y k l = absurd ((file_apart r).1 (sym c))
one_request _ _ c f x y k l = absurd (omega arith)

one_control : (r s : Control) → control_code r ≡ control_code s → control_fields r ≡ control_fields s → FitsControl r → FitsControl s → r ≡ s
one_control (control.Load name) (control.Load n) c f x y = rw f refl
one_control (control.Attach filter volume name altitude) (control.Attach g v n a) c f x y =
    let fs : filter ≡ g = filter_is filter g cc in
    let vs : volume ≡ v = volume_is volume v cc in
    let len : length name ≡ length n = cc in
    let texts : name ++ altitude ≡ n ++ a = cc in
    let parts = same_parts name n altitude a len texts in
    rw (fs, vs, parts.0, parts.1) refl
one_control (control.Detach instance) (control.Detach i) c f x y = ap (λ (n : ℕ). control.Detach (record { 0 = n })) (alone_u16 instance.0 i.0 x y f)
one_control (control.Unload filter) (control.Unload g) c f x y = rw (filter_is filter g cc) refl
one_control (control.Dismount volume) (control.Dismount v) c f x y = rw (volume_is volume v cc) refl
one_control control.Stop control.Stop c f x y = refl
one_control _ _ c f x y = absurd (omega arith)

statuses : List Status
statuses = Success ∷ NoMemory ∷ BadAltitude ∷ BadName ∷ NameCollision ∷ AltitudeCollision ∷ NoFilter ∷ NoVolume ∷ NoInstance
    ∷ NotLoaded ∷ AlreadyLoaded ∷ DoNotAttach ∷ DoNotDetach ∷ DeletingObject ∷ NoHandle ∷ BadPath ∷ DeletePending ∷ AccessDenied
    ∷ DeviceFault ∷ FileNotFound ∷ AlreadyExists ∷ NotRegistered ∷ AlreadyDefined ∷ AlreadyLinked ∷ NoContext ∷ NotHeld ∷ HandFull
    ∷ NoObject ∷ NotPended ∷ TooMany ∷ WrongStep ∷ EndOfFile ∷ BadRequest ∷ Dismounting ∷ []

status_of : ℕ → ℕ → Status
status_of number information = get_or statuses number (Busy information)

-- beside an information, which is Busy's count
counted : (information : ℕ) (status : Status) → HasCount status information → status_of (number_of status) information ≡ status
unfolding status_of statuses
counted information (Busy count) has = ap (λ (n : ℕ). Busy n) (sym (has refl))
counted information _ has = refl

one_reply : (r s : Reply) → reply_code r ≡ reply_code s → reply_fields r ≡ reply_fields s → FitsReply r → FitsReply s
    → KeepsReplyLimits r → KeepsReplyLimits s → r ≡ s
one_reply (reply.Done status information bytes) (reply.Done t i b) c f x y has had =
    let numbers : number_of status ≡ number_of t = cc in
    let tails : bytes_of_u64 information ++ bytes ≡ bytes_of_u64 i ++ b = cc in
    let first = same_u64 information i bytes b x y tails in
    let same : status ≡ t = sym (counted information status has) ∙ rw (numbers, first.0) (counted i t had) in
    rw (same, first.0, first.1) refl
one_reply (reply.Held operation) (reply.Held o) c f x y has had = ap (λ (n : ℕ). reply.Held (record { 0 = n })) (alone_u64 operation.0 o.0 x y f)
one_reply _ _ c f x y has had = absurd (omega arith)

one_body : (a b : Body) → code_of a ≡ code_of b → fields_of a ≡ fields_of b → Fits a → Fits b → KeepsLimits a → KeepsLimits b → a ≡ b
one_body (body.Operation r) (body.Operation s) c f x y k l = ap (λ (t : Request). body.Operation t) (one_request r s c f x y k l)
one_body (body.Control r) (body.Control s) c f x y k l = ap (λ (t : Control). body.Control t) (one_control r s c f x y)
one_body (body.Reply r) (body.Reply s) c f x y k l = ap (λ (t : Reply). body.Reply t) (one_reply r s c f x y k l)
one_body (body.Operation r) (body.Control s) c f x y k l = let m = request_codes r in let n = control_codes s in absurd (omega arith)
one_body (body.Operation r) (body.Reply s) c f x y k l = let m = request_codes r in let n = reply_codes s in absurd (omega arith)
one_body (body.Control r) (body.Operation s) c f x y k l = let m = control_codes r in let n = request_codes s in absurd (omega arith)
one_body (body.Control r) (body.Reply s) c f x y k l = let m = control_codes r in let n = reply_codes s in absurd (omega arith)
one_body (body.Reply r) (body.Operation s) c f x y k l = let m = reply_codes r in let n = request_codes s in absurd (omega arith)
one_body (body.Reply r) (body.Control s) c f x y k l = let m = reply_codes r in let n = control_codes s in absurd (omega arith)
one_body (body.Refused status) b c f x y k l = absurd k
one_body a (body.Refused status) c f x y k l = absurd l

pub one_said : (code : ℕ) (fields : List ℕ) (a b : Body) → Says code fields a → Says code fields b → a ≡ b
one_said code fields a b s t = one_body a b (s.code_is ∙ sym t.code_is) (s.fields_are ∙ sym t.fields_are) s.fits t.fits s.limits t.limits
