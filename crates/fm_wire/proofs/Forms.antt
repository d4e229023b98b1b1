-- Which field texts no form has.
use Rattle.fm_wire.proofs.Words.{ℕ, cond, List, length, refl, sym, arith, inl, inr, length-append, number_of, Status, CreateMode, Existing}
use Rattle.fm_wire.proofs.Words.{Request, bytes_of_u32, bytes_of_u64, mode_number, file_code, request_code, request_fields, control_code}
use Rattle.fm_wire.proofs.Words.{control_fields, reply_code, reply_fields}
use Rattle.std.proofs.Common.{◌≡◌, ◌≢◌, ◌+◌, ◌<◌, ◌≤◌, ◌⊎◌, ◌==◌, ◌∷◌, ◌++◌, ◌∙◌}
use Rattle.fm_callback_data.specs.declared.request.FileRequest.{FileRequest}
use Rattle.fm_callback_data.specs.declared.request.FileRequest.TheVariants as file
use Rattle.fm_callback_data.specs.declared.request.Request.TheVariants as request
use Rattle.fm_callback_data.specs.declared.request.Reply.{Reply}
use Rattle.fm_callback_data.specs.declared.request.Reply.TheVariants as reply
use Rattle.fm_wire.specs.declared.frame.Control.{Control}
use Rattle.fm_wire.specs.declared.frame.Control.TheVariants as control
use Rattle.fm_wire.specs.declared.frame.Body.TheVariants as body
use Rattle.fm_wire.specs.Grammar.{FitsRequest, FitsControl, FitsReply, KeepsRequestLimits, KeepsReplyLimits, IsFormless}
use Rattle.fm_wire.proofs.Bytes.{length-u16, length-u32, length-u64}

-- ---- whose codes are which

pub file_apart : (r : FileRequest) → (file_code r ≢ 1) × (file_code r ≢ 7)
file_apart file.Cleanup = (λ e. omega arith, λ e. omega arith)
file_apart (file.Other major number) = (λ e. omega arith, λ e. omega arith)
file_apart r = (λ e. omega arith, λ e. omega arith)

pub request_codes : (r : Request) → request_code r ≤ 10
request_codes (request.Create volume path mode) = omega arith
request_codes (request.OnHandle handle file.Cleanup) = omega arith
request_codes (request.OnHandle handle (file.Other major number)) = omega arith
request_codes r = omega arith

pub control_codes : (c : Control) → (16 ≤ control_code c) × (control_code c ≤ 21)
control_codes (control.Load name) = (omega arith, omega arith)
control_codes c = (omega arith, omega arith)

pub reply_codes : (r : Reply) → (128 ≤ reply_code r) × (reply_code r ≤ 129)
reply_codes (reply.Held operation) = (omega arith, omega arith)
reply_codes r = (omega arith, omega arith)

pub formless_request : (code : ℕ) (fields : List ℕ) → code ≤ 10 → ((r : Request) → request_code r ≡ code → request_fields r ≡ fields
    → FitsRequest r → KeepsRequestLimits r → ⊥) → IsFormless code fields
formless_request code fields small none (body.Operation r) s = none r s.code_is s.fields_are s.fits s.limits
formless_request code fields small none (body.Control c) s = let k = control_codes c in let e = s.code_is in absurd (omega arith)
formless_request code fields small none (body.Reply r) s = let k = reply_codes r in let e = s.code_is in absurd (omega arith)
formless_request code fields small none (body.Refused status) s = s.limits

pub formless_control : (code : ℕ) (fields : List ℕ) → 16 ≤ code → code ≤ 21
    → ((c : Control) → control_code c ≡ code → control_fields c ≡ fields → FitsControl c → ⊥) → IsFormless code fields
formless_control code fields low high none (body.Operation r) s = let k = request_codes r in let e = s.code_is in absurd (omega arith)
formless_control code fields low high none (body.Control c) s = none c s.code_is s.fields_are s.fits
formless_control code fields low high none (body.Reply r) s = let k = reply_codes r in let e = s.code_is in absurd (omega arith)
formless_control code fields low high none (body.Refused status) s = s.limits

pub formless_reply : (code : ℕ) (fields : List ℕ) → 128 ≤ code → ((r : Reply) → reply_code r ≡ code → reply_fields r ≡ fields
    → FitsReply r → KeepsReplyLimits r → ⊥) → IsFormless code fields
formless_reply code fields low none (body.Operation r) s = let k = request_codes r in let e = s.code_is in absurd (omega arith)
formless_reply code fields low none (body.Control c) s = let k = control_codes c in let e = s.code_is in absurd (omega arith)
formless_reply code fields low none (body.Reply r) s = none r s.code_is s.fields_are s.fits s.limits
formless_reply code fields low none (body.Refused status) s = s.limits

-- ---- forms of one length

abbrev pub request_size : ℕ → ℕ
request_size code = cond (code == 2) 20 (cond (code == 5) 16 (cond (code == 7) 1 8))

request_has_size : (r : Request) → request_code r ≢ 1 → request_code r ≢ 3 → KeepsRequestLimits r → length (request_fields r) ≡ request_size (request_code r)
request_has_size (request.Create volume path mode) a b limits = absurd (a refl)
request_has_size (request.List volume) a b limits = refl
request_has_size (request.OnHandle handle (file.Read offset len)) a b limits = simp (length-append, length-u64, length-u32)
request_has_size (request.OnHandle handle (file.Write offset bytes)) a b limits = absurd (b refl)
request_has_size (request.OnHandle handle (file.SetSize size)) a b limits = simp (length-append, length-u64)
request_has_size (request.OnVolume volume major number) a b limits = absurd limits
request_has_size (request.OnHandle handle file.Cleanup) a b limits = absurd limits
request_has_size (request.OnHandle handle (file.Other major number)) a b limits = absurd limits
request_has_size (request.OnHandle handle asked) a b limits = simp (length-append, length-u64)

pub request_of_wrong_size : (code : ℕ) (fields : List ℕ) → code ≤ 10 → code ≢ 1 → code ≢ 3 → length fields ≢ request_size code → IsFormless code fields
request_of_wrong_size code fields small a b bad =
    formless_request code fields small (λ r c f fits limits. bad (rw (← c, ← f) (request_has_size r (λ e. a (sym c ∙ e)) (λ e. b (sym c ∙ e)) limits)))

abbrev pub control_size : ℕ → ℕ
control_size code = cond (code == 18) 2 (cond (code == 21) 0 1)

control_has_size : (c : Control) → control_code c ≢ 16 → control_code c ≢ 17 → length (control_fields c) ≡ control_size (control_code c)
control_has_size (control.Load name) a b = absurd (a refl)
control_has_size (control.Attach filter volume name altitude) a b = absurd (b refl)
control_has_size (control.Detach instance) a b = length-u16 instance.0
control_has_size (control.Unload filter) a b = refl
control_has_size (control.Dismount volume) a b = refl
control_has_size control.Stop a b = refl

pub control_of_wrong_size : (code : ℕ) (fields : List ℕ) → 16 ≤ code → code ≤ 21 → code ≢ 16 → code ≢ 17
    → length fields ≢ control_size code → IsFormless code fields
control_of_wrong_size code fields low high a b bad =
    formless_control code fields low high (λ r c f fits. bad (rw (← c, ← f) (control_has_size r (λ e. a (sym c ∙ e)) (λ e. b (sym c ∙ e)))))

pub held_of_wrong_size : (fields : List ℕ) → length fields ≢ 8 → IsFormless 129 fields
held_of_wrong_size fields bad = formless_reply 129 fields (omega arith) (elim [
  | reply.Done status information bytes ↦ λ c f fits limits. absurd (omega arith)
  | reply.Held operation ↦ λ c f fits limits. bad (rw (← f) (length-u64 operation.0))
])

pub number_of_wrong_size : (code : ℕ) (fields : List ℕ) → (code ≡ 4) ⊎ (code ≡ 6) ⊎ (code ≡ 8) ⊎ (code ≡ 9) ⊎ (code ≡ 10) ⊎ (code ≡ 129)
    → length fields ≢ 8 → IsFormless code fields
number_of_wrong_size code fields is bad = elim is [
  | inl e ↦ rw e (request_of_wrong_size 4 fields (omega arith) (λ e. omega arith) (λ e. omega arith) bad)
  | inr (inl e) ↦ rw e (request_of_wrong_size 6 fields (omega arith) (λ e. omega arith) (λ e. omega arith) bad)
  | inr (inr (inl e)) ↦ rw e (request_of_wrong_size 8 fields (omega arith) (λ e. omega arith) (λ e. omega arith) bad)
  | inr (inr (inr (inl e))) ↦ rw e (request_of_wrong_size 9 fields (omega arith) (λ e. omega arith) (λ e. omega arith) bad)
  | inr (inr (inr (inr (inl e)))) ↦ rw e (request_of_wrong_size 10 fields (omega arith) (λ e. omega arith) (λ e. omega arith) bad)
  | inr (inr (inr (inr (inr e)))) ↦ rw e (held_of_wrong_size fields bad)
]

-- ---- the other forms

mode_small : (mode : CreateMode) → mode_number mode ≤ 2
mode_small Existing = omega arith
mode_small mode = omega arith

pub no_create : (fields : List ℕ) → ((volume mode : ℕ) (path : List ℕ) → fields ≡ volume ∷ mode ∷ path → mode ≤ 2 → ⊥) → IsFormless 1 fields
no_create fields none = formless_request 1 fields (omega arith) (elim [
  | request.Create volume path mode ↦ λ c f fits limits. none volume.0 (mode_number mode) path (sym f) (mode_small mode)
  | request.OnHandle handle asked ↦ λ c f fits limits. (file_apart asked).0 c
  | r ↦ λ c f fits limits. absurd (omega arith)
])

pub no_read : (fields : List ℕ) → ((handle offset len : ℕ) → fields ≡ bytes_of_u64 handle ++ (bytes_of_u64 offset ++ bytes_of_u32 len)
    → len ≤ 32768 → ⊥) → IsFormless 2 fields
no_read fields none = formless_request 2 fields (omega arith) (elim [
  | request.OnHandle handle (file.Read offset len) ↦ λ c f fits limits. none handle.0 offset len (sym f) limits
  | r ↦ λ c f fits limits. absurd (omega arith)
])

write_size : (fields : List ℕ) (r : Request) → request_code r ≡ 3 → request_fields r ≡ fields → KeepsRequestLimits r
    → (16 ≤ length fields) × (length fields ≤ 16 + 32768)
write_size fields (request.OnHandle handle (file.Write offset bytes)) c f limits =
    let len : length fields ≡ 16 + length bytes = rw (← f) (simp (length-append, length-u64) (omega arith)) in
    (omega arith, omega arith)
write_size fields _ c f limits = absurd (omega arith)

pub no_write : (fields : List ℕ) → (length fields < 16) ⊎ (16 + 32768 < length fields) → IsFormless 3 fields
no_write fields bad = formless_request 3 fields (omega arith) (λ r c f fits limits. let size = write_size fields r c f limits in
    elim bad [ inl short ↦ omega arith | inr long ↦ omega arith ])

pub no_attach : (fields : List ℕ) → ((filter volume : ℕ) (name altitude : List ℕ)
    → fields ≡ filter ∷ volume ∷ length name ∷ name ++ altitude → ⊥) → IsFormless 17 fields
no_attach fields none = formless_control 17 fields (omega arith) (omega arith) (elim [
  | control.Attach filter volume name altitude ↦ λ c f fits. none filter.0 volume.0 name altitude (sym f)
  | r ↦ λ c f fits. absurd (omega arith)
])

pub no_reply : (fields : List ℕ) → ((status : Status) (information : ℕ) (bytes : List ℕ)
    → fields ≡ number_of status ∷ bytes_of_u64 information ++ bytes → ⊥) → IsFormless 128 fields
no_reply fields none = formless_reply 128 fields (omega arith) (elim [
  | reply.Done status information bytes ↦ λ c f fits limits. none status information bytes (sym f)
  | reply.Held operation ↦ λ c f fits limits. absurd (omega arith)
])
