-- What is spelled by the table is read as the frame.
use Rattle.fm_wire.proofs.Words.{ℕ, List, length, Ok, refl, sym, ap, arith, inl, inr, length-append, Status, Body, Frame, bytes_of_u32}
use Rattle.fm_wire.proofs.Words.{body_of, code_of, fields_of, spelling_of}
use Rattle.std.proofs.Common.{◌≡◌, ◌⊎◌, ◌+◌, ◌<◌, ◌≤◌, ◌^◌, ◌∙◌}
use Rattle.fm_altitude.specs.Grammar.{canonical}
use Rattle.fm_altitude.specs.Spelling.{canonical-again}
use Rattle.fm_altitude.proofs.Grammar.{IsAltitude-canonical, length-altitude}
use Rattle.fm_wire.specs.declared.frame.Control.TheVariants as control
use Rattle.fm_wire.specs.declared.frame.Body.TheVariants as body
use Rattle.fm_wire.specs.Grammar.{Fits, HasNoBytes, HasTexts, KeepsLimits, IsFrame, IsSpelled, Reading, canonical_body, outcome_of}
use Rattle.fm_wire.specs.Laws.{OnlySpelled}
use Rattle.fm_wire.proofs.Bytes.{length-u32}

pub length-body : (frame : Frame) → length (body_of frame) ≡ 5 + length (fields_of frame.body)
length-body frame = omega (arith, length-append (bytes_of_u32 frame.number) (fields_of frame.body), length-u32 frame.number)

pub is_spelled : (frame : Frame) → KeepsLimits frame.body → length (fields_of frame.body) ≤ 32995 → IsSpelled frame
is_spelled frame limits short = record { limits = limits; short = rw (length-body frame) (omega arith) }

pub too_long : (frame : Frame) → 32995 < length (fields_of frame.body) → IsSpelled frame → ⊥
too_long frame long spelled = let len = length-body frame in let short = spelled.short in omega arith

-- what may be said isn't refused
said_is_read : (said : Body) → KeepsLimits said → outcome_of said ≡ Ok said
said_is_read (body.Refused status) limits = absurd limits
said_is_read said limits = refl

pub spelled_frame : (text : List ℕ) (frame : Frame) → text ≡ spelling_of frame → IsSpelled frame → frame.number < 2 ^ 32
    → Fits frame.body → HasTexts frame.body → canonical_body frame.body ≡ frame.body → IsFrame text frame
spelled_frame text frame e spelled number fits texts canonical =
    let read : Reading (code_of frame.body) (fields_of frame.body) (Ok frame.body) =
    (frame.body, record { code_is = refl; fields_are = refl; fits = fits; limits = spelled.limits }, texts, sym canonical) in
    record {
      bytes = body_of frame;
      length_in_front = e;
      length_in_range = (rw (length-body frame) (omega arith), spelled.short);
      body = record {
        code = code_of frame.body;
        fields = fields_of frame.body;
        parts = refl;
        number = number;
        reading =
            rw (said_is_read frame.body spelled.limits) read;
      };
    }

-- ---- what was read has a spelling

-- what a reading gives may be said again, in no more bytes
record IsSaid (said read : Body) : Type 0 where
  limits : KeepsLimits read
  fits : Fits read
  texts : HasTexts read
  canonical : canonical_body read ≡ read
  shorter : length (fields_of read) ≤ length (fields_of said)

said_again : (said : Body) → KeepsLimits said → Fits said → HasTexts said → IsSaid said (canonical_body said)
said_again (body.Control (control.Attach filter volume name altitude)) limits fits texts =
    let short = length-altitude altitude texts.1 in
    record {
      limits = tt;
      fits = fits;
      texts = (texts.0, IsAltitude-canonical altitude texts.1);
      canonical = ap (λ (a : List ℕ). body.Control (control.Attach filter volume name a)) (canonical-again altitude);
      shorter = omega (arith, length-append name altitude, length-append name (canonical altitude));
    }
said_again (body.Refused status) limits fits texts = absurd limits
said_again said limits fits texts = record { limits = limits; fits = fits; texts = texts; canonical = refl; shorter = omega arith }

abbrev IsRefused : Body → Type 0
IsRefused read = (status : Status) × (read ≡ body.Refused status)

abbrev IsSaidBy : ℕ → List ℕ → Body → Type 0
IsSaidBy code fields read = (said : Body) × (fields_of said ≡ fields) × IsSaid said read

said_by : (code : ℕ) (fields : List ℕ) (read : Body) → Reading code fields (Ok read) → IsSaidBy code fields read
said_by code fields read p =
    let said : IsSaid p.0 read = rw p.3 (said_again p.0 p.1.limits p.1.fits p.2) in
    (p.0, p.1.fields_are, said)

refused_or_said : (code : ℕ) (fields : List ℕ) (read : Body) → Reading code fields (outcome_of read) → IsRefused read ⊎ IsSaidBy code fields read
refused_or_said code fields (body.Refused status) p = inl (status, refl)
refused_or_said code fields read p = inr (said_by code fields read p)

spelled_from : (text : List ℕ) (frame : Frame) (is : IsFrame text frame) → IsRefused frame.body
    ⊎ IsSaidBy is.body.code is.body.fields frame.body → IsRefused frame.body ⊎ (IsSpelled frame × IsFrame (spelling_of frame) frame)
spelled_from text frame is (inl refused) = inl refused
spelled_from text frame is (inr said) =
    let inside = is.length_in_range in
    let again = said.2 in
    let shorter = again.shorter in
    let len : length is.bytes ≡ 5 + length is.body.fields =
    ap (λ (t : List ℕ). length t) is.body.parts ∙ omega (arith, length-append (bytes_of_u32 frame.number) is.body.fields, length-u32 frame.number) in
    let fields : length (fields_of said.0) ≡ length is.body.fields = ap (λ (t : List ℕ). length t) said.1 in
    let spelled = is_spelled frame again.limits (omega arith) in
    inr (spelled, spelled_frame (spelling_of frame) frame refl spelled is.body.number again.fits again.texts again.canonical)

pub only_spelled : OnlySpelled
only_spelled text frame is = spelled_from text frame is (refused_or_said is.body.code is.body.fields frame.body is.body.reading)

pub no_bytes : (frame : Frame) → (IsSpelled frame → ⊥) → HasNoBytes frame
no_bytes frame none text is = elim (only_spelled text frame is) [ inl refused ↦ refused | inr said ↦ absurd (none said.0) ]
