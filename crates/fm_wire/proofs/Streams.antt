-- Streams of frames.
use Rattle.fm_wire.proofs.Words.{ℕ, Bool, true, false, IsTrue, List, [], length, get_or, drop, refl, sym, ap, arith, length-append}
use Rattle.fm_wire.proofs.Words.{append_assoc, append-nil, drop_at, Frame, bytes_of_u32, framed, IsPartial, IsFault, Begins, Splits}
use Rattle.std.proofs.Common.{◌≡◌, ◌↔◌, ◌⊎◌, ◌+◌, ◌-◌, ◌^◌, ◌<◌, ◌≤◌, ◌∷◌, ◌++◌, ◌∙◌}
use Rattle.std.specs.Prelude.{not}
use Rattle.fm_wire.specs.Grammar.{IsBody, IsBodyLength, IsFrame}
use Rattle.fm_wire.proofs.Bytes.{length-u32}
use Rattle.fm_wire.proofs.Parts.{same_parts, same_u32}

-- a length in front that is in range is no fault
pub out_of_range : (bytes behind : List ℕ) (len : ℕ) → bytes ≡ bytes_of_u32 len ++ behind → len < 2 ^ 32 → IsFault bytes → IsBodyLength len → ⊥
out_of_range bytes behind len parts fits fault inside =
    let same = same_u32 fault.len len fault.behind behind fault.fits fits (sym fault.parts ∙ parts) in
    fault.out_of_range (rw same.0 inside)

pub fault_is_long : (bytes : List ℕ) → IsFault bytes → 4 ≤ length bytes
fault_is_long bytes fault = rw fault.parts (omega (arith, length-append (bytes_of_u32 fault.len) fault.behind, length-u32 fault.len))

pub too_short : (bytes : List ℕ) → length bytes < 4 → IsTrue false ↔ IsFault bytes
too_short bytes short = (λ t. absurd cc, λ fault. let long = fault_is_long bytes fault in absurd (omega arith))

pub fault_test : (inside : Bool) (bytes behind : List ℕ) (len : ℕ) → bytes ≡ bytes_of_u32 len ++ behind → len < 2 ^ 32
    → IsTrue inside ↔ IsBodyLength len → IsTrue (not inside) ↔ IsFault bytes
fault_test true bytes behind len parts fits test = (λ t. absurd cc, λ fault. absurd (out_of_range bytes behind len parts fits fault (test.0 refl)))
fault_test false bytes behind len parts fits test = (
  λ t. record {
    len = len;
    behind = behind;
    parts = parts;
    fits = fits;
    out_of_range = λ h. let e : false ≡ true = test.1 h in absurd cc;
  },
  λ fault. refl,
)

-- one more frame
pub begins_more : (stream : List ℕ) (frames : List Frame) (text more : List ℕ) (frame : Frame) → Begins stream frames (text ++ more)
    → IsFrame text frame → Begins stream (frames ++ frame ∷ []) more
begins_more stream [] text more frame begins is = (text, more, begins, is, refl)
begins_more stream (first ∷ frames) text more frame begins is =
    (begins.0, begins.1, begins.2, begins.3, begins_more begins.1 frames text more frame begins.4 is)

pub begins_body : (stream : List ℕ) (frames : List Frame) (rest bytes behind : List ℕ) (frame : Frame) → Begins stream frames rest
    → rest ≡ framed bytes ++ behind → IsBodyLength (length bytes) → IsBody bytes frame → Begins stream (frames ++ frame ∷ []) behind
begins_body stream frames rest bytes behind frame begins parts inside body =
    let at : Begins stream frames (framed bytes ++ behind) = rw (← parts) begins in
    begins_more stream frames (framed bytes) behind frame at (record { bytes = bytes; length_in_front = refl; length_in_range = inside; body = body })

-- the rest is an end of the stream
begins_end : (stream : List ℕ) (frames : List Frame) (rest : List ℕ) → Begins stream frames rest → (front : List ℕ) × (stream ≡ front ++ rest)
begins_end stream [] rest begins = ([], begins)
begins_end stream (frame ∷ frames) rest begins =
    let more = begins_end begins.1 frames rest begins.4 in
    (begins.0 ++ more.0, begins.2 ∙ ap (λ (t : List ℕ). begins.0 ++ t) more.1 ∙ sym (append_assoc begins.0 more.0 rest))

pub rest_is : (stream : List ℕ) (frames : List Frame) (rest : List ℕ) → Begins stream frames rest
    → (drop (length stream - length rest) stream ≡ rest) × (length rest ≤ length stream)
rest_is stream frames rest begins =
    let front = begins_end stream frames rest begins in
    let len : length stream ≡ length front.0 + length rest = ap (λ (s : List ℕ). length s) front.1 ∙ length-append front.0 rest in
    (ap (λ (s : List ℕ). drop (length stream - length rest) s) front.1 ∙ drop_at front.0 rest (length stream - length rest) (omega arith), omega arith)

pub splits_at : (stream : List ℕ) (frames : List Frame) (rest : List ℕ) → Begins stream frames rest → IsPartial rest ⊎ IsFault rest
    → Splits stream frames (drop (length stream - length rest) stream)
splits_at stream frames rest begins ends =
    rw ((rest_is stream frames rest begins).0) (record { begins = begins; ends = ends })

-- ---- a fault across two pieces

head_again : (s : List ℕ) → 4 ≤ length s → (get_or s 0 0 ∷ get_or s 1 0 ∷ get_or s 2 0 ∷ get_or s 3 0 ∷ []) ++ drop 4 s ≡ s
head_again [] long = absurd (omega arith)
head_again (a ∷ []) long = absurd (omega arith)
head_again (a ∷ b ∷ []) long = absurd (omega arith)
head_again (a ∷ b ∷ c ∷ []) long = absurd (omega arith)
head_again (a ∷ b ∷ c ∷ d ∷ rest) long = refl

fault_in_front : (head rest : List ℕ) → length head ≡ 4 → IsFault head ↔ IsFault (head ++ rest)
fault_in_front head rest size = (
  λ fault. record {
    len = fault.len;
    behind = fault.behind ++ rest;
    parts = ap (λ (t : List ℕ). t ++ rest) fault.parts ∙ append_assoc (bytes_of_u32 fault.len) fault.behind rest;
    fits = fault.fits;
    out_of_range = fault.out_of_range;
  },
  λ fault.
      let same = same_parts head (bytes_of_u32 fault.len) rest fault.behind (size ∙ sym (length-u32 fault.len)) fault.parts in
      record { len = fault.len; behind = []; parts = same.0 ∙ sym (append-nil (bytes_of_u32 fault.len)); fits = fault.fits; out_of_range = fault.out_of_range },
)

pub fault_across : (test : Bool) (s : List ℕ) (a b c d : ℕ) → 4 ≤ length s → a ≡ get_or s 0 0 → b ≡ get_or s 1 0 → c ≡ get_or s 2 0 → d ≡ get_or s 3 0
    → IsTrue test ↔ IsFault (a ∷ b ∷ c ∷ d ∷ []) → IsTrue test ↔ IsFault s
fault_across test s a b c d long as_is bs_is cs_is ds_is told =
    let whole : (a ∷ b ∷ c ∷ d ∷ []) ++ drop 4 s ≡ s = rw (as_is, bs_is, cs_is, ds_is) (head_again s long) in
    let front = fault_in_front (a ∷ b ∷ c ∷ d ∷ []) (drop 4 s) refl in
    (λ t. rw whole at (front.0 (told.0 t)), λ fault. told.1 (front.1 (rw (sym whole) at fault)))
