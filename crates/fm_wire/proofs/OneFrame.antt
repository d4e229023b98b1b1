-- Bytes are one frame, and a stream one list of frames.
use Rattle.fm_wire.proofs.Words.{ℕ, List, [], length, Result, Ok, Err, refl, sym, ap, arith, inl, inr, length-append, append_assoc}
use Rattle.fm_wire.proofs.Words.{append-nil, Status, Body, Frame, bytes_of_u32, framed, IsPartial, IsFault, Begins}
use Rattle.std.proofs.Common.{◌≡◌, ◌+◌, ◌⊎◌, ◌∷◌, ◌++◌, ◌∙◌}
use Rattle.fm_callback_data.specs.declared.request.Request.TheVariants as request
use Rattle.fm_wire.specs.declared.frame.Control.TheVariants as control
use Rattle.fm_wire.specs.declared.frame.Body.TheVariants as body
use Rattle.fm_wire.specs.Grammar.{HasTexts, RefusesText, Reading, canonical_body, outcome_of, IsBody, IsFrame}
use Rattle.fm_wire.specs.Laws.{NoPrefix, OneFrame, OneReading, Pieces}
use Rattle.fm_wire.proofs.Bytes.{length-u32}
use Rattle.fm_wire.proofs.Parts.{same_parts, same_u32}
use Rattle.fm_wire.proofs.OneReading.{one_said}
use Rattle.fm_wire.proofs.Streams.{out_of_range}

-- ---- one outcome

text_or_refused : (said : Body) (status : Status) → HasTexts said → RefusesText said status → ⊥
text_or_refused (body.Operation (request.Create volume path mode)) status has refused = refused.1 has
text_or_refused (body.Control (control.Load name)) status has refused = refused.1 has
text_or_refused (body.Control (control.Attach filter volume name altitude)) status has (inl refused) = refused.1 has.0
text_or_refused (body.Control (control.Attach filter volume name altitude)) status has (inr refused) = refused.2 has.1
text_or_refused said status has refused = refused

one_refusal : (said : Body) (status other : Status) → RefusesText said status → RefusesText said other → status ≡ other
one_refusal (body.Operation (request.Create volume path mode)) status other a b = a.0 ∙ sym b.0
one_refusal (body.Control (control.Load name)) status other a b = a.0 ∙ sym b.0
one_refusal (body.Control (control.Attach filter volume name altitude)) status other (inl a) (inl b) = a.0 ∙ sym b.0
one_refusal (body.Control (control.Attach filter volume name altitude)) status other (inl a) (inr b) = absurd (a.1 b.1)
one_refusal (body.Control (control.Attach filter volume name altitude)) status other (inr a) (inl b) = absurd (b.1 a.1)
one_refusal (body.Control (control.Attach filter volume name altitude)) status other (inr a) (inr b) = a.0 ∙ sym b.0
one_refusal said status other a b = absurd a

abbrev Outcome : Type 0
Outcome = Result Body Status

read_or_refused : (code : ℕ) (fields : List ℕ) (read : Body) (status : Status) → Reading code fields (Ok read) → Reading code fields (Err status) → ⊥
read_or_refused code fields read status p (inl q) = q.1 p.0 p.1
read_or_refused code fields read status p (inr q) =
    let same = one_said code fields q.0 p.0 q.1 p.1 in
    let refused : RefusesText p.0 status = rw (← same) q.2 in
    text_or_refused p.0 status p.2 refused

one_outcome : (code : ℕ) (fields : List ℕ) (a b : Outcome) → Reading code fields a → Reading code fields b → a ≡ b
one_outcome code fields (Ok x) (Ok y) p q =
    let same = one_said code fields p.0 q.0 p.1 q.1 in
    let ok : Body → Outcome = λ b. Ok b in
    ap ok (p.3 ∙ ap (λ (b : Body). canonical_body b) same ∙ sym q.3)
one_outcome code fields (Ok x) (Err t) p q = absurd (read_or_refused code fields x t p q)
one_outcome code fields (Err s) (Ok y) p q = absurd (read_or_refused code fields y s q p)
one_outcome code fields (Err s) (Err t) (inl p) (inl q) = let err : Status → Outcome = λ e. Err e in ap err (p.0 ∙ sym q.0)
one_outcome code fields (Err s) (Err t) (inl p) (inr q) = absurd (p.1 q.0 q.1)
one_outcome code fields (Err s) (Err t) (inr p) (inl q) = absurd (q.1 p.0 p.1)
one_outcome code fields (Err s) (Err t) (inr p) (inr q) =
    let same = one_said code fields p.0 q.0 p.1 q.1 in
    let refused : RefusesText q.0 s = rw (← same) p.2 in
    let err : Status → Outcome = λ e. Err e in
    ap err (one_refusal q.0 s t refused q.2)

-- ---- one body

body_from : Outcome → Body
body_from (Ok b) = b
body_from (Err status) = body.Refused status

body_again : (b : Body) → body_from (outcome_of b) ≡ b
unfolding body_from
body_again (body.Refused status) = refl
body_again b = refl

frame_is : (f g : Frame) → f.number ≡ g.number → f.body ≡ g.body → f ≡ g
frame_is f g n b =
    let made : ℕ → Body → Frame = λ number said. record { number = number; body = said } in
    ap (λ number. made number f.body) n ∙ ap (λ said. made g.number said) b

one_in_body : (bytes : List ℕ) (f g : Frame) → IsBody bytes f → IsBody bytes g → f ≡ g
one_in_body bytes f g p q =
    let whole : p.code ∷ bytes_of_u32 f.number ++ p.fields ≡ q.code ∷ bytes_of_u32 g.number ++ q.fields = sym p.parts ∙ q.parts in
    let codes : p.code ≡ q.code = cc in
    let tails : bytes_of_u32 f.number ++ p.fields ≡ bytes_of_u32 g.number ++ q.fields = cc in
    let rest = same_u32 f.number g.number p.fields q.fields p.number q.number tails in
    let reading : Reading q.code q.fields (outcome_of f.body) = rw (← codes, ← rest.1) p.reading in
    let outcomes = one_outcome q.code q.fields (outcome_of f.body) (outcome_of g.body) reading q.reading in
    frame_is f g rest.0 (sym (body_again f.body) ∙ ap (λ (o : Outcome). body_from o) outcomes ∙ body_again g.body)

-- ---- one frame

-- two frames in front of one stream
pub same_frames : (a b x y : List ℕ) (f g : Frame) → IsFrame a f → IsFrame b g → a ++ x ≡ b ++ y → (a ≡ b) × (x ≡ y) × (f ≡ g)
same_frames a b x y f g p q e =
    let sides : bytes_of_u32 (length p.bytes) ++ (p.bytes ++ x) ≡ bytes_of_u32 (length q.bytes) ++ (q.bytes ++ y) =
    sym (append_assoc (bytes_of_u32 (length p.bytes)) p.bytes x) ∙ ap (λ (t : List ℕ). t ++ x) (sym p.length_in_front) ∙ e
    ∙ ap (λ (t : List ℕ). t ++ y) q.length_in_front ∙ append_assoc (bytes_of_u32 (length q.bytes)) q.bytes y in
    let ps = p.length_in_range in
    let qs = q.length_in_range in
    let lengths = same_u32 (length p.bytes) (length q.bytes) (p.bytes ++ x) (q.bytes ++ y) (omega arith) (omega arith) sides in
    let parts = same_parts p.bytes q.bytes x y lengths.0 lengths.1 in
    let body : IsBody q.bytes f = rw (← parts.0) p.body in
    (p.length_in_front ∙ ap (λ (t : List ℕ). framed t) parts.0 ∙ sym q.length_in_front, parts.1, one_in_body q.bytes f g body q.body)

pub one_frame : OneFrame
one_frame text f g p q = (same_frames text text [] [] f g p q refl).2

-- ---- one list of frames

whole_in_front : (stream text more : List ℕ) (f : Frame) → stream ≡ text ++ more → IsFrame text f → IsPartial stream ⊎ IsFault stream → ⊥
whole_in_front stream text more f e is (inl (inl short)) =
    let inside = is.length_in_range in
    let len : length stream ≡ 4 + length is.bytes + length more =
    ap (λ (t : List ℕ). length t) e ∙ length-append text more ∙ ap (λ (t : List ℕ). length t + length more) is.length_in_front
    ∙ ap (λ (n : ℕ). n + length more) (length-append (bytes_of_u32 (length is.bytes)) is.bytes
    ∙ ap (λ (n : ℕ). n + length is.bytes) (length-u32 (length is.bytes))) in
    omega arith
whole_in_front stream text more f e is (inl (inr begun)) =
    let inside = is.length_in_range in
    let range = begun.in_range in
    let sides : bytes_of_u32 begun.len ++ begun.behind ≡ bytes_of_u32 (length is.bytes) ++ (is.bytes ++ more) =
    sym begun.parts ∙ e ∙ ap (λ (t : List ℕ). t ++ more) is.length_in_front ∙ append_assoc (bytes_of_u32 (length is.bytes)) is.bytes more in
    let same = same_u32 begun.len (length is.bytes) begun.behind (is.bytes ++ more) (omega arith) (omega arith) sides in
    let lens : length begun.behind ≡ length is.bytes + length more = ap (λ (t : List ℕ). length t) same.1 ∙ length-append is.bytes more in
    let short = begun.short in
    let equal = same.0 in
    omega arith
whole_in_front stream text more f e is (inr fault) =
    let inside = is.length_in_range in
    let sides : stream ≡ bytes_of_u32 (length is.bytes) ++ (is.bytes ++ more) =
    e ∙ ap (λ (t : List ℕ). t ++ more) is.length_in_front ∙ append_assoc (bytes_of_u32 (length is.bytes)) is.bytes more in
    out_of_range stream (is.bytes ++ more) (length is.bytes) sides (omega arith) fault inside

one_list : (stream : List ℕ) (frames others : List Frame) (rest other : List ℕ) → Begins stream frames rest
    → Begins stream others other → IsPartial rest ⊎ IsFault rest → IsPartial other ⊎ IsFault other → (frames ≡ others) × (rest ≡ other)
one_list stream [] [] rest other a b ends ended = (refl, sym a ∙ b)
one_list stream [] (g ∷ others) rest other a b ends ended =
    let at : IsPartial stream ⊎ IsFault stream = rw a ends in
    absurd (whole_in_front stream b.0 b.1 g b.2 b.3 at)
one_list stream (f ∷ frames) [] rest other a b ends ended =
    let at : IsPartial stream ⊎ IsFault stream = rw b ended in
    absurd (whole_in_front stream a.0 a.1 f a.2 a.3 at)
one_list stream (f ∷ frames) (g ∷ others) rest other a b ends ended =
    let same = same_frames a.0 b.0 a.1 b.1 f g a.3 b.3 (sym a.2 ∙ b.2) in
    let more : Begins b.1 frames rest = rw (← same.1) a.4 in
    let later = one_list b.1 frames others rest other more b.4 ends ended in
    (rw (same.2, later.0) refl, later.1)

pub one_reading : OneReading
one_reading stream frames others rest other a b = one_list stream frames others rest other a.begins b.begins a.ends b.ends

-- ---- prefixes and pieces

pub no_prefix : NoPrefix
no_prefix a b more f g p q e = (same_frames a b more [] f g p q (e ∙ sym (append-nil b))).1

begins_on : (stream piece : List ℕ) (frames later : List Frame) (held rest : List ℕ) → Begins stream frames held
    → Begins (held ++ piece) later rest → Begins (stream ++ piece) (frames ++ later) rest
begins_on stream piece [] later held rest a b = rw a b
begins_on stream piece (f ∷ frames) later held rest a b =
    (a.0, a.1 ++ piece, ap (λ (t : List ℕ). t ++ piece) a.2 ∙ append_assoc a.0 a.1 piece, a.3, begins_on a.1 piece frames later held rest a.4 b)

pub pieces : Pieces
pieces stream piece frames later held rest a b = record { begins = begins_on stream piece frames later held rest a.begins b.begins; ends = b.ends }
