-- Field texts in parts.
use Rattle.fm_wire.proofs.Words.{Control, ℕ, cond, true, false, List, [], length, take, drop, refl, sym, ap, arith, w16, w32, w64, from_be_bytes}
use Rattle.fm_wire.proofs.Words.{nil_from_length, append-nil, take-append-drop, length-take, bytes_of_u16, bytes_of_u32, bytes_of_u64}
use Rattle.std.proofs.Common.{◌≡◌, ◌^◌, ◌<◌, ◌≤◌, ◌==◌, ◌∷◌, ◌++◌, ◌∙◌}
use Rattle.fm_wire.proofs.Bytes.{length-u16, length-u32, length-u64, from-u16, from-u32, from-u64}
use Rattle.fm_wire.specs.declared.frame.Control.TheVariants as control
use Rattle.fm_wire.specs.Grammar.{Says}

pub joined : (fields a r : List ℕ) → fields ≡ a ++ r → length r ≡ 0 → a ≡ fields
joined fields a r e done = sym (e ∙ rw (nil_from_length r done) (append-nil a))

pub joined_two : (fields a r b s : List ℕ) → fields ≡ a ++ r → r ≡ b ++ s → length s ≡ 0 → a ++ b ≡ fields
joined_two fields a r b s e f done = ap (λ (t : List ℕ). a ++ t) (joined r b s f done) ∙ sym e

pub joined_three : (fields a r b s c t : List ℕ) → fields ≡ a ++ r → r ≡ b ++ s → s ≡ c ++ t → length t ≡ 0 → a ++ (b ++ c) ≡ fields
joined_three fields a r b s c t e f g done = ap (λ (u : List ℕ). a ++ u) (joined_two r b s c t f g done) ∙ sym e

-- two texts that begin with parts of one length
pub same_parts : (a b x y : List ℕ) → length a ≡ length b → a ++ x ≡ b ++ y → (a ≡ b) × (x ≡ y)
same_parts [] [] x y l e = (refl, e)
same_parts [] (n ∷ b) x y l e = absurd (omega (arith, l))
same_parts (m ∷ a) [] x y l e = absurd (omega (arith, l))
same_parts (m ∷ a) (n ∷ b) x y l e =
    let heads : m ≡ n = cc in
    let tails : a ++ x ≡ b ++ y = cc in
    let len : length a ≡ length b = omega (arith, l) in
    let rest = same_parts a b x y len tails in
    (rw (heads, rest.0) refl, rest.1)

pub same_u16 : (m n : ℕ) (x y : List ℕ) → m < 2 ^ 16 → n < 2 ^ 16 → bytes_of_u16 m ++ x ≡ bytes_of_u16 n ++ y → (m ≡ n) × (x ≡ y)
same_u16 m n x y ms ns e =
    let parts = same_parts (bytes_of_u16 m) (bytes_of_u16 n) x y (length-u16 m ∙ sym (length-u16 n)) e in
    (sym (from-u16 m ms) ∙ ap (λ (b : List ℕ). from_be_bytes w16 b) parts.0 ∙ from-u16 n ns, parts.1)

pub same_u32 : (m n : ℕ) (x y : List ℕ) → m < 2 ^ 32 → n < 2 ^ 32 → bytes_of_u32 m ++ x ≡ bytes_of_u32 n ++ y → (m ≡ n) × (x ≡ y)
same_u32 m n x y ms ns e =
    let parts = same_parts (bytes_of_u32 m) (bytes_of_u32 n) x y (length-u32 m ∙ sym (length-u32 n)) e in
    (sym (from-u32 m ms) ∙ ap (λ (b : List ℕ). from_be_bytes w32 b) parts.0 ∙ from-u32 n ns, parts.1)

pub same_u64 : (m n : ℕ) (x y : List ℕ) → m < 2 ^ 64 → n < 2 ^ 64 → bytes_of_u64 m ++ x ≡ bytes_of_u64 n ++ y → (m ≡ n) × (x ≡ y)
same_u64 m n x y ms ns e =
    let parts = same_parts (bytes_of_u64 m) (bytes_of_u64 n) x y (length-u64 m ∙ sym (length-u64 n)) e in
    (sym (from-u64 m ms) ∙ ap (λ (b : List ℕ). from_be_bytes w64 b) parts.0 ∙ from-u64 n ns, parts.1)

-- the length in a text that two readings of it name
pub same_length : (fields r s t : List ℕ) (handle offset len h o l : ℕ) → fields ≡ bytes_of_u64 handle ++ r
    → r ≡ bytes_of_u64 offset ++ s → s ≡ bytes_of_u32 len ++ t
    → fields ≡ bytes_of_u64 h ++ (bytes_of_u64 o ++ bytes_of_u32 l) → len < 2 ^ 32 → l < 2 ^ 32 → len ≡ l
same_length fields r s t handle offset len h o l e f g other small ls =
    let first = same_parts (bytes_of_u64 handle) (bytes_of_u64 h) r (bytes_of_u64 o ++ bytes_of_u32 l) (length-u64 handle
    ∙ sym (length-u64 h)) (sym e ∙ other) in
    let second = same_parts (bytes_of_u64 offset) (bytes_of_u64 o) s (bytes_of_u32 l) (length-u64 offset ∙ sym (length-u64 o)) (sym f ∙ first.1) in
    (same_u32 len l t [] small ls (sym g ∙ second.1 ∙ sym (append-nil (bytes_of_u32 l)))).0

-- a name behind its length, and an altitude
pub attach_said : (fields r s texts name altitude : List ℕ) (filter volume len : ℕ) → fields ≡ filter ∷ r → r ≡ volume ∷ s → s ≡ len ∷ texts
    → name ≡ take len texts → altitude ≡ drop len texts → len ≤ length texts → filter < 256 → volume < 256 → len < 256
    → Says 17 fields (Control (control.Attach (record { 0 = filter }) (record { 0 = volume }) name altitude))
attach_said fields r s texts name altitude filter volume len e f g n a long small small_volume small_len =
    let size : length name ≡ len = rw n (omega (arith, length-take len texts)) in
    let whole : name ++ altitude ≡ texts = rw (n, a) (take-append-drop len texts) in
    record { code_is = refl; fields_are = rw (size, whole, ← g, ← f, ← e) refl; fits = (small, small_volume, omega (arith, size, small_len)); limits = tt }

pub count_of_busy : (number information count : ℕ) → number ≡ 34 → count ≡ cond (number == 34) information 0 → count ≡ information
count_of_busy number information count e h = rw e at h

-- a test that failed says that the fact doesn't hold
pub refuted : {P : Type 0} → (P → false ≡ true) → P → ⊥
refuted test p = let e : false ≡ true = test p in absurd cc
