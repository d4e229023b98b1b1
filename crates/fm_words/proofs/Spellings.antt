-- A word that is read pair by pair is the spelling of the bytes that were read, or of none.
use Rattle.std.proofs.Common.{◌≡◌, ◌/◌, ◌%◌, ◌<◌, ◌≤◌, ◌≢◌, ℕ, List, [], ◌∷◌, ◌++◌, length, get_or, Option, Some, None, Result, Ok, Err, refl, sym, ap, ◌∙◌, arith}
use Rattle.std.proofs.lemmas.List.Concat.{flat_map-cons}
use Rattle.std.proofs.lemmas.List.Elements.{recursion_from_All}
use Rattle.std.specs.List.{AllByRecursion}
use Rattle.std.specs.Option.{MatchOption}
use Rattle.std.specs.Prelude.{IfOk}
use Rattle.fm_words.specs.Hexadecimal.{IsNoHexadecimal, IsNoPairs, hex_digit, hex_of, hex_pair, hex_pairs}

abbrev AreBytes : List ℕ → Type 0
AreBytes bytes = AllByRecursion (λ b. b < 256) bytes

pairs-cons : (b : ℕ) (bs : List ℕ) → hex_pairs (b ∷ bs) ≡ hex_digit (b / 16) ∷ hex_digit (b % 16) ∷ hex_pairs bs
pairs-cons b bs = flat_map-cons hex_pair b bs

-- what is left of a spelling behind the first bytes is a spelling
rest_spelled : (done all rest : List ℕ) → hex_pairs done ++ rest ≡ hex_pairs all → AreBytes all →
    (more : List ℕ) × AreBytes more × (rest ≡ hex_pairs more)
rest_spelled [] all rest same bytes = (all, bytes, same)
rest_spelled (d ∷ ds) [] rest same bytes =
    let broken : hex_digit (d / 16) ∷ hex_digit (d % 16) ∷ hex_pairs ds ++ rest ≡ [] = ap (λ (front : List ℕ). front ++ rest) (sym (pairs-cons d ds)) ∙ same in
    absurd (cc)
rest_spelled (d ∷ ds) (b ∷ bs) rest same bytes =
    let both : hex_digit (d / 16) ∷ hex_digit (d % 16) ∷ (hex_pairs ds ++ rest) ≡ hex_digit (b / 16) ∷ hex_digit (b % 16) ∷ hex_pairs bs =
    ap (λ (front : List ℕ). front ++ rest) (sym (pairs-cons d ds)) ∙ same ∙ pairs-cons b bs in
    rest_spelled ds bs rest (cc) bytes.1

none_short : (rest more : List ℕ) → length rest < 2 → 0 < length rest → rest ≡ hex_pairs more → ⊥
none_short rest [] short some same = let empty : length rest ≡ 0 = ap length same in omega arith
none_short rest (b ∷ bs) short some same =
    let long : length rest ≡ length (hex_digit (b / 16) ∷ hex_digit (b % 16) ∷ hex_pairs bs) = ap length (same ∙ pairs-cons b bs) in omega arith

pub short_is_none : (done rest word : List ℕ) → hex_pairs done ++ rest ≡ word → length rest < 2 → 0 < length rest → IsNoPairs word
short_is_none done rest word whole short some bytes small spelled =
    let left = rest_spelled done bytes rest (whole ∙ sym spelled) (recursion_from_All (λ b. b < 256) bytes small) in
    none_short rest left.0 short some left.2

none_pair : (rest more : List ℕ) → 2 ≤ length rest → AreBytes more →
    ((b : ℕ) → b < 256 → hex_pair b ≡ get_or rest 0 0 ∷ get_or rest 1 0 ∷ [] → ⊥) → rest ≡ hex_pairs more → ⊥
none_pair rest [] long bytes none same = let empty : length rest ≡ 0 = ap length same in omega arith
none_pair rest (b ∷ bs) long bytes none same =
    let spelled : rest ≡ hex_digit (b / 16) ∷ hex_digit (b % 16) ∷ hex_pairs bs = same ∙ pairs-cons b bs in
    none b bytes.0 (rw spelled refl)

pub bad_pair_is_none : (done rest word : List ℕ) → hex_pairs done ++ rest ≡ word → 2 ≤ length rest →
    ((b : ℕ) → b < 256 → hex_pair b ≡ get_or rest 0 0 ∷ get_or rest 1 0 ∷ [] → ⊥) → IsNoPairs word
bad_pair_is_none done rest word whole long none bytes small spelled =
    let left = rest_spelled done bytes rest (whole ∙ sym spelled) (recursion_from_All (λ b. b < 256) bytes small) in
    none_pair rest left.0 long left.1 none left.2

no_hexadecimal : (word : List ℕ) → (word ≢ 45 ∷ []) → IsNoPairs word → IsNoHexadecimal word
no_hexadecimal word other none [] small spelled = other (sym spelled)
no_hexadecimal word other none (b ∷ bs) small spelled = none (b ∷ bs) small spelled

some_hexadecimal : (bytes word : List ℕ) → 0 < length word → hex_pairs bytes ≡ word → hex_of bytes ≡ word
some_hexadecimal [] word some spelled = let empty : 0 ≡ length word = ap length spelled in absurd (omega arith)
some_hexadecimal (b ∷ bs) word some spelled = spelled

pub read_by_pairs : {V E : Type 0} (items : V → List ℕ) (word : List ℕ) (r : Result (Option V) E) → (word ≢ 45 ∷ []) → 0 < length word →
    IfOk r (λ read. MatchOption read (IsNoPairs word) (λ bytes. hex_pairs (items bytes) ≡ word)) →
    IfOk r (λ read. MatchOption read (IsNoHexadecimal word) (λ bytes. hex_of (items bytes) ≡ word))
read_by_pairs items word (Ok None) other some h = no_hexadecimal word other h
read_by_pairs items word (Ok (Some bytes)) other some h = some_hexadecimal (items bytes) word some h
read_by_pairs items word (Err e) other some h = h
