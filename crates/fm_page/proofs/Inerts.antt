-- JSON that is spelled for a page has no byte that means something in it.
use Rattle.std.proofs.Common.{◌≡◌, ℕ, ◌<◌, ◌%◌, ◌/◌, ◌++◌, List, [], ◌∷◌, Bool, true, false, cond, refl, arith, subst, sym}
use Rattle.std.specs.List.{All}
use Rattle.std.proofs.lemmas.List.Elements.{All-append, All-cons, All-nil}
use Rattle.fm_page.specs.Escapes.{IsInert, digit, inert, is_inert, spelled_inert}

digit-inert : (n : ℕ) → n < 16 → IsInert (digit n)
digit-inert n few = grind arith

spelled-at : (b : ℕ) (safe : Bool) → is_inert b ≡ safe
    → All IsInert (cond safe (b ∷ []) (92 ∷ 117 ∷ 48 ∷ 48 ∷ digit (b / 16 % 16) ∷ digit (b % 16) ∷ []))
spelled-at b true e = All-cons IsInert b [] e (All-nil IsInert)
spelled-at b false e =
    let high : ℕ = digit (b / 16 % 16) in
    let low : ℕ = digit (b % 16) in
    let digits : All IsInert (high ∷ low ∷ []) =
    All-cons IsInert high (low ∷ []) (digit-inert (b / 16 % 16) (omega arith))
    (All-cons IsInert low [] (digit-inert (b % 16) (omega arith)) (All-nil IsInert)) in
    All-cons IsInert 92 (117 ∷ 48 ∷ 48 ∷ high ∷ low ∷ []) refl (All-cons IsInert 117 (48 ∷ 48 ∷ high ∷ low ∷ []) refl
    (All-cons IsInert 48 (48 ∷ high ∷ low ∷ []) refl (All-cons IsInert 48 (high ∷ low ∷ []) refl digits)))

spelled-inert : (b : ℕ) → All IsInert (spelled_inert b)
spelled-inert b = spelled-at b (is_inert b) refl

bytes-inert : (bs : List ℕ) → All IsInert (inert bs)
bytes-inert [] = All-nil IsInert
bytes-inert (b ∷ bs) = All-append IsInert (spelled_inert b) (inert bs) (spelled-inert b) (bytes-inert bs)

pub inert_of : (text bs : List ℕ) → text ≡ inert bs → All IsInert text
inert_of text bs same = let P : List ℕ → Type 0 = λ t. All IsInert t in subst P (sym same) (bytes-inert bs)
