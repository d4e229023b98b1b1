-- What is escaped has no byte that means something in a picture.
use Rattle.std.proofs.Common.{◌≡◌, ℕ, ◌<◌, ◌%◌, ◌/◌, ◌++◌, List, [], ◌∷◌, Bool, true, false, cond, refl, arith, subst, sym}
use Rattle.std.specs.List.{All}
use Rattle.std.proofs.lemmas.List.Elements.{All-append, All-cons, All-nil}
use Rattle.fm_page.specs.Escapes.{IsSafe, digit, escaped, is_safe, spelled}

digit-safe : (n : ℕ) → n < 16 → IsSafe (digit n)
digit-safe n few = grind arith

spelled-at : (b : ℕ) (safe : Bool) → is_safe b ≡ safe → All IsSafe (cond safe (b ∷ []) (92 ∷ 120 ∷ digit (b / 16 % 16) ∷ digit (b % 16) ∷ []))
spelled-at b true e = All-cons IsSafe b [] e (All-nil IsSafe)
spelled-at b false e =
    let high : ℕ = digit (b / 16 % 16) in
    let low : ℕ = digit (b % 16) in
    All-cons IsSafe 92 (120 ∷ high ∷ low ∷ []) refl (All-cons IsSafe 120 (high ∷ low ∷ []) refl
    (All-cons IsSafe high (low ∷ []) (digit-safe (b / 16 % 16) (omega arith))
    (All-cons IsSafe low [] (digit-safe (b % 16) (omega arith)) (All-nil IsSafe))))

pub spelled-safe : (b : ℕ) → All IsSafe (spelled b)
spelled-safe b = spelled-at b (is_safe b) refl

pub escaped-safe : (bs : List ℕ) → All IsSafe (escaped bs)
escaped-safe [] = All-nil IsSafe
escaped-safe (b ∷ bs) = All-append IsSafe (spelled b) (escaped bs) (spelled-safe b) (escaped-safe bs)

pub safe_of : (text bs : List ℕ) → text ≡ escaped bs → All IsSafe text
safe_of text bs same = let P : List ℕ → Type 0 = λ t. All IsSafe t in subst P (sym same) (escaped-safe bs)
