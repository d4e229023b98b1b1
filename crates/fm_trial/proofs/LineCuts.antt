-- The lines of a text, one after the other.
use Rattle.std.proofs.Common.{◌≡◌, ◌==◌, ◌<◌, [], ◌∷◌, ◌++◌, ℕ, List, Bor, append_assoc, ap, ◌∙◌, sym, length, map, arith}
use Rattle.std.proofs.lemmas.List.{map-append}
use Rattle.std.proofs.lemmas.List.Splits.{slice_split_first, slice_split_none}
use Rattle.std.proofs.lemmas.List.Sums.{fails_before_first}
use Rattle.std.specs.List.{after_first, before_first, position_or_len}
use Rattle.fm_trial.specs.Lines.{text_lines}

-- the next line is the first of those that are left
pub next_line : (left line behind : List ℕ) → line ≡ before_first (λ b. b == 10) left → behind ≡ after_first (λ b. b == 10) left
    → position_or_len (λ b. b == 10) left < length left → text_lines left ≡ line ∷ text_lines behind
next_line left line behind front back inside = rw front (rw back (slice_split_first (λ b. b == 10) left 0 inside))

-- where there is no line feed one line is left
pub last_line : (left : List ℕ) → position_or_len (λ b. b == 10) left ≡ length left → text_lines left ≡ left ∷ []
last_line left none = slice_split_none (λ b. b == 10) left (λ k d inside. fails_before_first (λ b. b == 10) left k d (omega (arith, none)))

pub one_more : (done : List (Bor (List ℕ))) (line : Bor (List ℕ)) (left more all : List (List ℕ))
    → map (λ l. l.now) done ++ left ≡ all → left ≡ line.now ∷ more → map (λ l. l.now) (done ++ line ∷ []) ++ more ≡ all
one_more done line left more all before is =
    ap (λ (ls : List (List ℕ)). ls ++ more) (map-append (λ (l : Bor (List ℕ)). l.now) done (line ∷ []))
    ∙ append_assoc (map (λ (l : Bor (List ℕ)). l.now) done) (line.now ∷ []) more
    ∙ ap (λ (ls : List (List ℕ)). map (λ (l : Bor (List ℕ)). l.now) done ++ ls) (sym is) ∙ before

-- so with the last one
pub all_lines : (done : List (Bor (List ℕ))) (line : Bor (List ℕ)) (left all : List (List ℕ))
    → map (λ l. l.now) done ++ left ≡ all → left ≡ line.now ∷ [] → map (λ l. l.now) (done ++ line ∷ []) ≡ all
all_lines done line left all before is =
    map-append (λ (l : Bor (List ℕ)). l.now) done (line ∷ []) ∙ ap (λ (ls : List (List ℕ)). map (λ (l : Bor (List ℕ)). l.now) done ++ ls) (sym is) ∙ before
