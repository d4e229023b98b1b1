-- The text of a path is ASCII, and so UTF-8.
use Rattle.std.specs.Prelude.{ℕ, ◌<◌, List, length, get_or, Result, Ok, Err, IsOk, MatchResult, refl}
use Rattle.std.proofs.Common.{arith, inl, inr}
use Rattle.std.proofs.lemmas.Bool.{cases_lt}
use Rattle.std.proofs.lemmas.List.{get_or_past}
use Rattle.std.proofs.lemmas.Str.{IsUtf8-from_ascii}
use Rattle.std.specs.Str.{IsUtf8}
use Rattle.fm_types.specs.Paths.{IsPath}

small : (text : List ℕ) → IsPath text → (i : ℕ) → get_or text i 0 < 128
small text path i = elim (cases_lt i (length text)) [
  | inl within ↦ let byte = path.characters i 0 within in omega arith
  | inr past ↦ let none = get_or_past text i 0 past in omega arith
]

-- what is told of a text that is UTF-8 alone holds of a path's
pub path_is_text : {T E : Type 0} (text : List ℕ) (read : Result T E) (Good : T → Type 0) (Bad : E → Type 0) → IsPath text
    → MatchResult read Good (λ e. ¬ (IsUtf8 text) × Bad e) → IsOk read
path_is_text text (Ok value) Good Bad path told = refl
path_is_text text (Err e) Good Bad path told = absurd (told.0 (IsUtf8-from_ascii text (small text path)))
