-- What the lines of a scenario say.
use Rattle.std.specs.Prelude.{◌≡◌, ◌⊎◌, ◌==◌, ◌++◌, ◌∷◌, [], ⊤, ℕ, List, Bool, true, false, Some, bytes_eq, codes, map, nat_eq}
use Rattle.std.specs.Borrow.{Bor}
use Rattle.std.specs.Iterator.{Drains}
use Rattle.std.specs.List.{slice_split}
use Rattle.std.specs.Str.Iter.{split_ascii_whitespace_steps, split_ascii_whitespace_text}
use Rattle.fm_types.specs.Statuses.{number_of}
use Rattle.fm_callback_data.specs.declared.request.Reply.{Reply}
use Rattle.fm_callback_data.specs.declared.request.Reply.TheVariants as reply
use Rattle.fm_words.specs.Hexadecimal.{hex_of}
use Rattle.fm_words.specs.Numbers.{number_read}
use Rattle.fm_cli.specs.Requests.{Names}
use Rattle.fm_mistakes.specs.Mistakes.{mistake_read}
use Rattle.fm_trial.specs.declared.expectation.Expectation.{Expectation}
use Rattle.fm_trial.specs.declared.expectation.Expectation.TheVariants as expectation
use Rattle.fm_trial.specs.declared.line.ScenarioLine.{ScenarioLine}
use Rattle.fm_trial.specs.declared.line.ScenarioLine.TheVariants as line

-- ---- texts

-- the lines of a text: what stands between its line feeds
abbrev pub text_lines : List ℕ → List (List ℕ)
text_lines text = slice_split (λ b. b == 10) text

-- a line as it stands there, or without the carriage return at its end
abbrev pub IsWithoutReturn : List ℕ → List ℕ → Type 0
IsWithoutReturn whole line = (line ≡ whole) ⊎ (whole ≡ line ++ 13 ∷ [])

-- the words of a line, as it is divided at ASCII white space
abbrev pub AreWords : List ℕ → List (Bor (List ℕ)) → Type 0
AreWords line words = (divided : _) × (split_ascii_whitespace_text divided ≡ line) × Drains split_ascii_whitespace_steps divided words

-- ---- expectations

-- the words behind `expect`: `N` or `status N`, `bytes HEX`, `held`, `told ID`
abbrev pub IsSpelled : Expectation → List (List ℕ) → Type 0
IsSpelled (expectation.Status number) words =
    (spelled : List ℕ) × ((words ≡ spelled ∷ []) ⊎ (words ≡ codes "status" ∷ spelled ∷ [])) × (number_read spelled ≡ Some number)
IsSpelled (expectation.Bytes bytes) words = words ≡ codes "bytes" ∷ hex_of bytes.items ∷ []
IsSpelled expectation.Held words = words ≡ codes "held" ∷ []
IsSpelled (expectation.Told mistake) words = (id : List ℕ) × (words ≡ codes "told" ∷ id ∷ []) × (mistake_read id ≡ Some mistake)

-- whether a reply is as expected; what was told with it isn't its own
abbrev pub reply_meets : Expectation → Reply → Bool
reply_meets (expectation.Status number) (reply.Done status information bytes) = nat_eq (number_of status) number
reply_meets (expectation.Bytes wanted) (reply.Done status information bytes) = bytes_eq bytes wanted.items
reply_meets expectation.Held (reply.Held operation) = true
reply_meets _ _ = false

-- ---- lines

-- a line of these words says that
abbrev pub IsSaid : List (List ℕ) → ScenarioLine → Type 0
IsSaid words line.Nothing = (words ≡ []) ⊎ ((rest : List ℕ) × (others : List (List ℕ)) × (words ≡ (35 ∷ rest) ∷ others))
IsSaid words (line.Request body) = Names words (Some body)
IsSaid words (line.Expect expected) = (behind : List (List ℕ)) × (words ≡ codes "expect" ∷ behind) × IsSpelled expected behind
IsSaid words line.Unknown = ⊤

abbrev pub Says : List ℕ → ScenarioLine → Type 0
Says text said = (words : List (Bor (List ℕ))) × AreWords text words × IsSaid (map (λ word. word.now) words) said
