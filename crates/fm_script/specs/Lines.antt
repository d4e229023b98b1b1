-- What a line of a script makes: nothing where it is empty, a comment, too long or refused, and else what its command stands for.
use Rattle.std.specs.Prelude.{◌≡◌, ◌⊎◌, ℕ, ◌==◌, Bool, true, nat_lt, List, [], ◌∷◌, length, Option, Some, None, Result, Ok, Err}
use Rattle.fm_script.specs.Words.{Status, BadRequest, ◌>>=◌, Either, words_of, Keyword, Task}
use Rattle.fm_script.specs.Commands.{Creates, ReadsAs, is_create, keyword_read, takes_bytes, with_bytes_read}
use Rattle.fm_words.specs.Hexadecimal.{hex_of, IsNoHexadecimal}
use Rattle.fm_script.specs.Printing.{Printed}
use Rattle.fm_script.specs.Runs.{PerformsRead, Refuses, TellsRead, Wants}
use Rattle.fm_script.specs.declared.interpreter.Interpreter.{Interpreter}
use Rattle.fm_script.specs.declared.said.Said.{Said}
use Rattle.fm_script.specs.declared.script_end.ScriptEnd.{ScriptEnd}

-- a line that asks for nothing
abbrev pub is_silent : List ℕ → Bool
is_silent [] = true
is_silent (b ∷ bs) = b == 35

-- the bytes that a word spells
abbrev pub Spells : List ℕ → Result (List ℕ) Status → Type 0
Spells word (Ok bytes) = hex_of bytes ≡ word
Spells word (Err status) = (status ≡ BadRequest) × IsNoHexadecimal word

-- two words, and one of bytes
abbrev pub ReadsBytes : Keyword → List (List ℕ) → Interpreter → Result Task Status → Type 0
ReadsBytes k (one ∷ other ∷ hex ∷ []) i r =
    (brought : Result (List ℕ) Status) × Spells hex brought
    × (r ≡ (brought >>= λ bytes. with_bytes_read i.session.world i.contexts.ids k (one ∷ other ∷ []) bytes))
ReadsBytes k _ i r = r ≡ Err BadRequest

abbrev pub ReadsBehind : Option Keyword → List (List ℕ) → Interpreter → Result Task Status → Type 0
ReadsBehind None words i r = r ≡ Err BadRequest
ReadsBehind (Some k) words i r =
    Either (is_create k) (Creates i.session.world words r)
    (Either (takes_bytes k) (ReadsBytes k words i r) (ReadsAs i.session.world i.contexts.ids k words r))

-- what the words of a line have to be done, or the refusal
abbrev pub ReadsTask : List (List ℕ) → Interpreter → Result Task Status → Type 0
ReadsTask [] i r = r ≡ Err BadRequest
ReadsTask (word ∷ words) i r = ReadsBehind (keyword_read word) words i r

-- what the words of a line make
abbrev pub RunsWords : List (List ℕ) → Result (Unit {0}) ScriptEnd → Interpreter → Interpreter → Printed → Printed → Type 0
RunsWords words result old new before after =
    ((r : Result Task Status) × ReadsTask words old r × PerformsRead r result old new before after) ⊎ Wants result old new before after

-- a line that asks for nothing makes and prints nothing
abbrev pub IsIgnored : Result (Unit {0}) ScriptEnd → Interpreter → Interpreter → Printed → Printed → Type 0
IsIgnored result old new before after = (result ≡ Ok tt) × (new ≡ old) × (after ≡ before)

-- what a line makes
abbrev pub RunsLine : List ℕ → Result (Unit {0}) ScriptEnd → Interpreter → Interpreter → Printed → Printed → Type 0
RunsLine line result old new before after =
    Either (nat_lt 4096 (length line)) (Refuses BadRequest result old new before after)
    (Either (is_silent line) (IsIgnored result old new before after) (RunsWords (words_of line) result old new before after))

-- what a line makes, and what is told of it: the same, but that each line is told as a value
abbrev pub TellsLine : List ℕ → List Said → Interpreter → Interpreter → Type 0
TellsLine line told old new =
    Either (nat_lt 4096 (length line)) (TellsRead (Err BadRequest) told old new)
    (Either (is_silent line) ((told ≡ []) × (new ≡ old)) ((r : Result Task Status) × ReadsTask (words_of line) old r × TellsRead r told old new))
