-- The lines for an instance that an operation passes.
use Rattle.std.specs.Prelude.{◌≡◌, ◌<◌, ℕ, List, [], None, length, slice_index_or}
use Rattle.fm_core.specs.Passing.{numbered}
use Rattle.fm_callback_data.specs.declared.verdict.PreVerdict.TheVariants as verdict
use Rattle.fm_script.specs.Sayings.{text_with}
use Rattle.fm_script.specs.declared.passed_lines.PassedLine.{PassedLine}
use Rattle.fm_script.specs.declared.said.Said.{Said}
use Rattle.fm_script.specs.declared.said.Said.TheVariants.{Answered, Id}
use Rattle.fm_script.specs.declared.said.Word.TheVariants as word

-- on its way down; what is handed on isn't printed
abbrev pub down_text : ℕ → List ℕ
down_text i = text_with [] (Answered i (verdict.WithCallback (record { number = 0; context = None })))

-- and on its way up
abbrev pub up_text : ℕ → List ℕ
up_text i = text_with [] (Id word.Post 105 i)

abbrev pub line_of : ℕ → PassedLine
line_of i = record { down = down_text i; up = up_text i }

-- each row is that of the instance of its number
abbrev pub AreMade : List PassedLine → Type 0
AreMade rows = (k : ℕ) (d : PassedLine) → k < length rows → slice_index_or rows k d ≡ line_of k

-- what a preoperation that asks for its postoperation is told as
abbrev pub asks_said : ℕ → ℕ → Said
asks_said i number = Answered i (verdict.WithCallback (numbered number))
