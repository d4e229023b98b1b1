-- Where a script prints: its lines are held back until there are enough of them, and then the writer is given them all.
use Rattle.std.specs.Prelude.{◌≡◌, ◌++◌, ℕ, nat_lt, List, [], length, Option, Result, Ok, Err}
use Rattle.std.specs.Io.KnownBytes.{Appends}
use Rattle.fm_script.specs.Reading.{Either}
use Rattle.fm_script.specs.Sayings.{text_with}
use Rattle.fm_script.specs.declared.output.Output.{Output}
use Rattle.fm_script.specs.declared.said.Said.{Said}
use Rattle.fm_script.specs.declared.script_end.ScriptEnd.{ScriptEnd}
use Rattle.fm_script.specs.declared.script_end.ScriptEnd.TheVariants.{NoMemory, WriteFault}

-- what was printed: what the writer has, if it tells, and what is held back
pub record Printed : Type 0 where
  pub given : Option (List ℕ)
  pub held : List ℕ

-- what was printed to an output, by what its writer tells
abbrev pub printed : {W : Type 0} → (W → Option (List ℕ)) → Output W → Printed
printed contents o = record { given = contents o.writer; held = o.text.items }

-- what is held back goes to the writer, and nothing is held back any more; the writer may fail
abbrev pub HandsOver : Result (Unit {0}) ScriptEnd → Printed → Printed → Type 0
HandsOver (Ok done) old new = (new.held ≡ []) × Appends old.given new.given old.held
HandsOver (Err end) old new = (new.held ≡ []) × (end ≡ WriteFault)

-- with one line more that text would be held back: it is, unless there are 8,192 bytes of it or more; or there is no memory for the line
abbrev pub Holds : List ℕ → Result (Unit {0}) ScriptEnd → Printed → Printed → Type 0
Holds text (Err NoMemory) old new = new.given ≡ old.given
Holds text result old new =
    Either (nat_lt (length text) 8192) ((result ≡ Ok tt) × (new ≡ record old { held = text })) (HandsOver result (record old { held = text }) new)

-- a line is printed
abbrev pub Says : Said → Result (Unit {0}) ScriptEnd → Printed → Printed → Type 0
Says line result old new = Holds (text_with old.held line) result old new

-- all that was printed goes to the writer, which is given back, and another one, of which `contents` tells what it has, is printed to from then on; the writer
-- may fail, and stays then
abbrev pub Changes : {W : Type 0} → W → Result W ScriptEnd → Printed → Printed → (W → Option (List ℕ)) → Type 0
Changes other (Ok writer) old new contents = Appends old.given (contents writer) old.held × (new ≡ record { given = contents other; held = [] })
Changes other (Err end) old new contents = (new.held ≡ []) × (end ≡ WriteFault)

-- a text is held back behind the others
abbrev pub Adds : List ℕ → Printed → Printed → Type 0
Adds text old new = new ≡ record old { held = old.held ++ text }
