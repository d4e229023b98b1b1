-- What a script makes, from its first line to its end.
use Rattle.std.specs.Prelude.{◌≡◌, ◌⊎◌, ℕ, List, [], Option, Result, Err, replicate}
use Rattle.fm_world.specs.World.{empty_world}
use Rattle.fm_session.specs.declared.lent.Lent.TheVariants as lent
use Rattle.fm_script.specs.Devices.{AreFresh}
use Rattle.fm_script.specs.Lines.{RunsLine}
use Rattle.fm_script.specs.Listening.{ReadsLines}
use Rattle.fm_script.specs.Printing.{HandsOver, printed}
use Rattle.fm_script.specs.declared.interpreter.Interpreter.{Interpreter}
use Rattle.fm_script.specs.declared.runner.Runner.{Runner}
use Rattle.fm_script.specs.declared.script_end.ScriptEnd.{ScriptEnd}
use Rattle.fm_script.specs.declared.script_end.ScriptEnd.TheVariants.{Ended, NoMemory}

-- no line was run
pub record IsFirst (interpreter : Interpreter) : Type 0 where
  pub world : interpreter.session.world ≡ empty_world
  pub lent : interpreter.session.lent ≡ replicate 48 lent.Nothing
  pub devices : AreFresh interpreter.devices
  pub plans : interpreter.plans.items ≡ []
  pub contexts : interpreter.contexts.ids ≡ []

module _ {W : Type 0} (contents : W → Option (List ℕ)) where
  -- a runner takes a line
  abbrev pub Takes : Runner W → List ℕ → Result (Unit {0}) ScriptEnd → Runner W → Type 0
  Takes old line result new =
      RunsLine line result old.interpreter new.interpreter (printed contents old.output) (printed contents new.output) × (result ≡ Err Ended → ⊥)

  -- a runner hands over what it printed
  abbrev pub Pauses : Runner W → Result (Unit {0}) ScriptEnd → Runner W → Type 0
  Pauses old result new = (new.interpreter ≡ old.interpreter) × HandsOver result (printed contents old.output) (printed contents new.output)

  -- the lines of what was read were run one after the other, from a manager to which nothing had happened; what that printed was written, so far as that is
  -- known
  pub record RunsLines (end : ScriptEnd) (read written left given : Option (List ℕ)) : Type 0 where
    pub first : Runner W
    pub last : Runner W
    pub begins : IsFirst first.interpreter
    pub nothing : printed contents first.output ≡ record { given = written; held = [] }
    pub reads : ReadsLines Takes Pauses end first read left last
    pub is_given : given ≡ contents last.output.writer

  -- or there was no memory to begin
  abbrev pub RunsScript : ScriptEnd → Option (List ℕ) → Option (List ℕ) → Option (List ℕ) → Option (List ℕ) → Type 0
  RunsScript end read written left given =
      RunsLines end read written left given ⊎ ((end ≡ NoMemory) × (left ≡ read) × (given ≡ written))
