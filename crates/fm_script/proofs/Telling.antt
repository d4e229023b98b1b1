-- A task whose line is a value, and what is so of that value.
use Rattle.std.proofs.Common.{◌≡◌, ◌∷◌, [], List, Option, Some, Result, Ok, Err, subst, sym}
use Rattle.std.specs.Prelude.{IfOk, IfSome}
use Rattle.fm_script.specs.Words.{Task}
use Rattle.fm_script.specs.Runs.{Acts, Performs}
use Rattle.fm_script.specs.declared.interpreter.Interpreter.{Interpreter}
use Rattle.fm_script.specs.declared.said.Said.{Said}
use Rattle.fm_script.specs.declared.script_end.ScriptEnd.{ScriptEnd}
use Rattle.fm_script.specs.declared.task.Task.TheVariants as task

acts : {P Q : Said → Type 0} (t : Task) (old new : Interpreter) → ((line : Said) → P line → Q line) → Acts t P old new → Acts t Q old new
acts (task.Event s) old new then (r, made, is) = (r, made, then _ is)
acts (task.Next k o) old new then (r, event, rest, is) = (r, event, rest, then _ is)
acts (task.Pre k answer) old new then (r, event, rest, is) = (r, event, rest, then _ is)
acts (task.Base k) old new then (r, event, lists, is) = (r, event, lists, then _ is)
acts (task.Post k answer) old new then (r, event, rest, is) = (r, event, rest, then _ is)
acts t old new then own = absurd own

performs : {P Q : Said → Type 0} (t : Task) (old new : Interpreter) → ((line : Said) → P line → Q line) → Performs t P old new → Performs t Q old new
performs (task.Attach f v name altitude) old new then (r, attaches, lent, rest, is) = (r, attaches, lent, rest, then _ is)
performs (task.Go k o) old new then goes = goes
performs (task.Plan i answer) old new then (plans, is) = (plans, then _ is)
performs (task.Fail n) old new then (fails, is) = (fails, then _ is)
performs (task.Phase i) old new then (same, is) = (same, then _ is)
performs (task.Flight i) old new then (same, is) = (same, then _ is)
performs (task.Count c) old new then (same, is) = (same, then _ is)
performs task.Leaks old new then (same, is) = (same, then _ is)
performs task.Failures old new then (same, is) = (same, then _ is)
performs (task.Event s) old new then own = acts (task.Event s) old new then own
performs (task.Next k o) old new then own = acts (task.Next k o) old new then own
performs (task.Pre k answer) old new then own = acts (task.Pre k answer) old new then own
performs (task.Base k) old new then own = acts (task.Base k) old new then own
performs (task.Post k answer) old new then own = acts (task.Post k answer) old new then own

pub told : (t : Task) (m : Option Said) (Q : Said → Type 0) (old new : Interpreter) → Performs t (λ line. m ≡ Some line) old new
    → IfSome m Q → Performs t Q old new
told t m Q old new own some = performs t old new (λ line is. subst (λ (x : Option Said). IfSome x Q) is some) own

pub told_one : (t : Task) (m : Option Said) (line : Said) (Q : Said → Type 0) (old new : Interpreter) → m ≡ Some line
    → Performs t (λ own. m ≡ Some own) old new → Q line
    → Performs t Q old new
told_one t m line Q old new is own holds = told t m Q old new own (subst (λ (x : Option Said). IfSome x Q) (sym is) holds)

pub told_list : {A : Type 0} (items : A → List Said) (t : Task) (m : Option Said) (r : Result A ScriptEnd) (old new : Interpreter)
    → Performs t (λ line. m ≡ Some line) old new → IfOk r (λ kept. IfSome m (λ line. items kept ≡ line ∷ []))
    → IfOk r (λ kept. Performs t (λ line. items kept ≡ line ∷ []) old new)
told_list items t m (Ok kept) old new own some = told t m (λ line. items kept ≡ line ∷ []) old new own some
told_list items t m (Err end) old new own some = tt
