use Rattle.fm_script.specs.Runs.{Goes}
use Rattle.fm_script.proofs.interpreter.Interpreter.go.Given as goal

abbrev pub invariant-loop : goal.invariant-loop
invariant-loop g l = Goes l.fn.worker l.fn.operation l.fn.self l.self
