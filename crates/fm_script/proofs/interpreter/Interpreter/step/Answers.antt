use Rattle.fm_script.proofs.Going.{goes_next, goes_then}
use Rattle.fm_script.proofs.interpreter.Interpreter.step.Goals as goal

pub returns-clause-goes : goal.returns-clause-goes
returns-clause-goes g c =
    goes_then c.args.worker c.args.operation c.args.self.now c.next-given.new.self c.answer.new.self
    (goes_next c.args.worker c.args.operation c.next-given.result c.args.self.now c.next-given.new.self c.next-given.ensures.event c.next-given.ensures.rest)
    c.answer.ensures.goes
