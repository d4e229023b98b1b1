use Rattle.fm_script.proofs.Going.{goes_pre}
use Rattle.fm_script.proofs.interpreter.Interpreter.answer_pre.Goals as goal

-- src/interpreter/go.rt:75:5
pub returns : goal.returns
returns c =
    goes_pre c.args.worker c.args.operation c.planned-verdict.result c.pre-outcome.result c.args.self.now c.pre-outcome.new.self
    c.pre-outcome.ensures.event c.pre-outcome.ensures.rest
