use Rattle.fm_script.proofs.Going.{goes_base}
use Rattle.fm_script.proofs.interpreter.Interpreter.answer_base.Goals as goal

pub returns : goal.returns
returns c = goes_base c.args.worker c.args.operation c.base.result c.args.self.now c.base.new.self c.base.ensures.event c.base.ensures.lists
