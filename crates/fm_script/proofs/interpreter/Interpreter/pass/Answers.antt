use Rattle.fm_script.proofs.Going.{goes_pass}
use Rattle.fm_script.proofs.interpreter.Interpreter.pass.Goals as goal

pub returns : goal.returns
returns c = goes_pass c.args.worker c.args.operation c.as_slice.result.now c.pass.result c.args.self.now c.pass.new.self c.pass.ensures
