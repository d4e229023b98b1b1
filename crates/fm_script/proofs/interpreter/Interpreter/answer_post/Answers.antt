use Rattle.fm_script.proofs.Going.{goes_post}
use Rattle.fm_script.proofs.interpreter.Interpreter.answer_post.Goals as goal

pub returns : goal.returns
returns c = goes_post c.args.worker c.args.operation c.post.result c.args.self.now c.post.new.self c.post.ensures.event c.post.ensures.rest
