use Rattle.fm_script.proofs.Telling.{told_list}
use Rattle.fm_script.proofs.interpreter.Interpreter.tell_alone.Goals as goal

pub returns-in-Ok : goal.returns-in-Ok
returns-in-Ok c =
    told_list (λ kept. kept.items) c.args.task c.in-Ok.said c.list_of.result c.args.self.now c.perform.new.self c.in-Ok.ensures c.list_of.ensures
