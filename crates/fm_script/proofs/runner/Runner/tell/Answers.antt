use Rattle.std.proofs.Common.{inl}
use Rattle.fm_script.specs.Printing.{Says, printed}
use Rattle.fm_script.proofs.Telling.{told_one}
use Rattle.fm_script.proofs.runner.Runner.tell.Goals as goal

pub returns-in-Ok-Some-clause-performs : goal.returns-in-Ok-Some-clause-performs
returns-in-Ok-Some-clause-performs g c =
    inl
    (told_one c.args.task c.in-Ok-Some.field-0 c.in-Ok-Some.said
    (λ line. Says line c.say.result (printed g.W.Write.contents c.args.self.now.output) (printed g.W.Write.contents c.say.new.self))
    c.args.self.now.interpreter c.perform.new.self c.in-Ok-Some.field-0-is c.in-Ok-Some.ensures c.say.ensures.says)
