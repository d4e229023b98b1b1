use Rattle.fm_local.proofs.Words.{WORKER}
use Rattle.fm_local.proofs.operations.ManagerRequests.{runs}
use Rattle.fm_local.proofs.parts.Parts.run_alone.Goals as goal

pub returns-clause-runs : goal.returns-clause-runs
returns-clause-runs g c =
    runs g.F.Minifilter g.B.Base WORKER c.args.operation c.args.self.now c.carry-ended.new.self c.reply_after.new.self
    c.carry-ended.result c.reply_after.result c.carry-ended.ensures.carried c.carry-ended.ensures.quiet c.carry-ended.ensures.kept
    c.reply_after.ensures.answer c.reply_after.ensures.kept

pub returns-clause-out : goal.returns-clause-out
returns-clause-out g c out = c.reply_after.ensures.out (c.carry-ended.ensures.out out)

pub returns-clause-goes : goal.returns-clause-goes
returns-clause-goes g c = (c.carry-ended.result, c.carry-ended.new.self, c.carry-ended.ensures.goes, c.carry-ended.ensures.kept, c.reply_after.ensures.replies)

pub returns-clause-waits : goal.returns-clause-waits
returns-clause-waits g c waits apart =
    let carried = c.carry-ended.ensures.waits waits apart in c.reply_after.ensures.waits carried.0 carried.1
