use Rattle.std.proofs.Common.{◌<◌, length, rules}
use Rattle.fm_session.proofs.Passes.{passes}
use Rattle.fm_session.proofs.session.Session.pass.Goals as goal

pub returns : goal.returns
returns c =
    let within : c.args.worker.0 < length c.self.inside.lent.items = search rules in
    passes _ _ _ _ c.args.worker c.args.operation c.args.verdicts.now c.in_ok-passed.passed c.self.view_is c.lend_nothing.ensures
    within c.in_ok-passed.ensures.event
