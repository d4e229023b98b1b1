use Rattle.std.proofs.Common.{rules}
use Rattle.fm_lock.proofs.Running.{goes_on}
use Rattle.fm_lock.proofs.locked.Locked.step.Goals as goal

-- src/locked.rt:92:5
pub invariant_of-self : goal.invariant_of-self
invariant_of-self g c =
    let held = c.self.invariant in
    record {
      run = goes_on c.self.inside.state c.args.step c.step-reply.result c.step-reply.new.self c.step-reply.ensures.event held.run;
      book = search rules;
      none = held.none;
      shares = held.shares;
    }
