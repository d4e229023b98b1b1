use Rattle.fm_local.proofs.Words.{◌∙◌, sym}
use Rattle.fm_local.proofs.queues.Waits.{none_of}
use Rattle.fm_local.proofs.parts.Parts.step.Goals as goal

pub returns-clause-between : goal.returns-clause-between
returns-clause-between g c before =
    record {
      waits = (c.step_on.ensures.waits before.waits (none_of _ _ (sym c.waits.ensures ∙ c.if-waits.false))).0;
      out = c.step_on.ensures.out before.out;
      none_due = c.step_on.ensures.none_due;
    }
