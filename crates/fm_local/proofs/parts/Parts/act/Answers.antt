use Rattle.fm_local.proofs.Words.{Ok, ◌∙◌, ap}
use Rattle.fm_local.specs.Waits.{is_among}
use Rattle.fm_local.proofs.parts.Parts.act.Goals as goal

pub returns-in-Ok-Drain-clause-makes : goal.returns-in-Ok-Drain-clause-makes
returns-in-Ok-Drain-clause-makes g c =
    rw (c.in-Ok-Drain.is ∙ ap Ok c.in-Ok-Drain.field-0-is) (
      c.drain_next.result,
      c.drain_next.ensures.called,
      c.drain_next.ensures.ends,
      ap (λ m. m.bases.all.items) c.drain_next.ensures.kept,
    )

pub returns-in-Ok-Pre-clause-waits : goal.returns-in-Ok-Pre-clause-waits
returns-in-Ok-Pre-clause-waits g c there waits apart =
    c.pre.ensures.waits (rw (c.in-Ok-Pre.is ∙ ap Ok c.in-Ok-Pre.field-0-is) at there) waits

pub returns-in-Ok-Post-clause-waits : goal.returns-in-Ok-Post-clause-waits
returns-in-Ok-Post-clause-waits g c there waits apart =
    c.post.ensures.waits (rw (c.in-Ok-Post.is ∙ ap Ok c.in-Ok-Post.field-0-is) at there) waits

pub returns-in-Ok-Drain-clause-waits : goal.returns-in-Ok-Drain-clause-waits
returns-in-Ok-Drain-clause-waits g c there waits apart =
    c.drain_next.ensures.waits (rw (c.in-Ok-Drain.is ∙ ap Ok c.in-Ok-Drain.field-0-is) at there) waits

pub returns-in-Ok-Base-clause-waits : goal.returns-in-Ok-Base-clause-waits
returns-in-Ok-Base-clause-waits g c there waits apart = (
  c.call.ensures.waits waits,
  (
    ap (λ q. is_among c.args.operation q.items.items) c.call.ensures.quiet ∙ apart.0,
    ap (λ m. is_among c.args.operation m.finished.items.items) c.call.ensures.kept ∙ apart.1,
  ),
)
