use Rattle.fm_ctx.proofs.Words.{ap, arith, length, Row, List}
use Rattle.fm_ctx.proofs.Stored.{length-rows}
use Rattle.fm_ctx.proofs.store.Rows.len.Goals as goal

pub returns : goal.returns
returns c =
    omega (
      arith,
      c.len.ensures,
      length-rows c.self.inside.slots.slots c.self.inside.lasts.items,
      ap (λ (rows : List Row). length rows) c.self.view_is,
      c.self.inside.lasts.ok.0,
    )
