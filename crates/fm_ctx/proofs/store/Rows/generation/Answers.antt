use Rattle.fm_ctx.proofs.Words.{ap, arith, length, Row, List}
use Rattle.fm_ctx.proofs.Stored.{length-rows, generation_read}
use Rattle.fm_ctx.proofs.store.Rows.generation.Goals as goal

pub index-requires : goal.index-requires
index-requires c =
    omega (
      arith,
      c.requires,
      length-rows c.self.inside.slots.slots c.self.inside.lasts.items,
      ap (λ (rows : List Row). length rows) c.self.view_is,
      c.self.inside.lasts.ok.0,
    )

pub returns : goal.returns
returns c d =
    generation_read c.self.inside.slots.slots c.self.inside.lasts.items c.self.view_is c.args.slot d c.requires c.index.result.now c.index.ensures
