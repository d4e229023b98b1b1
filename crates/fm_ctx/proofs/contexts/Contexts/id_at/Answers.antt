use Rattle.std.proofs.Common.{◌<◌, ◌∙◌}
use Rattle.fm_ctx.proofs.Words.{length, ap, arith, length-map, ContextsKept, slot_of, id_at}
use Rattle.fm_ctx.proofs.Rows.{id_of_row}
use Rattle.fm_ctx.proofs.contexts.Contexts.id_at.Goals as goal

pub generation-generation-requires : goal.generation-generation-requires
generation-generation-requires c =
    omega (arith, c.requires, length-map c.self.inside.rows slot_of, ap (λ (k : ContextsKept). length k.table.slots) c.self.view_is)

pub overflow_cast-result : goal.overflow_cast-result
overflow_cast-result c =
    omega (arith, c.requires, c.self.invariant.sound.lawful.few, ap (λ (k : ContextsKept). length k.table.slots) c.self.view_is)

pub returns : goal.returns
returns c =
    let rows = c.self.inside.rows in
    let shows = ap (λ (k : ContextsKept). k.table.slots) c.self.view_is in
    let within : c.args.slot < length rows = omega (arith, c.requires, ap length shows, length-map rows slot_of) in
    id_of_row rows c.args.slot c.generation-generation.result within c.generation-generation.ensures ∙ ap (λ slots. id_at slots c.args.slot) shows
