use Rattle.std.proofs.Common.{◌∙◌, ◌==◌, not}
use Rattle.fm_ctx.proofs.Words.{ℕ, ap, ap₂, Row, List, slots_of}
use Rattle.fm_ctx.specs.Births.{has_free_slot}
use Rattle.fm_ctx.proofs.Stored.{none_is_free}
use Rattle.fm_ctx.proofs.store.Rows.has_none_free.Goals as goal

pub returns : goal.returns
returns c =
    ap₂ (λ (m n : ℕ). m == n) c.len.ensures (c.len-2.ensures ∙ c.self.inside.lasts.ok.0) ∙ none_is_free c.self.invariant
    ∙ ap (λ (rows : List Row). not (has_free_slot (slots_of rows))) c.self.view_is
