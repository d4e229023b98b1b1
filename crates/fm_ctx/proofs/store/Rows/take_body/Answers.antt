use Rattle.std.proofs.Common.{◌∙◌}
use Rattle.fm_ctx.proofs.Words.{ℕ, List, [], refl, sym, ap, Row, row_with}
use Rattle.fm_ctx.proofs.Stored.{has_entry, row_now, changed_now}
use Rattle.std.specs.Global.{Vec}
use Rattle.fm_ctx.specs.Stored.{open_row}
use Rattle.fm_ctx.proofs.store.Rows.take_body.Goals as goal

pub index_mut-entry-requires : goal.index_mut-entry-requires
index_mut-entry-requires c = has_entry c.self.inside.slots.slots c.self.inside.lasts.items c.self.view_is c.args.slot c.requires.there

pub returns-clause-body : goal.returns-clause-body
returns-clause-body c d =
    ap (λ (v : Vec ℕ). v.items) c.replace.ensures.value ∙ sym
    (ap (λ (r : Row). r.body) (row_now c.self.inside.slots.slots c.self.inside.lasts.items c.self.view_is c.args.slot
    c.requires.there c.index_mut-entry.result.now d c.index_mut-entry.ensures.value))

pub returns-clause-rest : goal.returns-clause-rest
returns-clause-rest c =
    changed_now c.self.inside.slots.slots c.self.inside.lasts.items c.self.view_is c.args.slot c.requires.there
    c.index_mut-entry.result.now (record c.index_mut-entry.result.now { body = c.replace.new.dest })
    (row_with []) c.index_mut-entry.ensures.value refl
    (λ h. ap (λ (b : List ℕ). row_with b (open_row h c.index_mut-entry.result.now)) (ap (λ (v : Vec ℕ). v.items) c.replace.ensures.after ∙ c.requires.bare))
