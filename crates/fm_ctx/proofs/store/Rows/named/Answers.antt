use Rattle.std.proofs.Common.{◌∙◌}
use Rattle.fm_ctx.proofs.Words.{Option, sym, ap, arith, nat_tests, get_or}
use Rattle.std.proofs.lemmas.List.{get_or_default}
use Rattle.fm_ctx.specs.declared.entry.Entry.{Entry}
use Rattle.fm_ctx.specs.Stored.{named_row}
use Rattle.fm_ctx.proofs.Stored.{found_by, named_now, named_at, given_now}
use Rattle.fm_ctx.proofs.store.Rows.named.Goals.{then-entry-via-then-entry, then-entry-via-else-entry+then-id-index}
use Rattle.fm_ctx.proofs.store.Rows.named.Goals as goal

pub index-requires : goal.index-requires
index-requires c =
    omega (arith, given_now c.self.invariant c.args.id.slot c.in-Some.entry.now (sym c.in-Some.ensures), c.self.inside.lasts.ok.0)

pub returns-in_default : goal.returns-in_default
returns-in_default c =
    ap (λ (o : Option Entry). named_row c.args.id (found_by c.args.id (get_or c.self.inside.lasts.items c.args.id.slot 0) o))
    c.in_default.ensures ∙ named_now c.self.invariant c.self.view_is c.args.id

pub returns-then-entry : goal.returns-then-entry
returns-then-entry c =
    let found = named_at c.self.invariant c.self.view_is c.args.id c.in-Some.entry.now (sym c.in-Some.ensures) in
    elim c.then-entry.branch [
      | then-entry-via-then-entry w ↦ grind (arith, nat_tests, found, w.if-entry.true)
      | then-entry-via-else-entry+then-id-index w ↦
          let last = get_or_default c.self.inside.lasts.items c.args.id.slot w.index.result.now 0
          (given_now c.self.invariant c.args.id.slot c.in-Some.entry.now (sym c.in-Some.ensures)) in
          grind (arith, nat_tests, found, w.if-entry.false, w.index.ensures, last, w.if-id-index.true)
    ]

pub returns : goal.returns
returns c =
    let found = named_at c.self.invariant c.self.view_is c.args.id c.in-Some.entry.now (sym c.in-Some.ensures) in
    let last = get_or_default c.self.inside.lasts.items c.args.id.slot c.index.result.now 0
    (given_now c.self.invariant c.args.id.slot c.in-Some.entry.now (sym c.in-Some.ensures)) in
    grind (arith, nat_tests, found, c.if-entry.false, c.index.ensures, last, c.if-id-index.false)
