use Rattle.fm_ctx.proofs.Words.{ap, ContextsKept}
use Rattle.fm_ctx.proofs.Sweeping.{on_seats, next_read}
use Rattle.fm_ctx.proofs.contexts.Contexts.next_on.Goals as goal

pub after-requires : goal.after-requires
after-requires c =
    let shows = ap (λ (k : ContextsKept). k.table.slots) c.self.view_is in
    record {
      chain = c.requires.chain;
      above = on_seats c.self.inside.rows c.args.chain c.self.invariant.seated shows c.args.above c.requires.above;
    }

pub returns : goal.returns
returns c =
    let shows = ap (λ (k : ContextsKept). k.table.slots) c.self.view_is in
    next_read c.self.inside.rows c.args.chain c.self.invariant.seated shows c.args.above c.after.result c.after.ensures
