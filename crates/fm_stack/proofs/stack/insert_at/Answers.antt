use Rattle.fm_stack.proofs.Words.{set_is_updated, Seat}
use Rattle.std.proofs.Common.{List}
use Rattle.std.specs.List.{insert}
use Rattle.fm_stack.proofs.stack.insert_at.Goals as goal

pub returns : goal.returns
returns c =
    set_is_updated (λ (seats : List Seat). insert seats c.args.place c.args.seat) c.args.orders.now.items c.args.at c.index_mut.result.now c.insert.new.self
    c.requires.there c.index_mut.ensures.value c.insert.ensures
