use Rattle.fm_stack.proofs.Words.{set_is_updated, Seat}
use Rattle.std.proofs.Common.{List}
use Rattle.std.specs.List.{remove}
use Rattle.fm_stack.proofs.stack.remove_at.Goals as goal

pub returns : goal.returns
returns c =
    set_is_updated (λ (seats : List Seat). remove seats c.args.place) c.args.orders.now.items c.args.at c.index_mut.result.now c.remove.new.self
    c.requires.there c.index_mut.ensures.value c.remove.ensures
