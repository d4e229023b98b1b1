use Rattle.fm_stack.proofs.Words.{set_is_updated, accept_row}
use Rattle.fm_stack.proofs.stack.accept_at.Goals as goal

pub returns : goal.returns
returns c = set_is_updated (accept_row c.args.births) c.args.rows.now.items c.args.at c.index_mut.result.now c.accept.new.self
    c.requires c.index_mut.ensures.value c.accept.ensures
