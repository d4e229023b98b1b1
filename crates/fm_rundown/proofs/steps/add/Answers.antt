use Rattle.fm_rundown.proofs.Words.{enters}
use Rattle.fm_rundown.proofs.Counts.{enters_keeps}
use Rattle.fm_rundown.proofs.Kept.{may_step}
use Rattle.fm_rundown.proofs.steps.add.Goals as goal

pub fetch_add-requires : goal.fetch_add-requires
fetch_add-requires c =
    may_step enters enters_keeps c.args.shared.now.key c.args.shared.now.table_id c.args.seat.now c.args.volume
    c.requires.own c.requires.volume c.requires.may
