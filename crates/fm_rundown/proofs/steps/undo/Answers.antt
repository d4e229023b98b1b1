use Rattle.fm_rundown.proofs.Words.{undoes}
use Rattle.fm_rundown.proofs.Counts.{undoes_keeps}
use Rattle.fm_rundown.proofs.Kept.{may_step}
use Rattle.fm_rundown.proofs.steps.undo.Goals as goal

pub fetch_sub-requires : goal.fetch_sub-requires
fetch_sub-requires c =
    may_step undoes undoes_keeps c.args.shared.now.key c.args.shared.now.table_id c.args.seat.now c.args.volume
    c.requires.own c.requires.volume c.requires.may
