use Rattle.fm_rundown.proofs.Words.{leaves}
use Rattle.fm_rundown.proofs.Counts.{leaves_keeps}
use Rattle.fm_rundown.proofs.Kept.{may_step}
use Rattle.fm_rundown.proofs.steps.release.Goals as goal

pub fetch_sub-requires : goal.fetch_sub-requires
fetch_sub-requires c =
    may_step leaves leaves_keeps c.args.shared.now.key c.args.shared.now.table_id c.args.seat.now c.args.volume
    c.requires.own c.requires.volume c.requires.may
