use Rattle.fm_rundown.proofs.Words.{looks}
use Rattle.fm_rundown.proofs.Counts.{looks_keeps}
use Rattle.fm_rundown.proofs.Kept.{may_step}
use Rattle.fm_rundown.proofs.steps.read.Goals as goal

pub load-requires : goal.load-requires
load-requires c =
    may_step looks looks_keeps c.args.shared.now.key c.args.shared.now.table_id c.args.seat.now c.args.volume
    c.requires.own c.requires.volume tt
