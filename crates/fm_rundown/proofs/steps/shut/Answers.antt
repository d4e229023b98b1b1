use Rattle.fm_rundown.proofs.Words.{closes}
use Rattle.fm_rundown.proofs.Counts.{closes_keeps}
use Rattle.fm_rundown.proofs.Kept.{may_step}
use Rattle.fm_rundown.proofs.steps.shut.Goals as goal

pub fetch_or-requires : goal.fetch_or-requires
fetch_or-requires c =
    may_step closes closes_keeps c.args.shared.now.key c.args.shared.now.table_id c.args.seat.now c.args.volume
    c.requires.own c.requires.volume tt
