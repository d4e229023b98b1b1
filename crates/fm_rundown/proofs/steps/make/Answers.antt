use Rattle.std.proofs.Common.{arith}
use Rattle.fm_rundown.proofs.Kept.{splits}
use Rattle.fm_rundown.proofs.steps.make.Goals as goal

pub split_seat-requires : goal.split_seat-requires
split_seat-requires c = (
  c.requires.own.0,
  omega (arith, c.requires.own.2.0),
  splits c.args.shared.now.key c.args.seat.now.id c.args.seat.now.me.0 c.requires.some,
)
