use Rattle.std.proofs.Common.{refl}
use Rattle.fm_device.proofs.bases.Bases.of.Goals as goal

pub returns : goal.returns
returns g c = rw c.from.ensures (refl, record { writes_back = tt; item = rw c.from.ensures at c.get_mut.ensures.item })
