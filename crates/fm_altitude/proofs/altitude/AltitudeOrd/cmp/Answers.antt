use Rattle.fm_altitude.specs.Total.{altitude_cmp-parts}
use Rattle.fm_altitude.proofs.altitude.AltitudeOrd.cmp.Goals as goal

pub returns : goal.returns
returns c = rw (altitude_cmp-parts c.args.self.now c.args.other.now) (cc)
