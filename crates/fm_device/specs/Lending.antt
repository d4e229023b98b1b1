-- What the bases of volumes end as, where a `&mut` to one of them is returned.
use Rattle.std.specs.Prelude.{Option}
use Rattle.std.specs.Borrow.{Fml, LendsIf, MutBor, RattleType}
use Rattle.std.specs.Vec.{with_item}
use Rattle.fm_types.specs.declared.ids.VolumeId.{VolumeId}
use Rattle.fm_device.specs.declared.bases.Bases.{Bases}
use Rattle.fm_device.specs.contracts.bases.Bases.{the_row}

-- once the borrow ends, the volume has the base that was last written through it, and where there is none all stay as they are
abbrev pub LendsBase : (B : RattleType) → MutBor (Bases B.Denot) → VolumeId → Option (MutBor B.Denot) → Fml
LendsBase B bases v r = LendsIf (the_row B) B bases r (λ base. record bases.now { all = with_item bases.now.all v.0 base }) bases.now
