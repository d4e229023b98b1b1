-- What a manager ends as, where a `&mut` to one of its file systems is returned.
use Rattle.std.specs.Prelude.{Option}
use Rattle.fm_local.specs.Words.{VolumeId, Parts}
use Rattle.std.specs.Borrow.{Fml, LendsIf, MutBor, RattleType}
use Rattle.std.specs.Vec.{with_item}
use Rattle.fm_local.specs.contracts.manager.LocalManager as manager
use Rattle.fm_local.specs.contracts.parts.Parts as parts

-- once the borrow ends, the volume has the file system that was last written through it, and where there is none the manager stays as it is
abbrev pub LendsBase : (F B : RattleType) → MutBor (Parts F.Denot B.Denot) → VolumeId → Option (MutBor B.Denot) → Fml
LendsBase F B m v r = LendsIf (manager.the_row F B) B m r
    (λ base. record m.now { bases = record m.now.bases { all = with_item m.now.bases.all v.0 base } }) m.now

-- so it is of its parts
abbrev pub LendsOf : (F B : RattleType) → MutBor (Parts F.Denot B.Denot) → VolumeId → Option (MutBor B.Denot) → Fml
LendsOf F B m v r = LendsIf (parts.the_row F B) B m r (λ base. record m.now { bases = record m.now.bases { all = with_item m.now.bases.all v.0 base } }) m.now
