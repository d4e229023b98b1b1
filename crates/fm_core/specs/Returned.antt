-- What an event that returns a callback or a call answers.
use Rattle.std.specs.Prelude.{Result, Ok, Err}
use Rattle.fm_types.specs.declared.status.Status.{Status}
use Rattle.fm_world.specs.declared.refused.Refused.{Refused}

-- the answer without what it hands back
abbrev pub status_of : {T : Type 0} → Result (Unit {0}) (Refused T) → Result (Unit {0}) Status
status_of (Ok done) = Ok done
status_of (Err refused) = Err refused.status
