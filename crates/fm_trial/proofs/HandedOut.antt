-- One reply more that is handed out.
use Rattle.std.proofs.Common.{List, suc}
use Rattle.fm_types.specs.declared.ids.OpId.{OpId}
use Rattle.fm_local.specs.declared.parts.Parts.{Parts}
use Rattle.fm_trial.specs.Scenarios.{HandsOutAll, HandsOutNext}

module _ {F B : Type 0} where
  pub one_more : (old mid new : Parts F B) (held between left : List OpId) → HandsOutAll old held mid between → HandsOutNext mid between new left
      → HandsOutAll old held new left
  one_more old mid new held between left all next = (suc all.0, (mid, between, all.1, next))
