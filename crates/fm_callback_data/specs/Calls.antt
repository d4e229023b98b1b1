-- A call of the base as its callers see it.
use Rattle.std.specs.Prelude.{ℕ, List, Option}
use Rattle.fm_types.specs.declared.ids.VolumeId.{VolumeId}
use Rattle.fm_callback_data.specs.declared.params.Params.{Params}

-- the volume that is asked, the path of the file, and what is asked
pub record BaseCall : Type 0 where
  pub volume : VolumeId
  pub path : Option (List ℕ)
  pub params : Params
