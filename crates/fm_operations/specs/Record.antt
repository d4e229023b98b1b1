-- One operation, as all above this crate see it.
use Rattle.std.specs.Prelude.{ℕ, Bool, List, Option}
use Rattle.fm_types.specs.declared.ids.OpId.{OpId}
use Rattle.fm_types.specs.declared.ids.VolumeId.{VolumeId}
use Rattle.fm_types.specs.declared.ids.StreamId.{StreamId}
use Rattle.fm_types.specs.declared.ids.HandleId.{HandleId}
use Rattle.fm_types.specs.declared.ids.InstanceId.{InstanceId}
use Rattle.fm_types.specs.declared.operation.Operation.{Operation}
use Rattle.fm_callback_data.specs.declared.params.Params.{Params}
use Rattle.fm_callback_data.specs.declared.answer.Answer.{Answer}
use Rattle.fm_operations.specs.declared.stage.Stage.{Stage}
use Rattle.fm_operations.specs.declared.entry.Entry.{Entry}

pub record FlowRecord : Type 0 where
  -- its number, and what it is: the kind, the volume, and the stream and the handle that it is on
  pub number : OpId
  pub operation : Operation
  pub volume : VolumeId
  pub stream : Option StreamId
  pub handle : Option HandleId
  -- how many instances were born before it began
  pub born : ℕ
  -- the instance whose filter asked for it, and below which it visits; at the base it visits none, since none was born before it. None where no filter did
  pub below : Option InstanceId
  -- the path of the file that it is on, as it was when it began; a listing has none
  pub path : Option (List ℕ)
  -- its parameters as the next callback finds them; none while a callback or the base has them
  pub params : Option Params
  -- the answer so far; its bytes are with the callback while a postoperation runs
  pub answer : Answer
  pub stage : Stage
  -- what happened so far
  pub entries : List Entry
  -- what callbacks on the way down received, where they changed it, in the order of their visits;
  -- on the way up those are gone that no callback is to see any more
  pub kept : List Params
  -- whether the answer was handed out; the record then stays for a drain that still runs
  pub collected : Bool
