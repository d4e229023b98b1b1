-- What is said of a call's result.
use Rattle.std.specs.Prelude.{ℕ, [], Result, Ok, Err}
use Rattle.fm_types.specs.Statuses.{information_of}
use Rattle.fm_types.specs.declared.ids.FilterId.{FilterId}
use Rattle.fm_types.specs.declared.ids.InstanceId.{InstanceId}
use Rattle.fm_types.specs.declared.status.Status.{Status}
use Rattle.fm_types.specs.declared.status.Status.TheVariants.{Success}
use Rattle.fm_callback_data.specs.declared.request.Reply.{Reply}
use Rattle.fm_callback_data.specs.declared.request.Reply.TheVariants.{Done}

-- a success, with a number as its information
abbrev pub number_reply : ℕ → Reply
number_reply number = Done Success number []

-- a status, with Busy's count as its information
abbrev pub status_reply : Status → Reply
status_reply status = Done status (information_of status) []

abbrev pub filter_reply : Result FilterId Status → Reply
filter_reply (Ok filter) = number_reply filter.0
filter_reply (Err status) = status_reply status

abbrev pub instance_reply : Result InstanceId Status → Reply
instance_reply (Ok instance) = number_reply instance.0
instance_reply (Err status) = status_reply status

abbrev pub unit_reply : Result (Unit {0}) Status → Reply
unit_reply (Ok _) = number_reply 0
unit_reply (Err status) = status_reply status
