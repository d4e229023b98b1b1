-- What C is told of what a worker was lent.
use Rattle.std.specs.Prelude.{ℕ, Bool, true, false, List, [], Option, Some, None, ◌==◌, cond, option_map}
use Rattle.fm_types.specs.declared.operation.CreateMode.{CreateMode}
use Rattle.fm_types.specs.declared.operation.CreateMode.TheVariants as create
use Rattle.fm_types.specs.Majors.{major_code}
use Rattle.fm_types.specs.Statuses.{number_of, information_of}
use Rattle.fm_callback_data.specs.declared.params.Params.{Params}
use Rattle.fm_callback_data.specs.declared.params.Params.TheVariants as params
use Rattle.fm_callback_data.specs.Calls.{BaseCall}
use Rattle.fm_callback_data.specs.Data.{Data, current_of}
use Rattle.fm_session.specs.declared.lent.Lent.{Lent}
use Rattle.fm_session.specs.declared.lent.Lent.TheVariants as lent
use Rattle.kazdrin_c.specs.declared.event.KazdrinEvent.{KazdrinEvent}
use Rattle.kazdrin_c.specs.declared.data.KazdrinData.{KazdrinData}

abbrev pub nothing_lent : KazdrinData
nothing_lent = record {
  offset = 0;
  information = 0;
  number = 0;
  length = 0;
  len = 0;
  volume = 0;
  operation = 0;
  mode = 0;
  status = 0;
  lent = 0;
}

abbrev pub mode_number : CreateMode → ℕ
mode_number create.Existing = 0
mode_number create.New = 1
mode_number create.Always = 2

-- an operation by its event's number, and what it asks for
abbrev pub params_told : Params → KazdrinData
params_told (params.Create path mode) = record nothing_lent { operation = 4; mode = mode_number mode }
params_told params.List = record nothing_lent { operation = 5 }
params_told (params.Read offset len) = record nothing_lent { operation = 6; offset = offset; len = len }
params_told (params.Write offset bytes) = record nothing_lent { operation = 7; offset = offset }
params_told params.QuerySize = record nothing_lent { operation = 8 }
params_told (params.SetSize size) = record nothing_lent { operation = 9; offset = size }
params_told params.Flush = record nothing_lent { operation = 10 }
params_told params.SetDelete = record nothing_lent { operation = 11 }
params_told params.Cleanup = record nothing_lent { operation = 12 }
params_told params.Close = record nothing_lent { operation = 13 }
params_told params.Restore = record nothing_lent { operation = 49 }
params_told (params.Other major number) = record nothing_lent { operation = 50; mode = major_code major; offset = number }

-- a create's path, and what is written
abbrev pub params_bytes : Params → List ℕ
params_bytes (params.Create path mode) = path
params_bytes (params.Write offset bytes) = bytes
params_bytes _ = []

abbrev pub data_told : ℕ → Data → KazdrinData
data_told kind own =
    record (params_told (current_of own)) { lent = kind; status = number_of own.status; number = information_of own.status; information = own.information }

abbrev pub call_told : BaseCall → KazdrinData
call_told call = record (params_told call.params) { lent = 2; volume = call.volume.0 }

abbrev pub lent_told : Lent → KazdrinData
lent_told lent.Nothing = nothing_lent
lent_told (lent.Pre own) = data_told 1 own
lent_told (lent.Base call) = call_told call
lent_told (lent.Post own) = data_told 3 own
lent_told lent.Drain = record nothing_lent { lent = 4 }

-- the path of a call's file; none of a listing
abbrev pub path_bytes : Option (List ℕ) → List ℕ
path_bytes None = []
path_bytes (Some path) = path

abbrev pub call_path : BaseCall → List ℕ
call_path call = path_bytes call.path

-- the bytes that it asks for; or those of the answer so far, and of a call its file's path
abbrev pub lent_bytes : Bool → Lent → List ℕ
lent_bytes false (lent.Pre own) = params_bytes (current_of own)
lent_bytes false (lent.Post own) = params_bytes (current_of own)
lent_bytes false (lent.Base call) = params_bytes call.params
lent_bytes true (lent.Pre own) = own.out
lent_bytes true (lent.Post own) = own.out
lent_bytes true (lent.Base call) = call_path call
lent_bytes _ lent.Nothing = []
lent_bytes _ lent.Drain = []
