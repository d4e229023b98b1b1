-- Which ids a script may name: those that were given.
use Rattle.std.specs.Prelude.{ℕ, ◌&&◌, cond, nat_lt, is_some, List, length, Option, Some, None, Result, Ok, Err, slice_get}
use Rattle.fm_script.specs.Words.{FilterId, VolumeId, InstanceId, HandleId, OpId, CtxId, WorkerId, Status, World}
use Rattle.fm_types.specs.declared.status.Status.TheVariants.{NoFilter, NoVolume, NoInstance, NoHandle, WrongStep, NotHeld}

abbrev pub filter_in : World → ℕ → Result FilterId Status
filter_in w n = cond (nat_lt n 256 && nat_lt n (length w.stack.filters)) (Ok (record { 0 = n })) (Err NoFilter)

abbrev pub volume_in : World → ℕ → Result VolumeId Status
volume_in w n = cond (nat_lt n 256 && is_some (slice_get w.stack.volumes n)) (Ok (record { 0 = n })) (Err NoVolume)

abbrev pub instance_in : World → ℕ → Result InstanceId Status
instance_in w n = cond (nat_lt n 65536 && nat_lt n (length w.stack.instances)) (Ok (record { 0 = n })) (Err NoInstance)

abbrev pub handle_in : World → ℕ → Result HandleId Status
handle_in w n = cond (nat_lt n w.files.next) (Ok (record { 0 = n })) (Err NoHandle)

abbrev pub operation_in : World → ℕ → Result OpId Status
operation_in w n = cond (nat_lt n w.flow.next) (Ok (record { 0 = n })) (Err WrongStep)

-- contexts are numbered in the order of their allocation
abbrev pub context_at : Option CtxId → Result CtxId Status
context_at (Some c) = Ok c
context_at None = Err NotHeld

abbrev pub context_in : List CtxId → ℕ → Result CtxId Status
context_in contexts n = context_at (slice_get contexts n)

-- a script has workers 0 to 15
abbrev pub worker_in : ℕ → Result WorkerId Status
worker_in n = cond (nat_lt n 16) (Ok (record { 0 = n })) (Err WrongStep)
