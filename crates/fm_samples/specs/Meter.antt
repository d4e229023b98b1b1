-- The filter that counts what is read and written.
use Rattle.std.specs.Prelude.{◌≡◌, ◌⊎◌, ℕ, ◌+◌, ◌%◌, ◌^◌, true, cond, nat_le, List, length, replicate, Option, Some, None, Result}
use Rattle.fm_types.specs.declared.context_kind.ContextKind.{ContextKind}
use Rattle.fm_types.specs.declared.context_kind.ContextKind.TheVariants.{Stream}
use Rattle.fm_types.specs.declared.ids.CtxId.{CtxId}
use Rattle.fm_types.specs.declared.status.Status.{Status}
use Rattle.fm_types.specs.declared.registration.Registration.{Registration}
use Rattle.fm_callback_data.specs.declared.params.Params.{Params}
use Rattle.fm_callback_data.specs.declared.params.Params.TheVariants as params
use Rattle.fm_ctx.specs.Bodies.{number_at}
use Rattle.fm_filter.specs.declared.port.Port as port
use Rattle.fm_samples.specs.Calls.{Releases, SetsUnlessThere}

-- it has a preoperation of reads and writes, and contexts of streams
abbrev pub meter_registers : Registration
meter_registers = record { pre = record { 0 = 6 }; post = record { 0 = 0 }; contexts = record { 0 = 4 }; query = true; unload = true }

-- how many reads and writes a body has counted, modulo 2^64: two numbers of eight bytes
abbrev pub counted_in : List ℕ → ℕ
counted_in body = cond (nat_le 16 (length body)) ((number_at 0 body + number_at 8 body) % 2 ^ 64) 0

-- a cleanup returns what was counted
abbrev pub MetersCleanup : ContextKind → List ℕ → ℕ → Type 0
MetersCleanup kind body number = number ≡ counted_in body

-- 1 is added at a place of a context that was found, which is released then
abbrev pub CountsIn : {P : Type 0} → port.Ghosts P → ℕ → Option CtxId → P → P → Type 0
CountsIn p place None old new = new ≡ old
CountsIn {P} p place (Some context) old new = (sum : Result ℕ Status) × (counted : P) × p.bumps old context place 1 sum counted × Releases p context counted new

-- one operation is counted at a place of the stream's context, which is made, with that body, if there is none
abbrev pub Counts : {P : Type 0} → port.Ghosts P → ℕ → List ℕ → P → P → Type 0
Counts {P} p place body old new = (found : Option CtxId) × (at : P) × SetsUnlessThere p Stream body found old at × CountsIn p place found at new

-- a new context has 16 bytes of 0; nothing is called if there is no memory for them, and for no other reason
abbrev pub MayCount : {P : Type 0} → port.Ghosts P → Type 0 → ℕ → P → P → Type 0
MayCount p refused place old new = Counts p place (replicate 16 0) old new ⊎ (refused × (new ≡ old))

-- a read is counted in the first number, a write in the second, and nothing is called for all else
abbrev pub MetersCalls : {P : Type 0} → port.Ghosts P → Type 0 → Params → P → P → Type 0
MetersCalls p refused (params.Read offset len) old new = MayCount p refused 0 old new
MetersCalls p refused (params.Write offset bytes) old new = MayCount p refused 8 old new
MetersCalls p refused _ old new = new ≡ old
