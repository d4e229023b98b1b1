-- The filter whose reads take a context along.
use Rattle.std.specs.Prelude.{◌≡◌, ◌⊎◌, [], ◌∷◌, true, Option, Some, None, Result, Ok, Err}
use Rattle.fm_types.specs.declared.context_kind.ContextKind.TheVariants.{Handle}
use Rattle.fm_types.specs.declared.ids.CtxId.{CtxId}
use Rattle.fm_types.specs.declared.status.Status.{Status}
use Rattle.fm_types.specs.declared.status.Status.TheVariants.{NoContext}
use Rattle.fm_types.specs.declared.registration.Registration.{Registration}
use Rattle.fm_callback_data.specs.declared.params.Params.{Params}
use Rattle.fm_callback_data.specs.declared.params.Params.TheVariants as params
use Rattle.fm_callback_data.specs.declared.verdict.PreVerdict.{PreVerdict}
use Rattle.fm_callback_data.specs.declared.verdict.PreVerdict.TheVariants.{NoCallback, WithCallback}
use Rattle.fm_callback_data.specs.Data.{Data, current_of}
use Rattle.fm_filter.specs.declared.port.Port as port
use Rattle.fm_samples.specs.Calls.{SetsUnlessThere}

-- it has a preoperation and a postoperation of reads, and contexts of handles
abbrev pub carry_registers : Registration
carry_registers = record { pre = record { 0 = 2 }; post = record { 0 = 2 }; contexts = record { 0 = 8 }; query = true; unload = true }

-- the verdict of a read that takes some context along, in completion number 1
abbrev pub SendsOne : PreVerdict → Type 0
SendsOne answer = (context : CtxId) × (answer ≡ WithCallback (record { number = 1; context = Some context }))

-- a read takes a context along, or goes on where a call was refused; all else goes on
abbrev pub CarriesVerdict : Params → PreVerdict → Type 0
CarriesVerdict (params.Read offset len) answer = SendsOne answer ⊎ (answer ≡ NoCallback)
CarriesVerdict _ answer = answer ≡ NoCallback

abbrev pub CarriesPre : Data → PreVerdict → Data → Type 0
CarriesPre old answer new = CarriesVerdict (current_of old) answer × (new ≡ old)

-- a new context of the handle, with a body of one 0, is set unless one is there; nothing is called if there is no memory for it, and for no other reason
abbrev pub MakesOwn : {P : Type 0} → port.Ghosts P → Type 0 → Option CtxId → P → P → Type 0
MakesOwn p refused found old new = SetsUnlessThere p Handle (0 ∷ []) found old new ⊎ (refused × (found ≡ None) × (new ≡ old))

-- what is found once the handle's context was asked for: it is made if there is none, and after any other refusal nothing is found, and nothing more is called
abbrev pub FindsAsked : {P : Type 0} → port.Ghosts P → Type 0 → Result CtxId Status → Option CtxId → P → P → Type 0
FindsAsked p refused (Ok context) found old new = (found ≡ Some context) × (new ≡ old)
FindsAsked p refused (Err NoContext) found old new = MakesOwn p refused found old new
FindsAsked p refused (Err _) found old new = (found ≡ None) × (new ≡ old)

-- the handle's context is asked for, and found or made
abbrev pub FindsOwn : {P : Type 0} → port.Ghosts P → Type 0 → Option CtxId → P → P → Type 0
FindsOwn {P} p refused found old new = (answer : Result CtxId Status) × (asked : P) × p.gets old Handle answer asked
    × FindsAsked p refused answer found asked new

-- the context that was found goes along in completion number 1, and without one there is no postoperation
abbrev pub sent_along : Option CtxId → PreVerdict
sent_along None = NoCallback
sent_along (Some context) = WithCallback (record { number = 1; context = Some context })

-- a read sends the handle's context along, and nothing is called for all else
abbrev pub CarriesCalls : {P : Type 0} → port.Ghosts P → Type 0 → Params → PreVerdict → P → P → Type 0
CarriesCalls p refused (params.Read offset len) answer old new = (found : Option CtxId) × FindsOwn p refused found old new × (answer ≡ sent_along found)
CarriesCalls p refused _ answer old new = new ≡ old
