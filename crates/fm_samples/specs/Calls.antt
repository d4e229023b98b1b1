-- What the sample filters call of their port, whatever port it is.
use Rattle.std.specs.Prelude.{◌≡◌, ◌⊎◌, ℕ, ◌<◌, Bool, true, false, List, Option, Some, None, Result, Ok, Err, zero, suc}
use Rattle.fm_types.specs.declared.context_kind.ContextKind.{ContextKind}
use Rattle.fm_types.specs.declared.ids.CtxId.{CtxId}
use Rattle.fm_types.specs.declared.ids.OpId.{OpId}
use Rattle.fm_types.specs.declared.status.Status.{Status}
use Rattle.fm_callback_data.specs.declared.verdict.PreVerdict.TheVariants.{Complete, NoCallback}
use Rattle.fm_ctx.specs.declared.set_reply.SetMode.TheVariants.{Keep}
use Rattle.fm_operations.specs.declared.hold.Hold.{Hold}
use Rattle.fm_operations.specs.declared.hold.Hold.TheVariants as callback
use Rattle.fm_world.specs.declared.set_answer.SetAnswer.{SetAnswer}
use Rattle.fm_world.specs.declared.set_answer.SetAnswer.TheVariants.{Linked, AlreadyDefined, Refused}
use Rattle.fm_filter.specs.declared.port.Port as port

-- ---- contexts

-- one reference to a context is given up, whatever that is answered
abbrev pub Releases : {P : Type 0} → port.Ghosts P → CtxId → P → P → Type 0
Releases p context old new = (answer : Result (Unit {0}) Status) × p.releases old context answer new

-- the same of what a completion brought, and nothing is called if it brought none
abbrev pub ReleasesSent : {P : Type 0} → port.Ghosts P → Option CtxId → P → P → Type 0
ReleasesSent p None old new = new ≡ old
ReleasesSent p (Some context) old new = Releases p context old new

-- a new context that couldn't be set is released, and the one that is there, if it was handed out, is found in its place
abbrev pub FindsAfter : {P : Type 0} → port.Ghosts P → CtxId → SetAnswer → Option CtxId → P → P → Type 0
FindsAfter p context (Linked replaced) found old new = (found ≡ Some context) × (new ≡ old)
FindsAfter p context (AlreadyDefined there) found old new = (found ≡ there) × Releases p context old new
FindsAfter p context (Refused why) found old new = (found ≡ None) × Releases p context old new

-- a new context is set on the callback's object, unless one is there
abbrev pub SetsNew : {P : Type 0} → port.Ghosts P → Result CtxId Status → Option CtxId → P → P → Type 0
SetsNew p (Err why) found old new = (found ≡ None) × (new ≡ old)
SetsNew {P} p (Ok context) found old new = (answer : SetAnswer) × (tried : P) × p.sets old context Keep true answer tried
    × FindsAfter p context answer found tried new

-- a context is allocated and set on the callback's object, unless one is there: the one that is set then is found
abbrev pub SetsUnlessThere : {P : Type 0} → port.Ghosts P → ContextKind → List ℕ → Option CtxId → P → P → Type 0
SetsUnlessThere {P} p kind body found old new = (made : Result CtxId Status) × (allocated : P)
    × p.allocates old kind body made allocated × SetsNew p made found allocated new

-- ---- held operations

-- an operation that such a callback holds goes on: from a preoperation as if that had asked for nothing more
abbrev pub Resumes : {P : Type 0} → port.Ghosts P → Hold → OpId → Result (Unit {0}) Status → P → P → Type 0
Resumes p callback.Pre operation result old new = p.resumes_pre old operation NoCallback result new
Resumes p callback.Post operation result old new = p.resumes_post old operation result new

-- the first operation that is held is found, and goes on
abbrev pub ResumesFirst : {P : Type 0} → port.Ghosts P → Hold → P → P → Type 0
ResumesFirst {P} p held old new = (operation : OpId) × (found : P) × p.finds_held old held (Ok (Some operation)) found
    × Resumes p held operation (Ok tt) found new

-- so one after the other, as many as a number says
abbrev pub ResumesMany : {P : Type 0} → port.Ghosts P → Hold → ℕ → P → P → Type 0
ResumesMany p held zero old new = new ≡ old
ResumesMany {P} p held (suc count) old new = (last : P) × ResumesMany p held count old last × ResumesFirst p held last new

-- none goes on any more: none is held, or a call is refused
abbrev pub ResumesNone : {P : Type 0} → port.Ghosts P → Hold → Result (Option OpId) Status → P → P → Type 0
ResumesNone p held (Ok None) found new = new ≡ found
ResumesNone p held (Err why) found new = new ≡ found
ResumesNone p held (Ok (Some operation)) found new = (why : Status) × Resumes p held operation (Err why) found new

abbrev pub StopsResuming : {P : Type 0} → port.Ghosts P → Hold → P → P → Type 0
StopsResuming {P} p held old new = (answer : Result (Option OpId) Status) × (found : P) × p.finds_held old held answer found
    × ResumesNone p held answer found new

-- whether the first one goes on
abbrev pub ResumesOne : {P : Type 0} → port.Ghosts P → Hold → Bool → P → P → Type 0
ResumesOne p held true old new = ResumesFirst p held old new
ResumesOne p held false old new = StopsResuming p held old new

-- fewer than 256 went on before it stopped
abbrev pub StopsWithin : {P : Type 0} → port.Ghosts P → Hold → P → P → Type 0
StopsWithin {P} p held old new = (count : ℕ) × (last : P) × (count < 256) × ResumesMany p held count old last × StopsResuming p held last new

-- all that are held go on, until none is held, a call is refused, or 256 went on
abbrev pub ResumesAll : {P : Type 0} → port.Ghosts P → Hold → P → P → Type 0
ResumesAll p held old new = ResumesMany p held 256 old new ⊎ StopsWithin p held old new

-- ---- cancelled operations

-- the first operation that a preoperation holds is found, and completed with that status
abbrev pub CancelsFirst : {P : Type 0} → port.Ghosts P → Status → P → P → Type 0
CancelsFirst {P} p status old new = (operation : OpId) × (found : P) × p.finds_held old callback.Pre (Ok (Some operation)) found
    × p.resumes_pre found operation (Complete status) (Ok tt) new
