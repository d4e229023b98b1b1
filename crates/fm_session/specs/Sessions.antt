-- A state with what each worker was lent, and what the events that lend and take back make of both.
use Rattle.std.specs.Prelude.{◌≡◌, ◌<◌, ℕ, List, Option, Some, None, Result, Ok, Err, cond, length, nat_le, slice_index_or, slice_set, unwrap_or}
use Rattle.fm_types.specs.declared.ids.InstanceId.{InstanceId}
use Rattle.fm_types.specs.declared.ids.OpId.{OpId}
use Rattle.fm_types.specs.declared.ids.WorkerId.{WorkerId}
use Rattle.fm_types.specs.declared.status.Status.{Status}
use Rattle.fm_types.specs.declared.status.Status.TheVariants.{BadRequest, WrongStep}
use Rattle.fm_types.specs.Refusals.{Answers}
use Rattle.fm_callback_data.specs.declared.params.Params.{Params}
use Rattle.fm_callback_data.specs.Params.{may_replace}
use Rattle.fm_callback_data.specs.Data.{Data}
use Rattle.fm_callback_data.specs.declared.answer.Answer.{Answer}
use Rattle.fm_callback_data.specs.Calls.{BaseCall}
use Rattle.fm_callback_data.specs.declared.verdict.PreVerdict.{PreVerdict}
use Rattle.fm_callback_data.specs.declared.verdict.PreVerdict.TheVariants.{WithCallback}
use Rattle.fm_callback_data.specs.declared.verdict.PostVerdict.{PostVerdict}
use Rattle.fm_callback_data.specs.declared.verdict.PostVerdict.TheVariants.{Finished}
use Rattle.fm_callback_data.specs.declared.verdict.Completion.{Completion}
use Rattle.fm_operations.specs.declared.action.FlowAction.{FlowAction}
use Rattle.fm_operations.specs.declared.action.FlowAction.TheVariants as action
use Rattle.fm_core.specs.Passing.{answered_by, numbered}
use Rattle.fm_core.specs.declared.passing.Passed.{Passed}
use Rattle.fm_core.specs.declared.passing.Passed.TheVariants as passed
use Rattle.fm_world.specs.World.{World}
use Rattle.fm_world.specs.Events.{Nexts, PreReturns, BaseReturns, PostReturns}
use Rattle.fm_session.specs.declared.lent.Lent.{Lent}
use Rattle.fm_session.specs.declared.lent.Lent.TheVariants as lent
use Rattle.fm_session.specs.declared.lent.Given.{Given}
use Rattle.fm_session.specs.declared.lent.Given.TheVariants as given

pub record Lending : Type 0 where
  pub world : World
  -- by the workers' numbers
  pub lent : List Lent

-- what a worker was lent
abbrev pub lent_to : List Lent → WorkerId → Lent
lent_to all k = slice_index_or all k.0 lent.Nothing

abbrev pub lend : List Lent → WorkerId → Lent → List Lent
lend all k what = slice_set all k.0 what

-- what an action lends, and the rest of it
abbrev pub lent_by : FlowAction → Lent
lent_by (action.Pre i own) = lent.Pre own
lent_by (action.Base call) = lent.Base call
lent_by (action.Post i own completion) = lent.Post own
lent_by (action.Drain i completion) = lent.Drain
lent_by action.Moved = lent.Nothing
lent_by action.Held = lent.Nothing
lent_by action.Done = lent.Nothing

abbrev pub given_by : FlowAction → Given
given_by (action.Pre i own) = given.Pre i
given_by (action.Base call) = given.Base
given_by (action.Post i own completion) = given.Post i completion
given_by (action.Drain i completion) = given.Drain i completion
given_by action.Moved = given.Moved
given_by action.Held = given.Held
given_by action.Done = given.Done

abbrev pub lent_after_next : List Lent → WorkerId → Result FlowAction Status → List Lent
lent_after_next all k (Ok step) = lend all k (lent_by step)
lent_after_next all k (Err status) = all

abbrev pub given_after_next : Result FlowAction Status → Result Given Status
given_after_next (Ok step) = Ok (given_by step)
given_after_next (Err status) = Err status

-- the worker has what the State's event lends
abbrev pub LendsNext : Lending → WorkerId → OpId → Result Given Status → Lending → Type 0
LendsNext old k o result new =
    (r : Result FlowAction Status) × Nexts old.world k o r new.world × (new.lent ≡ lent_after_next old.lent k r) × (result ≡ given_after_next r)

-- what was lent is given back; where that is refused the worker still has it
abbrev pub lent_after_return : List Lent → WorkerId → Result (Unit {0}) Status → List Lent
lent_after_return all k (Ok done) = lend all k lent.Nothing
lent_after_return all k (Err status) = all

-- the same of what was taken from the worker before
abbrev pub lent_back : List Lent → WorkerId → Lent → Result (Unit {0}) Status → List Lent
lent_back all k what (Ok done) = all
lent_back all k what (Err status) = lend all k what

-- a return of what wasn't lent
abbrev pub NotLent : {T : Type 0} → Lending → Result T Status → Lending → Type 0
NotLent old result new = (result ≡ Err WrongStep) × (new ≡ old)

-- the data of a preoperation; of a postoperation, or none of a drain; a base call
abbrev pub pre_in : Lent → Option Data
pre_in (lent.Pre own) = Some own
pre_in lent.Nothing = None
pre_in (lent.Base call) = None
pre_in (lent.Post own) = None
pre_in lent.Drain = None

abbrev pub post_in : Lent → Option (Option Data)
post_in (lent.Post own) = Some (Some own)
post_in lent.Drain = Some None
post_in lent.Nothing = None
post_in (lent.Base call) = None
post_in (lent.Pre own) = None

abbrev pub base_in : Lent → Option BaseCall
base_in (lent.Base call) = Some call
base_in lent.Nothing = None
base_in (lent.Pre own) = None
base_in (lent.Post own) = None
base_in lent.Drain = None

abbrev pub post_lent : Option Data → Lent
post_lent (Some own) = lent.Post own
post_lent None = lent.Drain

abbrev pub ReturnsPre : Lending → WorkerId → PreVerdict → Result (Unit {0}) Status → Lending → Option Data → Type 0
ReturnsPre old k verdict result new None = NotLent old result new
ReturnsPre old k verdict result new (Some own) =
    PreReturns old.world k verdict own result new.world × (new.lent ≡ lent_after_return old.lent k result)

abbrev pub LentPreReturns : Lending → WorkerId → PreVerdict → Result (Unit {0}) Status → Lending → Type 0
LentPreReturns old k verdict result new = ReturnsPre old k verdict result new (pre_in (lent_to old.lent k))

abbrev pub ReturnsPost : Lending → WorkerId → PostVerdict → Result (Unit {0}) Status → Lending → Option (Option Data) → Type 0
ReturnsPost old k verdict result new None = NotLent old result new
ReturnsPost old k verdict result new (Some own) =
    PostReturns old.world k verdict own result new.world × (new.lent ≡ lent_after_return old.lent k result)

abbrev pub LentPostReturns : Lending → WorkerId → PostVerdict → Result (Unit {0}) Status → Lending → Type 0
LentPostReturns old k verdict result new = ReturnsPost old k verdict result new (post_in (lent_to old.lent k))

-- what is told of a base call: its status, where it was taken back
abbrev pub status_told : Answer → Result (Unit {0}) Status → Result Status Status
status_told answer (Ok done) = Ok answer.status
status_told answer (Err status) = Err status

-- the device carries out the call that was lent, and its answer is given back
abbrev pub ReturnsBase : {D : Type 0} → (D → BaseCall → Answer → D → Type 0) → Lending → D → WorkerId → Result Status Status → Lending
    → D → Option BaseCall → Type 0
ReturnsBase carries old below k result new after None = NotLent old result new × (after ≡ below)
ReturnsBase carries old below k result new after (Some call) =
    (answer : Answer) × (r : Result (Unit {0}) Status) × carries below call answer after × BaseReturns old.world k call answer r new.world
    × (new.lent ≡ lent_after_return old.lent k r) × (result ≡ status_told answer r)

abbrev pub LentBaseReturns : {D : Type 0} → (D → BaseCall → Answer → D → Type 0) → Lending → D → WorkerId → Result Status Status → Lending → D → Type 0
LentBaseReturns carries old below k result new after = ReturnsBase carries old below k result new after (base_in (lent_to old.lent k))

-- the call that was lent is given back with that answer
abbrev pub AnswersBase : Lending → WorkerId → Answer → Result (Unit {0}) Status → Lending → Option BaseCall → Type 0
AnswersBase old k answer result new None = NotLent old result new
AnswersBase old k answer result new (Some call) =
    BaseReturns old.world k call answer result new.world × (new.lent ≡ lent_after_return old.lent k result)

abbrev pub LentBaseAnswered : Lending → WorkerId → Answer → Result (Unit {0}) Status → Lending → Type 0
LentBaseAnswered old k answer result new = AnswersBase old k answer result new (base_in (lent_to old.lent k))

-- ---- callbacks that answer where they are called

-- the operation passes an instance on its way down, and on its way up: the step is taken, and what was lent is given back
abbrev pub LentPassesDown : Lending → WorkerId → OpId → InstanceId → Completion → Lending → Type 0
LentPassesDown old k o i completion new =
    (mid : Lending) × LendsNext old k o (Ok (given.Pre i)) mid × LentPreReturns mid k (WithCallback completion) (Ok tt) new

abbrev pub LentPassesUp : Lending → WorkerId → OpId → InstanceId → Lending → Type 0
LentPassesUp old k o i new =
    (completion : Completion) × (mid : Lending) × LendsNext old k o (Ok (given.Post i completion)) mid × LentPostReturns mid k Finished (Ok tt) new

-- it passes one, down or up, or nothing changes
abbrev pub LentPasses : Lending → WorkerId → OpId → List PreVerdict → Option Passed → Lending → Type 0
LentPasses old k o verdicts (Some (passed.Down i n)) new = (answered_by verdicts i ≡ WithCallback (numbered n)) × LentPassesDown old k o i (numbered n) new
LentPasses old k o verdicts (Some (passed.Up i)) new = LentPassesUp old k o i new
LentPasses old k o verdicts None new = new ≡ old

-- ---- a callback changes what it was lent

-- callback data with other parameters in place of those received, and with another answer; where no bytes are given they stay
abbrev pub with_params : Params → Data → Data
with_params p own = record own { changed = Some p }

abbrev pub put_in : Status → ℕ → Option (List ℕ) → Data → Data
put_in status information bytes own = record own { status = status; information = information; out = unwrap_or bytes own.out }

-- why parameters may not be put in callback data, and that bytes are too many for an answer
abbrev pub params_refused : Params → Data → Option Status
params_refused p own = cond (may_replace own.received p) None (Some BadRequest)

abbrev pub out_refused : Option (List ℕ) → Option Status
out_refused None = None
out_refused (Some bytes) = cond (nat_le (length bytes) 32768) None (Some BadRequest)

-- why parameters may not be put in what a worker was lent, and what they make of it
abbrev pub change_refused : Params → Lent → Option Status
change_refused p (lent.Pre own) = params_refused p own
change_refused p (lent.Post own) = params_refused p own
change_refused p lent.Nothing = Some WrongStep
change_refused p (lent.Base call) = Some WrongStep
change_refused p lent.Drain = Some WrongStep

abbrev pub changed_in : Params → Lent → Lent
changed_in p (lent.Pre own) = lent.Pre (with_params p own)
changed_in p (lent.Post own) = lent.Post (with_params p own)
changed_in p lent.Nothing = lent.Nothing
changed_in p (lent.Base call) = lent.Base call
changed_in p lent.Drain = lent.Drain

-- the same of an answer
abbrev pub answer_refused : Option (List ℕ) → Lent → Option Status
answer_refused bytes (lent.Pre own) = out_refused bytes
answer_refused bytes (lent.Post own) = out_refused bytes
answer_refused bytes lent.Nothing = Some WrongStep
answer_refused bytes (lent.Base call) = Some WrongStep
answer_refused bytes lent.Drain = Some WrongStep

abbrev pub answered_in : Status → ℕ → Option (List ℕ) → Lent → Lent
answered_in status information bytes (lent.Pre own) = lent.Pre (put_in status information bytes own)
answered_in status information bytes (lent.Post own) = lent.Post (put_in status information bytes own)
answered_in status information bytes lent.Nothing = lent.Nothing
answered_in status information bytes (lent.Base call) = lent.Base call
answered_in status information bytes lent.Drain = lent.Drain

abbrev pub LentChanges : Lending → WorkerId → Params → Result (Unit {0}) Status → Lending → Type 0
LentChanges old k p result new =
    Answers (change_refused p (lent_to old.lent k)) result old new
    (λ done. new ≡ record old { lent = lend old.lent k (changed_in p (lent_to old.lent k)) })

abbrev pub LentAnswers : Lending → WorkerId → Status → ℕ → Option (List ℕ) → Result (Unit {0}) Status → Lending → Type 0
LentAnswers old k status information bytes result new =
    Answers (answer_refused bytes (lent_to old.lent k)) result old new
    (λ done. new ≡ record old { lent = lend old.lent k (answered_in status information bytes (lent_to old.lent k)) })
