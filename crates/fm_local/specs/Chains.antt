-- The chains of a manager: its filters, by the instances of a stack, over its device.
use Rattle.std.specs.Prelude.{◌≡◌, List, None, Option, Some, false, slice_get, ℕ, cond}
use Rattle.fm_local.specs.Words.{BaseCall, Data, Completion, PostVerdict, Finished, PreVerdict, bare_answer, Answer, FlowRecord, Instance, Operation}
use Rattle.fm_local.specs.Words.{Params, StackWorld, Status, VolumeId}
use Rattle.fm_types.specs.declared.ids.HandleId.{HandleId}
use Rattle.fm_types.specs.declared.ids.StreamId.{StreamId}
use Rattle.fm_callback_data.specs.declared.verdict.PreVerdict.TheVariants.{NoCallback}
use Rattle.fm_operations.specs.declared.entry.PreState.TheVariants.{Completed}
use Rattle.fm_operations.specs.Answered.{base_counted}
use Rattle.fm_operations.specs.Creates.{is_create}
use Rattle.fm_operations.specs.Table.{empty_table}
use Rattle.fm_world.specs.Events.{has_pre, has_post, known_create, known_at}
use Rattle.fm_world.specs.Files.{FileTable, after_base, after_pre}
use Rattle.fm_local.specs.Folds.{Chain}

-- what lies below all instances: the device, and the streams and handles that are open
pub record Under (D : Type 0) : Type 0 where
  pub device : D
  pub files : FileTable

-- what an operation is, and what it is on
pub record Subject : Type 0 where
  pub operation : Operation
  pub volume : VolumeId
  pub stream : Option StreamId
  pub handle : Option HandleId
  pub path : Option (List ℕ)

abbrev pub subject_of : FlowRecord → Subject
subject_of r = record { operation = r.operation; volume = r.volume; stream = r.stream; handle = r.handle; path = r.path }

-- the filter of an instance, where `filters` says which filter each number stands for
abbrev pub filter_in_row : {F : Type 0} → (ℕ → Option F) → Option Instance → Option F
filter_in_row filters None = None
filter_in_row filters (Some row) = filters row.filter.0

abbrev pub filter_in : {F : Type 0} → (ℕ → Option F) → StackWorld → ℕ → Option F
filter_in filters s i = filter_in_row filters (slice_get s.instances i)

-- what it may answer before an operation, and after it; where there is none, the operation goes on as it is
abbrev pub PreMay : {F : Type 0} → (F → Data → PreVerdict → Data → Type 0) → Option F → Data → PreVerdict → Data → Type 0
PreMay pre None given verdict back = (verdict ≡ NoCallback) × (back ≡ given)
PreMay pre (Some f) given verdict back = pre f given verdict back

abbrev pub PostMay : {F : Type 0} → (F → Data → Completion → PostVerdict → Data → Type 0) → Option F → Data → Completion → PostVerdict → Data → Type 0
PostMay post None given completion verdict back = (verdict ≡ Finished) × (back ≡ given)
PostMay post (Some f) given completion verdict back = post f given completion verdict back

-- what the base answers without a call of the device, while no other operation is under way
abbrev pub known_answer : FileTable → Subject → Option Status
known_answer files x = cond (is_create x.operation) (known_create files x.stream) (known_at files empty_table x.operation x.stream x.handle)

abbrev pub call_on : Subject → Params → BaseCall
call_on x p = record { volume = x.volume; path = x.path; params = p }

-- streams and handles after an answer of the base, while no other operation is under way
abbrev pub filed : Subject → Status → FileTable → FileTable
filed x status files = after_base x.operation x.stream x.handle status false files

-- the base answers at once, or calls the device, whose answer it cuts to what counts
abbrev pub BaseMayBy : {D : Type 0} → (D → BaseCall → Answer → D → Type 0) → Subject → Params → Option Status → Under D → Answer → Under D → Type 0
BaseMayBy carries x p (Some status) old given new = (given ≡ bare_answer status) × (new ≡ record old { files = filed x status old.files })
BaseMayBy carries x p None old given new =
    (answer : Answer) × carries old.device (call_on x p) answer new.device
    × (given ≡ base_counted p answer (record { 0 = old.files.next })) × (new.files ≡ filed x answer.status old.files)

abbrev pub BaseMay : {D : Type 0} → (D → BaseCall → Answer → D → Type 0) → Subject → Params → Under D → Answer → Under D → Type 0
BaseMay carries x p old given new = BaseMayBy carries x p (known_answer old.files x) old given new

-- a filter that completes a create leaves its stream
abbrev pub completed_under : {D : Type 0} → Subject → Status → Under D → Under D
completed_under x status old = record old { files = after_pre (Completed status) x.operation x.stream false old.files }

-- the chain of an operation, by what the filters may answer and what the device may
abbrev pub chain_of : {F D : Type 0} → (F → Data → PreVerdict → Data → Type 0) → (F → Data → Completion → PostVerdict → Data → Type 0)
    → (D → BaseCall → Answer → D → Type 0) → (ℕ → Option F) → StackWorld → Subject → Chain (Under D)
chain_of pre post carries filters s x = record {
  operation = x.operation;
  has_pre = λ i. has_pre s (slice_get s.instances i) x.operation;
  has_post = λ i. has_post s (slice_get s.instances i) x.operation;
  pre_may = λ i. PreMay pre (filter_in filters s i);
  post_may = λ i. PostMay post (filter_in filters s i);
  base_may = BaseMay carries x;
  completes = completed_under x;
}
