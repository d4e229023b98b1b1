-- The laws of one operation: its entries come in order, and nobody is passed over on the way up.
use Rattle.std.specs.Prelude.{◌≡◌, ℕ, ◌+◌, ◌-◌, ◌*◌, ◌<◌, ◌≤◌, Bool, true, false, not, List, [], ◌∷◌, ◌++◌, length, All, Option, Some, None, IfSome, is_some, option_and_then, ⊤}
use Rattle.fm_callback_data.specs.Params.{fit}
use Rattle.fm_callback_data.specs.declared.params.Params.{Params}
use Rattle.fm_operations.specs.declared.stage.Stage.{Stage}
use Rattle.fm_operations.specs.declared.stage.Stage.TheVariants.{Descending, PreRunning, PreHeld, InBase, Ascending, PostRunning, InDrain}
use Rattle.fm_operations.specs.declared.entry.Ask.{Ask}
use Rattle.fm_operations.specs.declared.entry.Entry.{Entry}
use Rattle.fm_operations.specs.declared.entry.Entry.TheVariants.{Pre, Base, Post, Drain}
use Rattle.fm_operations.specs.Entries.{one, times, answers, visited, last_place, asked, posted, owed, undrained, instances}
use Rattle.fm_operations.specs.Counts.{drain_opens}
use Rattle.fm_operations.specs.Record.{FlowRecord}
use Rattle.fm_operations.specs.Steps.{pre_leads, post_leads, is_done}

-- an entry may come on the way down alone, or on the way up alone
abbrev pub if_down : Stage → Stage → Option Stage
if_down Descending leads = Some leads
if_down _ leads = None

abbrev pub if_up : Stage → Stage → Option Stage
if_up Ascending leads = Some leads
if_up _ leads = None

-- where an entry leads, if it may come at that stage: a preoperation and the base on the way down, a
-- postoperation on the way up, a drain at any time
abbrev pub after : Stage → Entry → Option Stage
after stage (Pre visit) = if_down stage (pre_leads visit.state)
after stage (Base status information) = if_down stage Ascending
after stage (Post visit) = if_up stage (post_leads visit.state)
after stage (Drain visit) = Some stage

-- where all the entries lead
abbrev pub walk : Stage → List Entry → Option Stage
walk stage [] = Some stage
walk stage (entry ∷ entries) = option_and_then (λ next. walk next entries) (after stage entry)

-- the way that a stage is on: neither a base call nor a drain has led anywhere yet
abbrev pub way_of : Stage → Stage
way_of InBase = Descending
way_of (InDrain i) = Ascending
way_of stage = stage

-- how many entries answer an instance
abbrev pub answer_count : ℕ → List Entry → ℕ
answer_count i [] = 0
answer_count i (entry ∷ entries) = one (answers i entry) + answer_count i entries

-- how many entries a stage needs beyond those for visits to come and postoperations owed
abbrev pub slack : Stage → ℕ
slack Descending = 1
slack InBase = 1
slack PreRunning = 2
slack PreHeld = 2
slack _ = 0

-- a drain that has the operation runs
abbrev pub HasItsDrain : Stage → List Entry → Type 0
HasItsDrain (InDrain i) entries = drain_opens i.0 entries ≡ 1
HasItsDrain _ entries = ⊤

-- a postoperation that was asked for as synchronized is made by the worker of its preoperation
abbrev pub MadeAsAsked : List Ask → Entry → Type 0
MadeAsAsked asks (Pre visit) = ⊤
MadeAsAsked asks (Base status information) = ⊤
MadeAsAsked asks (Post visit) = All (λ ask. ask.instance.0 ≡ visit.instance.0 → ask.is_synchronized ≡ true → visit.worker.0 ≡ ask.worker.0) asks
MadeAsAsked asks (Drain visit) = ⊤

-- the laws of entries at a stage
pub record IsCourse (stage : Stage) (entries : List Entry) : Type 0 where
  -- they come in order: nothing but drains follows a callback that runs or holds, no visit follows a
  -- completed one or the base, and no postoperation comes before one of these
  pub order : walk Descending entries ≡ Some (way_of stage)
  -- no instance is visited twice on the way down
  pub apart : (i : ℕ) → times i (visited entries) ≤ 1
  -- what was asked for was answered once, or is owed
  pub once : (i : ℕ) → answer_count i entries + times i (instances (owed entries)) ≡ times i (instances (asked entries))
  -- postoperations come in the reverse order of those asked for, without drained ones, and none is left out
  pub ascent : posted entries ++ instances (owed entries) ≡ instances (undrained entries)
  -- a postoperation is synchronized with its preoperation, where that asked for it
  pub synchronized : All (MadeAsAsked (asked entries)) entries
  -- 32 visits, and 65 entries with what is still to come
  pub few : length (visited entries) ≤ 32
  pub room : length entries + (2 * (32 - length (visited entries)) + (length (owed entries) + slack stage)) ≤ 65
  pub drain : HasItsDrain stage entries

-- whether the parameters are with a callback or the base
abbrev pub lends : Stage → Bool
lends PreRunning = true
lends InBase = true
lends PostRunning = true
lends _ = false

-- a preoperation that runs may still have something kept
abbrev pub keeps_more : Stage → ℕ
keeps_more PreRunning = 1
keeps_more _ = 0

-- the visit that came last has its place among those that were kept or right behind them, and so many came before it at least
abbrev pub HasPlace : List Entry → List Params → Type 0
HasPlace entries kept = IfSome (last_place entries) (λ place. (place ≤ length kept) × (place < length (visited entries)))

-- where its preoperation runs or holds
abbrev pub IsPlaced : Stage → List Entry → List Params → Type 0
IsPlaced PreRunning entries kept = HasPlace entries kept
IsPlaced PreHeld entries kept = HasPlace entries kept
IsPlaced _ entries kept = ⊤

-- the laws of an operation
pub record IsSound (r : FlowRecord) : Type 0 where
  pub course : IsCourse r.stage r.entries
  -- its parameters are here, or with a callback or the base, and they are its own and within the limits
  pub here : is_some r.params ≡ not (lends r.stage)
  pub params : IfSome r.params (λ p. fit r.operation r.path p ≡ true)
  pub kept : All (λ p. fit r.operation r.path p ≡ true) r.kept
  pub places : length r.kept + keeps_more r.stage ≤ length (visited r.entries)
  pub placed : IsPlaced r.stage r.entries r.kept
  pub bytes : length r.answer.bytes ≤ 32768
  -- only a done operation's answer is handed out
  pub collected : r.collected ≡ true → is_done r ≡ true

-- the path that the base will be told is at hand until it is called
abbrev pub HasPath : Stage → Option (List ℕ) → Option (List ℕ) → Type 0
HasPath Descending path given = given ≡ path
HasPath PreRunning path given = given ≡ path
HasPath PreHeld path given = given ≡ path
HasPath _ path given = ⊤
