-- What the lines of a scenario make of it: what its manager answers, what is told of that, and what of it is expected.
use Rattle.std.specs.Prelude.{◌≡◌, ◌⊎◌, ◌≤◌, ◌<◌, ◌++◌, ◌∷◌, [], ℕ, zero, suc, List, Bool, true, false, Ok, Option, Some, None, codes, filter, is_none, is_some, nat_eq, not, ◌&&◌, ◌||◌}
use Rattle.std.specs.Global.{Vec}
use Rattle.std.specs.List.{list_any}
use Rattle.fm_types.specs.declared.ids.OpId.{OpId}
use Rattle.fm_types.specs.declared.ids.VolumeId.{VolumeId}
use Rattle.fm_types.specs.declared.status.Status.TheVariants.{BadRequest}
use Rattle.fm_types.specs.Statuses.{number_of}
use Rattle.fm_callback_data.specs.declared.request.Reply.{Reply}
use Rattle.fm_callback_data.specs.declared.request.Reply.TheVariants as reply
use Rattle.fm_wire.specs.declared.frame.Body.{Body}
use Rattle.fm_wire.specs.declared.frame.Body.TheVariants as body
use Rattle.fm_wire.specs.declared.frame.Control.TheVariants as control
use Rattle.fm_filter.specs.declared.minifilter.Minifilter as filter
use Rattle.fm_base.specs.contracts.memory_base.MemoryBaseBase.TheImpl as memory
use Rattle.fm_base.specs.Folders.{Folder}
use Rattle.fm_local_exec.specs.Locals.{Answers, AnswersControl}
use Rattle.fm_local_exec.specs.Said.{status_reply}
use Rattle.fm_local.specs.declared.parts.Parts.{Parts}
use Rattle.fm_local.specs.declared.trace.Traced.{Traced}
use Rattle.fm_local.specs.declared.trace.Visit.{Visit}
use Rattle.fm_local.specs.declared.trace.Visit.TheVariants as visit
use Rattle.fm_local.specs.Offered.{ForgetsReport, HandsOutFirst, HasNoReport, SameAround, dropped_count, leaks, refused_calls, steps, world}
use Rattle.fm_world.specs.Events.{Mounts}
use Rattle.fm_world.specs.World.{empty_world}
use Rattle.fm_mistakes.specs.declared.account.Account.{Account}
use Rattle.fm_mistakes.specs.declared.mistake.Mistake.TheVariants as told
use Rattle.fm_mistakes.specs.Accounts.{Expects, next_request, status_of, told_leaks, told_now, tellings}
use Rattle.fm_mistakes.specs.Findings.{findings}
use Rattle.fm_trial.specs.declared.expectation.Expectation.{Expectation}
use Rattle.fm_trial.specs.declared.expectation.Expectation.TheVariants as expectation
use Rattle.fm_trial.specs.declared.line.ScenarioLine.{ScenarioLine}
use Rattle.fm_trial.specs.declared.line.ScenarioLine.TheVariants as line
use Rattle.fm_trial.specs.declared.scenario.Scenario.{Scenario}
use Rattle.fm_trial.specs.Lines.{IsWithoutReturn, Says, reply_meets, text_lines}

-- ---- the account

-- what was told stays, and no more of it is expected; more may have been dropped
pub record Keeps (old new : Account) : Type 0 where
  pub told : new.told.items ≡ old.told.items
  pub request : new.request ≡ old.request
  pub unmet : new.unmet ≡ old.unmet
  pub dropped : old.dropped ≤ new.dropped

-- all that a manager noted is told of the last request, and what it couldn't keep is counted
pub record Reports {F B : Type 0} (noted : Parts F B) (old new : Account) : Type 0 where
  pub told : new.told.items ≡ old.told.items ++ tellings new.request (findings (steps noted) (leaks noted) (refused_calls noted))
  pub unmet : new.unmet ≡ old.unmet
  pub kept : old.dropped ≤ new.dropped
  pub dropped : dropped_count noted ≤ new.dropped

-- whether the last reply is as expected; a mistake is expected by a line only if it was told of the last request, and no other line expects that telling
abbrev pub IsMetAs : Expectation → Option Reply → Bool → Account → Account → Type 0
IsMetAs expected None met old new = (met ≡ false) × (new ≡ old)
IsMetAs (expectation.Told wanted) (Some said) met old new = Expects wanted old met new
IsMetAs expected (Some said) met old new = (met ≡ reply_meets expected said) × (new ≡ old)

-- a line that expects something: where that isn't so it is counted
abbrev pub CountsUnmet : Bool → Account → Account → Type 0
CountsUnmet true old new = new ≡ old
CountsUnmet false old new = (new ≡ record old { unmet = new.unmet }) × (0 < new.unmet)

-- what wasn't told, though it could have been: that isn't so, or it is counted
abbrev pub CountsDropped : Bool → Account → Account → Type 0
CountsDropped true old new = new ≡ old
CountsDropped false old new = (new ≡ record old { dropped = new.dropped }) × (0 < new.dropped)

abbrev pub LineExpects : Expectation → Option Reply → Account → Account → Type 0
LineExpects expected last old new = (met : Bool) × (between : Account) × IsMetAs expected last met old between × CountsUnmet met between new

-- that operations are held is told once
abbrev pub EndsAs : List OpId → Account → Account → Type 0
EndsAs [] old new = new ≡ old
EndsAs (o ∷ held) old new =
    (new ≡ record old { told = new.told; request = new.request })
    × (new.told.items ≡ old.told.items ++ told_now told.HeldToTheEnd new.request ∷ [])

-- ---- requests

-- one without which the requests behind it may test nothing
abbrev pub is_set_up : Body → Bool
is_set_up (body.Control (control.Load name)) = true
is_set_up (body.Control (control.Attach i v name altitude)) = true
is_set_up _ = false

abbrev pub is_refused : Reply → Bool
is_refused (reply.Done status information bytes) = not (nat_eq (number_of status) 0)
is_refused _ = false

abbrev pub is_operation : Body → Bool
is_operation (body.Operation request) = true
is_operation _ = false

-- ---- what is heard of operations

-- by a step a callback was called
abbrev pub is_callback : Visit → Bool
is_callback (visit.Pre i answer) = true
is_callback (visit.Post i answer) = true
is_callback (visit.Drain i) = true
is_callback _ = false

abbrev pub hears : List Traced → Bool
hears steps = list_any (λ (step : Traced). is_callback step.visit) steps

-- ---- the manager

-- the operations that filters hold: one more, where that is the reply
abbrev pub held_by : Reply → List OpId
held_by (reply.Held operation) = operation ∷ []
held_by _ = []

-- without the one whose reply was handed out
abbrev pub held_without : OpId → List OpId → List OpId
held_without operation held = filter (λ o. not (nat_eq o.0 operation.0)) held

abbrev pub held_beside : Option (OpId × Reply) → List OpId → List OpId
held_beside (Some (operation, said)) held = held_without operation held
held_beside None held = held

module _ {F B : Type 0} where
  -- the reply of an operation that ended is handed out, if one has, and that one is held no more
  pub record HandsOutNext (old : Parts F B) (held : List OpId) (new : Parts F B) (left : List OpId) : Type 0 where
    pub said : Option (OpId × Reply)
    pub first : HandsOutFirst old said new
    pub around : SameAround old new
    pub kept : left ≡ held_beside said held

  -- so many times
  abbrev pub HandsOutMany : ℕ → Parts F B → List OpId → Parts F B → List OpId → Type 0
  HandsOutMany zero old held new left = (new ≡ old) × (left ≡ held)
  HandsOutMany (suc n) old held new left =
      (mid : Parts F B) × (between : List OpId) × HandsOutMany n old held mid between × HandsOutNext mid between new left

  abbrev pub HandsOutAll : Parts F B → List OpId → Parts F B → List OpId → Type 0
  HandsOutAll old held new left = (count : ℕ) × HandsOutMany count old held new left

  -- replies are handed out, and what the manager noted of that may be forgotten
  abbrev pub Finishes : Parts F B → List OpId → Parts F B → List OpId → Type 0
  Finishes old held new left = (gave : Parts F B) × HandsOutAll old held gave left × ForgetsReport gave new

  -- what the manager noted is forgotten before
  abbrev pub GoesOn : Parts F B → List OpId → Parts F B → List OpId → Type 0
  GoesOn old held new left = (forgot : Parts F B) × ForgetsReport old forgot × HasNoReport forgot × Finishes forgot held new left

-- ---- scenarios

-- whether a line says something
abbrev pub is_known : ScenarioLine → Bool
is_known line.Unknown = false
is_known _ = true

module _ {F : Type 0} where
  -- a manager of these filters, none of which is loaded, with one volume, which was asked nothing and noted nothing; nothing was told or expected yet
  pub record IsFresh (filters : Vec (List ℕ × F)) (s : Scenario F) : Type 0 where
    pub handed : s.exec.manager.filters.all ≡ filters
    pub mounted : (volume : VolumeId) × Mounts empty_world (codes "v0") (Ok volume) (world s.exec.manager)
    pub unnoted : HasNoReport s.exec.manager
    pub last : s.last ≡ None
    pub refused : s.refused ≡ None
    pub held : s.held.items ≡ []
    pub told : s.account.told.items ≡ []
    pub unmet : s.account.unmet ≡ 0
    pub dropped : s.account.dropped ≡ 0
    pub operates : s.operates ≡ false
    pub heard : s.is_heard ≡ false

  -- nothing is asked, and nothing that was asked changes
  pub record AsksNothing (old new : Scenario F) : Type 0 where
    pub manager : new.exec ≡ old.exec
    pub last : new.last ≡ old.last
    pub held : new.held ≡ old.held
    pub operates : new.operates ≡ old.operates

  -- a set-up that was refused, of which no line expects anything, is counted as an expectation that isn't met
  pub record Settles (old new : Scenario F) : Type 0 where
    pub unmet : CountsUnmet (is_none old.refused) old.account new.account
    pub refused : new.refused ≡ None
    pub heard : new.is_heard ≡ old.is_heard
    pub rest : AsksNothing old new

  -- a callback heard of an operation, or a line expected something, or no operation was asked for
  abbrev pub tests_something : Scenario F → Bool
  tests_something s = s.is_heard || not s.operates

  -- whether as many references that callbacks left behind were told as the world counts
  abbrev pub tells_leaks : Scenario F → Account → Bool
  tells_leaks s told = nat_eq (told_leaks told) (world s.exec.manager).contexts.leaks

  -- the end: a set-up that was refused is counted, and so is that nothing was asked or nothing tested, and that a reference wasn't told; that operations are held
  -- is told
  pub record Ends (old : Scenario F) (end : Account) : Type 0 where
    pub settled : Account
    pub asked : Account
    pub heard : Account
    pub counted : Account
    pub expected : CountsUnmet (is_none old.refused) old.account settled
    pub requested : CountsUnmet (is_some old.last) settled asked
    pub tested : CountsUnmet (tests_something old) asked heard
    pub left : CountsDropped (tells_leaks old heard) heard counted
    pub holds : EndsAs old.held.items counted end

  -- its exit status where all lines said something, and behind one that says nothing
  abbrev pub EndsAfter : Bool → Scenario F → ℕ → Type 0
  EndsAfter true last status = (end : Account) × Ends last end × (status ≡ status_of end)
  EndsAfter false last status = status ≡ 2

module _ {F : Type 0} (f : filter.Ghosts F) where
  -- what the manager answers to a request over files in memory; what is none is answered 32
  abbrev pub RepliesTo : Body → Parts F Folder → Reply → Parts F Folder → Type 0
  RepliesTo (body.Operation request) old said new = Answers f memory.ghosts request old said new
  RepliesTo (body.Control control) old said new = AnswersControl f memory.ghosts control old said new
  RepliesTo (body.Reply reply) old said new = (said ≡ status_reply BadRequest) × (new ≡ old)
  RepliesTo (body.Refused status) old said new = (said ≡ status_reply status) × (new ≡ old)

  -- a request: the manager answers it, and all that it then noted is told of this request
  pub record Asks (asked : Body) (old new : Scenario F) : Type 0 where
    pub said : Reply
    pub answered : Parts F Folder
    pub replies : RepliesTo asked old.exec.manager said answered
    pub reports : Reports answered old.account new.account
    pub request : new.account.request ≡ next_request old.account.request
    pub last : new.last ≡ Some said
    pub refused : is_some new.refused ≡ (is_set_up asked && is_refused said)
    pub goes_on : GoesOn answered (old.held.items ++ held_by said) new.exec.manager new.held.items
    pub operates : new.operates ≡ (old.operates || is_operation asked)
    pub heard : new.is_heard ≡ (old.is_heard || hears (steps answered))

  -- a line that says that
  abbrev pub TakesSaid : ScenarioLine → Scenario F → Scenario F → Type 0
  TakesSaid (line.Request asked) old new = (settled : Scenario F) × Settles old settled × Asks asked settled new
  TakesSaid (line.Expect expected) old new =
      AsksNothing old new × (new.refused ≡ None) × (new.is_heard ≡ true) × LineExpects expected old.last old.account new.account
  TakesSaid _ old new = AsksNothing old new × (new.refused ≡ old.refused) × (new.is_heard ≡ old.is_heard) × (new.account ≡ old.account)

  -- a line, and whether it says something
  abbrev pub TakesLine : List ℕ → Bool → Scenario F → Scenario F → Type 0
  TakesLine text known old new = (said : ScenarioLine) × Says text said × (known ≡ is_known said) × TakesSaid said old new

  -- one line after the other, each of which says something
  abbrev pub TakesLines : List (List ℕ) → Scenario F → Scenario F → Type 0
  TakesLines [] old new = new ≡ old
  TakesLines (whole ∷ lines) old new =
      (text : List ℕ) × (mid : Scenario F) × IsWithoutReturn whole text × TakesLine text true old mid × TakesLines lines mid new

  -- a scenario of that text over these filters, from its beginning to its end, and what it came to
  pub record IsWhole (filters : Vec (List ℕ × F)) (text : List ℕ) (end : Account) : Type 0 where
    pub first : Scenario F
    pub last : Scenario F
    pub fresh : IsFresh filters first
    pub lines : TakesLines (text_lines text) first last
    pub ends : Ends last end

  -- its exit status: 2, or what it came to
  abbrev pub EndsScenario : Vec (List ℕ × F) → List ℕ → ℕ → Type 0
  EndsScenario filters text status = (status ≡ 2) ⊎ ((end : Account) × IsWhole filters text end × (status ≡ status_of end))
