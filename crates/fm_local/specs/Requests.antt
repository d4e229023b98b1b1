-- What requests are answered, and what they leave below: each is a fold, or the refusal of its beginning.
use Rattle.std.specs.Prelude.{[], ◌∷◌, ◌≡◌, ◌⊎◌, Err, List, None, Ok, Option, Result, Some, false, slice_get, ℕ, ◌+◌}
use Rattle.fm_local.specs.Words.{BaseCall, Data, Completion, PostVerdict, PreVerdict, bare_answer, Answer, FlowRecord, Instance, OpId, Params}
use Rattle.fm_local.specs.Words.{StackWorld, Status, WorkerId, worker_at, World}
use Rattle.fm_callback_data.specs.declared.request.Request.{Request}
use Rattle.fm_callback_data.specs.declared.request.FileRequest.{FileRequest}
use Rattle.fm_world.specs.Events.{begin_refused, after_begin, is_stopping_phase, Begins, Collects}
use Rattle.fm_world.specs.Sound.{IsSound}
use Rattle.fm_world.specs.Steps.{Run}
use Rattle.fm_world.specs.declared.step.Step.{Step}
use Rattle.fm_world.specs.declared.step.StepReply.{StepReply}
use Rattle.fm_world.specs.declared.place.Place.{Place}
use Rattle.fm_world.specs.World.{empty_world}
use Rattle.fm_filter.specs.Plain.{IsPlainFilter}
use Rattle.fm_local.specs.Chains.{Under, subject_of, chain_of}
use Rattle.fm_local.specs.Folds.{Folds}
use Rattle.fm_local.specs.Turns.{Carries}
use Rattle.fm_local.specs.Visits.{Visits}

-- between two requests no operation is under way; the next one has that number
abbrev pub at_rest : {D : Type 0} → StackWorld → ℕ → Under D → World
at_rest s next under = record empty_world { stack = s; files = under.files; flow = record { operations = []; next = next } }

module _ {F D : Type 0} (pre : F → Data → PreVerdict → Data → Type 0) (post : F → Data → Completion → PostVerdict → Data
    → Type 0) (carries : D → BaseCall → Answer → D → Type 0)
    (filters : ℕ → Option F) (s : StackWorld) where
  -- the fold of an operation that began: through the instances that it is to meet
  abbrev pub FoldsWith : FlowRecord → Option Params → Under D → Answer → Under D → Type 0
  FoldsWith r None old answer new = ⊥
  FoldsWith r (Some p) old answer new =
      (is : List ℕ) × Visits s r.volume r.born r.operation None is × Folds (chain_of pre post carries filters s (subject_of r)) is p old answer new

  -- of the one operation that is there
  abbrev pub FoldsAlone : List FlowRecord → Under D → Answer → Under D → Type 0
  FoldsAlone (r ∷ []) old answer new = FoldsWith r r.params old answer new
  FoldsAlone _ old answer new = ⊥

  -- a request that is refused is answered with that and changes nothing; so is one for which there is no memory; any other begins an operation
  abbrev pub PerformsBy : Option Status → ℕ → Request → Under D → Answer → Under D → ℕ → Type 0
  PerformsBy (Some why) next what old answer new after = (answer ≡ bare_answer why) × (new ≡ old) × (after ≡ next)
  PerformsBy None next what old answer new after =
      ((answer ≡ bare_answer Status.NoMemory) × (new ≡ old) × (after ≡ next))
      ⊎ (FoldsAlone (after_begin (at_rest s next old) what).flow.operations
      (record old { files = (after_begin (at_rest s next old) what).files }) answer new × (after ≡ next + 1))

  abbrev pub Performs : ℕ → Request → Under D → Answer → Under D → ℕ → Type 0
  Performs next what old answer new after = PerformsBy (begin_refused (at_rest s next old) what) next what old answer new after

  -- a close comes after the handle's cleanup, unless that began before
  abbrev pub ClosesAfter : Status → ℕ → Request → Under D → Answer → Answer → Under D → ℕ → Type 0
  ClosesAfter Status.Success next what old cleanup answer new after = Performs next what old answer new after
  ClosesAfter Status.WrongStep next what old cleanup answer new after = Performs next what old answer new after
  ClosesAfter _ next what old cleanup answer new after = (answer ≡ cleanup) × (new ≡ old) × (after ≡ next)

  -- what a client is answered: a close is a cleanup, and then the close itself
  abbrev pub AnswersOne : ℕ → Request → Under D → Answer → Under D → ℕ → Type 0
  AnswersOne next (Request.OnHandle h FileRequest.Close) old answer new after =
      (mid : Under D) × (cleanup : Answer) × (then : ℕ) × Performs next (Request.OnHandle h FileRequest.Cleanup) old cleanup mid then
      × ClosesAfter cleanup.status then (Request.OnHandle h FileRequest.Close) mid cleanup answer new after
  AnswersOne next what old answer new after = Performs next what old answer new after

  -- the answers to a list of requests, in their order
  abbrev pub AnswersAll : ℕ → List Request → Under D → List Answer → Under D → ℕ → Type 0
  AnswersAll next [] old [] new after = (new ≡ old) × (after ≡ next)
  AnswersAll next (what ∷ requests) old (answer ∷ answers) new after =
      (mid : Under D) × (then : ℕ) × AnswersOne next what old answer mid then × AnswersAll then requests mid answers new after
  AnswersAll next requests old answers new after = ⊥

-- ---- the same over Worlds

-- what lies below all instances, of a World and a device
abbrev pub under : {D : Type 0} → D → World → Under D
under d w = record { device = d; files = w.files }

-- no instance is being torn down
abbrev pub NoneStops : StackWorld → Type 0
NoneStops s = (i : ℕ) (row : Instance) → slice_get s.instances i ≡ Some row → is_stopping_phase row.phase ≡ false

-- no operation is under way, and every worker is idle
pub record IsAtRest (k : WorkerId) (w : World) : Type 0 where
  pub operations : w.flow.operations ≡ []
  pub idle : worker_at w.workers k ≡ Some Place.Idle
  pub all : (j : ℕ) (a : Place) → slice_get w.workers j ≡ Some a → a ≡ Place.Idle

module _ {F D : Type 0} (pre : F → Data → PreVerdict → Data → Type 0) (post : F → Data → Completion → PostVerdict → Data
    → Type 0) (carries : D → BaseCall → Answer → D → Type 0)
    (filters : ℕ → Option F) (k : WorkerId) where
  -- what a worker does for an operation that began: it carries it to its end and takes its answer
  abbrev pub DoesBegun : Result OpId Status → World → D → Answer → World → D → Type 0
  DoesBegun (Err why) begun d answer new e = (answer ≡ bare_answer why) × (new ≡ begun) × (e ≡ d)
  DoesBegun (Ok o) begun d answer new e = (n : ℕ) × (done : World) × Carries pre post carries filters k o n begun d done e × Collects done o (Ok answer) new

  abbrev pub DoesRequest : Request → World → D → Answer → World → D → Type 0
  DoesRequest what old d answer new e = (result : Result OpId Status) × (begun : World) × Begins old what result begun × DoesBegun result begun d answer new e

-- a request that is carried to its end by one worker, with filters that are plain, is answered as its fold says, and leaves what that says
pub record IsAnswered {F D : Type 0} (pre : F → Data → PreVerdict → Data → Type 0) (post : F → Data → Completion → PostVerdict → Data
    → Type 0) (carries : D → BaseCall → Answer → D → Type 0)
    (filters : ℕ → Option F) (k : WorkerId) (what : Request) (old : World) (d : D) (answer : Answer) (new : World) (e : D) : Type 0 where
  pub performs : Performs pre post carries filters old.stack old.flow.next what (under d old) answer (under e new) new.flow.next
  pub rests : IsAtRest k new
  pub sound : IsSound new
  pub stays : new.stack ≡ old.stack

-- events that leave all but contexts and totals: cleanups
pub record Tidies (old new : World) : Type 0 where
  pub steps : List Step
  pub replies : List StepReply
  pub run : Run old steps replies new
  pub stack : new.stack ≡ old.stack
  pub flow : new.flow ≡ old.flow
  pub workers : new.workers ≡ old.workers
  pub files : new.files ≡ old.files

module _ {F D : Type 0} (pre : F → Data → PreVerdict → Data → Type 0) (post : F → Data → Completion → PostVerdict → Data
    → Type 0) (carries : D → BaseCall → Answer → D → Type 0)
    (filters : ℕ → Option F) (k : WorkerId) where
  -- a request is done, and what is due is cleaned up
  abbrev pub DoesTidily : Request → World → D → Answer → World → D → Type 0
  DoesTidily what old d answer new e = (mid : World) × DoesRequest pre post carries filters k what old d answer mid e × Tidies mid new

  abbrev pub DoesClose : Status → Request → World → D → Answer → Answer → World → D → Type 0
  DoesClose Status.Success what old d cleanup answer new e = DoesTidily what old d answer new e
  DoesClose Status.WrongStep what old d cleanup answer new e = DoesTidily what old d answer new e
  DoesClose _ what old d cleanup answer new e = (answer ≡ cleanup) × (new ≡ old) × (e ≡ d)

  -- a close is a cleanup, and then the close itself
  abbrev pub DoesOne : Request → World → D → Answer → World → D → Type 0
  DoesOne (Request.OnHandle h FileRequest.Close) old d answer new e =
      (mid : World) × (between : D) × (cleanup : Answer) × DoesTidily (Request.OnHandle h FileRequest.Cleanup) old d cleanup mid between
      × DoesClose cleanup.status (Request.OnHandle h FileRequest.Close) mid between cleanup answer new e
  DoesOne what old d answer new e = DoesTidily what old d answer new e

  -- requests are done one after the other
  abbrev pub DoesAll : List Request → World → D → List Answer → World → D → Type 0
  DoesAll [] old d [] new e = (new ≡ old) × (e ≡ d)
  DoesAll (what ∷ requests) old d (answer ∷ answers) new e =
      (mid : World) × (between : D) × DoesOne what old d answer mid between × DoesAll requests mid between answers new e
  DoesAll requests old d answers new e = ⊥

-- the requests of a list are answered as their folds say, and leave what these say
pub record AreAnswered {F D : Type 0} (pre : F → Data → PreVerdict → Data → Type 0) (post : F → Data → Completion → PostVerdict → Data
    → Type 0) (carries : D → BaseCall → Answer → D → Type 0)
    (filters : ℕ → Option F) (k : WorkerId) (requests : List Request) (old : World) (d : D) (answers : List Answer) (new : World) (e : D) : Type 0 where
  pub performs : AnswersAll pre post carries filters old.stack old.flow.next requests (under d old) answers (under e new) new.flow.next
  pub rests : IsAtRest k new
  pub sound : IsSound new
  pub stays : new.stack ≡ old.stack

abbrev pub CarriedAreFolds : {F D : Type 0} → (F → Data → PreVerdict → Data → Type 0) → (F → Data → Completion → PostVerdict → Data → Type 0) → (F → Type 0)
    → (D → BaseCall → Answer → D → Type 0) → Type 0
CarriedAreFolds {F} {D} pre post is_quiet carries =
    (filters : ℕ → Option F) (k : WorkerId) (requests : List Request) (old : World) (d : D) (answers : List Answer) (new : World) (e : D)
    → ((n : ℕ) (f : F) → filters n ≡ Some f → IsPlainFilter pre post is_quiet f) → IsSound old → IsAtRest k old → NoneStops old.stack
    → DoesAll pre post carries filters k requests old d answers new e → AreAnswered pre post carries filters k requests old d answers new e

abbrev pub CarriedIsFold : {F D : Type 0} → (F → Data → PreVerdict → Data → Type 0) → (F → Data → Completion → PostVerdict → Data → Type 0) → (F → Type 0)
    → (D → BaseCall → Answer → D → Type 0) → Type 0
CarriedIsFold {F} {D} pre post is_quiet carries =
    (filters : ℕ → Option F) (k : WorkerId) (what : Request) (old : World) (d : D) (answer : Answer) (new : World) (e : D)
    → ((n : ℕ) (f : F) → filters n ≡ Some f → IsPlainFilter pre post is_quiet f) → IsSound old → IsAtRest k old → NoneStops old.stack
    → DoesRequest pre post carries filters k what old d answer new e → IsAnswered pre post carries filters k what old d answer new e
