-- What a callback's calls may make of its thread's grip. Other threads make events between two of them, so nothing is said of the state.
use Rattle.std.specs.Prelude.{◌≡◌, ◌&&◌, Bool, List, not, Result, Err, MatchBool, MatchResult, length, nat_le}
use Rattle.std.specs.List.{list_any}
use Rattle.fm_callback_data.specs.declared.verdict.PreVerdict.{PreVerdict}
use Rattle.fm_lock.specs.Events.{Holding}
use Rattle.fm_lock.specs.Views.{HandView}
use Rattle.fm_types.specs.declared.ids.OpId.{OpId}
use Rattle.fm_types.specs.declared.status.Status.{Status}
use Rattle.fm_types.specs.declared.status.Status.TheVariants as status
use Rattle.fm_world.specs.StepHands.{Resumed}
use Rattle.fm_worker.specs.OpQueues.{is_number, put_in}

-- an operation can't be resumed, since there is no place for it
abbrev pub lacks_room : OpId → List OpId → Bool
lacks_room o resumed = nat_le 256 (length resumed) && not (list_any (is_number o) resumed)

-- what is resumed waits; and without a place for it nothing is resumed, and the answer is 29
abbrev pub Waits : OpId → List OpId → Result (Unit {0}) Status → List OpId → Type 0
Waits o resumed result after =
    MatchBool (lacks_room o resumed) ((result ≡ Err status.TooMany) × (after ≡ resumed))
    (MatchResult result (λ _. after ≡ put_in o resumed) (λ _. after ≡ resumed))

-- a preoperation is resumed: with its context, if the verdict sends one along
abbrev pub ResumesPre : PreVerdict → OpId → HandView → List OpId → Result (Unit {0}) Status → HandView → List OpId → Type 0
ResumesPre verdict o hand resumed result new after = Holding (Resumed verdict result) hand new × Waits o resumed result after

-- a postoperation is resumed
abbrev pub ResumesPost : OpId → HandView → List OpId → Result (Unit {0}) Status → HandView → List OpId → Type 0
ResumesPost o hand resumed result new after = (new ≡ hand) × Waits o resumed result after

-- an operation waits with those that callbacks resumed, or where no place is left it is set aside
abbrev pub WaitsOr : OpId → List OpId → List OpId → List OpId → List OpId → Type 0
WaitsOr operation resumed aside resumed_after aside_after = MatchBool (lacks_room operation resumed)
    ((resumed_after ≡ resumed) × (aside_after ≡ put_in operation aside))
    ((resumed_after ≡ put_in operation resumed) × (aside_after ≡ aside))

-- a work item ran once, on a port like that one, as far as what waits there to be carried on; and those wait behind it
abbrev pub RunsOnce : {P : Type 0} → P → (P → List OpId) → (P → P → Type 0) → List OpId → Type 0
RunsOnce {P} port resumed works left = (before after : P) × (resumed before ≡ resumed port) × works before after × (resumed after ≡ left)

-- it has run so, whatever was done after it
abbrev pub HasRun : {P : Type 0} → P → (P → List OpId) → (P → P → Type 0) → Type 0
HasRun port resumed works = (left : List OpId) × RunsOnce port resumed works left
