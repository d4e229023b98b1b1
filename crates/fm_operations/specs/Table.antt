-- All operations.
use Rattle.std.specs.Prelude.{◌≡◌, ℕ, ◌+◌, ◌-◌, ◌^◌, ◌<◌, ◌≤◌, ◌==◌, ◌&&◌, ◌||◌, Bool, true, false, cond, not, List, [], ◌∷◌, ◌++◌, All, AllPairs, count_by, find, Option, Some, None, option_map, unwrap_or, Result, Ok, Err, nat_le, slice_get, ⊤}
use Rattle.std.specs.List.{list_any}
pub use Rattle.fm_types.specs.Lists.{change_first, without_first}
use Rattle.fm_types.specs.declared.ids.OpId.{OpId}
use Rattle.fm_types.specs.declared.ids.VolumeId.{VolumeId}
use Rattle.fm_types.specs.declared.ids.StreamId.{StreamId}
use Rattle.fm_types.specs.declared.ids.HandleId.{HandleId}
use Rattle.fm_types.specs.declared.ids.InstanceId.{InstanceId}
use Rattle.fm_types.specs.declared.ids.CtxId.{CtxId}
use Rattle.fm_types.specs.declared.status.Status.{Status}
use Rattle.fm_types.specs.declared.status.Status.TheVariants.{Success, TooMany, WrongStep}
use Rattle.fm_types.specs.Refusals.{AnswersOrMemory, first_of}
use Rattle.fm_callback_data.specs.declared.params.Params.{Params}
use Rattle.fm_callback_data.specs.declared.answer.Answer.{Answer}
use Rattle.fm_callback_data.specs.Params.{operation_of}
use Rattle.fm_operations.specs.declared.stage.Stage.{Stage}
use Rattle.fm_operations.specs.declared.stage.Stage.TheVariants.{Ascending, Descending}
use Rattle.fm_operations.specs.declared.entry.Ask.{Ask}
use Rattle.fm_operations.specs.declared.action.Below.{Below}
use Rattle.fm_operations.specs.Counts.{carried_by, flight, is_running_drain}
use Rattle.fm_operations.specs.Entries.{owed}
use Rattle.fm_operations.specs.Record.{FlowRecord}
use Rattle.fm_operations.specs.Answered.{bare_answer}
use Rattle.fm_operations.specs.Steps.{is_done, MayLieBelow}
use Rattle.fm_operations.specs.Sound.{IsSound}

-- the operations in the order of their numbers, and the next number
pub record FlowTable : Type 0 where
  pub operations : List FlowRecord
  pub next : ℕ

abbrev pub empty_table : FlowTable
empty_table = record { operations = []; next = 0 }

abbrev pub is_number : OpId → FlowRecord → Bool
is_number o r = r.number.0 == o.0

-- the operation of that number
abbrev pub operation_at : OpId → FlowTable → Option FlowRecord
operation_at o t = find (is_number o) t.operations

-- what a step makes of that operation; all others stay
abbrev pub changed : OpId → (FlowRecord → FlowRecord) → FlowTable → FlowTable
changed o f t = record t { operations = change_first (is_number o) f t.operations }

abbrev pub removed : OpId → FlowTable → FlowTable
removed o t = record t { operations = without_first (is_number o) t.operations }

-- what that operation tells, and something else where there is none
abbrev pub told : {A : Type 0} → (FlowRecord → A) → A → OpId → FlowTable → A
told f otherwise o t = unwrap_or (option_map f (operation_at o t)) otherwise

-- ---- begin

-- how many operations weren't collected
abbrev pub under_way : List FlowRecord → ℕ
under_way rs = count_by (λ r. not r.collected) rs

-- 256 at once, and no number twice
abbrev pub is_full : FlowTable → Bool
is_full t = nat_le 256 (under_way t.operations) || (t.next == 2 ^ 64 - 1)

abbrev pub begun_record : ℕ → VolumeId → Option StreamId → Option HandleId → ℕ → Option (List ℕ) → Params → FlowRecord
begun_record number volume stream handle born path params = record {
  number = record { 0 = number };
  operation = operation_of params;
  volume = volume;
  stream = stream;
  handle = handle;
  born = born;
  below = None;
  path = path;
  params = Some params;
  answer = bare_answer Success;
  stage = Descending;
  entries = [];
  kept = [];
  collected = false;
}

abbrev pub begun : VolumeId → Option StreamId → Option HandleId → ℕ → Option (List ℕ) → Params → FlowTable → FlowTable
begun volume stream handle born path params t = record {
  operations =
      t.operations ++ begun_record t.next volume stream handle born path params ∷ [];
  next = t.next + 1;
}

-- that instance's filter asked for it, if one is named: it visits those below that one; and it visits those that were born before `born` alone
abbrev pub placed : Option InstanceId → ℕ → FlowRecord → FlowRecord
placed below born r = record r { born = born; below = below }

-- an operation begins, with the next number: refused with 29 where the table is full, and with 1 where memory is refused
abbrev pub BeginsRecord : VolumeId → Option StreamId → Option HandleId → ℕ → Option (List ℕ) → Params → FlowTable → Result OpId Status → FlowTable → Type 0
BeginsRecord volume stream handle born path params old result new =
    AnswersOrMemory (first_of ((is_full old, TooMany) ∷ [])) result old new
    (λ o. (o.0 ≡ old.next) × (new ≡ begun volume stream handle born path params old))

-- ---- collect

abbrev pub is_collectable : FlowRecord → Bool
is_collectable r = not r.collected && is_done r

abbrev pub collect_reply : FlowRecord → Result Answer Status
collect_reply r = cond (is_collectable r) (Ok r.answer) (Err WrongStep)

-- the answer is out: only a drain that still runs needs the record
abbrev pub marked : FlowRecord → FlowRecord
marked r = record r { answer = record r.answer { bytes = [] }; collected = true }

abbrev pub collected_in : OpId → FlowTable → Option FlowRecord → FlowTable
collected_in o t None = t
collected_in o t (Some r) = cond (is_collectable r) (cond (list_any is_running_drain r.entries) (changed o marked t) (removed o t)) t

abbrev pub collected_of : OpId → FlowTable → FlowTable
collected_of o t = collected_in o t (operation_at o t)

-- nobody needs the record any more: its answer was handed out, and no drain of it runs
abbrev pub is_spent : FlowRecord → Bool
is_spent r = r.collected && not (list_any is_running_drain r.entries)

-- ---- counts

abbrev pub total : (FlowRecord → ℕ) → List FlowRecord → ℕ
total f [] = 0
total f (r ∷ rs) = f r + total f rs

-- how many references to a context the completions of owed postoperations carry
abbrev pub carried : CtxId → FlowTable → ℕ
carried c t = total (carried_by c) t.operations

-- how many operations are in flight at an instance
abbrev pub in_flight : ℕ → FlowTable → ℕ
in_flight i t = total (flight i) t.operations

-- ---- laws

pub record IsFlow (t : FlowTable) : Type 0 where
  pub sound : All IsSound t.operations
  -- each number stands once, in ascending order, below the next
  pub ascending : AllPairs (λ r s. r.number.0 < s.number.0) t.operations
  pub below : All (λ r. r.number.0 < t.next) t.operations
  pub few : under_way t.operations ≤ 256
  -- no record stays that nobody needs: where the answer was handed out, a drain runs
  pub needed : All (λ r. is_spent r ≡ false) t.operations

-- ---- what calls want of the operation that they name

-- what lies below it may be visited
abbrev pub MayLieBelowOf : Below → Option FlowRecord → Type 0
MayLieBelowOf lies_below None = ⊤
MayLieBelowOf lies_below (Some r) = MayLieBelow lies_below r.entries

-- it is there, at that stage
abbrev pub StandsAt : Stage → Option FlowRecord → Type 0
StandsAt stage None = ⊥
StandsAt stage (Some r) = r.stage ≡ stage

-- it is on its way up, and owed that postoperation next
abbrev pub OwesNext : Ask → Option FlowRecord → Type 0
OwesNext ask None = ⊥
OwesNext ask (Some r) = (r.stage ≡ Ascending) × (slice_get (owed r.entries) 0 ≡ Some ask)
