-- What is kept beside all operations.
use Rattle.std.specs.Prelude.{◌≡◌, ℕ, ◌+◌, ◌-◌, ◌<◌, ⊤, List, set, AllPairs, count_by, get_or, Option, Some, None, Result, Ok, Err, cond, ◌==◌}
use Rattle.fm_types.specs.declared.ids.InstanceId.{InstanceId}
use Rattle.fm_types.specs.declared.status.Status.{Status}
use Rattle.fm_callback_data.specs.Data.{Data}
use Rattle.fm_operations.specs.declared.action.Below.{Below}
use Rattle.fm_operations.specs.declared.action.Below.TheVariants as below
use Rattle.fm_operations.specs.declared.action.FlowAction.{FlowAction}
use Rattle.fm_operations.specs.declared.action.FlowAction.TheVariants as action
use Rattle.fm_operations.specs.declared.entry.PreState.{PreState}
use Rattle.fm_operations.specs.declared.entry.PostState.{PostState}
use Rattle.fm_operations.specs.Record.{FlowRecord}
use Rattle.fm_operations.specs.Counts.{flight, leaves_by, post_leaves_by}
use Rattle.fm_operations.specs.Table.{total, under_way}
use Rattle.fm_operations.specs.Creates.{is_creating}

-- the number that is kept for an instance; none past the table
abbrev pub kept_at : List ℕ → ℕ → ℕ
kept_at counts i = get_or counts i 0

-- for each instance of the table: how many operations are in flight there
abbrev pub IsInFlight : List ℕ → List FlowRecord → Type 0
IsInFlight counts rs = (i : ℕ) → i < 4096 → kept_at counts i ≡ total (flight i) rs

-- how many weren't collected, how many are creates that nobody answered, and how many are in flight at each instance
pub record IsTallied (flying creating : ℕ) (counts : List ℕ) (rs : List FlowRecord) : Type 0 where
  pub under_way : flying ≡ under_way rs
  pub creates : creating ≡ count_by is_creating rs
  pub flights : IsInFlight counts rs

-- one more at an instance, if one is named, and one less; nothing changes past the table
abbrev pub one_more : Option InstanceId → List ℕ → List ℕ
one_more None counts = counts
one_more (Some i) counts = set counts i.0 (kept_at counts i.0 + 1)

abbrev pub one_less : Option InstanceId → List ℕ → List ℕ
one_less None counts = counts
one_less (Some i) counts = set counts i.0 (kept_at counts i.0 - 1)

-- fewer than that many are at the instance of the table that is named
abbrev pub MayEnter : Option InstanceId → ℕ → List ℕ → Type 0
MayEnter None most counts = ⊤
MayEnter (Some i) most counts = i.0 < 4096 → kept_at counts i.0 < most

-- one is there
abbrev pub MayLeave : Option InstanceId → List ℕ → Type 0
MayLeave None counts = ⊤
MayLeave (Some i) counts = i.0 < 4096 → 0 < kept_at counts i.0

-- each number stands once, in ascending order
abbrev pub IsAscending : List FlowRecord → Type 0
IsAscending rs = AllPairs (λ r s. r.number.0 < s.number.0) rs

-- the instance to which the answer of `next` brings an operation on its way down
abbrev pub entered : Below → Result FlowAction Status → Option InstanceId
entered lies_below (Ok (action.Pre i lent)) = Some i
entered (below.Instance i is_called) (Ok action.Moved) = Some i
entered lies_below _ = None

-- the instance that an operation leaves where a callback there gives that verdict
abbrev pub left_pre : PreState → Option InstanceId → Option InstanceId
left_pre state at = cond (leaves_by state == 1) at None

abbrev pub left_post : PostState → Option InstanceId → Option InstanceId
left_post state at = cond (post_leaves_by state == 1) at None

-- where the data was taken, and none where it was handed back
abbrev pub if_taken : Result ⊤ Data → Option InstanceId → Option InstanceId
if_taken (Ok t) at = at
if_taken (Err lent) at = None
