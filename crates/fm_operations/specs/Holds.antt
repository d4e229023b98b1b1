-- Operations that a callback holds, and those whose next postoperation is one worker's.
use Rattle.std.specs.Prelude.{◌≡◌, ℕ, ◌≤◌, ◌==◌, ◌&&◌, ◌||◌, Bool, true, false, cond, All, Option, Some, None, slice_get}
use Rattle.std.specs.List.{list_any}
use Rattle.fm_types.specs.declared.ids.OpId.{OpId}
use Rattle.fm_types.specs.declared.ids.WorkerId.{WorkerId}
use Rattle.fm_operations.specs.declared.hold.Hold.{Hold}
use Rattle.fm_operations.specs.declared.hold.Hold.TheVariants as hold
use Rattle.fm_operations.specs.declared.stage.Stage.{Stage}
use Rattle.fm_operations.specs.declared.stage.Stage.TheVariants.{Ascending, PreHeld, PostHeld}
use Rattle.fm_operations.specs.declared.entry.PreState.{PreState}
use Rattle.fm_operations.specs.declared.entry.PreState.TheVariants as pre
use Rattle.fm_operations.specs.declared.entry.PostState.{PostState}
use Rattle.fm_operations.specs.declared.entry.PostState.TheVariants as post
use Rattle.fm_operations.specs.declared.entry.Ask.{Ask}
use Rattle.fm_operations.specs.declared.entry.Entry.{Entry}
use Rattle.fm_operations.specs.declared.entry.Entry.TheVariants.{Pre, Post}
use Rattle.fm_operations.specs.Entries.{owed, last_visited, last_posted}
use Rattle.fm_operations.specs.Record.{FlowRecord}
use Rattle.fm_operations.specs.Table.{FlowTable, told}

-- whether that is the number
abbrev pub same_number : ℕ → Option ℕ → Bool
same_number i None = false
same_number i (Some j) = j == i

abbrev pub is_pre_held : PreState → Bool
is_pre_held pre.Held = true
is_pre_held _ = false

abbrev pub is_post_held : PostState → Bool
is_post_held post.Held = true
is_post_held _ = false

-- whether the entry is of a callback of that kind of the instance, which holds the operation
abbrev pub holds_at : Hold → ℕ → Entry → Bool
holds_at hold.Pre i (Pre visit) = (visit.instance.0 == i) && is_pre_held visit.state
holds_at hold.Post i (Post visit) = (visit.instance.0 == i) && is_post_held visit.state
holds_at _ i _ = false

-- whether a callback of that kind of the instance holds the operation
abbrev pub is_held : Hold → ℕ → FlowRecord → Bool
is_held kind i r = list_any (holds_at kind i) r.entries

-- that instance, by the operation's stage and the callback that came last on the way down or up
abbrev pub holder_at : Hold → Stage → Option ℕ → Option ℕ → Option ℕ
holder_at hold.Pre PreHeld down up = down
holder_at hold.Post PostHeld down up = up
holder_at _ _ down up = None

abbrev pub holder : Hold → FlowRecord → Option ℕ
holder kind r = holder_at kind r.stage (last_visited r.entries) (last_posted r.entries)

-- the lowest number of those that are held there, if one is
abbrev pub IsFirstHeld : Hold → ℕ → FlowTable → Option OpId → Type 0
IsFirstHeld kind i t None = All (λ r. is_held kind i r ≡ false) t.operations
IsFirstHeld kind i t (Some o) =
    (told (is_held kind i) false o t ≡ true) × All (λ r. is_held kind i r ≡ true → o.0 ≤ r.number.0) t.operations

-- the worker that alone may make the postoperation that comes next: none where it isn't synchronized, where a drain comes in its place, or where nothing comes
abbrev pub sync_at : Stage → Option Ask → Option WorkerId
sync_at Ascending (Some ask) = cond ask.is_synchronized (Some ask.worker) None
sync_at _ _ = None

abbrev pub sync_of : Bool → FlowRecord → Option WorkerId
sync_of is_stopping r = cond (r.collected || is_stopping) None (sync_at r.stage (slice_get (owed r.entries) 0))
