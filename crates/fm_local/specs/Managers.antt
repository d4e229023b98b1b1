-- A manager's filters, as its folds see them.
use Rattle.std.specs.Prelude.{⊤, ◌≤◌, None, Option, Some, vec_capacity}
use Rattle.std.specs.VecDeque.{deque_capacity}
use Rattle.fm_local.specs.declared.parts.Parts.{Parts}

-- the rooms of a manager: for what was resumed and what ended, for the leaks and the steps that can be read, and for the volumes
pub record HasRooms {F B : Type 0} (m : Parts F B) : Type 0 where
  pub resumed : 256 ≤ deque_capacity m.work.resumed.items
  pub finished : 256 ≤ deque_capacity m.finished.items
  pub leaks : 1024 ≤ deque_capacity m.leaks.items
  pub trace : 1024 ≤ deque_capacity m.trace.items
  pub bases : 8 ≤ vec_capacity m.bases.all

-- the filter, if there is one, calls nothing of the manager
abbrev pub IsQuietIn : {F : Type 0} → (F → Type 0) → Option F → Type 0
IsQuietIn is_quiet None = ⊤
IsQuietIn is_quiet (Some f) = is_quiet f
