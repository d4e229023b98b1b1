-- An operation counts once.
use Rattle.std.specs.Prelude.{ℕ, ◌≤◌, ◌==◌, ◌&&◌, ◌||◌, Bool, false}
use Rattle.std.specs.List.{list_any}
use Rattle.fm_operations.specs.declared.entry.Entry.{Entry}
use Rattle.fm_operations.specs.declared.entry.Entry.TheVariants.{Pre, Base, Post, Drain}
use Rattle.fm_operations.specs.Entries.{is_pre_open, is_post_open}
use Rattle.fm_operations.specs.Counts.{flight}
use Rattle.fm_operations.specs.Record.{FlowRecord}
use Rattle.fm_operations.specs.Sound.{IsSound}
use Rattle.fm_operations.specs.Drains.{owes}

-- at each instance an operation is in flight once or not at all: so the sum over all operations is how many of them are
abbrev pub InFlightOnce : Type 0
InFlightOnce = (r : FlowRecord) → IsSound r → (i : ℕ) → flight i r ≤ 1

-- whether a callback of the instance runs or holds the operation at the entry
abbrev pub is_at : ℕ → Entry → Bool
is_at i (Pre visit) = (visit.instance.0 == i) && is_pre_open visit.state
is_at i (Base status information) = false
is_at i (Post visit) = (visit.instance.0 == i) && is_post_open visit.state
is_at i (Drain visit) = (visit.instance.0 == i) && visit.is_running

-- whether the operation is in flight at the instance
abbrev pub flies : ℕ → FlowRecord → Bool
flies i r = owes i r || list_any (is_at i) r.entries
