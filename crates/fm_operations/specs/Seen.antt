-- What callbacks see of an operation's parameters.
use Rattle.std.specs.Prelude.{◌≡◌, ℕ, ◌≤◌, List, length, Some, Ok, unwrap_or, slice_get}
use Rattle.fm_operations.specs.Entries.{last_place}
use Rattle.fm_types.specs.declared.ids.WorkerId.{WorkerId}
use Rattle.fm_callback_data.specs.declared.params.Params.{Params}
use Rattle.fm_callback_data.specs.Data.{Data, current_of, answered_data}
use Rattle.fm_operations.specs.declared.action.FlowAction.TheVariants as action
use Rattle.fm_operations.specs.declared.entry.Ask.{Ask}
use Rattle.fm_operations.specs.declared.entry.PreState.{PreState}
use Rattle.fm_operations.specs.declared.entry.PostState.{PostState}
use Rattle.fm_operations.specs.Record.{FlowRecord}
use Rattle.fm_operations.specs.Steps.{lent_answer, unwound, call_post, pre_returned_of, changed_held, pre_settled, post_settled}

-- what the postoperation of a visit at that place is to see: the first parameters that were received and changed there or below, else the current ones. A
-- visit's place is how many were kept before it
abbrev pub sees : List Params → ℕ → Params → Params
sees kept place current = unwrap_or (slice_get kept place) current

pub record ParametersSeen : Type 0 where
  -- a callback that hands back a change has the changed parameters go down, and its own postoperation sees what it received
  pub own : (state : PreState) (returned : Data) (r : FlowRecord) → (pre_returned_of state returned r).params ≡ Some (current_of returned)
      × (sees (pre_returned_of state returned r).kept (length r.kept) (current_of returned) ≡ returned.received)
  -- the visits above it go on seeing what they saw
  pub above : (state : PreState) (returned : Data) (r : FlowRecord) (place : ℕ) → place ≤ length r.kept
      → sees (pre_returned_of state returned r).kept place (current_of returned) ≡ sees r.kept place returned.received
  -- a postoperation is given what it is to see
  pub post : (worker : WorkerId) (ask : Ask) (r : FlowRecord) (current : Params) → r.params ≡ Some current
      → (call_post worker ask r).reply ≡ Ok (action.Post ask.instance
      (answered_data (sees r.kept ask.place current) (lent_answer r.operation r.answer)) ask.completion)
  -- and those above it still are to see what they were
  pub later : (place at : ℕ) (r : FlowRecord) (current : Params) → r.params ≡ Some current → at ≤ place
      → ((unwound place r).params ≡ Some (sees r.kept place current)) × (sees (unwound place r).kept at (sees r.kept place current) ≡ sees r.kept at current)
  -- a preoperation that holds the operation has other parameters go down: its own postoperation and those of the visits above it see what they saw
  pub changed : (params : Params) (r : FlowRecord) (current : Params) (place at : ℕ) → r.params ≡ Some current → last_place r.entries ≡ Some place
      → place ≤ length r.kept → at ≤ place
      → ((changed_held params r).params ≡ Some params) × (sees (changed_held params r).kept at params ≡ sees r.kept at current)
  -- a callback that held the operation and is resumed leaves all that is to be seen
  pub held : (state : PreState) (end : PostState) (r : FlowRecord)
      → ((pre_settled state r).params ≡ r.params) × ((pre_settled state r).kept ≡ r.kept) × ((post_settled end r).params ≡ r.params)
      × ((post_settled end r).kept ≡ r.kept)
