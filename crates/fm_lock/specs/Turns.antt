-- Which filter an operation's next turn calls.
use Rattle.std.specs.Prelude.{ℕ, Option, Some, None, Result, Ok, option_and_then, option_map, slice_get, slice_index_or}
use Rattle.fm_operations.specs.declared.action.FlowAction.TheVariants as action
use Rattle.fm_stack.specs.declared.instance.Instance.{Instance}
use Rattle.fm_types.specs.declared.ids.FilterId.{FilterId}
use Rattle.fm_types.specs.declared.ids.InstanceId.{InstanceId}
use Rattle.fm_world.specs.Words.{FlowAction, Status}
use Rattle.fm_lock.specs.Views.{LockedView}

-- the instance whose callback an action is
abbrev pub called_by : Result FlowAction Status → Option InstanceId
called_by (Ok (action.Pre i lent)) = Some i
called_by (Ok (action.Post i lent completion)) = Some i
called_by (Ok (action.Drain i completion)) = Some i
called_by _ = None

-- the place, among those that were handed in, of the filter that a number stands for
abbrev pub place_of : LockedView → FilterId → Option ℕ
place_of l f = slice_index_or l.loaded f.0 None

-- the same of an instance's filter
abbrev pub place_of_instance : LockedView → InstanceId → Option ℕ
place_of_instance l i = option_and_then (place_of l) (option_map (λ (row : Instance). row.filter) (slice_get l.world.stack.instances i.0))

-- the same of the filter whose callback an action is
abbrev pub place_called_by : LockedView → Result FlowAction Status → Option ℕ
place_called_by l r = option_and_then (place_of_instance l) (called_by r)
