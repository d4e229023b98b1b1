-- What an operation finds below it, on its way down.
use Rattle.std.specs.Prelude.{◌≡◌, ◌⊎◌}
use Rattle.fm_stack.specs.StackWorld.{StackWorld}
use Rattle.fm_operations.specs.declared.action.Below.{Below}
use Rattle.fm_operations.specs.declared.action.Below.TheVariants.{Call}
use Rattle.fm_operations.specs.declared.stage.Stage.TheVariants.{Descending}
use Rattle.fm_operations.specs.Record.{FlowRecord}
use Rattle.fm_operations.specs.Table.{FlowTable}
use Rattle.fm_world.specs.Files.{FileTable}
use Rattle.fm_world.specs.Events.{LiesBelow, AnswersBelow}

-- which matters on the way down alone
abbrev pub FindsAt : StackWorld → FileTable → FlowTable → FlowRecord → Below → Type 0
FindsAt s f t r lies = r.stage ≡ Descending → LiesBelow s r lies × AnswersBelow f t r lies

abbrev pub IsDownOrCall : FlowRecord → Below → Type 0
IsDownOrCall r lies = (r.stage ≡ Descending) ⊎ (lies ≡ Call)
