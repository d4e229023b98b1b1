-- The World that the state's fields stand for, and what holds between them.
use Rattle.std.specs.Prelude.{◌≡◌, ℕ, List}
use Rattle.fm_types.specs.declared.ids.CtxId.{CtxId}
use Rattle.fm_stack.specs.StackWorld.{StackWorld}
use Rattle.fm_ctx.specs.Kept.{ContextsKept, carried_of}
use Rattle.fm_operations.specs.Table.{FlowTable, carried}
use Rattle.fm_world.specs.declared.place.Place.{Place}
use Rattle.fm_world.specs.World.{World}
use Rattle.fm_world.specs.Sound.{IsSound}
use Rattle.fm_core.specs.FilesKept.{FilesKept}

abbrev pub world_of : StackWorld → FlowTable → List Place → ContextsKept → List ℕ → FilesKept → World
world_of stack flow workers kept totals files = record {
  stack = stack;
  flow = flow;
  workers = workers;
  contexts = kept.table;
  totals =
      totals;
  files = files.table;
}

-- what the layer of contexts keeps of references that completions carry, the operations' completions say too
abbrev pub IsTied : ContextsKept → FlowTable → Type 0
IsTied kept flow = (c : CtxId) → carried_of kept c ≡ carried c flow

pub record IsState (w : World) (kept : ContextsKept) : Type 0 where
  pub sound : IsSound w
  pub tied : IsTied kept w.flow
