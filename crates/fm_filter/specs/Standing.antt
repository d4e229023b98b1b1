-- What stands while a callback runs, whatever it calls: the instances, where workers are, and what the operations under way are on.
use Rattle.std.specs.Prelude.{ℕ, List, map, Option, Some, None}
use Rattle.std.specs.List.{filter_map}
use Rattle.fm_operations.specs.declared.entry.Entry.{Entry}
use Rattle.fm_operations.specs.declared.entry.Entry.TheVariants.{Drain}
use Rattle.fm_world.specs.Words.{FlowRecord, OpId, Operation, StackWorld, WorkerId}
use Rattle.fm_world.specs.World.{World}
use Rattle.fm_world.specs.declared.place.Place.{Place}

-- the instance that an entry drains
abbrev pub drain_of : Entry → Option ℕ
drain_of (Drain visit) = Some visit.instance.0
drain_of _ = None

-- what an operation is, and the instances that it was drained of
pub record Shape : Type 0 where
  pub number : OpId
  pub operation : Operation
  pub path : Option (List ℕ)
  pub drained : List ℕ

abbrev pub shape_of : FlowRecord → Shape
shape_of r = record { number = r.number; operation = r.operation; path = r.path; drained = filter_map drain_of r.entries }

pub record Standing : Type 0 where
  pub stack : StackWorld
  pub workers : List Place
  pub operations : List Shape

abbrev pub standing_of : World → Standing
standing_of w = record { stack = w.stack; workers = w.workers; operations = map shape_of w.flow.operations }

-- what no callback changes: the worker that runs it, and what stands, if that can be said
pub record Kept : Type 0 where
  pub worker : WorkerId
  pub standing : Option Standing
