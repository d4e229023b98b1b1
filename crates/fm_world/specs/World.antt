-- The state of the manager between two events.
use Rattle.std.specs.Prelude.{ℕ, List, [], replicate}
use Rattle.fm_world.specs.Words.{CtxId, StackWorld, ContextTable, count_in, FlowTable, carried, empty_table}
use Rattle.fm_ctx.specs.Table as contexts
use Rattle.fm_world.specs.Files.{FileTable, empty_files}
use Rattle.fm_world.specs.declared.place.Place.{Place}
use Rattle.fm_world.specs.declared.place.Place.TheVariants as place

pub record World : Type 0 where
  -- filters, volumes and instances
  pub stack : StackWorld
  -- operations that weren't collected
  pub flow : FlowTable
  -- where each worker is, by its number
  pub workers : List Place
  -- contexts, the references that workers hold, and which contexts wait for their cleanup
  pub contexts : ContextTable
  -- what each filter's cleanups returned in all, by its number
  pub totals : List ℕ
  -- streams and handles
  pub files : FileTable

abbrev pub empty_stack : StackWorld
empty_stack = record { filters = []; volumes = []; instances = []; births = 0 }

-- before the first event; 48 workers are there
abbrev pub empty_world : World
empty_world = record {
  stack = empty_stack;
  flow = empty_table;
  workers = replicate 48 place.Idle;
  contexts = contexts.empty_table;
  totals = replicate 16 0;
  files = empty_files;
}

-- how many references to a context the completions carry whose postoperations are owed
abbrev pub carries : World → CtxId → ℕ
carries w c = carried c w.flow

-- the reference count: 1 where the context is linked, and one for each reference that a completion carries or a worker holds
abbrev pub reference_count : World → CtxId → ℕ
reference_count w c = count_in (carries w) w.contexts c
