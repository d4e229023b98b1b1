-- What is left of a manager's life, and a World in which nothing is.
use Rattle.std.specs.Prelude.{◌≡◌, ℕ, ◌+◌, ◌-◌, true, List, [], length, All, count_by, Option, None}
use Rattle.fm_ctx.specs.Counting.{born, cleaned_count}
use Rattle.fm_stack.specs.Instances.{is_left}
use Rattle.fm_world.specs.Words.{CtxId, Instance, Slot, is_detached}
use Rattle.fm_world.specs.Hands.{worker_pairs}
use Rattle.fm_world.specs.World.{World, reference_count}

-- contexts that aren't cleaned up
abbrev pub uncleaned : World → ℕ
uncleaned w = born w.contexts.slots - cleaned_count w.contexts.slots

-- operations, also those whose answer was handed out while a drain of theirs runs; open handles; instances that aren't detached; and such contexts
abbrev pub busy_of : World → ℕ
busy_of w = (length w.flow.operations + length w.files.handles) + (count_by is_left w.stack.instances + uncleaned w)

pub record IsOver (w : World) : Type 0 where
  pub operations : w.flow.operations ≡ []
  pub handles : w.files.handles ≡ []
  pub instances : All (λ (row : Instance). is_detached row.phase ≡ true) w.stack.instances
  -- every context that was born is cleaned up, once: none is there, so nothing is linked
  pub contexts : All (λ (s : Slot). s.context ≡ None) w.contexts.slots
  pub cleaned : born w.contexts.slots ≡ cleaned_count w.contexts.slots
  -- no link, no completion and no worker has a reference
  pub counts : (c : CtxId) → reference_count w c ≡ 0
  pub hands : worker_pairs w ≡ 0
