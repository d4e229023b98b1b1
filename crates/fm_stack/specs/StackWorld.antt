-- The filters, volumes and instances of a run, each list in the order of its ids, and how many instances became attached so far.
use Rattle.std.specs.Prelude.{ℕ, List, []}
use Rattle.fm_stack.specs.declared.filter.Filter.{Filter}
use Rattle.fm_stack.specs.declared.volume.Volume.{Volume}
use Rattle.fm_stack.specs.declared.instance.Instance.{Instance}

pub record StackWorld : Type 0 where
  pub filters : List Filter
  pub volumes : List Volume
  pub instances : List Instance
  pub births : ℕ

-- nothing was registered, mounted or attached yet
abbrev pub empty_stack : StackWorld
empty_stack = record { filters = []; volumes = []; instances = []; births = 0 }
