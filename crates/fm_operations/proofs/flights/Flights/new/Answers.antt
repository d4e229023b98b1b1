use Rattle.fm_operations.proofs.Words.{ap₂, take}
use Rattle.std.proofs.Common.{◌∙◌, ◌++◌, ◌-◌, replicate, ℕ, List}
use Rattle.fm_operations.proofs.flights.Flights.new.Goals as goal

pub returns : goal.returns
returns c = c.in_ok-resize.ensures.items ∙ ap₂ (λ (xs : List ℕ) (n : ℕ). take 4096 xs ++ replicate (4096 - n) 0)
    c.new-counts.ensures.items c.new-counts.ensures.len
