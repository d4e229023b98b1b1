-- The lives of slots: which generation each slot has, and how many contexts that makes.
use Rattle.std.specs.Prelude.{◌≡◌, ℕ, ◌+◌, ◌-◌, ◌≤◌, Bool, not, List, All, sum_by, count_by}
use Rattle.fm_ctx.specs.Births.{last_generation}
use Rattle.fm_ctx.specs.declared.tally.Tally.{Tally}

-- the generation that a slot was given last, and whether that context is cleaned
pub record Life : Type 0 where
  pub generation : ℕ
  pub is_cleaned : Bool

abbrev pub is_living : Life → Bool
is_living l = not l.is_cleaned

-- what is counted is what the lives of all slots make
pub record IsAccount (lives : List Life) (tally : Tally) : Type 0 where
  pub young : All (λ (l : Life). l.generation ≤ last_generation) lives
  pub born : tally.born ≡ sum_by (λ (l : Life). l.generation + 1) lives
  pub opened : tally.living ≡ count_by is_living lives

-- a context begins
abbrev pub begun : Tally → Tally
begun tally = record tally { born = tally.born + 1; living = tally.living + 1 }

-- a context is cleaned
abbrev pub ended : Tally → Tally
ended tally = record tally { living = tally.living - 1 }
