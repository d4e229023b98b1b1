-- The instances that an operation is still to meet.
use Rattle.std.specs.Prelude.{[], ◌∷◌, ◌≡◌, ◌≤◌, List, None, Option, Some, ℕ}
use Rattle.fm_local.specs.Words.{Operation, StackWorld, VolumeId}
use Rattle.fm_stack.specs.Next.{is_candidate, IsHighest, NonePasses}
use Rattle.fm_stack.specs.Stacks.{IsStack}

-- each is the highest below the one before it, of those that are to be visited; and below the last there is none
abbrev pub Visits : StackWorld → VolumeId → ℕ → Operation → Option ℕ → List ℕ → Type 0
Visits s v born operation cursor [] = NonePasses (is_candidate s v cursor born operation) s.instances
Visits s v born operation cursor (i ∷ below) = IsHighest (is_candidate s v cursor born operation) s.instances i × Visits s v born operation (Some i) below

-- of filters, volumes and instances that are sound: there is such a list from every instance on, and there is one alone
pub record OneWay : Type 0 where
  pub some : (s : StackWorld) (v : VolumeId) (born : ℕ) (operation : Operation) → IsStack s → born ≤ s.births
      → (below : List ℕ) × Visits s v born operation None below
  pub alone : (s : StackWorld) (v : VolumeId) (born : ℕ) (operation : Operation) (cursor : Option ℕ) (a b : List ℕ) → IsStack s
      → Visits s v born operation cursor a → Visits s v born operation cursor b → a ≡ b
