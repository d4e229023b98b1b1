-- The contexts that wait for their cleanup, each linked through its slot to the one behind it.
use Rattle.std.specs.Prelude.{◌≡◌, ℕ, zero, suc, ◌<◌, ◌≤◌, ◌==◌, Bool, List, [], ◌∷◌, length, slice_index_or, slice_set, All, count_by, Option, Some, None}
use Rattle.fm_types.specs.declared.ids.CtxId.{CtxId}

-- how many slots there are, and which contexts wait, in the order in which they became due
pub record Waiting : Type 0 where
  pub slots : ℕ
  pub ids : List CtxId

-- what is met from an id on: at most as many ids as that number
unfoldable pub walk : ℕ → List (Option CtxId) → Option CtxId → List CtxId
walk zero nexts at = []
walk (suc n) nexts None = []
walk (suc n) nexts (Some c) = c ∷ walk n nexts (slice_index_or nexts c.slot None)

-- each id leads to the one behind it, and the last one to none
unfoldable pub Leads : List (Option CtxId) → Option CtxId → List CtxId → Type 0
Leads nexts at [] = at ≡ None
Leads nexts at (c ∷ ids) = (at ≡ Some c) × Leads nexts (slice_index_or nexts c.slot None) ids

unfoldable pub last_of : List CtxId → Option CtxId
last_of [] = None
last_of (c ∷ []) = Some c
last_of (c ∷ d ∷ ids) = last_of (d ∷ ids)

abbrev pub is_at : ℕ → CtxId → Bool
is_at slot c = c.slot == slot

pub record AreLinked (nexts : List (Option CtxId)) (first last : Option CtxId) (ids : List CtxId) : Type 0 where
  pub chain : Leads nexts first ids
  pub end : last ≡ last_of ids
  pub within : All (λ (c : CtxId). c.slot < length nexts) ids
  -- no slot waits twice
  pub once : (slot : ℕ) → count_by (is_at slot) ids ≤ 1

-- and there is room for all slots
pub record IsDueList (nexts : List (Option CtxId)) (first last : Option CtxId) (room_of_nexts : ℕ) : Type 0 where
  pub linked : AreLinked nexts first last (walk (length nexts) nexts first)
  pub fits : 65536 ≤ room_of_nexts

abbrev pub waiting_in : List (Option CtxId) → Option CtxId → Waiting
waiting_in nexts first = record { slots = length nexts; ids = walk (length nexts) nexts first }

-- an id comes behind the last one
abbrev pub nexts_led : List (Option CtxId) → Option CtxId → CtxId → List (Option CtxId)
nexts_led nexts None c = slice_set nexts c.slot None
nexts_led nexts (Some last) c = slice_set (slice_set nexts c.slot None) last.slot (Some c)
