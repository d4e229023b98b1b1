-- Ids of contexts, and lists of references to them.
use Rattle.std.specs.Prelude.{ℕ, ◌+◌, ◌==◌, ◌&&◌, Bool, false, cond, nat_le, List, [], ◌∷◌, length, slice_index_or, sum_by, count_by, Option, Some, None}
use Rattle.std.specs.List.{list_any}
use Rattle.fm_types.specs.declared.ids.CtxId.{CtxId}

-- 1 where a test is true
abbrev pub one : Bool → ℕ
one test = cond test 1 0

-- whether the second is the same id
abbrev pub is_id : CtxId → CtxId → Bool
is_id c d = (d.slot == c.slot) && (d.generation == c.generation)

-- how many references to a context a list has
unfoldable pub references : List CtxId → CtxId → ℕ
references ids c = count_by (is_id c) ids

-- whether it has one
unfoldable pub holds : List CtxId → CtxId → Bool
holds ids c = list_any (is_id c) ids

-- the list with one reference to a context fewer
unfoldable pub without : CtxId → List CtxId → List CtxId
without c [] = []
without c (d ∷ ids) = cond (is_id c d) ids (d ∷ without c ids)

-- what a worker holds
abbrev pub hand_of : List (List CtxId) → ℕ → List CtxId
hand_of hands w = slice_index_or hands w []

-- what was in a worker's hand as its last callback returned
abbrev pub left_of : List (List CtxId) → ℕ → List CtxId
left_of left w = slice_index_or left w []

-- 16 references at most
abbrev pub is_hand_full : List (List CtxId) → ℕ → Bool
is_hand_full hands w = nat_le 16 (length (hand_of hands w))

-- how many references to a context all workers hold
unfoldable pub held : List (List CtxId) → CtxId → ℕ
held hands c = sum_by (λ (hand : List CtxId). references hand c) hands

-- whether a worker cleans up that context
abbrev pub cleans : CtxId → Option CtxId → Bool
cleans c None = false
cleans c (Some d) = is_id c d

-- how often a context stands among those that are due and those that are being cleaned up
unfoldable pub places : List CtxId → List (Option CtxId) → CtxId → ℕ
places due cleaning c = references due c + count_by (cleans c) cleaning

-- which context a worker cleans up
abbrev pub cleaning_of : List (Option CtxId) → ℕ → Option CtxId
cleaning_of cleaning w = slice_index_or cleaning w None
