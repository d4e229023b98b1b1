-- How the rows of slots are kept: a slab holds the contexts, and beside it stands the generation that each slot was given last.
use Rattle.std.specs.Prelude.{◌≡◌, ◌⊎◌, ℕ, ◌+◌, ◌<◌, ◌≤◌, true, false, cond, List, [], ◌∷◌, ◌++◌, length, drop, slice_index_or, slice_set, Option, Some, None, option_map}
use Rattle.fm_types.specs.declared.ids.CtxId.{CtxId}
use Rattle.fm_ctx.specs.declared.entry.Entry.{Entry}
use Rattle.fm_ctx.specs.Births.{last_generation}
use Rattle.fm_ctx.specs.Rows.{Row, context_of, vacant_row}
use Rattle.fm_ctx.specs.Table.{Context}

-- the row of a context that isn't cleaned
abbrev pub open_row : ℕ → Entry → Row
open_row g e =
    record {
      generation = g;
      kind = e.kind;
      owner = e.owner;
      volume = e.volume;
      body = e.body.items;
      link = e.link;
      count = e.count;
      carried = e.carried;
      is_cleaned = false;
    }

-- the context of an entry, if it isn't cleaned
abbrev pub context_in_entry : Entry → Option Context
context_in_entry e = cond e.is_retired None (Some (context_of (open_row 0 e)))

-- the row of what an id was found to name
abbrev pub named_row : CtxId → Option Entry → Option Row
named_row c found = option_map (open_row c.generation) found

-- the row of a slot, by its last generation and by what the slab has there
abbrev pub row_by : ℕ → Option Entry → Row
row_by g None = vacant_row g
row_by g (Some e) = cond e.is_retired (vacant_row g) (open_row g e)

-- the rows of all slots: as many as have had a generation
abbrev pub rows_in : List (Option Entry) → List ℕ → List Row
rows_in slots [] = []
rows_in slots (g ∷ lasts) = row_by g (slice_index_or slots 0 None) ∷ rows_in (drop 1 slots) lasts

-- a slot without an entry has a next generation, and one with a retired entry has had its last one
abbrev pub FitsLast : ℕ → Option Entry → Type 0
FitsLast g None = g < last_generation
FitsLast g (Some e) = (g ≤ last_generation) × (e.is_retired ≡ true → g ≡ last_generation)

pub record IsStored (slots : List (Option Entry)) (lasts : List ℕ) : Type 0 where
  -- a slot that was never given has nothing
  pub past : (k : ℕ) → length lasts ≤ k → slice_index_or slots k None ≡ None
  pub fits : (k : ℕ) → k < length lasts → FitsLast (slice_index_or lasts k 0) (slice_index_or slots k None)
  pub few : length lasts ≤ 65536

-- the generation that a slot is given: the next one, or the first one of a new slot
abbrev pub IsNextOf : List ℕ → List ℕ → ℕ → ℕ → Type 0
IsNextOf old new slot generation =
    ((slot < length old) × (generation ≡ slice_index_or old slot 0 + 1) × (new ≡ slice_set old slot generation))
    ⊎ ((slot ≡ length old) × (length old < 65536) × (generation ≡ 0) × (new ≡ old ++ 0 ∷ []))
