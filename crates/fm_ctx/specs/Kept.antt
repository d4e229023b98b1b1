-- What the layer keeps: the table of contexts, and for each slot how many references completions carry.
use Rattle.std.specs.Prelude.{ℕ, ◌+◌, ◌-◌, ◌==◌, cond, is_some, List, [], ◌∷◌, ◌++◌, length, slice_index, slice_set}
use Rattle.fm_types.specs.declared.ids.CtxId.{CtxId}
use Rattle.fm_types.specs.Lists.{updated}
use Rattle.fm_ctx.specs.Table.{ContextTable, context_at, empty_table}

pub record ContextsKept : Type 0 where
  pub table : ContextTable
  -- one number for each slot
  pub carried : List ℕ

abbrev pub nothing_kept : ContextsKept
nothing_kept = record { table = empty_table; carried = [] }

-- how many references to a context completions carry
unfoldable pub carried_of : ContextsKept → CtxId → ℕ
carried_of kept c = cond (is_some (context_at kept.table.slots c)) (slice_index kept.carried c.slot) 0

-- one more is carried, or one fewer
abbrev pub carried_more : List ℕ → CtxId → List ℕ
carried_more carried c = updated (λ n. n + 1) carried c.slot

abbrev pub carried_fewer : List ℕ → CtxId → List ℕ
carried_fewer carried c = updated (λ n. n - 1) carried c.slot

-- of a context that was just allocated none is
abbrev pub carried_none : List ℕ → CtxId → List ℕ
carried_none carried c = cond (c.slot == length carried) (carried ++ 0 ∷ []) (slice_set carried c.slot 0)
