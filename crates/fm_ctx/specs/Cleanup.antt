-- Cleaning up: a worker takes the context that is due longest, and reports it cleaned.
use Rattle.std.specs.Prelude.{ℕ, [], drop, slice_get, slice_set, Option, Some, None, option_map, option_and_then}
use Rattle.fm_types.specs.declared.ids.CtxId.{CtxId}
use Rattle.fm_ctx.specs.declared.due.Due.{Due}
use Rattle.fm_ctx.specs.Table.{Context, ContextTable, context_at, change_context}

-- what a worker is told of the context that it cleans up
abbrev pub due_of : CtxId → Context → Due
due_of c x = record { id = c; kind = x.kind; owner = x.owner; body = x.body }

-- the context that is due longest
abbrev pub due_reply : ContextTable → Option Due
due_reply t = option_and_then (λ c. option_map (due_of c) (context_at t.slots c)) (slice_get t.due 0)

-- its body is out
abbrev pub emptied : Context → Context
emptied x = record x { body = [] }

abbrev pub taken_due : ContextTable → ℕ → CtxId → ContextTable
taken_due t w c =
    record t {
      slots = change_context (option_map emptied) t.slots c;
      due = drop 1 t.due;
      cleaning = slice_set t.cleaning w (Some c);
    }

-- where none is due nothing changes
abbrev pub taken_of : ContextTable → ℕ → Option CtxId → ContextTable
taken_of t w None = t
taken_of t w (Some c) = taken_due t w c

abbrev pub after_take_due : ContextTable → ℕ → ContextTable
after_take_due t w = taken_of t w (slice_get t.due 0)

-- the id is never given again, and names nothing
abbrev pub cleaned : ContextTable → ℕ → CtxId → ContextTable
cleaned t w c =
    record t {
      slots = change_context (λ (x : Option Context). None) t.slots c;
      cleaning = slice_set t.cleaning w None;
    }
