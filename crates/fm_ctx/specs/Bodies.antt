-- The bodies of contexts.
use Rattle.std.specs.Prelude.{◌≡◌, ℕ, ◌+◌, ◌%◌, ◌^◌, ◌==◌, not, nat_lt, List, [], ◌∷◌, ◌++◌, length, take, drop, Option, option_map, unwrap_or}
use Rattle.std.specs.Int.{w64, from_be_bytes, to_be_bytes}
use Rattle.fm_types.specs.declared.ids.CtxId.{CtxId}
use Rattle.fm_types.specs.declared.status.Status.{Status}
use Rattle.fm_types.specs.declared.status.Status.TheVariants as status
use Rattle.fm_types.specs.Refusals.{first_of}
use Rattle.fm_ctx.specs.Bags.{hand_of, holds}
use Rattle.fm_ctx.specs.Table.{Context, Slot, ContextTable, context_at, change_context}
use Rattle.fm_ctx.specs.Kept.{ContextsKept}

-- the bytes of the context that an id names
abbrev pub body_at : List Slot → CtxId → List ℕ
body_at slots c = unwrap_or (option_map (λ (x : Context). x.body) (context_at slots c)) []

abbrev pub with_body : List ℕ → Context → Context
with_body bytes x = record x { body = bytes }

abbrev pub rewritten : ContextTable → CtxId → List ℕ → ContextTable
rewritten t c bytes = record t { slots = change_context (option_map (with_body bytes)) t.slots c }

abbrev pub read_refusal : ContextTable → ℕ → CtxId → Option Status
read_refusal t w c = first_of ((not (holds (hand_of t.hands w) c), status.NotHeld) ∷ [])

abbrev pub kept_rewritten : ContextsKept → CtxId → List ℕ → ContextsKept
kept_rewritten kept c bytes = record kept { table = rewritten kept.table c bytes }

-- a body keeps its length
abbrev pub write_refusal : ContextTable → ℕ → CtxId → List ℕ → Option Status
write_refusal t w c bytes =
    first_of ((not (holds (hand_of t.hands w) c), status.NotHeld)
    ∷ (not (length bytes == length (body_at t.slots c)), status.BadRequest) ∷ [])

-- ---- the number at a place of a body: eight bytes, the highest first

abbrev pub number_at : ℕ → List ℕ → ℕ
number_at place body = from_be_bytes w64 (take 8 (drop place body))

abbrev pub raised : ℕ → ℕ → List ℕ → ℕ
raised place by body = (number_at place body + by) % 2 ^ 64

-- the body with another number at that place
abbrev pub with_number : ℕ → ℕ → List ℕ → List ℕ
with_number place number body = take place body ++ to_be_bytes w64 number ++ drop (place + 8) body

abbrev pub bump_refusal : ContextTable → ℕ → CtxId → ℕ → Option Status
bump_refusal t w c place =
    first_of ((not (holds (hand_of t.hands w) c), status.NotHeld)
    ∷ (nat_lt (length (body_at t.slots c)) (place + 8), status.BadRequest) ∷ [])

abbrev pub bumped : ContextTable → CtxId → ℕ → ℕ → ContextTable
bumped t c place by = rewritten t c (with_number place (raised place by (body_at t.slots c)) (body_at t.slots c))

-- the answer is the sum that now stands there
abbrev pub Bumps : ContextsKept → ContextsKept → CtxId → ℕ → ℕ → ℕ → Type 0
Bumps old new c place by sum = (sum ≡ raised place by (body_at old.table.slots c)) × (new ≡ record old { table = bumped old.table c place by })
