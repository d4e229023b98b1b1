-- How contexts are kept: a row for each slot, with the reference count of its context.
use Rattle.std.specs.Prelude.{◌≡◌, ℕ, ◌+◌, ◌-◌, ◌^◌, ◌≤◌, ◌==◌, Bool, true, false, cond, List, [], ◌∷◌, ◌++◌, length, map, Option, Some, None, option_and_then, slice_get, slice_set}
use Rattle.fm_types.specs.declared.ids.CtxId.{CtxId}
use Rattle.fm_types.specs.declared.ids.VolumeId.{VolumeId}
use Rattle.fm_types.specs.declared.context_kind.ContextKind.{ContextKind}
use Rattle.fm_types.specs.declared.context_kind.ContextKind.TheVariants as kind
use Rattle.fm_ctx.specs.declared.object.Object.{Object}
use Rattle.fm_ctx.specs.declared.owner.Owner.{Owner}
use Rattle.fm_ctx.specs.declared.owner.Owner.TheVariants as owners
use Rattle.fm_ctx.specs.declared.seat.Seat.{Seat}
use Rattle.fm_ctx.specs.declared.tally.Tally.{Tally}
use Rattle.fm_ctx.specs.Table.{Context, Slot, ContextTable, count_in}
use Rattle.fm_ctx.specs.Births.{IsNew}
use Rattle.fm_ctx.specs.Generations.{Life, IsAccount}
use Rattle.fm_ctx.specs.Kept.{ContextsKept, carried_of}
use Rattle.fm_ctx.specs.Laws.{IsLawful}
use Rattle.fm_ctx.specs.Seats.{seat_by}

-- what a slot has: the context that it was given last, until that one is cleaned
pub record Row : Type 0 where
  pub generation : ℕ
  pub kind : ContextKind
  pub owner : Owner
  pub volume : VolumeId
  pub body : List ℕ
  pub link : Option Object
  pub count : ℕ
  pub carried : ℕ
  pub is_cleaned : Bool

-- the row of a slot whose context is cleaned; but for its generation it tells nothing
abbrev pub vacant_row : ℕ → Row
vacant_row g =
    record {
      generation = g;
      kind = kind.Volume;
      owner = owners.Filter (record { 0 = 0 });
      volume = record { 0 = 0 };
      body = [];
      link = None;
      count = 0;
      carried = 0;
      is_cleaned = true;
    }

-- whether a slot has a context that isn't cleaned
abbrev pub IsOpenAt : List Row → ℕ → Type 0
IsOpenAt rows slot = (r : Row) × (slice_get rows slot ≡ Some r) × (r.is_cleaned ≡ false)

abbrev pub context_of : Row → Context
context_of r = record { kind = r.kind; owner = r.owner; volume = r.volume; body = r.body; link = r.link }

abbrev pub slot_of : Row → Slot
slot_of r = record { generation = r.generation; context = cond r.is_cleaned None (Some (context_of r)) }

abbrev pub slots_of : List Row → List Slot
slots_of rows = map slot_of rows

abbrev pub carried_in : List Row → List ℕ
carried_in rows = map (λ (r : Row). r.carried) rows

-- a row, where the id names its context
abbrev pub row_in : CtxId → Row → Option Row
row_in c r = cond (c.generation == r.generation) (cond r.is_cleaned None (Some r)) None

unfoldable pub row_at : List Row → CtxId → Option Row
row_at rows c = option_and_then (row_in c) (slice_get rows c.slot)

abbrev pub count_of_row : Option Row → ℕ
count_of_row None = 0
count_of_row (Some r) = r.count

-- the count that is stored
abbrev pub stored : List Row → CtxId → ℕ
stored rows c = count_of_row (row_at rows c)

-- the rows stand for the contexts
pub record IsSound (rows : List Row) (kept : ContextsKept) : Type 0 where
  pub lawful : IsLawful (carried_of kept) kept.table
  pub counted : (c : CtxId) → stored rows c ≡ count_in (carried_of kept) kept.table c
  pub bounded : (c : CtxId) → carried_of kept c ≤ 2 ^ 32

-- the seat of a row's context, where it is linked
abbrev pub seat_in : Row → Option Seat
seat_in r = cond r.is_cleaned None (seat_by r.owner r.link)

abbrev pub seats_of : List Row → List (Option Seat)
seats_of rows = map seat_in rows

-- the life that the slot of a row has
abbrev pub life_of : Row → Life
life_of r = record { generation = r.generation; is_cleaned = r.is_cleaned }

abbrev pub lives_of : List Row → List Life
lives_of rows = map life_of rows

-- and each linked context is found by its seat, each slot has a place among the due, and all contexts are counted
pub record IsIndexed (rows : List Row) (kept : ContextsKept) (slots : ℕ) (seats : List (Option Seat)) (tally : Tally) : Type 0 where
  pub sound : IsSound rows kept
  pub seated : seats ≡ seats_of rows
  pub placed : slots ≡ length rows
  pub account : IsAccount (lives_of rows) tally

-- ---- a new row

-- a row that was just made: one reference, nothing carried, no link
pub record IsFresh (r : Row) : Type 0 where
  pub count : r.count ≡ 1
  pub carried : r.carried ≡ 0
  pub link : r.link ≡ None
  pub open_yet : r.is_cleaned ≡ false

-- the rows with a row put into the slot of an id
abbrev pub put_row : List Row → CtxId → Row → List Row
put_row rows c r =
    let named : Row = record r { generation = c.generation } in
    cond (c.slot == length rows) (rows ++ named ∷ []) (slice_set rows c.slot named)

-- a row gets the slot of a new id
abbrev pub IsPut : List Row → List Row → Row → CtxId → Type 0
IsPut old new r c = IsNew (slots_of old) c × (new ≡ put_row old c r)

-- ---- changes of one row

abbrev pub raised : Row → Row
raised r = record r { count = r.count + 1 }

abbrev pub lowered : Row → Row
lowered r = record r { count = r.count - 1 }

abbrev pub carried_away : Row → Row
carried_away r = record r { carried = r.carried + 1 }

abbrev pub brought_back : Row → Row
brought_back r = record r { carried = r.carried - 1 }

-- the reference of the link is counted with it
abbrev pub linked_row : Object → Row → Row
linked_row object r = record r { link = Some object; count = r.count + 1 }

abbrev pub unlinked_row : Row → Row
unlinked_row r = record r { link = None }

abbrev pub cleaned_row : Row → Row
cleaned_row r = vacant_row r.generation

-- other bytes stand in the body
abbrev pub row_with : List ℕ → Row → Row
row_with bytes r = record r { body = bytes }

-- ---- what is kept

abbrev pub table_in : List Row → List (List CtxId) → List CtxId → List (Option CtxId) → ℕ → List (List CtxId) → ContextTable
table_in rows hands due cleaning leaks left =
    record { slots = slots_of rows; hands = hands; due = due; cleaning = cleaning; leaks = leaks; left = left }

abbrev pub kept_in : List Row → List (List CtxId) → List CtxId → List (Option CtxId) → ℕ → List (List CtxId) → ContextsKept
kept_in rows hands due cleaning leaks left = record { table = table_in rows hands due cleaning leaks left; carried = carried_in rows }
