-- Sweeps: links go, slot by slot, along a chain or through all slots.
use Rattle.fm_ctx.proofs.Words.{ℕ, zero, suc, Bool, true, false, cond, List, [], length, map, get_or, Option, Some, None, is_some, option_map, refl, sym, ap}
use Rattle.fm_ctx.proofs.Words.{ap₂, arith, inl, inr, cases_eq, cases_lt, length-map, nat_tests, CtxId, Object, Slot, Context, ContextTable, context_at, link_at}
use Rattle.fm_ctx.proofs.Words.{changed_slot, with_link, unlinked, id_at, Row, slots_of, seats_of, seat_in, slice_get_past}
use Rattle.fm_ctx.proofs.Words.{Settles, Sweeps, link_test, ContextsKept, carried_of, swept_slot, passes, context_of_slot, updated-same, updated-other}
use Rattle.fm_ctx.proofs.Words.{is_on, last_below, stands, end_of, Seat, slot_of, IfSome}
use Rattle.std.proofs.Common.{◌≡◌, ◌<◌, ◌≤◌, ◌≢◌, ◌+◌, ◌∷◌, ◌∙◌, slice_get}
use Rattle.fm_ctx.specs.declared.seat.Links.{Links}
use Rattle.fm_ctx.specs.declared.seat.Links.TheVariants.{To, Of}
use Rattle.fm_ctx.specs.Seats.{chain_to}
use Rattle.fm_ctx.specs.Sweep.{swept_at, links_on, seat_of_context, seat_passes}
use Rattle.fm_ctx.proofs.Slots.{there_changed}
use Rattle.fm_ctx.proofs.Counts.{count_unlinked}
use Rattle.fm_ctx.proofs.Objects.{same_object-same}
use Rattle.fm_ctx.proofs.Chains.{stands_within}
use Rattle.fm_ctx.proofs.Lasts.{last_some, last_none, last_agrees}
use Rattle.fm_ctx.proofs.Leaving.{settles_none, settles_both, settles_by_one}
use Rattle.fm_ctx.proofs.Alike.{settles_alike}
use Rattle.fm_ctx.proofs.Carried.{carried_there, carried_numbers}
use Rattle.fm_ctx.proofs.Rows.{map_updated, updated_nothing}

-- what is among those has a link
pub passes_linked : (links : Links) (slots : List Slot) (k : ℕ) → passes (link_test links) (context_of_slot slots k) ≡ true
    → is_some (link_at slots (id_at slots k)) ≡ true
unfolding context_at
passes_linked (To object) slots k passed = grind (arith, nat_tests)
passes_linked (Of owner) slots k passed = grind (arith, nat_tests)

-- ---- one slot

-- without its link a context isn't among them
bare_fails : (links : Links) (x : Context) → link_test links (with_link None x) ≡ false
bare_fails (To object) x = refl
bare_fails (Of owner) x = refl

module _ (carried : CtxId → ℕ) (t : ContextTable) (links : Links) (k : ℕ) where
  abbrev pub swept_slots : List Slot
  swept_slots = (swept_at carried t (link_test links) k).slots

  pub swept_elsewhere : (j : ℕ) → j ≢ k → context_of_slot swept_slots j ≡ context_of_slot t.slots j
  swept_elsewhere j apart = grind (arith, nat_tests, updated-other (changed_slot (option_map (with_link None)) (id_at t.slots k)) t.slots k j apart)

  pub swept_here : passes (link_test links) (context_of_slot swept_slots k) ≡ false
  swept_here = at_slot (slice_get t.slots k) refl
    where
      at_slot : (o : Option Slot) → slice_get t.slots k ≡ o → passes (link_test links) (context_of_slot swept_slots k) ≡ false
      at_slot None there = grind (arith, nat_tests)
      at_slot (Some s) there = grind (
        arith,
        nat_tests,
        updated-same (changed_slot (option_map (with_link None)) (id_at t.slots k))
            t.slots k s there,
        bare_fails links,
      )

-- ---- some slots

pub record SweptSome (test : Context → Bool) (old new : ContextsKept) : Type 0 where
  pub slots : map (swept_slot test) new.table.slots ≡ map (swept_slot test) old.table.slots
  pub there : (c : CtxId) → is_some (context_at new.table.slots c) ≡ is_some (context_at old.table.slots c)
  pub rest : new ≡ record old { table = record old.table { slots = new.table.slots; due = new.table.due } }
  pub settles : Settles (carried_of old) old.table (carried_of old) new.table

pub sweep_none : (test : Context → Bool) (kept : ContextsKept) → SweptSome test kept kept
sweep_none test kept = record {
  slots = refl;
  there = λ c. refl;
  rest = refl;
  settles = settles_none (carried_of kept) kept.table (carried_of kept) kept.table refl (λ c. refl);
}

pub sweep_more : {old kept : ContextsKept} (k : ℕ) (links : Links) → SweptSome (link_test links) old kept
    → SweptSome (link_test links) old (record kept { table = swept_at (carried_of kept) kept.table (link_test links) k })
sweep_more {old} {kept} k links so_far = split (passes test (context_of_slot t.slots k)) refl
  where
    t : ContextTable
    t = kept.table

    test : Context → Bool
    test = link_test links

    split : (b : Bool) → passes test (context_of_slot t.slots k) ≡ b
        → SweptSome test old (record kept { table = cond b (unlinked (carried_of kept) t (id_at t.slots k)) t })
    split false is = record { slots = so_far.slots; there = so_far.there; rest = so_far.rest; settles = so_far.settles }
    split true is =
        let c = id_at t.slots k in
        let same = λ (d : CtxId). sym (carried_there old t so_far.there d ∙ carried_numbers old kept (ap (λ (k : ContextsKept). k.carried) so_far.rest) d) in
        let counts = count_unlinked (carried_of kept) t c (passes_linked links t.slots k is) in
        let after = unlinked (carried_of kept) t c in
        let step = settles_by_one (carried_of kept) t after c refl counts in
        record {
          slots = map_updated (swept_slot test) (changed_slot (option_map (with_link None)) c) (λ s. s) t.slots k
              (λ s there. grind (arith, nat_tests, bare_fails links))
              ∙ updated_nothing (map (swept_slot test) t.slots) k ∙ so_far.slots;
          there = λ d. there_changed (with_link None) t.slots c d ∙ so_far.there d;
          rest = ap (λ (k : ContextsKept). record k { table = record k.table { slots = after.slots; due = after.due } }) so_far.rest;
          settles = settles_both so_far.settles (settles_alike same same step);
        }

swept_already : (test : Context → Bool) (slots : List Slot) → ((k : ℕ) → passes test (context_of_slot slots k) ≡ false) → map (swept_slot test) slots ≡ slots
swept_already test [] none = refl
swept_already test (s ∷ slots) none =
    ap₂ (λ (r : Slot) (rest : List Slot). r ∷ rest) (grind (arith, nat_tests, none 0)) (swept_already test slots (λ k. none (suc k)))

-- none is left that passes
pub sweep_all : {test : Context → Bool} {old new : ContextsKept} → SweptSome test old new → ((k : ℕ) → passes test (context_of_slot new.table.slots k) ≡ false)
    → Sweeps (carried_of old) test old.table new.table
sweep_all {test} {old} {new} s none = record {
  slots = sym (swept_already test new.table.slots none) ∙ s.slots;
  hands = ap (λ (k : ContextsKept). k.table.hands) s.rest;
  cleaning = ap (λ (k : ContextsKept). k.table.cleaning) s.rest;
  leaks = ap (λ (k : ContextsKept). k.table.leaks) s.rest;
  left = ap (λ (k : ContextsKept). k.table.left) s.rest;
  settles = s.settles;
}

nothing_past : (test : Context → Bool) (slots : List Slot) (k : ℕ) → length slots ≤ k → passes test (context_of_slot slots k) ≡ false
nothing_past test slots k past = grind (arith, nat_tests, slice_get_past slots k past)

-- a sweep leaves as many slots
pub length-swept : {test : Context → Bool} {old new : ContextsKept} → SweptSome test old new → length new.table.slots ≡ length old.table.slots
length-swept {test} {old} {new} s =
    sym (length-map new.table.slots (swept_slot test)) ∙ ap length s.slots ∙ length-map old.table.slots (swept_slot test)

-- ---- what is passed

-- none of the slots that were passed is among those
pub record SweptWhere (links : Links) (old new : ContextsKept) (Passed : ℕ → Type 0) : Type 0 where
  pub swept : SweptSome (link_test links) old new
  pub done : (k : ℕ) → Passed k → passes (link_test links) (context_of_slot new.table.slots k) ≡ false

pub where_none : (links : Links) (kept : ContextsKept) → SweptWhere links kept kept (λ k. k < 0)
where_none links kept = record { swept = sweep_none (link_test links) kept; done = λ k below. absurd (omega (arith, below)) }

pub where_more : {links : Links} {old kept : ContextsKept} {Passed : ℕ → Type 0} (Next : ℕ → Type 0) (slot : ℕ) → SweptWhere links old kept Passed
    → ((k : ℕ) → Next k → k ≢ slot → passes (link_test links) (context_of_slot kept.table.slots k) ≡ false)
    → SweptWhere links old (record kept { table = swept_at (carried_of kept) kept.table (link_test links) slot }) Next
where_more {links} {old} {kept} Next slot s others = record {
  swept = sweep_more slot links s.swept;
  done = λ k next.
      elim (cases_eq k slot) [
        | inl here ↦
            ap (λ n. passes (link_test links) (context_of_slot (swept_slots (carried_of kept) kept.table links slot) n)) here
            ∙ swept_here (carried_of kept) kept.table links slot
        | inr apart ↦ ap (passes (link_test links)) (swept_elsewhere (carried_of kept) kept.table links slot k apart) ∙ others k next apart
      ];
}

-- through all slots
pub upto_more : {links : Links} {old kept : ContextsKept} {k : ℕ} → SweptWhere links old kept (λ j. j < k)
    → SweptWhere links old (record kept { table = swept_at (carried_of kept) kept.table (link_test links) k }) (λ j. j < k + 1)
upto_more {k = k} s = where_more (λ j. j < k + 1) k s (λ j below apart. s.done j (omega (arith, below, apart)))

pub upto_all : {links : Links} {old new : ContextsKept} {k : ℕ} → SweptWhere links old new (λ j. j < k) → length new.table.slots ≤ k
    → Sweeps (carried_of old) (link_test links) old.table new.table
upto_all {links} {old} {new} {k} s all =
    sweep_all s.swept (λ j. elim (cases_lt j k) [
      | inl below ↦ s.done j below
      | inr past ↦ nothing_past
          (link_test links) new.table.slots j (omega (arith, past, all))
    ])

-- ---- down a chain

-- how far the walk came: from there on nothing is linked to the object
pub record SweptDown (object : Object) (old new : ContextsKept) (next : Option ℕ) : Type 0 where
  pub upto : ℕ
  pub next_is : next ≡ last_below (links_on new.table.slots (chain_to object)) upto
  pub down : SweptWhere (To object) old new (λ k. upto ≤ k)

pub down_none : (object : Object) (kept : ContextsKept) (next : Option ℕ)
    → next ≡ last_below (links_on kept.table.slots (chain_to object)) (length kept.table.slots) → SweptDown object kept kept next
down_none object kept next is = record {
  upto = length kept.table.slots;
  next_is = is;
  down = record { swept = sweep_none (link_test (To object)) kept; done = nothing_past (link_test (To object)) kept.table.slots };
}

-- what is linked to the object is on its chain
off_chain : (object : Object) (o : Option Context) → is_on (chain_to object) (seat_of_context o) ≡ false → passes (link_test (To object)) o ≡ false
off_chain object None off = refl
off_chain object (Some x) off = at_link x.link refl
  where
    at_link : (link : Option Object) → x.link ≡ link → passes (link_test (To object)) (Some x) ≡ false
    at_link None is = grind (arith, nat_tests)
    at_link (Some other) is = grind (arith, nat_tests, same_object-same object other)

module _ {object : Object} {old kept : ContextsKept} {next : Option ℕ} (d : SweptDown object old kept next) where
  pub down_on : (slot : ℕ) → next ≡ Some slot → links_on kept.table.slots (chain_to object) slot ≡ true
  down_on slot is = (last_some (links_on kept.table.slots (chain_to object)) d.upto slot (sym d.next_is ∙ is)).passes

  pub down_more : (slot : ℕ) (next' : Option ℕ) → next ≡ Some slot → next' ≡ last_below (links_on kept.table.slots (chain_to object)) slot
      → SweptDown object old (record kept { table = swept_at (carried_of kept) kept.table (link_test (To object)) slot }) next'
  down_more slot next' is leads =
      let chain = chain_to object in
      let slots = kept.table.slots in
      let after = swept_slots (carried_of kept) kept.table (To object) slot in
      let last = last_some (links_on slots chain) d.upto slot (sym d.next_is ∙ is) in
      record {
        upto = slot;
        next_is = leads ∙ last_agrees (links_on slots chain) (links_on after chain) slot (λ k below.
            ap (λ o. is_on chain (seat_of_context o)) (sym (swept_elsewhere (carried_of kept) kept.table (To object) slot k (λ at. omega (arith, at, below)))));
        down = where_more (λ k. slot ≤ k) slot d.down
            (λ k past apart. grind (arith, d.down.done k, last.after k (omega (arith, past, apart)), off_chain object (context_of_slot slots k)));
      }

  pub down_all : next ≡ None → Sweeps (carried_of old) (link_test (To object)) old.table kept.table
  down_all is =
      sweep_all d.down.swept (λ k. grind (
        arith,
        d.down.done k,
        last_none (links_on kept.table.slots (chain_to object)) d.upto
            (sym d.next_is ∙ is) k,
        off_chain object (context_of_slot kept.table.slots k),
      ))

-- a slot's seat is the seat of its context
seat_read : (rows : List Row) (k : ℕ) → get_or (seats_of rows) k None ≡ seat_of_context (context_of_slot (slots_of rows) k)
seat_read [] k = refl
seat_read (r ∷ rows) zero = grind (arith, nat_tests)
seat_read (r ∷ rows) (suc k) = seat_read rows k

-- it is among those where its context is
pub seat_among : {seats : List (Option Seat)} (rows : List Row) (links : Links) (k : ℕ) → seats ≡ seats_of rows
    → seat_passes links (get_or seats k None) ≡ passes (link_test links) (context_of_slot (slots_of rows) k)
seat_among rows links k seated =
    ap (λ (s : List (Option Seat)). seat_passes links (get_or s k None)) seated ∙ ap (seat_passes links) (seat_read rows k)
    ∙ by_context links (context_of_slot (slots_of rows) k)
  where
    by_context : (links : Links) (o : Option Context) → seat_passes links (seat_of_context o) ≡ passes (link_test links) o
    by_context links None = refl
    by_context (To object) (Some x) = grind (arith, nat_tests)
    by_context (Of owner) (Some x) = grind (arith, nat_tests)

module _ {seats : List (Option Seat)} {slots : List Slot} (rows : List Row) (chain : ℕ) (seated : seats ≡ seats_of rows) (shows : slots_of rows ≡ slots) where
  pub chain_tests : stands seats chain ≡ links_on slots chain
  chain_tests =
      ap (λ (s : List (Option Seat)). stands s chain) seated ∙ (λ i k. is_on chain (seat_read rows k i)) ∙ ap (λ (s : List Slot). links_on s chain) shows

  pub as_many : length seats ≡ length slots
  as_many = ap length seated ∙ length-map rows seat_in ∙ sym (length-map rows slot_of) ∙ ap length shows

  -- what is read of a slot that is on the chain
  pub on_seats : (above : Option ℕ) → IfSome above (λ (a : ℕ). links_on slots chain a ≡ true)
      → IfSome above (λ (a : ℕ). (a < length seats) × (stands seats chain a ≡ true))
  on_seats None on = on
  on_seats (Some a) on = let stays = ap (λ (test : ℕ → Bool). test a) chain_tests ∙ on in (stands_within seats chain a stays, stays)

  pub next_read : (above next : Option ℕ) → next ≡ last_below (stands seats chain) (end_of above (length seats))
      → next ≡ last_below (links_on slots chain) (end_of above (length slots))
  next_read above next is = is ∙ ap₂ (λ (test : ℕ → Bool) (n : ℕ). last_below test (end_of above n)) chain_tests as_many

-- a slot of a chain is among the slots
pub on_within : (object : Object) (slots : List Slot) (k : ℕ) → links_on slots (chain_to object) k ≡ true → k < length slots
on_within object slots k on = elim (cases_lt k (length slots)) [ inl within ↦ within | inr past ↦ grind (arith, nat_tests, slice_get_past slots k past) ]
