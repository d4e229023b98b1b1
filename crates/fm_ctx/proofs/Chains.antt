-- Chains when a slot gets a seat or loses it.
use Rattle.std.proofs.Common.{◌≡◌, ℕ, zero, suc, ◌+◌, ◌<◌, Bool, true, false, List, [], ◌∷◌, ◌++◌, length, set, get_or, replicate, Option, Some, None, refl, sym, ap, ◌∙◌, ◌≢◌, arith, inl, inr, eqb-true, eq-eqb, ne_eqb, length-append}
use Rattle.std.proofs.lemmas.Bool.{cases_eq, cases_order, true≢false}
use Rattle.std.proofs.lemmas.List.{length-set, length-replicate, get_or-set_same, get_or-set_other, get_or-replicate, get_or_default, get_or_past}
use Rattle.fm_ctx.proofs.Words.{nat_tests}
use Rattle.fm_ctx.specs.declared.seat.Seat.{Seat}
use Rattle.fm_ctx.specs.Seats.{chain_of, is_on, stands, last_below, end_of, IsChained, IsAbove, firsts_led, nexts_led}
use Rattle.fm_ctx.proofs.Lasts.{last_agrees, last_skips, last_above, last_passes, last_fails}

-- ---- no slots, and one more

pub chained_none : IsChained (replicate 4096 None) [] []
unfolding last_below
chained_none = record {
  chains = length-replicate {A = Option ℕ} 4096 None;
  matched = refl;
  first = λ chain within. get_or-replicate {A = Option ℕ} 4096 chain None None within;
  next = λ chain slot has. absurd (true≢false (sym has));
}

padded : {X : Type 0} (xs : List (Option X)) (k : ℕ) → get_or (xs ++ None ∷ []) k None ≡ get_or xs k None
padded [] zero = refl
padded [] (suc k) = refl
padded (x ∷ xs) zero = refl
padded (x ∷ xs) (suc k) = padded xs k

pub chained_more : {firsts nexts : List (Option ℕ)} {seats : List (Option Seat)} → IsChained firsts nexts seats
    → IsChained firsts (nexts ++ None ∷ []) (seats ++ None ∷ [])
chained_more {firsts} {nexts} {seats} c =
    let more : (chain k : ℕ) → stands seats chain k ≡ stands (seats ++ None ∷ []) chain k = λ chain k. ap (is_on chain) (sym (padded seats k)) in
    record {
      chains = c.chains;
      matched = length-append nexts (None ∷ []) ∙ ap (λ n. n + 1) c.matched ∙ sym (length-append seats (None ∷ []));
      first = λ chain within.
          let new : stands (seats ++ None ∷ []) chain (length seats) ≡ false =
          ap (is_on chain) (padded seats (length seats) ∙ get_or_past seats (length seats) None (omega arith)) in
          c.first chain within ∙ last_agrees (stands seats chain) (stands (seats ++ None ∷ []) chain) (length seats) (λ k below. more chain k)
          ∙ sym (last_skips (stands (seats ++ None ∷ []) chain) (length seats) (length (seats ++ None ∷ [])) (omega (arith, length-append seats (None ∷ [])))
          (λ k past under.
          let is : k ≡ length seats = omega (arith, past, under, length-append seats (None ∷ [])) in
          ap (stands (seats ++ None ∷ []) chain) is ∙ new));
      next = λ chain slot has.
          padded nexts slot ∙ c.next chain slot (more chain slot ∙ has)
          ∙ last_agrees (stands seats chain) (stands (seats ++ None ∷ []) chain) slot (λ k below. more chain k);
    }

-- ---- a slot's seat changes

-- a seat is on one chain
one_chain : (a b : ℕ) (o : Option Seat) → is_on a o ≡ true → is_on b o ≡ true → a ≡ b
one_chain a b o on_a on_b = grind (arith, nat_tests)

-- and a slot that has one is among the slots
pub stands_within : (seats : List (Option Seat)) (chain k : ℕ) → stands seats chain k ≡ true → k < length seats
stands_within seats chain k has = grind (arith, nat_tests, get_or_past seats k None)

-- one slot has another seat, and on other chains than this one nothing changes
pub record Reseats (nexts nexts' : List (Option ℕ)) (seats : List (Option Seat)) (chain slot : ℕ) (o : Option Seat) : Type 0 where
  pub within : slot < length seats
  pub as_long : length nexts' ≡ length nexts
  pub others : (k : ℕ) → k ≢ slot → get_or nexts' k None ≡ get_or nexts k None
  pub apart : (other : ℕ) → other ≢ chain → is_on other o ≡ stands seats other slot
  pub next : (other : ℕ) → is_on other o ≡ true → get_or nexts' slot None ≡ last_below (stands seats other) slot

module _ {nexts nexts' : List (Option ℕ)} {seats : List (Option Seat)} {chain slot : ℕ} {o : Option Seat} (r : Reseats nexts nexts' seats chain slot o) where
  -- the tests before and after agree at the other slots
  agree_at : (other k : ℕ) → k ≢ slot → stands seats other k ≡ stands (set seats slot o) other k
  agree_at other k apart = ap (is_on other) (sym (get_or-set_other seats slot k o None apart))

  -- and on other chains everywhere
  agree_on : (other : ℕ) → other ≢ chain → (k : ℕ) → stands seats other k ≡ stands (set seats slot o) other k
  agree_on other apart k =
      elim (cases_eq k slot) [
        | inl is ↦ grind (arith, r.apart other apart, get_or-set_same seats slot o None r.within)
        | inr off ↦ agree_at other k off
      ]

  -- what the slot itself leads to
  next_here : (other : ℕ) → stands (set seats slot o) other slot ≡ true → get_or nexts' slot None ≡ last_below (stands (set seats slot o) other) slot
  next_here other has =
      r.next other (ap (is_on other) (sym (get_or-set_same seats slot o None r.within)) ∙ has)
      ∙ last_agrees (stands seats other) (stands (set seats slot o) other) slot (λ j below. agree_at other j (λ is. omega (arith, below, is)))

  -- the slot that is led to is the last one below the end of what lies between
  led_to : (end : ℕ) → slot < end → ((k : ℕ) → slot < k → k < end → stands seats chain k ≡ false)
      → last_below (stands (set seats slot o) chain) (suc slot) ≡ last_below (stands (set seats slot o) chain) end
  led_to end above none =
      sym (last_skips (stands (set seats slot o) chain) (suc slot) end (omega (arith, above))
      (λ k past under. sym (agree_at chain k (λ is. omega (arith, past, is))) ∙ none k (omega (arith, past)) under))

module _ {firsts nexts nexts' : List (Option ℕ)} {seats : List (Option Seat)} {chain slot : ℕ} {o : Option Seat}
    (c : IsChained firsts nexts seats) (r : Reseats nexts nexts' seats chain slot o) where
  -- what a slot below, or of another chain, leads to
  next_kept : (other k : ℕ) → k ≢ slot → stands seats other k ≡ true → ((j : ℕ) → j < k → stands seats other j ≡ stands (set seats slot o) other j)
      → get_or nexts' k None ≡ last_below (stands (set seats slot o) other) k
  next_kept other k apart has same = r.others k apart ∙ c.next other k has ∙ last_agrees (stands seats other) (stands (set seats slot o) other) k same

  -- what a chain leads to, where none or a higher slot of it leads to the slot
  first_kept : (other : ℕ) → other < 4096 → last_below (stands seats other) (length seats) ≡ last_below (stands (set seats slot o) other) (length seats)
      → get_or firsts other None ≡ last_below (stands (set seats slot o) other) (length (set seats slot o))
  first_kept other small same = c.first other small ∙ same ∙ ap (last_below (stands (set seats slot o) other)) (sym (length-set seats slot o))

  -- of another chain
  first_apart : (other : ℕ) → other < 4096 → other ≢ chain → get_or firsts other None ≡ last_below (stands (set seats slot o) other) (length (set seats slot o))
  first_apart other small apart =
      first_kept other small (last_agrees (stands seats other) (stands (set seats slot o) other) (length seats) (λ k below. agree_on r other apart k))

  -- no slot of the chain is above
  chained_first : (led : Option ℕ) → chain < 4096 → ((k : ℕ) → slot < k → k < length seats → stands seats chain k ≡ false)
      → led ≡ last_below (stands (set seats slot o) chain) (suc slot) → IsChained (set firsts chain led) nexts' (set seats slot o)
  chained_first led within none is = record {
    chains = length-set firsts chain led ∙ c.chains;
    matched = r.as_long ∙ c.matched ∙ sym (length-set seats slot o);
    first = λ other small.
        elim (cases_eq other chain) [
          | inl same ↦ grind (arith, get_or-set_same firsts chain led None, led_to r (length seats) r.within none, length-set seats slot o, c.chains)
          | inr apart ↦ get_or-set_other firsts chain other led None apart ∙ first_apart other small apart
        ];
    next = at_next;
  }
    where
      below_slot : (k : ℕ) → k ≢ slot → stands seats chain k ≡ true → k < length seats → k < slot
      below_slot k off has under =
          elim (cases_order k slot) [ inl same ↦ absurd (off same) | inr (inl below) ↦ below | inr (inr above) ↦ grind (arith, none k above) ]

      at_next : (other k : ℕ) → stands (set seats slot o) other k ≡ true → get_or nexts' k None ≡ last_below (stands (set seats slot o) other) k
      at_next other k has =
          elim (cases_eq k slot) [
            | inl same ↦ grind (arith, next_here r other)
            | inr off ↦
                let had : stands seats other k ≡ true = agree_at r other k off ∙ has in
                next_kept other k off had (λ j under. elim (cases_eq other chain) [
                  | inl same ↦ grind (arith, agree_at r other j, below_slot k off, stands_within seats other k had)
                  | inr apart ↦ agree_on r other apart j
                ])
          ]

  -- the next higher slot of the chain leads to it
  chained_after : (led : Option ℕ) (a : ℕ) → slot < a → a < length seats → stands seats chain a ≡ true
      → ((k : ℕ) → slot < k → k < a → stands seats chain k ≡ false)
      → led ≡ last_below (stands (set seats slot o) chain) (suc slot) → IsChained firsts (set nexts' a led) (set seats slot o)
  chained_after led a above within passes none is = record {
    chains = c.chains;
    matched = length-set nexts' a led ∙ r.as_long ∙ c.matched ∙ sym (length-set seats slot o);
    first = λ other small.
        elim (cases_eq other chain) [
          | inl same ↦ first_kept other small (grind (arith, higher (length seats) within))
          | inr apart ↦ first_apart other small apart
        ];
    next = at_next;
  }
    where
      higher : (n : ℕ) → a < n → last_below (stands seats chain) n ≡ last_below (stands (set seats slot o) chain) n
      higher n under =
          last_above (stands seats chain) (stands (set seats slot o) chain) slot a n above under passes
          (λ k past. agree_at r chain k (λ at. omega (arith, at, past)))

      on_chain : (k : ℕ) → k ≢ slot → stands seats chain k ≡ true → get_or (set nexts' a led) k None ≡ last_below (stands (set seats slot o) chain) k
      on_chain k off had =
          elim (cases_order k a) [
            | inl same ↦ grind (arith, get_or-set_same nexts' a led None, within, r.as_long, c.matched, led_to r a above none)
            | inr (inl under) ↦
                let below : k < slot =
                elim (cases_order k slot) [ inl same ↦ absurd (off same) | inr (inl lower) ↦ lower | inr (inr past) ↦ grind (arith, none k past under) ] in
                get_or-set_other nexts' a k led None (λ at. omega (arith, at, under))
                ∙ next_kept chain k off had (λ j lower. agree_at r chain j (λ at. omega (arith, at, lower, below)))
            | inr (inr past) ↦
                get_or-set_other nexts' a k led None (λ at. omega (arith, at, past)) ∙ r.others k off ∙ c.next chain k had ∙ higher k past
          ]

      at_next : (other k : ℕ) → stands (set seats slot o) other k ≡ true → get_or (set nexts' a led) k None ≡ last_below (stands (set seats slot o) other) k
      at_next other k has =
          elim (cases_eq k slot) [
            | inl same ↦ get_or-set_other nexts' a k led None (λ at. omega (arith, at, same, above)) ∙ grind (arith, next_here r other)
            | inr off ↦
                let had : stands seats other k ≡ true = agree_at r other k off ∙ has in
                elim (cases_eq other chain) [
                  | inl same ↦ grind (arith, on_chain k off)
                  | inr apart ↦
                      get_or-set_other nexts' a k led None (λ at. apart
                      (one_chain other chain (get_or seats a None) (ap (stands seats other) (sym at) ∙ had) passes))
                      ∙ next_kept other k off had (λ j under. agree_on r other apart j)
                ]
          ]

  -- whatever leads to the slot
  chained_led : (led above : Option ℕ) → chain < 4096 → IsAbove (stands seats chain) slot (length seats) above
      → led ≡ last_below (stands (set seats slot o) chain) (suc slot)
      → IsChained (firsts_led firsts chain above led) (nexts_led nexts' above led) (set seats slot o)
  chained_led led None within above is = chained_first led within above.between is
  chained_led led (Some a) within above is = chained_after led a above.there.0 above.there.1 above.there.2 above.between is

-- equal lists
pub chained_as : {firsts nexts nexts' : List (Option ℕ)} {seats seats' : List (Option Seat)} → nexts' ≡ nexts → seats' ≡ seats
    → IsChained firsts nexts seats → IsChained firsts nexts' seats'
chained_as {firsts} same_nexts same_seats c = rw (same_nexts, same_seats) c

-- what is read of a slot on a chain
pub led_by : {firsts nexts : List (Option ℕ)} {seats : List (Option Seat)} (chain slot : ℕ) (found : Option ℕ)
    → IsChained firsts nexts seats → stands seats chain slot ≡ true
    → found ≡ get_or nexts slot found → found ≡ last_below (stands seats chain) slot
led_by {firsts} {nexts} {seats} chain slot found c has is =
    is ∙ get_or_default nexts slot found None (omega (arith, stands_within seats chain slot has, c.matched)) ∙ c.next chain slot has

end_past : (test : ℕ → Bool) (slot all : ℕ) (above : Option ℕ) → IsAbove test slot all above → slot < all → slot < end_of above all
end_past test slot all None at within = within
end_past test slot all (Some a) at within = at.there.0

-- a slot gets a seat
pub chained_put : {firsts nexts : List (Option ℕ)} {seats : List (Option Seat)} (chain slot : ℕ) (seat : Seat) (above next : Option ℕ)
    → IsChained firsts nexts seats → chain < 4096 → chain ≡ chain_of seat
    → slot < length seats → get_or seats slot None ≡ None → IsAbove (stands seats chain) slot (length seats) above
    → next ≡ last_below (stands seats chain) (end_of above (length seats))
    → IsChained (firsts_led firsts chain above (Some slot)) (nexts_led (set nexts slot next) above (Some slot)) (set seats slot (Some seat))
chained_put {firsts} {nexts} {seats} chain slot seat above next c small is within free at leads =
    let past = end_past (stands seats chain) slot (length seats) above at within in
    let reseats : Reseats nexts (set nexts slot next) seats chain slot (Some seat) = record {
      within = within;
      as_long = length-set nexts slot next;
      others = λ k apart. get_or-set_other nexts slot k next None apart;
      apart = λ other off. ne_eqb (chain_of seat) other (λ same. off (sym same ∙ sym is)) ∙ sym (ap (is_on other) free);
      next = λ other on.
          get_or-set_same nexts slot next None (omega (arith, within, c.matched)) ∙ leads
          ∙ last_skips (stands seats chain) slot (end_of above (length seats)) (omega (arith, past)) (λ k from under.
          elim (cases_eq k slot) [
            | inl same ↦ ap (stands seats chain) same ∙ ap (is_on chain) free
            | inr off ↦ at.between k (omega (arith, from, off)) under
          ])
          ∙ ap (λ n. last_below (stands seats n) slot) (is ∙ eqb-true (chain_of seat) other on);
    } in
    let on : stands (set seats slot (Some seat)) chain slot ≡ true =
    ap (is_on chain) (get_or-set_same seats slot (Some seat) None within) ∙ eq-eqb (chain_of seat) chain (sym is) in
    chained_led c reseats (Some slot) above small at (last_passes (stands (set seats slot (Some seat)) chain) slot on)

-- a slot loses its seat
pub chained_taken : {firsts nexts : List (Option ℕ)} {seats : List (Option Seat)} (chain slot : ℕ) (seat : Seat) (above next : Option ℕ)
    → IsChained firsts nexts seats → chain < 4096 → chain ≡ chain_of seat
    → get_or seats slot None ≡ Some seat → IsAbove (stands seats chain) slot (length seats) above → next ≡ get_or nexts slot next
    → IsChained (firsts_led firsts chain above next) (nexts_led nexts above next) (set seats slot None)
chained_taken {firsts} {nexts} {seats} chain slot seat above next c small is had at read =
    let on : stands seats chain slot ≡ true = ap (is_on chain) had ∙ eq-eqb (chain_of seat) chain (sym is) in
    let within = stands_within seats chain slot on in
    let reseats : Reseats nexts nexts seats chain slot None = record {
      within = within;
      as_long = refl;
      others = λ k apart. refl;
      apart = λ other off. sym (ap (is_on other) had ∙ ne_eqb (chain_of seat) other (λ same. off (sym same ∙ sym is)));
      next = λ other never. absurd (true≢false (sym never));
    } in
    let off : stands (set seats slot None) chain slot ≡ false = ap (is_on chain) (get_or-set_same seats slot None None within) in
    chained_led c reseats next above small at
    (led_by chain slot next c on read
    ∙ last_agrees (stands seats chain) (stands (set seats slot None) chain) slot (λ k below. agree_at reseats chain k (λ same. omega (arith, same, below)))
    ∙ last_fails (stands (set seats slot None) chain) slot off)
