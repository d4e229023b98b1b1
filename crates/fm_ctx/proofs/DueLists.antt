-- Contexts that wait, each linked through its slot to the one behind it.
use Rattle.std.proofs.Common.{◌≡◌, ◌≢◌, ◌+◌, ◌<◌, ◌≤◌, ◌∷◌, ◌++◌, ◌∙◌}
use Rattle.std.specs.Option.{option_and, option_or}
use Rattle.std.proofs.lemmas.List.{get_or-set_other}
use Rattle.std.proofs.lemmas.List.Elements.{All-head, All-nil, All-push, All-tail, All-weaker}
use Rattle.fm_types.proofs.Lists.{count_by-push}
use Rattle.fm_ctx.proofs.Words.{ℕ, zero, suc, List, [], length, All, count_by, Option, Some, None, is_some, ltb, refl, sym, ap, subst, arith}
use Rattle.fm_ctx.proofs.Words.{nat_tests, none-some, same_Some, get_or, set, get_or-set_same, length-append, length-set, sum_by-cons, IfSome, lit≤, one, CtxId}
use Rattle.fm_ctx.specs.DueLists.{AreLinked, IsDueList, Leads, Waiting, is_at, last_of, nexts_led, waiting_in, walk}

-- ---- no slot waits twice, so no more wait than there are slots

abbrev total : ℕ → List CtxId → ℕ
total zero ids = 0
total (suc n) ids = total n ids + count_by (is_at n) ids

total_few : (n : ℕ) (ids : List CtxId) → ((slot : ℕ) → count_by (is_at slot) ids ≤ 1) → total n ids ≤ n
total_few zero ids once = lit≤ tt
total_few (suc n) ids once = omega (arith, total_few n ids once, once n)

total_none : (n : ℕ) → total n [] ≡ 0
total_none zero = refl
total_none (suc n) = omega (arith, total_none n)

total_one : (n : ℕ) (c : CtxId) (ids : List CtxId) → total n (c ∷ ids) ≡ total n ids + one (ltb c.slot n)
total_one zero c ids = grind (arith, nat_tests)
total_one (suc n) c ids =
    let by : CtxId → ℕ = λ d. one (is_at n d) in
    grind (arith, nat_tests, sum_by-cons by c ids, total_one n c ids)

abbrev AreWithin : ℕ → List CtxId → Type 0
AreWithin n ids = All (λ (c : CtxId). c.slot < n) ids

total_all : (n : ℕ) (ids : List CtxId) → AreWithin n ids → total n ids ≡ length ids
total_all n [] within = total_none n
total_all n (c ∷ ids) within =
    let Below : CtxId → Type 0 = λ d. d.slot < n in
    grind (arith, nat_tests, total_one n c ids, All-head Below c ids within, total_all n ids (All-tail Below c ids within))

few_ids : (n : ℕ) (ids : List CtxId) → AreWithin n ids → ((slot : ℕ) → count_by (is_at slot) ids ≤ 1) → length ids ≤ n
few_ids n ids within once = omega (arith, total_all n ids within, total_few n ids once)

-- ---- the list is what is met

walk_leads : (n : ℕ) (nexts : List (Option CtxId)) (at : Option CtxId) (ids : List CtxId) → Leads nexts at ids → length ids ≤ n → walk n nexts at ≡ ids
unfolding walk Leads
walk_leads zero nexts at [] leads few = refl
walk_leads (suc n) nexts at [] leads few = ap (walk (suc n) nexts) leads
walk_leads zero nexts at (c ∷ ids) leads few = absurd (omega (arith, few))
walk_leads (suc n) nexts at (c ∷ ids) leads few =
    ap (walk (suc n) nexts) leads.0 ∙ ap (λ (rest : List CtxId). c ∷ rest) (walk_leads n nexts (get_or nexts c.slot None) ids leads.1 (omega (arith, few)))

module _ {nexts : List (Option CtxId)} {first last : Option CtxId} {ids : List CtxId} (l : AreLinked nexts first last ids) where
  pub walked : walk (length nexts) nexts first ≡ ids
  walked = walk_leads (length nexts) nexts first ids l.chain (few_ids (length nexts) ids l.within l.once)

  pub due_list : {room : ℕ} → 65536 ≤ room → IsDueList nexts first last room
  due_list fits = record { linked = subst (AreLinked nexts first last) (sym walked) l; fits = fits }

-- the list by the name that callers have for it
pub linked_now : {nexts : List (Option CtxId)} {first last : Option CtxId} {now : Waiting} → AreLinked nexts first last (walk (length nexts) nexts first)
    → waiting_in nexts first ≡ now → AreLinked nexts first last now.ids
linked_now {nexts} {first} {last} l same = subst (λ (w : Waiting). AreLinked nexts first last w.ids) same l

-- ---- no slots, and one more

pub linked_none : AreLinked [] None None []
unfolding Leads last_of
linked_none = record { chain = refl; end = refl; within = All-nil (λ (c : CtxId). c.slot < 0); once = λ slot. lit≤ tt }

padded : (xs : List (Option CtxId)) (k : ℕ) → get_or (xs ++ None ∷ []) k None ≡ get_or xs k None
padded [] zero = refl
padded [] (suc k) = refl
padded (x ∷ xs) zero = refl
padded (x ∷ xs) (suc k) = padded xs k

-- where the slots of the list lead to the same
leads_as : (nexts nexts' : List (Option CtxId)) (at : Option CtxId) (ids : List CtxId) → Leads nexts at ids
    → ((c : CtxId) → 0 < count_by (is_at c.slot) ids → get_or nexts' c.slot None ≡ get_or nexts c.slot None) → Leads nexts' at ids
unfolding Leads
leads_as nexts nexts' at [] leads same = leads
leads_as nexts nexts' at (c ∷ ids) leads same =
    let by : ℕ → CtxId → ℕ = λ slot d. one (is_at slot d) in
    let here : get_or nexts' c.slot None ≡ get_or nexts c.slot None = same c (grind (arith, nat_tests, sum_by-cons (by c.slot) c ids)) in (
      leads.0,
      leads_as nexts nexts' (get_or nexts' c.slot None) ids (subst (λ (to : Option CtxId). Leads nexts to ids) (sym here) leads.1)
          (λ d some. same d (omega (arith, some, sum_by-cons (by d.slot) c ids))),
    )

-- ---- one more waits

last_counted : (ids : List CtxId) (y : CtxId) → last_of ids ≡ Some y → 0 < count_by (is_at y.slot) ids
unfolding last_of
last_counted [] y last = absurd (none-some y last)
last_counted (c ∷ []) y last = grind (arith, nat_tests, ap (λ (d : CtxId). d.slot) (same_Some c y last))
last_counted (c ∷ d ∷ ids) y last =
    let by : CtxId → ℕ = λ e. one (is_at y.slot e) in
    omega (arith, sum_by-cons by c (d ∷ ids), last_counted (d ∷ ids) y last)

last_push : (ids : List CtxId) (c : CtxId) → last_of (ids ++ c ∷ []) ≡ Some c
unfolding last_of
last_push [] c = refl
last_push (d ∷ []) c = refl
last_push (d ∷ e ∷ ids) c = last_push (e ∷ ids) c

last_none : (ids : List CtxId) → last_of ids ≡ None → ids ≡ []
unfolding last_of
last_none [] none = refl
last_none (c ∷ []) none = absurd (none-some c (sym none))
last_none (c ∷ d ∷ ids) none = let empty : length (d ∷ ids) ≡ 0 = ap length (last_none (d ∷ ids) none) in absurd (omega (arith, empty))

-- the last slot leads to the new one, and that leads to none
leads_push : (nexts nexts' : List (Option CtxId)) (y c : CtxId) (at : Option CtxId) (ids : List CtxId) → Leads nexts at ids → last_of ids ≡ Some y
    → get_or nexts' y.slot None ≡ Some c → get_or nexts' c.slot None ≡ None
    → ((k : ℕ) → k ≢ y.slot → k ≢ c.slot → get_or nexts' k None ≡ get_or nexts k None)
    → ((slot : ℕ) → count_by (is_at slot) ids ≤ 1) → count_by (is_at c.slot) ids ≡ 0
    → Leads nexts' at (ids ++ c ∷ [])
unfolding Leads last_of
leads_push nexts nexts' y c at [] leads last here new other once absent = absurd (none-some y last)
leads_push nexts nexts' y c at (d ∷ []) leads last here new other once absent =
    (leads.0, (ap (λ (e : CtxId). get_or nexts' e.slot None) (same_Some d y last) ∙ here, new))
leads_push nexts nexts' y c at (d ∷ e ∷ ids) leads last here new other once absent =
    let by : ℕ → CtxId → ℕ = λ slot x. one (is_at slot x) in
    let more = last_counted (e ∷ ids) y last in
    let apart : d.slot ≢ y.slot = λ is. omega (arith, more, once y.slot, sum_by-cons (by y.slot) d (e ∷ ids), at_here d y.slot is) in
    let unlike : d.slot ≢ c.slot = λ is. omega (arith, absent, sum_by-cons (by c.slot) d (e ∷ ids), at_here d c.slot is) in
    let same = other d.slot apart unlike in (
      leads.0,
      leads_push nexts nexts' y c (get_or nexts' d.slot None) (e ∷ ids)
          (subst (λ (to : Option CtxId). Leads nexts to (e ∷ ids)) (sym same) leads.1) last here new other
          (λ slot. omega (arith, once slot, sum_by-cons (by slot) d (e ∷ ids)))
          (omega (arith, absent, sum_by-cons (by c.slot) d (e ∷ ids))),
    )
  where
    at_here : (x : CtxId) (slot : ℕ) → x.slot ≡ slot → one (is_at slot x) ≡ 1
    at_here x slot is = grind (arith, nat_tests, is)

last_within : (nexts : List (Option CtxId)) (before : List CtxId) (y : CtxId) → last_of before ≡ Some y
    → AreWithin (length nexts) before → y.slot < length nexts
unfolding last_of
last_within nexts [] y last all = absurd (none-some y last)
last_within nexts (d ∷ []) y last all =
    subst (λ (e : CtxId). e.slot < length nexts) (same_Some d y last) (All-head (λ (e : CtxId). e.slot < length nexts) d [] all)
last_within nexts (d ∷ e ∷ before) y last all = last_within nexts (e ∷ before) y last (All-tail (λ (x : CtxId). x.slot < length nexts) d (e ∷ before) all)

-- as many slots as before
pub led_length : (nexts : List (Option CtxId)) (last : Option CtxId) (c : CtxId) → length (nexts_led nexts last c) ≡ length nexts
led_length nexts None c = length-set nexts c.slot None
led_length nexts (Some y) c = length-set (set nexts c.slot None) y.slot (Some c) ∙ length-set nexts c.slot None

pub linked_push : {nexts : List (Option CtxId)} {first last : Option CtxId} {ids : List CtxId} (c : CtxId)
    → AreLinked nexts first last ids → c.slot < length nexts
    → count_by (is_at c.slot) ids ≡ 0
    → AreLinked (nexts_led nexts last c) (option_or first (Some c)) (Some c) (ids ++ c ∷ [])
unfolding Leads last_of
linked_push {nexts} {first} {last} {ids} c l within absent = record {
  chain = by_last last l.end;
  end = sym (last_push ids c);
  within = All-push Below ids c (subst (λ n. AreWithin n ids) (sym (led_length nexts last c)) l.within) (omega (arith, within, led_length nexts last c));
  once = λ slot. grind (arith, nat_tests, l.once slot, absent, count_by-push (is_at slot) ids c);
}
  where
    Below : CtxId → Type 0
    Below d = d.slot < length (nexts_led nexts last c)

    none_leads : (before : List CtxId) → Leads nexts first before → before ≡ [] → first ≡ None
    none_leads [] leads empty = leads
    none_leads (d ∷ before) leads empty = let none : length (d ∷ before) ≡ 0 = ap length empty in absurd (omega (arith, none))

    first_stays : (before : List CtxId) (y : CtxId) → Leads nexts first before → last_of before ≡ Some y → option_or first (Some c) ≡ first
    first_stays [] y leads last = absurd (none-some y last)
    first_stays (d ∷ before) y leads last = ap (λ (o : Option CtxId). option_or o (Some c)) leads.0 ∙ sym leads.0

    get_or_none : (xs : List (Option CtxId)) (k : ℕ) → get_or (set xs k None) k None ≡ None
    get_or_none [] k = refl
    get_or_none (x ∷ xs) zero = refl
    get_or_none (x ∷ xs) (suc k) = get_or_none xs k

    alone : (d : CtxId) → Leads (set nexts d.slot None) (Some d) (d ∷ [])
    alone d = (refl, get_or_none nexts d.slot)

    pushed : (y : CtxId) → last_of ids ≡ Some y → Leads (nexts_led nexts (Some y) c) first (ids ++ c ∷ [])
    pushed y is =
        let apart : y.slot ≢ c.slot = λ same. omega (arith, absent, last_counted ids y is, ap (λ (slot : ℕ). count_by (is_at slot) ids) same) in
        let under : y.slot < length (set nexts c.slot None) = omega (arith, length-set nexts c.slot None, last_within nexts ids y is l.within) in
        leads_push nexts (nexts_led nexts (Some y) c) y c first ids l.chain is
        (get_or-set_same (set nexts c.slot None) y.slot (Some c) None under)
        (get_or-set_other (set nexts c.slot None) y.slot c.slot (Some c) None (λ same. apart (sym same)) ∙ get_or_none nexts c.slot)
        (λ k unlike other. get_or-set_other (set nexts c.slot None) y.slot k (Some c) None unlike ∙ get_or-set_other nexts c.slot k None None other)
        l.once absent

    by_last : (o : Option CtxId) → o ≡ last_of ids → Leads (nexts_led nexts o c) (option_or first (Some c)) (ids ++ c ∷ [])
    by_last None none =
        let empty = last_none ids (sym none) in
        subst (λ (p : List CtxId × Option CtxId). Leads (set nexts c.slot None) (option_or p.1 (Some c)) (p.0 ++ c ∷ []))
        (λ i. (sym empty i, sym (none_leads ids l.chain empty) i)) (alone c)
    by_last (Some y) last_is =
        subst (λ (o : Option CtxId). Leads (nexts_led nexts (Some y) c) o (ids ++ c ∷ []))
        (sym (first_stays ids y l.chain (sym last_is))) (pushed y (sym last_is))

-- ---- the first one goes

pub none_waits : (nexts : List (Option CtxId)) (ids : List CtxId) (first : Option CtxId) → Leads nexts first ids → first ≡ None → ids ≡ []
unfolding Leads
none_waits nexts [] first leads none = refl
none_waits nexts (c ∷ ids) first leads none = absurd (none-some c (sym none ∙ leads.0))

pub some_first : (nexts : List (Option CtxId)) (ids : List CtxId) (first : Option CtxId) → Leads nexts first ids → is_some first ≡ ltb 0 (length ids)
unfolding Leads
some_first nexts [] first leads = ap is_some leads
some_first nexts (c ∷ ids) first leads = grind (arith, nat_tests, ap is_some leads.0)

rest_linked : {nexts : List (Option CtxId)} {first last : Option CtxId} (c : CtxId) (rest : List CtxId) → AreLinked nexts first last (c ∷ rest)
    → AreLinked nexts (get_or nexts c.slot None) (option_and (get_or nexts c.slot None) last) rest
unfolding Leads last_of
rest_linked {nexts} {first} {last} c rest l = record {
  chain = l.chain.1;
  end = by_rest rest l.chain.1 l.end;
  within = All-tail (λ (d : CtxId). d.slot < length nexts) c rest l.within;
  once = λ slot. let by : CtxId → ℕ = λ d. one (is_at slot d) in omega (arith, l.once slot, sum_by-cons by c rest);
}
  where
    by_rest : (ids : List CtxId) → Leads nexts (get_or nexts c.slot None) ids → last ≡ last_of (c ∷ ids)
        → option_and (get_or nexts c.slot None) last ≡ last_of ids
    by_rest [] leads end = ap (λ (o : Option CtxId). option_and o last) leads
    by_rest (d ∷ ids) leads end = ap (λ (o : Option CtxId). option_and o last) leads.0 ∙ end

pub record Popped (nexts : List (Option CtxId)) (last : Option CtxId) (c : CtxId) (ids : List CtxId) : Type 0 where
  pub rest : List CtxId
  pub is : ids ≡ c ∷ rest
  pub linked : AreLinked nexts (get_or nexts c.slot None) (option_and (get_or nexts c.slot None) last) rest

pub linked_pop : {nexts : List (Option CtxId)} {first last : Option CtxId} (ids : List CtxId) (c : CtxId)
    → AreLinked nexts first last ids → first ≡ Some c → Popped nexts last c ids
unfolding Leads
linked_pop [] c l is = absurd (none-some c (sym l.chain ∙ is))
linked_pop {nexts} {first} {last} (d ∷ rest) c l is =
    subst (λ (e : CtxId). Popped nexts last e (d ∷ rest)) (same_Some d c (sym l.chain.0 ∙ is))
    (record { rest = rest; is = refl; linked = rest_linked d rest l })

-- ---- as the fields have it

pub linked_more : {nexts : List (Option CtxId)} {first last : Option CtxId} {ids : List CtxId} → AreLinked nexts first last ids
    → AreLinked (nexts ++ None ∷ []) first last ids
linked_more {nexts} {first} {last} {ids} l = record {
  chain = leads_as nexts (nexts ++ None ∷ []) first ids l.chain (λ c some. padded nexts c.slot);
  end = l.end;
  within = All-weaker (λ (c : CtxId). c.slot < length nexts) (λ (c : CtxId). c.slot < length (nexts ++ None ∷ []))
      (λ c under. omega (arith, under, length-append nexts (None ∷ []))) ids l.within;
  once = l.once;
}

-- the slot of the last one is there
pub last_there : {nexts : List (Option CtxId)} {first last : Option CtxId} (ids : List CtxId) → AreLinked nexts first last ids
    → IfSome last (λ (c : CtxId). c.slot < length nexts)
last_there {nexts} {first} {last} ids l = by_last last (sym l.end)
  where
    by_last : (o : Option CtxId) → last_of ids ≡ o → IfSome o (λ (c : CtxId). c.slot < length nexts)
    by_last None is = tt
    by_last (Some y) is = last_within nexts ids y is l.within

-- and that of the first one
pub first_there : {nexts : List (Option CtxId)} {first last : Option CtxId} (ids : List CtxId) (c : CtxId)
    → AreLinked nexts first last ids → first ≡ Some c → c.slot < length nexts
unfolding Leads
first_there [] c l is = absurd (none-some c (sym l.chain ∙ is))
first_there {nexts} (d ∷ ids) c l is =
    subst (λ (e : CtxId). e.slot < length nexts) (same_Some d c (sym l.chain.0 ∙ is)) (All-head (λ (e : CtxId). e.slot < length nexts) d ids l.within)
