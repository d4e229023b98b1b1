-- The rows of slots, when what a slab has at one key changes, or the last generation of its slot.
use Rattle.std.proofs.Common.{◌≡◌, ◌≢◌, ◌+◌, ◌<◌, ◌≤◌, ◌∷◌, ◌++◌, ◌∙◌, ◌==◌, IsSome, drop, take, nat_le, not, option_and_then, if◌then◌else◌}
use Rattle.fm_ctx.proofs.Words.{ℕ, zero, suc, Bool, true, false, cond, List, [], length, set, get_or, slice_get, count_by, Option, Some, None, is_some, option_map, refl, sym, ap, ap₂}
use Rattle.fm_ctx.proofs.Words.{true≢false, subst, arith, nat_tests, inl, inr, cases_eq, cases_lt, cases_Bool, updated, slice_get-map, same_Some, slice_get_within, get_or_from_slice_get}
use Rattle.fm_ctx.proofs.Words.{length-append, length-set, sum_by-cons, one, CtxId, Row, Slot, IsNew, slot_of, slots_of, put_row, row_at, ne_eqb, eq-eqb, length-map}
use Rattle.std.proofs.lemmas.List.{take_more, get_or-set_same, get_or-set_other, get_or_past, set-get_or, get_or_default}
use Rattle.std.proofs.lemmas.List.Folds.{list_any_none, list_any_at}
use Rattle.std.proofs.lemmas.List.Sums.{get_or-le-sum_by}
use Rattle.std.proofs.lemmas.Option.{none-some, slice_get_past}
use Rattle.fm_types.proofs.Lists.{updated_there, count_by-push}
use Rattle.fm_ctx.specs.declared.entry.Entry.{Entry}
use Rattle.fm_ctx.specs.Births.{last_generation, has_free_slot, is_free}
use Rattle.fm_ctx.specs.Counting.{was_given, was_given_by}
use Rattle.fm_ctx.specs.Rows.{IsOpenAt, cleaned_row, vacant_row}
use Rattle.fm_ctx.specs.Stored.{FitsLast, context_in_entry, IsNextOf, IsStored, named_row, open_row, row_by, rows_in}

-- what is past the first one
rest_read : {X : Type 0} (xs : List (Option X)) (k : ℕ) → get_or (drop 1 xs) k None ≡ get_or xs (suc k) None
rest_read [] k = refl
rest_read (x ∷ xs) k = refl

-- and what is before the last one
front_read : (xs : List ℕ) (k : ℕ) → k < length xs → get_or (xs ++ 0 ∷ []) k 0 ≡ get_or xs k 0
front_read [] k within = absurd (omega (arith, within))
front_read (x ∷ xs) zero within = refl
front_read (x ∷ xs) (suc k) within = front_read xs k (omega (arith, within))

end_read : (xs : List ℕ) → get_or (xs ++ 0 ∷ []) (length xs) 0 ≡ 0
end_read [] = refl
end_read (x ∷ xs) = end_read xs

-- ---- one slot

pub length-rows : (slots : List (Option Entry)) (lasts : List ℕ) → length (rows_in slots lasts) ≡ length lasts
length-rows slots [] = refl
length-rows slots (g ∷ lasts) = ap suc (length-rows (drop 1 slots) lasts)

pub row_there : (slots : List (Option Entry)) (lasts : List ℕ) (k : ℕ) → k < length lasts
    → slice_get (rows_in slots lasts) k ≡ Some (row_by (get_or lasts k 0) (get_or slots k None))
row_there slots [] k within = absurd (omega (arith, within))
row_there slots (g ∷ lasts) zero within = refl
row_there slots (g ∷ lasts) (suc k) within =
    row_there (drop 1 slots) lasts k (omega (arith, within)) ∙ ap (λ (o : Option Entry). Some (row_by (get_or lasts k 0) o)) (rest_read slots k)

-- the other slots stay
others_rest : (slots slots' : List (Option Entry)) (k : ℕ) → ((j : ℕ) → j ≢ suc k → get_or slots' j None ≡ get_or slots j None)
    → (j : ℕ) → j ≢ k → get_or (drop 1 slots') j None ≡ get_or (drop 1 slots) j None
others_rest slots slots' k others j apart = rest_read slots' j ∙ others (suc j) (λ is. apart (omega (arith, is))) ∙ sym (rest_read slots j)

rows_alike : (slots slots' : List (Option Entry)) (lasts : List ℕ) → ((j : ℕ) → get_or slots' j None ≡ get_or slots j None)
    → rows_in slots' lasts ≡ rows_in slots lasts
rows_alike slots slots' [] same = refl
rows_alike slots slots' (g ∷ lasts) same =
    ap₂ (λ (r : Row) (rows : List Row). r ∷ rows) (ap (row_by g) (same 0))
    (rows_alike (drop 1 slots) (drop 1 slots') lasts (λ j. rest_read slots' j ∙ same (suc j) ∙ sym (rest_read slots j)))

-- a slot has another context, and another generation
pub rows_set : (slots slots' : List (Option Entry)) (lasts : List ℕ) (k g : ℕ) → ((j : ℕ) → j ≢ k → get_or slots' j None ≡ get_or slots j None)
    → rows_in slots' (set lasts k g) ≡ set (rows_in slots lasts) k (row_by g (get_or slots' k None))
rows_set slots slots' [] k g others = refl
rows_set slots slots' (h ∷ lasts) zero g others =
    ap (λ (rows : List Row). row_by g (get_or slots' 0 None) ∷ rows)
    (rows_alike (drop 1 slots) (drop 1 slots') lasts (λ j. rest_read slots' j ∙ others (suc j) (λ is. omega (arith, is)) ∙ sym (rest_read slots j)))
rows_set slots slots' (h ∷ lasts) (suc k) g others =
    ap₂ (λ (r : Row) (rows : List Row). r ∷ rows) (ap (row_by h) (others 0 (λ is. omega (arith, is))))
    (rows_set (drop 1 slots) (drop 1 slots') lasts k g (others_rest slots slots' k others)
    ∙ ap (λ (o : Option Entry). set (rows_in (drop 1 slots) lasts) k (row_by g o)) (rest_read slots' k))

-- a new slot
pub rows_push : (slots slots' : List (Option Entry)) (lasts : List ℕ) (g : ℕ) → ((j : ℕ) → j ≢ length lasts → get_or slots' j None ≡ get_or slots j None)
    → rows_in slots' (lasts ++ g ∷ []) ≡ rows_in slots lasts ++ row_by g (get_or slots' (length lasts) None) ∷ []
rows_push slots slots' [] g others = refl
rows_push slots slots' (h ∷ lasts) g others =
    ap₂ (λ (r : Row) (rows : List Row). r ∷ rows) (ap (row_by h) (others 0 (λ is. omega (arith, is))))
    (rows_push (drop 1 slots) (drop 1 slots') lasts g (others_rest slots slots' (length lasts) others)
    ∙ ap (λ (o : Option Entry). rows_in (drop 1 slots) lasts ++ row_by g o ∷ []) (rest_read slots' (length lasts)))

-- ---- a context that isn't cleaned

pub record EntryAt (slots : List (Option Entry)) (lasts : List ℕ) (k : ℕ) : Type 0 where
  pub entry : Entry
  pub there : get_or slots k None ≡ Some entry
  pub opens : entry.is_retired ≡ false
  pub within : k < length lasts
  pub row : slice_get (rows_in slots lasts) k ≡ Some (open_row (get_or lasts k 0) entry)

pub entry_at : (slots : List (Option Entry)) (lasts : List ℕ) (k : ℕ) → IsOpenAt (rows_in slots lasts) k → EntryAt slots lasts k
entry_at slots lasts k o = at_slot (get_or slots k None) refl
  where
    within : k < length lasts
    within = omega (arith, slice_get_within (rows_in slots lasts) k o.0 o.1, length-rows slots lasts)

    here : Some o.0 ≡ Some (row_by (get_or lasts k 0) (get_or slots k None))
    here = sym o.1 ∙ row_there slots lasts k within

    at_slot : (found : Option Entry) → get_or slots k None ≡ found → EntryAt slots lasts k
    at_slot None is = grind (arith, nat_tests, here, is, o.2)
    at_slot (Some e) is =
        let opens : e.is_retired ≡ false = grind (arith, nat_tests, here, is, o.2) in
        record {
          entry = e;
          there = is;
          opens = opens;
          within = within;
          row = row_there slots lasts k within ∙ ap (λ (x : Option Entry). Some (row_by (get_or lasts k 0) x)) is
              ∙ ap (λ (b : Bool). Some (cond b (vacant_row (get_or lasts k 0)) (open_row (get_or lasts k 0) e))) opens;
        }

pub slot_within : (slots : List (Option Entry)) (k : ℕ) (e : Entry) → get_or slots k None ≡ Some e → k < length slots
slot_within slots k e there = grind (arith, get_or_past slots k None)

-- it is changed
pub row_changed : (slots : List (Option Entry)) (lasts : List ℕ) (k : ℕ) → IsOpenAt (rows_in slots lasts) k
    → (e e' : Entry) (f : Row → Row) → get_or slots k None ≡ Some e
    → e'.is_retired ≡ e.is_retired → ((g : ℕ) → open_row g e' ≡ f (open_row g e)) → rows_in (set slots k (Some e')) lasts ≡ updated f (rows_in slots lasts) k
row_changed slots lasts k o e e' f there keeps changes =
    let i = entry_at slots lasts k o in
    let g = get_or lasts k 0 in
    let same : i.entry ≡ e = same_Some i.entry e (sym i.there ∙ there) in
    let now : get_or (set slots k (Some e')) k None ≡ Some e' = get_or-set_same slots k (Some e') None (slot_within slots k e there) in
    let opens : e'.is_retired ≡ false = keeps ∙ ap (λ (x : Entry). x.is_retired) (sym same) ∙ i.opens in
    let shown : row_by g (get_or (set slots k (Some e')) k None) ≡ f (open_row g i.entry) =
    ap (row_by g) now ∙ ap (λ (b : Bool). cond b (vacant_row g) (open_row g e')) opens ∙ changes g ∙ ap (λ (x : Entry). f (open_row g x)) (sym same) in
    ap (rows_in (set slots k (Some e'))) (sym (set-get_or lasts k 0))
    ∙ rows_set slots (set slots k (Some e')) lasts k g (λ j apart. get_or-set_other slots k j (Some e') None apart)
    ∙ ap (set (rows_in slots lasts) k) shown ∙ sym (updated_there f (rows_in slots lasts) k (open_row g i.entry) i.row)

-- it is cleaned: the slab has it no more, or keeps it as retired
pub row_cleaned : (slots slots' : List (Option Entry)) (lasts : List ℕ) (k : ℕ) → IsOpenAt (rows_in slots lasts) k
    → row_by (get_or lasts k 0) (get_or slots' k None) ≡ vacant_row (get_or lasts k 0) → ((j : ℕ) → j ≢ k → get_or slots' j None ≡ get_or slots j None)
    → rows_in slots' lasts ≡ updated cleaned_row (rows_in slots lasts) k
row_cleaned slots slots' lasts k o gone others =
    let i = entry_at slots lasts k o in
    let g = get_or lasts k 0 in
    ap (rows_in slots') (sym (set-get_or lasts k 0)) ∙ rows_set slots slots' lasts k g others ∙ ap (set (rows_in slots lasts) k) gone
    ∙ sym (updated_there cleaned_row (rows_in slots lasts) k (open_row g i.entry) i.row)

-- a slot that has an entry was given
pub given_now : {slots : List (Option Entry)} {lasts : List ℕ} → IsStored slots lasts → (k : ℕ) (e : Entry) → get_or slots k None ≡ Some e → k < length lasts
given_now {slots} {lasts} is k e there =
    elim (cases_lt k (length lasts)) [ inl within ↦ within | inr past ↦ absurd (none-some e (sym (is.past k past) ∙ there)) ]

-- what else is kept
pub stored_set : {slots slots' : List (Option Entry)} {lasts : List ℕ} (k : ℕ) → IsStored slots lasts → k < length lasts
    → FitsLast (get_or lasts k 0) (get_or slots' k None) → ((j : ℕ) → j ≢ k → get_or slots' j None ≡ get_or slots j None) → IsStored slots' lasts
stored_set {slots} {slots'} {lasts} k is within fits others = record {
  past = λ j past. others j (λ same. omega (arith, past, within, same)) ∙ is.past j past;
  fits = λ j under.
      elim (cases_eq j k) [
        | inl here ↦ subst (λ n. FitsLast (get_or lasts n 0) (get_or slots' n None)) (sym here) fits
        | inr apart ↦ subst (FitsLast (get_or lasts j 0)) (sym (others j apart)) (is.fits j under)
      ];
  few = is.few;
}

-- a context is changed, and is still not retired
pub entry_kept : (slots : List (Option Entry)) {lasts : List ℕ} → IsStored slots lasts → (k : ℕ) (e e' : Entry)
    → get_or slots k None ≡ Some e → e'.is_retired ≡ e.is_retired
    → IsStored (set slots k (Some e')) lasts
entry_kept slots {lasts} is k e e' there keeps =
    let within = given_now is k e there in
    let now = get_or-set_same slots k (Some e') None (slot_within slots k e there) in
    let fits : FitsLast (get_or lasts k 0) (Some e) = subst (FitsLast (get_or lasts k 0)) there (is.fits k within) in
    stored_set k is within (subst (FitsLast (get_or lasts k 0)) (sym now) (fits.0, λ retired. fits.1 (sym keeps ∙ retired)))
    (λ j apart. get_or-set_other slots k j (Some e') None apart)

-- ---- a context gets a slot

module _ {slots : List (Option Entry)} (slots' : List (Option Entry)) {lasts lasts' : List ℕ} (is : IsStored slots lasts) (k g : ℕ)
    (e : Entry) (free : get_or slots k None ≡ None) (next : IsNextOf lasts lasts' k g)
    (here : get_or slots' k None ≡ Some e) (others : (j : ℕ) → j ≢ k → get_or slots' j None ≡ get_or slots j None) (opens : e.is_retired ≡ false) where
  opened : (h : ℕ) → row_by h (get_or slots' k None) ≡ open_row h e
  opened h = ap (row_by h) here ∙ ap (λ (b : Bool). cond b (vacant_row h) (open_row h e)) opens

  pub rows_put : rows_in slots' lasts' ≡ put_row (rows_in slots lasts) (record { slot = k; generation = g }) (open_row 0 e)
  rows_put =
      elim next [
        | inl again ↦
            ap (rows_in slots') again.2 ∙ rows_set slots slots' lasts k g others ∙ ap (set (rows_in slots lasts) k) (opened g)
            ∙ sym (ap (λ (b : Bool). cond b (rows_in slots lasts ++ open_row g e ∷ []) (set (rows_in slots lasts) k (open_row g e)))
            (ne_eqb k (length (rows_in slots lasts)) (λ at_end. omega (arith, at_end, length-rows slots lasts, again.0))))
        | inr first ↦
            let others' : (j : ℕ) → j ≢ length lasts → get_or slots' j None ≡ get_or slots j None = λ j apart. others j (λ at. apart (at ∙ first.0)) in
            ap (rows_in slots') first.3 ∙ rows_push slots slots' lasts 0 others'
            ∙ ap₂ (λ (n h : ℕ). rows_in slots lasts ++ row_by h (get_or slots' n None) ∷ []) (sym first.0) (sym first.2)
            ∙ ap (λ (r : Row). rows_in slots lasts ++ r ∷ []) (opened g)
            ∙ sym (ap (λ (b : Bool). cond b (rows_in slots lasts ++ open_row g e ∷ []) (set (rows_in slots lasts) k (open_row g e)))
            (eq-eqb k (length (rows_in slots lasts)) (first.0 ∙ sym (length-rows slots lasts))))
      ]

  pub new_put : IsNew (slots_of (rows_in slots lasts)) (record { slot = k; generation = g })
  new_put =
      let many : length (slots_of (rows_in slots lasts)) ≡ length lasts = length-map (rows_in slots lasts) slot_of ∙ length-rows slots lasts in
      elim next [
        | inl again ↦
            let h = get_or lasts k 0 in
            let row : slice_get (rows_in slots lasts) k ≡ Some (vacant_row h) = row_there slots lasts k again.0
            ∙ ap (λ (o : Option Entry). Some (row_by h o)) free in
            let young : h < last_generation = subst (FitsLast h) free (is.fits k again.0) in
            inr (
              slot_of (vacant_row h),
              slice_get-map slot_of (rows_in slots lasts) k
                  ∙ ap (λ (o : Option Row). option_map slot_of o) row,
              grind (arith, nat_tests, young),
              again.1,
            )
        | inr first ↦ inl (first.0 ∙ sym many, first.2, omega (arith, first.1, many))
      ]

  pub stored_put : IsStored slots' lasts'
  stored_put =
      let kept : (h : ℕ) → h ≤ last_generation → FitsLast h (get_or slots' k None) =
      λ h young. subst (FitsLast h) (sym here) (young, λ retired. absurd (true≢false (sym retired ∙ opens))) in
      elim next [
        | inl again ↦
            let here_now : get_or lasts' k 0 ≡ g = ap (λ (l : List ℕ). get_or l k 0) again.2 ∙ get_or-set_same lasts k g 0 again.0 in
            let young : get_or lasts k 0 < last_generation = subst (FitsLast (get_or lasts k 0)) free (is.fits k again.0) in
            let longer : length lasts' ≡ length lasts = ap length again.2 ∙ length-set lasts k g in
            record {
              past = λ j past. others j (λ same. omega (arith, past, longer, again.0, same)) ∙ is.past j (omega (arith, past, longer));
              fits = λ j under.
                  elim (cases_eq j k) [
                    | inl at ↦ subst (λ n. FitsLast (get_or lasts' n 0) (get_or slots' n None)) (sym at)
                        (kept (get_or lasts' k 0) (omega (arith, here_now, again.1, young)))
                    | inr apart ↦
                        let same : get_or lasts' j 0 ≡ get_or lasts j 0 = ap (λ (l : List ℕ). get_or l j 0) again.2 ∙ get_or-set_other lasts k j g 0 apart in
                        subst (λ (h : ℕ). FitsLast h (get_or slots' j None)) (sym same)
                        (subst (FitsLast (get_or lasts j 0)) (sym (others j apart)) (is.fits j (omega (arith, under, longer))))
                  ];
              few = omega (arith, longer, is.few);
            }
        | inr first ↦
            let here_now : get_or lasts' k 0 ≡ 0 = ap₂ (λ (l : List ℕ) (n : ℕ). get_or l n 0) first.3 first.0 ∙ end_read lasts in
            let longer : length lasts' ≡ length lasts + 1 = ap length first.3 ∙ length-append lasts (0 ∷ []) in
            record {
              past = λ j past. others j (λ same. omega (arith, past, longer, first.0, same)) ∙ is.past j (omega (arith, past, longer));
              fits = λ j under.
                  elim (cases_eq j k) [
                    | inl at ↦ subst (λ n. FitsLast (get_or lasts' n 0) (get_or slots' n None)) (sym at) (kept (get_or lasts' k 0) (omega (arith, here_now)))
                    | inr apart ↦
                        let within : j < length lasts =
                        elim (cases_lt j (length lasts)) [ inl below ↦ below | inr over ↦ absurd (apart (omega (arith, under, longer, first.0, over))) ] in
                        let same : get_or lasts' j 0 ≡ get_or lasts j 0 = ap (λ (l : List ℕ). get_or l j 0) first.3 ∙ front_read lasts j within in
                        subst (λ (h : ℕ). FitsLast h (get_or slots' j None)) (sym same)
                        (subst (FitsLast (get_or lasts j 0)) (sym (others j apart)) (is.fits j within))
                  ];
              few = omega (arith, longer, first.1);
            }
      ]

-- ---- how many slots are free

first_counted : (slots : List (Option Entry)) → count_by is_some slots ≡ one (is_some (get_or slots 0 None)) + count_by is_some (drop 1 slots)
first_counted [] = refl
first_counted (o ∷ slots) = sum_by-cons (λ (x : Option Entry). one (is_some x)) o slots

none_counted : (slots : List (Option Entry)) → ((k : ℕ) → get_or slots k None ≡ None) → count_by is_some slots ≡ 0
none_counted [] none = refl
none_counted (o ∷ slots) none =
    omega (arith, first_counted (o ∷ slots), none_counted slots (λ k. none (suc k)), ap (λ (x : Option Entry). one (is_some x)) (none 0))

free_or_not : (g : ℕ) (o : Option Entry) → FitsLast g o → one (is_some o) + one (is_free (slot_of (row_by g o))) ≡ 1
free_or_not g None fits = grind (arith, nat_tests, fits)
free_or_not g (Some e) fits =
    elim (cases_Bool e.is_retired) [
      | inl is ↦ let late = fits.1 is in grind (arith, nat_tests, is, late)
      | inr is ↦ grind (arith, nat_tests, is)
    ]

-- each slot has a context, or is free
pub free_counted : (slots : List (Option Entry)) (lasts : List ℕ) → ((k : ℕ) → length lasts ≤ k → get_or slots k None ≡ None)
    → ((k : ℕ) → k < length lasts → FitsLast (get_or lasts k 0) (get_or slots k None))
    → count_by is_some slots + count_by is_free (slots_of (rows_in slots lasts)) ≡ length lasts
free_counted slots [] past fits = omega (arith, none_counted slots (λ k. past k (omega arith)))
free_counted slots (g ∷ lasts) past fits =
    let row = row_by g (get_or slots 0 None) in
    let rest = slots_of (rows_in (drop 1 slots) lasts) in
    let later = free_counted (drop 1 slots) lasts (λ k over. rest_read slots k ∙ past (suc k) (omega (arith, over)))
    (λ k under. subst (FitsLast (get_or lasts k 0)) (sym (rest_read slots k)) (fits (suc k) (omega (arith, under)))) in
    omega (
      arith,
      later,
      first_counted slots,
      sum_by-cons (λ (s : Slot). one (is_free s)) (slot_of row) rest,
      free_or_not g (get_or slots 0 None) (fits 0 (omega arith)),
    )

none_free : (slots : List Slot) → count_by is_free slots ≡ 0 → has_free_slot slots ≡ false
none_free slots none =
    list_any_none is_free slots (λ k d within. grind (arith, nat_tests, get_or-le-sum_by (λ (s : Slot). one (is_free s)) slots k d within, none))

some_free : (slots : List Slot) → 0 < count_by is_free slots → has_free_slot slots ≡ true
some_free [] some = absurd (omega (arith, some))
some_free (s ∷ slots) some =
    elim (cases_Bool (is_free s)) [
      | inl is ↦ list_any_at is_free (s ∷ slots) 0 s (omega arith) is
      | inr is ↦ grind (arith, nat_tests, is, some_free slots (omega (arith, some, sum_by-cons (λ (x : Slot). one (is_free x)) s slots, ap one is)))
    ]

pub none_is_free : {slots : List (Option Entry)} {lasts : List ℕ} → IsStored slots lasts
    → (count_by is_some slots == length lasts) ≡ not (has_free_slot (slots_of (rows_in slots lasts)))
none_is_free {slots} {lasts} is =
    let rows = slots_of (rows_in slots lasts) in
    let all = free_counted slots lasts is.past is.fits in
    elim (cases_lt 0 (count_by is_free rows)) [
      | inl some ↦ grind (arith, nat_tests, all, some, some_free rows some)
      | inr none ↦ grind (arith, nat_tests, all, none_free rows (omega (arith, none)))
    ]

row_generation : (g : ℕ) (o : Option Entry) → (row_by g o).generation ≡ g
row_generation g None = refl
row_generation g (Some e) = elim (cases_Bool e.is_retired) [ inl is ↦ grind (arith, nat_tests, is) | inr is ↦ grind (arith, nat_tests, is) ]

-- the entry of the context that an id names, by what is read of its slot
abbrev pub found_by : CtxId → ℕ → Option Entry → Option Entry
found_by c g None = None
found_by c g (Some e) = cond e.is_retired None (cond (c.generation == g) (Some e) None)

-- ---- a row, by the name that callers have for the rows

module _ (slots : List (Option Entry)) (lasts : List ℕ) {now : List Row} (same : rows_in slots lasts ≡ now) (k : ℕ) (o : IsOpenAt now k) where
  opens_here : IsOpenAt (rows_in slots lasts) k
  opens_here = subst (λ (rows : List Row). IsOpenAt rows k) (sym same) o

  pub entry_now : EntryAt slots lasts k
  entry_now = entry_at slots lasts k opens_here

  pub has_entry : IsSome (get_or slots k None)
  has_entry = ap is_some entry_now.there

  pub within_now : k < length lasts
  within_now = entry_now.within

  pub row_now : (e : Entry) (d : Row) → get_or slots k None ≡ Some e → get_or now k d ≡ open_row (get_or lasts k 0) e
  row_now e d there =
      ap (λ (rows : List Row). get_or rows k d) (sym same)
      ∙ get_or_from_slice_get (rows_in slots lasts) k (open_row (get_or lasts k 0) entry_now.entry) d entry_now.row
      ∙ ap (open_row (get_or lasts k 0)) (same_Some entry_now.entry e (sym entry_now.there ∙ there))

  pub changed_now : (e e' : Entry) (f : Row → Row) → get_or slots k None ≡ Some e → e'.is_retired ≡ e.is_retired → ((g : ℕ) → open_row g e' ≡ f (open_row g e))
      → rows_in (set slots k (Some e')) lasts ≡ updated f now k
  changed_now e e' f there keeps changes = row_changed slots lasts k opens_here e e' f there keeps changes ∙ ap (λ (rows : List Row). updated f rows k) same

  pub cleaned_now : (slots' : List (Option Entry)) → row_by (get_or lasts k 0) (get_or slots' k None) ≡ vacant_row (get_or lasts k 0)
      → ((j : ℕ) → j ≢ k → get_or slots' j None ≡ get_or slots j None) → rows_in slots' lasts ≡ updated cleaned_row now k
  cleaned_now slots' gone others = row_cleaned slots slots' lasts k opens_here gone others ∙ ap (λ (rows : List Row). updated cleaned_row rows k) same

-- the generation of a slot
pub generation_read : (slots : List (Option Entry)) (lasts : List ℕ) {now : List Row} → rows_in slots lasts ≡ now → (k : ℕ) (d : Row)
    → k < length now → (g : ℕ) → g ≡ get_or lasts k g
    → g ≡ (get_or now k d).generation
generation_read slots lasts {now} same k d within g read =
    let under : k < length lasts = omega (arith, within, length-rows slots lasts, ap (λ (rows : List Row). length rows) same) in
    let row = get_or_from_slice_get (rows_in slots lasts) k (row_by (get_or lasts k 0) (get_or slots k None)) d (row_there slots lasts k under) in
    read ∙ get_or_default lasts k g 0 under ∙ sym (row_generation (get_or lasts k 0) (get_or slots k None)) ∙ ap (λ (r : Row). r.generation) (sym row)
    ∙ ap (λ (rows : List Row). (get_or rows k d).generation) same

-- the row that an id names
pub named_now : {slots : List (Option Entry)} {lasts : List ℕ} {now : List Row} → IsStored slots lasts → rows_in slots lasts ≡ now → (c : CtxId)
    → named_row c (found_by c (get_or lasts c.slot 0) (get_or slots c.slot None)) ≡ row_at now c
unfolding row_at
named_now {slots} {lasts} {now} is same c =
    elim (cases_lt c.slot (length lasts)) [
      | inl within ↦ grind (arith, nat_tests, row_there slots lasts c.slot within, ap (λ (rows : List Row). slice_get rows c.slot) same)
      | inr past ↦
          grind (
            arith,
            nat_tests,
            is.past c.slot past,
            ap (λ (rows : List Row). slice_get rows c.slot) same,
            slice_get_past (rows_in slots lasts) c.slot,
            length-rows slots lasts,
          )
    ]

-- the context that a slot shows
pub shown_at : (slots : List (Option Entry)) (lasts : List ℕ) {now : List Row} → rows_in slots lasts ≡ now → (k : ℕ) (d : Row) → k < length now
    → (slot_of (get_or now k d)).context ≡ option_and_then context_in_entry (get_or slots k None)
shown_at slots lasts {now} same k d within =
    let under : k < length lasts = omega (arith, within, length-rows slots lasts, ap (λ (rows : List Row). length rows) same) in
    ap (λ (rows : List Row). (slot_of (get_or rows k d)).context) (sym same)
    ∙ ap (λ (r : Row). (slot_of r).context) (get_or_from_slice_get (rows_in slots lasts) k
    (row_by (get_or lasts k 0) (get_or slots k None)) d (row_there slots lasts k under))
    ∙ shown_by (get_or lasts k 0) (get_or slots k None)
  where
    shown_by : (g : ℕ) (o : Option Entry) → (slot_of (row_by g o)).context ≡ option_and_then context_in_entry o
    shown_by g None = refl
    shown_by g (Some e) = elim (cases_Bool e.is_retired) [ inl is ↦ grind (arith, nat_tests, is) | inr is ↦ grind (arith, nat_tests, is) ]

-- what an id of a slot that has an entry names
pub named_at : {slots : List (Option Entry)} {lasts : List ℕ} {now : List Row} → IsStored slots lasts → rows_in slots lasts ≡ now
    → (c : CtxId) (e : Entry) → get_or slots c.slot None ≡ Some e
    → named_row c (cond e.is_retired None (cond (c.generation == get_or lasts c.slot 0) (Some e) None)) ≡ row_at now c
named_at {slots} {lasts} is same c e there =
    ap (λ (o : Option Entry). named_row c (found_by c (get_or lasts c.slot 0) o)) (sym there) ∙ named_now is same c

-- whether an id was given: its slot has had that generation
given_by_row : (slots : List (Option Entry)) (lasts : List ℕ) {now : List Row} → rows_in slots lasts ≡ now → (c : CtxId)
    → was_given (slots_of now) c ≡ was_given_by c (option_map slot_of (slice_get (rows_in slots lasts) c.slot))
given_by_row slots lasts {now} same c = ap (λ (rows : List Row). was_given (slots_of rows) c) (sym same)
    ∙ ap (was_given_by c) (slice_get-map slot_of (rows_in slots lasts) c.slot)

pub given_past : (slots : List (Option Entry)) (lasts : List ℕ) {now : List Row} → rows_in slots lasts ≡ now → (c : CtxId) → length lasts ≤ c.slot
    → false ≡ was_given (slots_of now) c
given_past slots lasts same c past =
    sym (given_by_row slots lasts same c ∙ ap (λ (o : Option Row). was_given_by c (option_map slot_of o))
    (slice_get_past (rows_in slots lasts) c.slot (omega (arith, past, length-rows slots lasts))))

pub given_here : (slots : List (Option Entry)) (lasts : List ℕ) {now : List Row} → rows_in slots lasts ≡ now → (c : CtxId) (g : ℕ)
    → c.slot < length lasts → g ≡ get_or lasts c.slot g
    → nat_le c.generation g ≡ was_given (slots_of now) c
given_here slots lasts same c g within read =
    let last = row_generation (get_or lasts c.slot 0) (get_or slots c.slot None) in
    ap (nat_le c.generation) (read ∙ get_or_default lasts c.slot g 0 within ∙ sym last)
    ∙ sym (given_by_row slots lasts same c ∙ ap (λ (o : Option Row). was_given_by c (option_map slot_of o)) (row_there slots lasts c.slot within))

-- how many of the first slots pass a test
pub counted_more : (p : Row → Bool) (rows : List Row) (k : ℕ) (d : Row) → k < length rows
    → count_by p (take (k + 1) rows) ≡ count_by p (take k rows) + one (p (get_or rows k d))
counted_more p rows k d within = ap (count_by p) (take_more rows k d within) ∙ count_by-push p (take k rows) (get_or rows k d)

-- whether a generation follows that of a slot
pub young_here : {slots : List (Option Entry)} {lasts : List ℕ} → IsStored slots lasts → (k g : ℕ) (e : Entry) (next : Option ℕ)
    → get_or slots k None ≡ Some e → g ≡ get_or lasts k g
    → next ≡ (if g == last_generation then None else Some (g + 1)) → true ≡ is_some next → get_or lasts k 0 < last_generation
young_here {slots} {lasts} is k g e next there read follows some =
    let within = given_now is k e there in
    let fits : FitsLast (get_or lasts k 0) (Some e) = subst (FitsLast (get_or lasts k 0)) there (is.fits k within) in
    grind (arith, nat_tests, fits.0, get_or_default lasts k g 0 within, read, follows, some)
