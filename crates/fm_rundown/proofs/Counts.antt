-- Each kind of step keeps the count of a volume's word.
use Rattle.fm_rundown.proofs.Words.{eqb-true, ltb-true, false_from_ne_true, true_from_ne_false, cond_both, sum_by-le, sum_by_push}
use Rattle.fm_rundown.proofs.Words.{get_or-le-sum_by, some, get_elem?, VolumeView, no_pass, Kind, is_closing_word, one_more, one_less}
use Rattle.fm_rundown.proofs.Words.{gained, lost, tried, undone, saw_closing, saw_drained, closed, took_look, most_passes, enters, undoes}
use Rattle.fm_rundown.proofs.Words.{leaves, closes, looks, passes_of, is_closed, is_seen_drained, NobodyHolds, Fits, IsCounted}
use Rattle.std.proofs.Common.{◌≡◌, ◌+◌, ◌*◌, ◌^◌, ◌<◌, ◌≤◌, ◌==◌, ℕ, List, [], ◌∷◌, ◌++◌, Bool, true, false, cond, nat_lt, All, set}
use Rattle.std.proofs.Common.{length, sum_by, bit_or, refl, ap, sym, ◌∙◌, arith, subst, true≢false, mod-eq_of_lt}
use Rattle.std.proofs.lemmas.List.Elements.{All-set, All-weaker, All-push}
use Rattle.fm_rundown.proofs.Bits.{lowest_bit, or_one}
use Rattle.fm_rundown.proofs.Lists.{found, sum_changed, all_found, any_changed, any_passes, any_none, any_pushed}

abbrev has_closed : VolumeView → Bool
has_closed p = p.has_closed

abbrev is_drained : VolumeView → Bool
is_drained p = p.is_drained

abbrev IsFree : VolumeView → Type 0
IsFree p = p.held ≡ 0

-- ---- what a word tells ----

-- the lowest bit is the closing one
pub closing_bit : (word : ℕ) (ps : List VolumeView) → IsCounted word ps → is_closing_word word ≡ is_closed ps
closing_bit word ps counted = ap is_closing_word counted.0 ∙ lowest_bit (sum_by passes_of ps) (is_closed ps)

-- the passes of so many seats fit the word with room to spare
pub word_bound : (word : ℕ) (ps : List VolumeView) → length ps ≤ 65536 → IsCounted word ps → word + 2 < 2 ^ 64
word_bound word ps few counted =
    let each : All (λ (p : VolumeView). passes_of p ≤ 1001) ps =
    All-weaker (Fits (is_closed ps)) (λ p. passes_of p ≤ 1001) (λ p fits. let h = fits.2 in let t = fits.3 in omega (arith, h, t)) ps counted.1 in
    let all = sum_by-le passes_of 1001 ps each in
    below word (sum_by passes_of ps) (length ps) (is_closed ps) counted.0 all few
  where
    below : (word sum n : ℕ) (b : Bool) → word ≡ 2 * sum + cond b 1 0 → sum ≤ n * 1001 → n ≤ 65536 → word + 2 < 2 ^ 64
    below word sum n true is all few = omega (arith, is, all, few)
    below word sum n false is all few = omega (arith, is, all, few)

-- a word has two for each pass of one seat
has_passes : (word : ℕ) (ps : List VolumeView) (k : ℕ) (p : VolumeView) → IsCounted word ps → get_elem? ps k ≡ some p → 2 * passes_of p ≤ word
has_passes word ps k p counted at =
    let here = found ps k p at in
    let part : passes_of p ≤ sum_by passes_of ps =
    subst (λ q. passes_of q ≤ sum_by passes_of ps) (here.1 p) (get_or-le-sum_by passes_of ps k p here.0) in
    omega (arith, counted.0, part)

-- a closing volume without a pass: nobody holds one
nobody_at_one : (word : ℕ) (ps : List VolumeView) → IsCounted word ps → word ≡ 1 → NobodyHolds ps
nobody_at_one word ps counted one k d within =
    let part = get_or-le-sum_by passes_of ps k d within in
    omega (arith, counted.0, one, part)

-- ---- the count after one seat's change ----

-- where the change neither closes nor forgets a close
recounted : (word word' : ℕ) (ps : List VolumeView) (k : ℕ) (p q : VolumeView) → get_elem? ps k ≡ some p → IsCounted word ps
    → q.has_closed ≡ p.has_closed → word' + 2 * passes_of p ≡ word + 2 * passes_of q → Fits (is_closed ps) q
    → (is_seen_drained (set ps k q) ≡ true → NobodyHolds (set ps k q)) → IsCounted word' (set ps k q)
recounted word word' ps k p q at counted same moved fits drained =
    let as_before = any_changed has_closed ps k p q at same in
    let sum = sum_changed passes_of ps k p q at in (
      (let is : word' ≡ 2 * sum_by passes_of (set ps k q) + cond (is_closed ps) 1 0 = omega (arith, counted.0, moved, sum) in is)
          ∙ ap (λ b. 2 * sum_by passes_of (set ps k q) + cond b 1 0) (sym as_before),
      subst (λ b. All (Fits b) (set ps k q)) (sym as_before) (All-set (Fits (is_closed ps)) ps k q fits counted.1),
      drained,
    )

-- where the seat sees nothing new and holds no more
nobody_stays : (ps : List VolumeView) (k : ℕ) (p q : VolumeView) → get_elem? ps k ≡ some p → q.is_drained ≡ p.is_drained → q.held ≤ p.held
    → (is_seen_drained ps ≡ true → NobodyHolds ps) → is_seen_drained (set ps k q) ≡ true → NobodyHolds (set ps k q)
nobody_stays ps k p q at same no_more drained seen =
    let before = drained (sym (any_changed is_drained ps k p q at same) ∙ seen) in
    let mine : p.held ≡ 0 = all_found IsFree ps k p before at in
    All-set IsFree ps k q (omega (arith, mine, no_more)) before

-- a volume that nobody closed was not seen drained
not_drained : (ps : List VolumeView) → is_closed ps ≡ false → All (Fits (is_closed ps)) ps → is_seen_drained ps ≡ false
not_drained ps none fits =
    any_none is_drained ps (All-weaker (Fits (is_closed ps)) (λ p. p.is_drained ≡ false)
    (λ p is. false_from_ne_true p.is_drained (λ drained. true≢false (sym (is.1 drained) ∙ none))) ps fits)

-- ---- the five kinds ----

-- the step of a kind keeps the count, whatever the word is and whatever the others know
abbrev pub Keeps : Kind → Type 0
Keeps kind = (word : ℕ) (ps : List VolumeView) (k : ℕ) (p : VolumeView) → length ps ≤ 65536 → IsCounted word ps → get_elem? ps k ≡ some p → kind.may p
    → IsCounted (kind.word word) (set ps k (kind.seen word p))

one_more_fits : (word : ℕ) (ps : List VolumeView) → length ps ≤ 65536 → IsCounted word ps → one_more word ≡ word + 2
one_more_fits word ps few counted = mod-eq_of_lt (word_bound word ps few counted)

one_less_fits : (word : ℕ) (ps : List VolumeView) (k : ℕ) (p : VolumeView) → length ps ≤ 65536 → IsCounted word ps → get_elem? ps k ≡ some p
    → 0 < passes_of p
    → one_less word + 2 ≡ word
one_less_fits word ps k p few counted at some_pass =
    let bound = word_bound word ps few counted in
    let enough = has_passes word ps k p counted at in
    let two : 2 ≤ word = omega (arith, enough, some_pass) in
    omega (arith, bound, two)

pub undoes_keeps : Keeps undoes
undoes_keeps word ps k p few counted at may =
    let fits = all_found (Fits (is_closed ps)) ps k p counted.1 at in
    let less = one_less_fits word ps k p few counted at (omega (arith, may)) in
    recounted word (one_less word) ps k p (undone p) at counted refl (omega (arith, less, may)) (fits.0, fits.1, fits.2, omega (arith, fits.3))
    (nobody_stays ps k p (undone p) at refl (omega arith) counted.2)

pub leaves_keeps : Keeps leaves
leaves_keeps word ps k p few counted at may =
    let fits = all_found (Fits (is_closed ps)) ps k p counted.1 at in
    let less = one_less_fits word ps k p few counted at (omega (arith, may)) in
    recounted word (one_less word) ps k p (lost p) at counted refl (omega (arith, less, may)) (fits.0, fits.1, omega (arith, fits.2), fits.3)
    (nobody_stays ps k p (lost p) at refl (omega arith) counted.2)

-- an `enter` that finds the volume closing
enters_closed : (word : ℕ) (ps : List VolumeView) (k : ℕ) (p : VolumeView) → length ps ≤ 65536 → IsCounted word ps → get_elem? ps k ≡ some p
    → p.tentative ≡ 0
    → is_closed ps ≡ true → IsCounted (one_more word) (set ps k (saw_closing (tried p)))
enters_closed word ps k p few counted at none is =
    let fits = all_found (Fits (is_closed ps)) ps k p counted.1 at in
    let more = one_more_fits word ps few counted in
    recounted word (one_more word) ps k p (saw_closing (tried p)) at counted refl (omega (arith, more))
    ((λ _. is), fits.1, fits.2, omega (arith, none))
    (nobody_stays ps k p (saw_closing (tried p)) at refl (omega arith) counted.2)

-- one that finds it open, and has room
enters_open : (word : ℕ) (ps : List VolumeView) (k : ℕ) (p : VolumeView) → length ps ≤ 65536 → IsCounted word ps → get_elem? ps k ≡ some p
    → p.held < most_passes
    → is_closed ps ≡ false → IsCounted (one_more word) (set ps k (gained p))
enters_open word ps k p few counted at room is =
    let fits = all_found (Fits (is_closed ps)) ps k p counted.1 at in
    let more = one_more_fits word ps few counted in
    recounted word (one_more word) ps k p (gained p) at counted refl (omega (arith, more)) (fits.0, fits.1, omega (arith, room), fits.3)
    (λ seen. absurd (true≢false (sym seen ∙ any_changed is_drained ps k p (gained p) at refl ∙ not_drained ps is counted.1)))

-- one that finds it open, and has no room
enters_full : (word : ℕ) (ps : List VolumeView) (k : ℕ) (p : VolumeView) → length ps ≤ 65536 → IsCounted word ps → get_elem? ps k ≡ some p
    → p.tentative ≡ 0
    → IsCounted (one_more word) (set ps k (tried p))
enters_full word ps k p few counted at none =
    let fits = all_found (Fits (is_closed ps)) ps k p counted.1 at in
    let more = one_more_fits word ps few counted in
    recounted word (one_more word) ps k p (tried p) at counted refl (omega (arith, more)) (fits.0, fits.1, fits.2, omega (arith, none))
    (nobody_stays ps k p (tried p) at refl (omega arith) counted.2)

pub enters_keeps : Keeps enters
enters_keeps word ps k p few counted at may =
    let bit = closing_bit word ps counted in
    let After : VolumeView → Type 0 = λ q. IsCounted (one_more word) (set ps k q) in
    cond_both (is_closing_word word) (saw_closing (tried p)) (cond (nat_lt p.held most_passes) (gained p) (tried p)) After
    (λ is. enters_closed word ps k p few counted at may (sym bit ∙ is))
    (λ is. cond_both (nat_lt p.held most_passes) (gained p) (tried p) After
    (λ room. enters_open word ps k p few counted at (ltb-true p.held most_passes room) (sym bit ∙ is))
    (λ full. enters_full word ps k p few counted at may))

pub looks_keeps : Keeps looks
looks_keeps word ps k p few counted at may =
    let bit = closing_bit word ps counted in
    let fits = all_found (Fits (is_closed ps)) ps k p counted.1 at in
    let After : VolumeView → Type 0 = λ q. IsCounted word (set ps k q) in
    let drained = saw_drained (took_look p) in
    let closing = saw_closing (took_look p) in
    cond_both (is_closing_word word) (cond (word == 1) drained closing) (took_look p) After
    (λ is. cond_both (word == 1) drained closing After
    (λ one. recounted word word ps k p drained at counted refl refl ((λ _. sym bit ∙ is), (λ _. sym bit ∙ is), fits.2, fits.3)
    (λ _.
    let free = nobody_at_one word ps counted (eqb-true word 1 one) in
    All-set IsFree ps k drained (all_found IsFree ps k p free at) free))
    (λ _. recounted word word ps k p closing at counted refl refl ((λ _. sym bit ∙ is), fits.1, fits.2, fits.3)
    (nobody_stays ps k p closing at refl (omega arith) counted.2)))
    (λ _. recounted word word ps k p (took_look p) at counted refl refl fits (nobody_stays ps k p (took_look p) at refl (omega arith) counted.2))

pub closes_keeps : Keeps closes
closes_keeps word ps k p few counted at may =
    let is = any_passes has_closed ps k p (closed p) at refl in
    let sum = sum_changed passes_of ps k p (closed p) at in
    let as_many : sum_by passes_of (set ps k (closed p)) ≡ sum_by passes_of ps = omega (arith, sum) in
    let fits = all_found (Fits (is_closed ps)) ps k p counted.1 at in
    let others : All (Fits true) ps =
    All-weaker (Fits (is_closed ps)) (Fits true) (λ q fit. ((λ _. refl), (λ _. refl), fit.2, fit.3)) ps counted.1 in (
      ap (λ n. bit_or n 1) counted.0 ∙ or_one (sum_by passes_of ps) (is_closed ps)
          ∙ ap (λ n. 2 * n + 1) (sym as_many) ∙ ap (λ b. 2 * sum_by passes_of (set ps k (closed p)) + cond b 1 0) (sym is),
      subst (λ b. All (Fits b) (set ps k (closed p))) (sym is)
          (All-set (Fits true) ps k (closed p) ((λ _. refl), (λ _. refl), fits.2, fits.3) others),
      nobody_stays ps k p (closed p) at refl (omega arith) counted.2,
    )

-- ---- what a step tells the seat that makes it ----

-- a volume that the seat has seen closing is found closing
pub closing_is_found : (word : ℕ) (ps : List VolumeView) (k : ℕ) (p : VolumeView) → IsCounted word ps → get_elem? ps k ≡ some p → p.is_closing ≡ true
    → is_closing_word word ≡ true
closing_is_found word ps k p counted at seen = closing_bit word ps counted ∙ (all_found (Fits (is_closed ps)) ps k p counted.1 at).0 seen

-- where the word is 1, the seat holds no pass
pub none_at_one : (word : ℕ) (ps : List VolumeView) (k : ℕ) (p : VolumeView) → IsCounted word ps → get_elem? ps k ≡ some p → word ≡ 1 → p.held ≡ 0
none_at_one word ps k p counted at one = all_found IsFree ps k p (nobody_at_one word ps counted one) at

-- ---- a seat more, at its beginning ----

pub seat_more : (word : ℕ) (ps : List VolumeView) → IsCounted word ps → IsCounted word (ps ++ no_pass ∷ [])
seat_more word ps counted =
    let as_before : is_closed (ps ++ no_pass ∷ []) ≡ is_closed ps = any_pushed has_closed ps no_pass refl in
    let seen_before : is_seen_drained (ps ++ no_pass ∷ []) ≡ is_seen_drained ps = any_pushed is_drained ps no_pass refl in
    let sum : sum_by passes_of (ps ++ no_pass ∷ []) ≡ sum_by passes_of ps = omega (arith, sum_by_push passes_of ps no_pass) in (
      counted.0 ∙ ap (λ n. 2 * n + cond (is_closed ps) 1 0) (sym sum)
          ∙ ap (λ b. 2 * sum_by passes_of (ps ++ no_pass ∷ []) + cond b 1 0) (sym as_before),
      subst (λ b. All (Fits b) (ps ++ no_pass ∷ [])) (sym as_before)
          (All-push (Fits (is_closed ps)) ps no_pass counted.1
          ((λ seen. absurd (true≢false (sym seen))), (λ seen. absurd (true≢false (sym seen))), omega arith, omega arith)),
      λ seen. All-push IsFree ps no_pass (counted.2 (sym seen_before ∙ seen)) refl,
    )

-- what was seen drained is closed
pub closed_where_seen : (word : ℕ) (ps : List VolumeView) → IsCounted word ps → is_seen_drained ps ≡ true → is_closed ps ≡ true
closed_where_seen word ps counted seen = true_from_ne_false (is_closed ps) (λ none. true≢false (sym seen ∙ not_drained ps none counted.1))
