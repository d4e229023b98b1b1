-- How many handles are open on each stream, through the changes of both lists.
use Rattle.fm_core.proofs.Words.{AreCounted, IsBefore, IsOlder, changed_at, is_own, stands_there, FileHandle, FileStream, HandlePhase, Bool, IfSome, List, None}
use Rattle.fm_core.proofs.Words.{Option, Some, [], ap, arith, cond, false, inl, inr, map, nat_lt, not, position, refl, subst, suc, sym, true, ℕ, ◌&&◌, ◌++◌}
use Rattle.fm_core.proofs.Words.{◌+◌, ◌-◌, ◌<◌, ◌==◌, ◌||◌, ◌∙◌, ◌∷◌, ◌≡◌, ◌≤◌, nat_tests, count_by-le-length, count-cons, change_first, without_first}
use Rattle.fm_core.proofs.Words.{HandleId, StreamId, FileTable, has_handle_on, is_handle, is_on, is_stream, with_mark, with_phase, All, AllPairs, count_by}
use Rattle.fm_core.proofs.Words.{find, length, option_map, cases_Bool, false≢true, All-cons, All-head, All-nil, All-tail, none-some, same_Some}
use Rattle.fm_world.proofs.Words.{found_counts, found_passes, has_stream, sum_by_push, list_any}
use Rattle.std.proofs.Common.{get_or}
use Rattle.std.specs.List.{position_or_len}
use Rattle.std.proofs.lemmas.List.{get_or-map, map-append}
use Rattle.std.proofs.lemmas.List.Folds.{list_any_none}
use Rattle.fm_core.specs.FilesKept.{open_on, without_at}

-- ---- places

shifted : (b : Bool) (m n l : ℕ) → b ≡ false → n ≡ cond (not b) (1 + m) 0
    → cond (nat_lt n (suc l)) (Some n) None ≡ option_map suc (cond (nat_lt m l) (Some m) None)
shifted b m n l e is = grind (arith, nat_tests)

position_next : {A : Type 0} (p : A → Bool) (x : A) (xs : List A) → p x ≡ false → position p (x ∷ xs) ≡ option_map suc (position p xs)
position_next p x xs e = shifted (p x) (position_or_len p xs) (position_or_len p (x ∷ xs)) (length xs) e refl

first_place : (b : Bool) (m n l : ℕ) → b ≡ true → n ≡ cond (not b) (1 + m) 0 → cond (nat_lt n (suc l)) (Some n) None ≡ Some 0
first_place b m n l e is = grind (arith, nat_tests)

position_here : {A : Type 0} (p : A → Bool) (x : A) (xs : List A) → p x ≡ true → position p (x ∷ xs) ≡ Some 0
position_here p x xs e = first_place (p x) (position_or_len p xs) (position_or_len p (x ∷ xs)) (length xs) e refl

changed_next : (f : ℕ → ℕ) (at : Option ℕ) (n : ℕ) (ns : List ℕ) → changed_at f (option_map suc at) (n ∷ ns) ≡ n ∷ changed_at f at ns
changed_next f None n ns = refl
changed_next f (Some k) n ns = refl

without_next : (at : Option ℕ) (n : ℕ) (ns : List ℕ) → without_at (option_map suc at) (n ∷ ns) ≡ n ∷ without_at at ns
without_next None n ns = refl
without_next (Some k) n ns = refl

map_same : {A : Type 0} (f g : A → ℕ) (xs : List A) → All (λ x. f x ≡ g x) xs → map f xs ≡ map g xs
map_same f g [] same = refl
map_same f g (x ∷ xs) same =
    ap (λ n. n ∷ map f xs) (All-head (λ y. f y ≡ g y) x xs same) ∙ ap (λ ns. g x ∷ ns) (map_same f g xs (All-tail (λ y. f y ≡ g y) x xs same))

map_changed : {A : Type 0} (f : A → ℕ) (p : A → Bool) (to : A → A) (xs : List A) → ((x : A) → f (to x) ≡ f x) → map f (change_first p to xs) ≡ map f xs
map_changed f p to [] same = refl
map_changed f p to (x ∷ xs) same = elim (cases_Bool (p x)) [
  | inl e ↦ rw e (ap (λ n. n ∷ map f xs) (same x))
  | inr e ↦ rw e (ap (λ ns. f x ∷ ns) (map_changed f p to xs same))
]

map_without : {A : Type 0} (f : A → ℕ) (p : A → Bool) (xs : List A) → without_at (position p xs) (map f xs) ≡ map f (without_first p xs)
map_without f p [] = refl
map_without f p (x ∷ xs) = elim (cases_Bool (p x)) [
  | inl e ↦ ap (λ at. without_at at (f x ∷ map f xs)) (position_here p x xs e) ∙ rw e refl
  | inr e ↦ ap (λ at. without_at at (f x ∷ map f xs)) (position_next p x xs e) ∙ without_next (position p xs) (f x) (map f xs)
      ∙ rw e (ap (λ ns. f x ∷ ns) (map_without f p xs))
]

-- where only the first that passes counts otherwise, its number changes
recounted : {A : Type 0} (p : A → Bool) (f g : A → ℕ) (c : ℕ → ℕ) (xs : List A) → AllPairs (λ x y. p x ≡ true → p y ≡ false) xs
    → ((x : A) → p x ≡ false → f x ≡ g x) → ((x : A) → p x ≡ true → c (f x) ≡ g x) → changed_at c (position p xs) (map f xs) ≡ map g xs
recounted p f g c [] apart same here = refl
recounted p f g c (x ∷ xs) apart same here = elim (cases_Bool (p x)) [
  | inl e ↦ ap (λ at. changed_at c at (f x ∷ map f xs)) (position_here p x xs e)
      ∙ ap (λ n. n ∷ map f xs) (here x e)
      ∙ ap (λ ns. g x ∷ ns) (map_same f g xs (λ k d within. same (get_or xs k d) (apart 0 (suc k) d (omega arith) (omega (arith, within)) e)))
  | inr e ↦ ap (λ at. changed_at c at (f x ∷ map f xs)) (position_next p x xs e) ∙ changed_next c (position p xs) (f x) (map f xs)
      ∙ ap (λ n. n ∷ changed_at c (position p xs) (map f xs)) (same x e)
      ∙ ap (λ ns. g x ∷ ns) (recounted p f g c xs (λ i j d below within. apart (suc i) (suc j) d (omega (arith, below)) (omega (arith, within))) same here)
]

-- ---- how many pass

pub count_kept : {A : Type 0} (counts test : A → Bool) (to : A → A) (xs : List A) → ((x : A) → counts (to x) ≡ counts x)
    → count_by counts (change_first test to xs) ≡ count_by counts xs
count_kept counts test to [] same = refl
count_kept counts test to (x ∷ xs) same = elim (cases_Bool (test x)) [
  | inl e ↦ rw e (count-cons counts (to x) xs ∙ ap (λ b. cond b 1 0 + count_by counts xs) (same x) ∙ sym (count-cons counts x xs))
  | inr e ↦ rw e (omega (arith, count-cons counts x xs, count-cons counts x (change_first test to xs), count_kept counts test to xs same))
]

pub count_gone : {A : Type 0} (counts test : A → Bool) (xs : List A) (r : A) → find test xs ≡ Some r
    → count_by counts (without_first test xs) + cond (counts r) 1 0 ≡ count_by counts xs
count_gone counts test [] r found = absurd (none-some r found)
count_gone {A = A} counts test (x ∷ xs) r found = elim (cases_Bool (test x)) [
  | inl e ↦ rw e (subst (λ (y : A). count_by counts xs + cond (counts y) 1 0 ≡ count_by counts (x ∷ xs))
      (same_Some x r (sym (ap (λ b. cond b (Some x) (find test xs)) e) ∙ found)) (omega (arith, count-cons counts x xs)))
  | inr e ↦
      let rest = count_gone counts test xs r (sym (ap (λ b. cond b (Some x) (find test xs)) e) ∙ found) in
      rw e (omega (arith, count-cons counts x xs, count-cons counts x (without_first test xs), rest))
]

some_or : (b c : Bool) (n : ℕ) → nat_lt 0 n ≡ c → nat_lt 0 (cond b 1 0 + n) ≡ b || c
some_or true c n h = grind (arith, nat_tests)
some_or false c n h = grind (arith, nat_tests)

pub any_counted : {A : Type 0} (p : A → Bool) (xs : List A) → nat_lt 0 (count_by p xs) ≡ list_any p xs
any_counted p [] = refl
any_counted p (x ∷ xs) = ap (nat_lt 0) (count-cons p x xs) ∙ some_or (p x) (list_any p xs) (count_by p xs) (any_counted p xs)

pub same_number : (a n : ℕ) → (a == n) ≡ true → a ≡ n
same_number a n h = grind (arith, nat_tests)

later_number : (a b n : ℕ) → a < b → (a == n) ≡ true → (b == n) ≡ false
later_number a b n below h = grind (arith, nat_tests)

kept_test : (b c : Bool) → c ≡ false → b ≡ b && not c
kept_test true c h = rw h refl
kept_test false c h = refl

no_more : (b c : Bool) → (b && not true) || c ≡ c
no_more true c = refl
no_more false c = refl

any_same : {A : Type 0} (p q : A → Bool) (xs : List A) → All (λ x. p x ≡ q x) xs → list_any p xs ≡ list_any q xs
any_same p q [] same = refl
any_same p q (x ∷ xs) same =
    ap (λ b. b || list_any p xs) (All-head (λ y. p y ≡ q y) x xs same) ∙ ap (λ b. q x || b) (any_same p q xs (All-tail (λ y. p y ≡ q y) x xs same))

own_within : (s : StreamId) (h : HandleId) (hs : List FileHandle) (found : Option FileHandle) → find (is_handle h) hs ≡ found
    → cond (is_own s found) 1 0 ≤ count_by (is_on s) hs
own_within s h hs None is = omega arith
own_within s h hs (Some r) is = elim (cases_Bool (is_on s r)) [
  | inl e ↦ rw e (found_counts (is_on s) (is_handle h) hs r is e)
  | inr e ↦ rw e (omega arith)
]

without_own : (b : Bool) (n : ℕ) → nat_lt (cond b 1 0) (cond b 1 0 + n) ≡ nat_lt 0 n
without_own true n = grind (arith, nat_tests)
without_own false n = grind (arith, nat_tests)

past_own : (a n : ℕ) → a ≤ n → nat_lt a (1 + n) ≡ true
past_own a n h = grind (arith, nat_tests)

-- a handle but that one is on the stream where more are than it alone
pub others_counted : (s : StreamId) (h : HandleId) (hs : List FileHandle) → AllPairs IsOlder hs
    → nat_lt (cond (is_own s (find (is_handle h) hs)) 1 0) (count_by (is_on s) hs) ≡ list_any (λ x. is_on s x && not (is_handle h x)) hs
others_counted s h [] older = refl
others_counted s h (x ∷ hs) older = elim (cases_Bool (is_handle h x)) [
  | inl e ↦
      let none : All (λ y. is_handle h y ≡ false) hs =
      λ k d within. later_number x.number.0 (get_or hs k d).number.0 h.0 (older 0 (suc k) d (omega arith) (omega (arith, within))) e in
      rw e (ap (nat_lt (cond (is_on s x) 1 0)) (count-cons (is_on s) x hs) ∙ without_own (is_on s x) (count_by (is_on s) hs) ∙ any_counted (is_on s) hs
      ∙ any_same (is_on s) (λ y. is_on s y && not (is_handle h y)) hs
      (λ k d within. kept_test (is_on s (get_or hs k d)) (is_handle h (get_or hs k d)) (none k d within))
      ∙ sym (no_more (is_on s x) (list_any (λ y. is_on s y && not (is_handle h y)) hs)))
  | inr e ↦
      let rest = others_counted s h hs (λ i j d below within. older (suc i) (suc j) d (omega (arith, below)) (omega (arith, within))) in
      rw e (ap (nat_lt (cond (is_own s (find (is_handle h) hs)) 1 0)) (count-cons (is_on s) x hs) ∙ elim (cases_Bool (is_on s x)) [
        | inl on ↦ rw on (past_own _ _ (own_within s h hs (find (is_handle h) hs) refl))
        | inr off ↦ rw off (ap (nat_lt (cond (is_own s (find (is_handle h) hs)) 1 0)) (omega arith) ∙ rest)
      ])
]

-- ---- the numbers beside the streams

apart_streams : (s : StreamId) (xs : List FileStream) → AllPairs IsBefore xs → AllPairs (λ x y. is_stream s x ≡ true → is_stream s y ≡ false) xs
apart_streams s xs rises = λ i j d below within e. later_number (get_or xs i d).number.0 (get_or xs j d).number.0 s.0 (rises i j d below within) e

pub marked_counted : (b : Bool) (s : StreamId) (xs ys : List FileStream) (hs : List FileHandle) (ns : List ℕ) → ys ≡ change_first (is_stream s) (with_mark b) xs
    → AreCounted xs hs ns → AreCounted ys hs ns
marked_counted b s xs ys hs ns is counted = counted ∙ sym (ap (map (open_on hs)) is ∙ map_changed (open_on hs) (is_stream s) (with_mark b) xs (λ x. refl))

pub torn_counted : (s : StreamId) (xs ys : List FileStream) (hs : List FileHandle) (ns ms : List ℕ) → ys ≡ without_first (is_stream s) xs
    → ms ≡ without_at (position (is_stream s) xs) ns → AreCounted xs hs ns → AreCounted ys hs ms
torn_counted s xs ys hs ns ms is gone counted =
    gone ∙ ap (without_at (position (is_stream s) xs)) counted ∙ map_without (open_on hs) (is_stream s) xs ∙ ap (map (open_on hs)) (sym is)

pub phased_counted : (h : HandleId) (to : HandlePhase) (xs : List FileStream) (hs gs : List FileHandle) (ns : List ℕ)
    → gs ≡ change_first (is_handle h) (with_phase to) hs → AreCounted xs hs ns → AreCounted xs gs ns
phased_counted h to xs hs gs ns is counted =
    counted ∙ map_same (open_on hs) (open_on gs) xs
    (λ k d within. sym (ap (count_by (is_on (get_or xs k d).number)) is ∙ count_kept (is_on (get_or xs k d).number) (is_handle h)
    (with_phase to) hs (λ x. refl)))

pub opened_counted : (h : FileHandle) (xs : List FileStream) (hs : List FileHandle) (ns ms : List ℕ) → AllPairs IsBefore xs
    → ms ≡ changed_at (λ n. n + 1) (position (is_stream h.stream) xs) ns → AreCounted xs hs ns → AreCounted xs (hs ++ h ∷ []) ms
opened_counted h xs hs ns ms rises is counted =
    is ∙ ap (changed_at (λ n. n + 1) (position (is_stream h.stream) xs)) counted
    ∙ recounted (is_stream h.stream) (open_on hs) (open_on (hs ++ h ∷ [])) (λ n. n + 1) xs (apart_streams h.stream xs rises)
    (λ x e. grind (arith, nat_tests, e, sum_by_push (λ y. cond (is_on x.number y) 1 0) hs h))
    (λ x e. grind (arith, nat_tests, e, sum_by_push (λ y. cond (is_on x.number y) 1 0) hs h))

pub closed_counted : (h : HandleId) (r : FileHandle) (xs : List FileStream) (hs gs : List FileHandle) (ns ms : List ℕ) → AllPairs IsBefore xs
    → find (is_handle h) hs ≡ Some r → gs ≡ without_first (is_handle h) hs
    → ms ≡ changed_at (λ n. n - 1) (position (is_stream r.stream) xs) ns → AreCounted xs hs ns → AreCounted xs gs ms
closed_counted h r xs hs gs ns ms rises found without is counted =
    is ∙ ap (changed_at (λ n. n - 1) (position (is_stream r.stream) xs)) counted
    ∙ recounted (is_stream r.stream) (open_on hs) (open_on (without_first (is_handle h) hs)) (λ n. n - 1) xs (apart_streams r.stream xs rises)
    (λ x e. grind (arith, nat_tests, e, count_gone (is_on x.number) (is_handle h) hs r found))
    (λ x e. grind (arith, nat_tests, e, count_gone (is_on x.number) (is_handle h) hs r found))
    ∙ ap (λ hs. map (open_on hs) xs) (sym without)

none_counted : (n : ℕ) → nat_lt 0 n ≡ false → 0 ≡ n
none_counted n h = grind (arith, nat_tests)

pub created_counted : (x : FileStream) (xs ys : List FileStream) (hs : List FileHandle) (ns ms : List ℕ) → ys ≡ xs ++ x ∷ [] → ms ≡ ns ++ 0 ∷ []
    → list_any (is_on x.number) hs ≡ false → AreCounted xs hs ns → AreCounted ys hs ms
created_counted x xs ys hs ns ms is more none counted =
    more ∙ ap (λ ks. ks ++ 0 ∷ []) counted
    ∙ ap (λ n. map (open_on hs) xs ++ n ∷ []) (none_counted (open_on hs x) (any_counted (is_on x.number) hs ∙ none))
    ∙ sym (ap (map (open_on hs)) is ∙ map-append (open_on hs) xs (x ∷ []))

-- no more handles are on a stream than there are
few_on : (hs : List FileHandle) (xs : List FileStream) → length hs < 4096 → All (λ n. n < 4096) (map (open_on hs) xs)
few_on hs [] few = All-nil (λ n. n < 4096)
few_on hs (x ∷ xs) few =
    All-cons (λ n. n < 4096) (open_on hs x) (map (open_on hs) xs) (omega (arith, few, count_by-le-length (is_on x.number) hs)) (few_on hs xs few)

pub few_counted : (xs : List FileStream) (hs : List FileHandle) (ns : List ℕ) → length hs < 4096 → AreCounted xs hs ns → All (λ n. n < 4096) ns
few_counted xs hs ns few counted = subst (All (λ n. n < 4096)) (sym counted) (few_on hs xs few)

-- what stands at a stream's place
pub counted_there : (s : StreamId) (xs : List FileStream) (hs : List FileHandle) (ns : List ℕ) (k d : ℕ) → position (is_stream s) xs ≡ Some k
    → AreCounted xs hs ns → get_or ns k d ≡ count_by (is_on s) hs
counted_there s [] hs ns k d is counted = absurd (none-some k is)
counted_there s (x ∷ xs) hs ns k d is counted =
    let there = stands_there (is_stream s) (x ∷ xs) k x is in
    let number = same_number (get_or (x ∷ xs) k x).number.0 s.0 (found_passes (is_stream s) (x ∷ xs) (get_or (x ∷ xs) k x) there.found) in
    ap (λ ms. get_or ms k d) counted ∙ get_or-map (open_on hs) (x ∷ xs) k x d there.inside ∙ ap (λ n. count_by (λ (h : FileHandle). h.stream.0 == n) hs) number

same_test : (n : ℕ) → (n == n) ≡ true
same_test n = grind (arith, nat_tests)

-- an open handle is one of those on its stream
own_counts : (h : HandleId) (r : FileHandle) (xs : List FileStream) (hs : List FileHandle) (ns : List ℕ) (at : Option ℕ) → position (is_stream r.stream) xs ≡ at
    → find (is_handle h) hs ≡ Some r → AreCounted xs hs ns → IfSome at (λ k. 1 ≤ get_or ns k 0)
own_counts h r xs hs ns None is found counted = _
own_counts h r xs hs ns (Some k) is found counted =
    subst (λ n. 1 ≤ n) (sym (counted_there r.stream xs hs ns k 0 is counted)) (found_counts (is_on r.stream) (is_handle h) hs r found (same_test r.stream.0))

pub closing_counts : (h : HandleId) (r : FileHandle) (xs : List FileStream) (hs : List FileHandle) (ns : List ℕ)
    → find (is_handle h) hs ≡ Some r → AreCounted xs hs ns → IfSome (position (is_stream r.stream) xs) (λ k. 1 ≤ get_or ns k 0)
closing_counts h r xs hs ns found counted = own_counts h r xs hs ns (position (is_stream r.stream) xs) refl found counted

below_number : (s : StreamId) (n : ℕ) (xs : List FileStream) → All (λ x. x.number.0 < n) xs → list_any (is_stream s) xs ≡ true → s.0 < n
below_number s n [] fresh there = absurd (false≢true there)
below_number s n (x ∷ xs) fresh there = elim (cases_Bool (is_stream s x)) [
  | inl e ↦ subst (λ m. m < n) (same_number x.number.0 s.0 e) (All-head (λ y. y.number.0 < n) x xs fresh)
  | inr e ↦ below_number s n xs (All-tail (λ y. y.number.0 < n) x xs fresh) (sym (ap (λ b. b || list_any (is_stream s) xs) e) ∙ there)
]

other_number : (a n : ℕ) → a < n → (a == n) ≡ false
other_number a n below = grind (arith, nat_tests)

-- no handle is on a stream that is still to come
pub unused_number : (n : ℕ) (f : FileTable) → All (λ (x : FileStream). x.number.0 < n) f.streams
    → All (λ (h : FileHandle). has_stream f h.stream ≡ true) f.handles
    → has_handle_on (record { 0 = n }) f ≡ false
unused_number n f fresh there =
    list_any_none (is_on (record { 0 = n })) f.handles
    (λ k d within. other_number (get_or f.handles k d).stream.0 n (below_number (get_or f.handles k d).stream n f.streams fresh (there k d within)))
