-- The stream of each file, through the changes of the streams.
use Rattle.fm_core.proofs.Words.{stream_or, FileStream, Bool, List, None, Option, Some, [], ap, arith, cond, false, inl, inr, is_some, refl, subst, sym, true, ℕ, ◌++◌, ◌+◌, ◌==◌}
use Rattle.fm_core.proofs.Words.{◌∙◌, ◌∷◌, ◌≡◌, StreamId, change_first, without_first, count-cons, is_stream, with_mark, count_by, find, option_map}
use Rattle.fm_core.proofs.Words.{and_parts, cases_Bool, false≢true, none-some, same_Some}
use Rattle.fm_core.proofs.Counted.{count_gone, count_kept, same_number}
use Rattle.fm_core.specs.FileNames.{AreNamed, Notes, is_file, name_of, number_in}
use Rattle.fm_core.specs.declared.file_name.FileName.{FileName}
use Rattle.std.specs.Cmp.Lexicographic.{pointwise, bytes_decides}
use Rattle.std.specs.HashMap.{HashMap}
use Rattle.std.specs.Option.{option_or}
use Rattle.std.proofs.lemmas.List.Folds.{find-append}
use Rattle.fm_world.proofs.Words.{sum_by_push}
use Rattle.fm_world.specs.Files.{number_or}

abbrev number_of : Option FileStream → Option StreamId
number_of found = option_map (λ (x : FileStream). x.number) found

-- the number of the stream that a create found, or of the one that comes along
pub found_number : (n : ℕ) (found : Option FileStream) → stream_or n (number_of found) ≡ number_or n found
found_number n None = refl
found_number n (Some x) = refl

-- ---- what is found, and how many pass

none_found : {A : Type 0} (p : A → Bool) (xs : List A) → count_by p xs ≡ 0 → find p xs ≡ None
none_found p [] h = refl
none_found p (x ∷ xs) h = elim (cases_Bool (p x)) [
  | inl e ↦ let c = count-cons p x xs ∙ ap (λ b. cond b 1 0 + count_by p xs) e in absurd (omega (arith, c, h))
  | inr e ↦ let c = count-cons p x xs ∙ ap (λ b. cond b 1 0 + count_by p xs) e in rw e (none_found p xs (omega (arith, c, h)))
]

none_passes : {A : Type 0} (p : A → Bool) (xs : List A) → find p xs ≡ None → count_by p xs ≡ 0
none_passes p [] h = refl
none_passes p (x ∷ xs) h = elim (cases_Bool (p x)) [
  | inl e ↦ absurd (none-some x (sym h ∙ ap (λ b. cond b (Some x) (find p xs)) e))
  | inr e ↦
      let c = count-cons p x xs ∙ ap (λ b. cond b 1 0 + count_by p xs) e in
      omega (arith, c, none_passes p xs (sym (ap (λ b. cond b (Some x) (find p xs)) e) ∙ h))
]

none_numbered : (found : Option FileStream) → number_of found ≡ None → found ≡ None
none_numbered None h = refl
none_numbered (Some x) h = absurd (none-some x.number (sym h))

not_there : {A : Type 0} (m : Option A) → is_some m ≡ false → m ≡ None
not_there None h = refl
not_there (Some x) h = absurd (false≢true (sym h))

or_none : {A : Type 0} (m : Option A) → option_or m None ≡ m
or_none None = refl
or_none (Some x) = refl

-- the first element of a list goes, and another one is found as before
find_gone : {A : Type 0} (p test : A → Bool) (xs : List A) (r : A) → find test xs ≡ Some r → p r ≡ false → find p (without_first test xs) ≡ find p xs
find_gone p test [] r found other = absurd (none-some r found)
find_gone {A = A} p test (x ∷ xs) r found other = elim (cases_Bool (test x)) [
  | inl e ↦
      let same = same_Some x r (sym (ap (λ b. cond b (Some x) (find test xs)) e) ∙ found) in
      rw e (sym (ap (λ b. cond b (Some x) (find p xs)) (ap p same ∙ other)))
  | inr e ↦ rw e (ap (λ (m : Option A). cond (p x) (Some x) m) (find_gone p test xs r (sym (ap (λ b. cond b (Some x) (find test xs)) e) ∙ found) other))
]

marked_alike : (mark b : Bool) (x : FileStream) (m : Option FileStream) → number_of (cond b (Some (with_mark mark x)) m) ≡ number_of (cond b (Some x) m)
marked_alike mark true x m = refl
marked_alike mark false x m = refl

find_marked : (mark : Bool) (f : FileName) (s : StreamId) (xs : List FileStream)
    → number_of (find (is_file f) (change_first (is_stream s) (with_mark mark) xs)) ≡ number_of (find (is_file f) xs)
find_marked mark f s [] = refl
find_marked mark f s (x ∷ xs) = elim (cases_Bool (is_stream s x)) [
  | inl e ↦ rw e (marked_alike mark (is_file f x) x (find (is_file f) xs))
  | inr e ↦ rw e (elim (cases_Bool (is_file f x)) [
    | inl p ↦ rw p refl
    | inr p ↦ rw p (find_marked mark f s xs)
  ])
]

-- ---- names

same_name : (f : FileName) (x : FileStream) → is_file f x ≡ true → name_of x ≡ f
same_name f x e =
    let parts = and_parts (x.volume.0 == f.volume.0) (pointwise ◌==◌ x.path f.path) e in
    λ i. record { volume = record { 0 = same_number x.volume.0 f.volume.0 parts.0 i }; path = (bytes_decides x.path f.path).0 parts.1 i }

-- how many one element adds
counts : (b c : Bool) → b ≡ c → cond {A = ℕ} b 1 0 ≡ cond c 1 0
counts b c e = ap (λ b. cond {A = ℕ} b 1 0) e

count_more : {A : Type 0} (p : A → Bool) (xs : List A) (x : A) → count_by p (xs ++ x ∷ []) ≡ count_by p xs + cond (p x) 1 0
count_more p xs x = sum_by_push (λ y. cond (p y) 1 0) xs x

module _ {S : Type 0} where
  pub reserved_named : (xs : List FileStream) (old new : HashMap FileName StreamId S) → ((f : FileName) → number_in new f ≡ number_in old f)
      → AreNamed xs old → AreNamed xs new
  reserved_named xs old new same h = record { named = λ f. same f ∙ h.named f; once = h.once }

  pub marked_named : (mark : Bool) (s : StreamId) (xs ys : List FileStream) (numbers : HashMap FileName StreamId S) → ys ≡ change_first (is_stream s) (with_mark mark) xs
      → AreNamed xs numbers → AreNamed ys numbers
  marked_named mark s xs ys numbers is h = rw is (record {
    named = λ f. h.named f ∙ sym (find_marked mark f s xs);
    once = λ f. omega (arith, count_kept (is_file f) (is_stream s) (with_mark mark) xs (λ x. refl), h.once f);
  })

  absent_named : (x : FileStream) (xs : List FileStream) (old : HashMap FileName StreamId S) → number_in old (name_of x) ≡ None → AreNamed xs old
      → (f : FileName) → is_file f x ≡ true → find (is_file f) xs ≡ None
  absent_named x xs old none h f e =
      none_numbered (find (is_file f) xs) (sym (h.named f) ∙ ap (number_in old) (sym (same_name f x e)) ∙ none)

  created_as : (x : FileStream) (xs ys : List FileStream) (old new : HashMap FileName StreamId S) → ys ≡ xs ++ x ∷ []
      → number_in old (name_of x) ≡ None → Notes old new (name_of x) (Some x.number) → AreNamed xs old → AreNamed ys new
  created_as x xs ys old new is none notes h = rw is (record {
    named = λ f. notes f ∙ elim (cases_Bool (is_file f x)) [
      | inl e ↦ rw e (sym (ap number_of (find-append (is_file f) xs (x ∷ []) ∙ ap (λ m. option_or m (find (is_file f) (x ∷ [])))
          (absent_named x xs old none h f e) ∙ ap (λ b. cond b (Some x) None) e)))
      | inr e ↦ rw e (h.named f ∙ sym (ap number_of (find-append (is_file f) xs (x ∷ []) ∙ ap (λ b. option_or (find (is_file f) xs) (cond b (Some x) None)) e
          ∙ or_none (find (is_file f) xs))))
    ];
    once = λ f. elim (cases_Bool (is_file f x)) [
      | inl e ↦ omega (arith, count_more (is_file f) xs x, counts (is_file f x) true e, none_passes (is_file f) xs (absent_named x xs old none h f e))
      | inr e ↦ omega (arith, count_more (is_file f) xs x, counts (is_file f x) false e, h.once f)
    ];
  })

  pub created_named : (f : FileName) (x : FileStream) (xs ys : List FileStream) (old new : HashMap FileName StreamId S) (found : Option StreamId)
      → name_of x ≡ f → ys ≡ xs ++ x ∷ [] → found ≡ number_of (find (is_file f) xs) → is_some found ≡ false → Notes old new f (Some x.number)
      → AreNamed xs old → AreNamed ys new
  created_named f x xs ys old new found same is was none notes h =
      created_as x xs ys old new is (ap (number_in old) same ∙ h.named f ∙ sym was ∙ not_there found none)
      (subst (λ (g : FileName). Notes old new g (Some x.number)) (sym same) notes) h

  pub torn_named : (s : StreamId) (r : FileStream) (xs ys : List FileStream) (old new : HashMap FileName StreamId S) → ys ≡ without_first (is_stream s) xs
      → find (is_stream s) xs ≡ Some r → Notes old new (name_of r) None → AreNamed xs old → AreNamed ys new
  torn_named s r xs ys old new is found notes h = rw is (record {
    named = λ f. notes f ∙ elim (cases_Bool (is_file f r)) [
      | inl e ↦ rw e (sym (ap number_of (none_found (is_file f) (without_first (is_stream s) xs)
          (omega (arith, count_gone (is_file f) (is_stream s) xs r found, counts (is_file f r) true e, h.once f)))))
      | inr e ↦ rw e (h.named f ∙ sym (ap number_of (find_gone (is_file f) (is_stream s) xs r found e)))
    ];
    once = λ f. omega (arith, count_gone (is_file f) (is_stream s) xs r found, h.once f);
  })
