-- The names of a folder, against the keys of the map that keeps it.
use Rattle.fm_base.proofs.Words.{cond-true, cond-false, lt-ltb, le-ltb, nat_cmp, slice_cmp, nat_list_cmp_total, keys_of, entries, empty}
use Rattle.fm_base.proofs.Words.{put, entries-insert, len-entries, len-empty, Status, TooMany, listing_of, listed, Entries, folder_of}
use Rattle.std.specs.Prelude.{◌≡◌, ℕ, ◌≤◌, ◌<◌, cond, List, [], ◌∷◌, length, Result, Ok, Err, nat_lt, refl}
use Rattle.std.proofs.Common.{sym, ap, ◌∙◌, arith}
use Rattle.std.specs.List.Sorted.{IsStrictlySortedBy}

nothing : {X : Type 0} (xs : List X) → length xs ≡ 0 → xs ≡ []
nothing [] h = refl
nothing (x ∷ xs) h = absurd (omega arith)

put_first : (e : List ℕ × List ℕ) (es : Entries) → IsStrictlySortedBy (slice_cmp nat_cmp) (keys_of (e ∷ es))
    → put (slice_cmp nat_cmp) e.0 e.1 es ≡ e ∷ es
unfolding IsStrictlySortedBy
put_first e [] h = refl
put_first e (f ∷ fs) h = rw h.0.0 refl

-- entries in order are those of the map that they make
pub entries_stay : (es : Entries) → IsStrictlySortedBy (slice_cmp nat_cmp) (keys_of es) → entries (folder_of es) ≡ es
unfolding IsStrictlySortedBy
entries_stay [] h = nothing _ (sym (len-entries (empty {R = slice_cmp nat_cmp})) ∙ len-empty (slice_cmp nat_cmp) (List ℕ))
entries_stay (e ∷ es) h = entries-insert nat_list_cmp_total (folder_of es) e.0 e.1 ∙ ap (put (slice_cmp nat_cmp) e.0 e.1) (entries_stay es h.1)
    ∙ put_first e es h

abbrev listed_of : List ℕ → Result (List ℕ) Status
listed_of lines = cond (nat_lt 32768 (length lines)) (Err TooMany) (Ok lines)

listed_is : (es : Entries) → IsStrictlySortedBy (slice_cmp nat_cmp) (keys_of es) → listed (folder_of es) ≡ listed_of (listing_of (keys_of es))
listed_is es h = ap (λ (fs : Entries). listed_of (listing_of (keys_of fs))) (entries_stay es h)

-- the answers, once the length is known
pub too_long : (es : Entries) → IsStrictlySortedBy (slice_cmp nat_cmp) (keys_of es) → 32768 < length (listing_of (keys_of es))
    → listed (folder_of es) ≡ Err TooMany
too_long es sorted h = listed_is es sorted ∙ cond-true (nat_lt 32768 (length (listing_of (keys_of es)))) _ _ (lt-ltb 32768 _ h)

pub short_enough : (es : Entries) → IsStrictlySortedBy (slice_cmp nat_cmp) (keys_of es) → length (listing_of (keys_of es)) ≤ 32768
    → listed (folder_of es) ≡ Ok (listing_of (keys_of es))
short_enough es sorted h = listed_is es sorted ∙ cond-false (nat_lt 32768 (length (listing_of (keys_of es)))) _ _ (le-ltb 32768 _ h)

pub not_within : (a b : ℕ) → ¬ (a ≤ b) → b < a
not_within a b h = omega arith
