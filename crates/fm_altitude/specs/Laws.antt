-- The laws of altitudes over all texts.
use Rattle.std.specs.Cmp.{Equal-is}
use Rattle.std.specs.Prelude.{IsTrue}
use Rattle.std.proofs.Common.{◌≡◌, ◌≤◌, ◌<◌, ℕ, Bool, nat_eq, List, length, refl, sym, ap, ◌∙◌, rules}
use Rattle.std.proofs.lemmas.Bool.Decides.{Decides-like, same_from_decides}
use Rattle.std.proofs.lemmas.Cmp.{tied_itself}
use Rattle.std.proofs.lemmas.Map.Lookups.{exact_bytes}
use Rattle.std.specs.Cmp.Lexicographic.{bytes_decides, pointwise, slice_cmp}
use Rattle.std.specs.Hash as fed
use Rattle.std.specs.Ordering.{eq_by_cmp, is_eq, nat_cmp, ordering_then}
use Rattle.std.specs.declared.cmp.Ordering.{Ordering}
use Rattle.std.specs.declared.cmp.Ordering.TheVariants.{Less, Equal, Greater}
use Rattle.fm_altitude.specs.Order.{IsSameAltitude, altitude_cmp}
use Rattle.fm_altitude.specs.Grammar.{canonical, fraction_of, whole_of}
use Rattle.fm_altitude.specs.Total.{altitude_cmp-parts, altitude_total, parts_cmp}
use Rattle.fm_altitude.specs.Spelling.{canonical-again, canonical-same, fraction_of-canonical, length-canonical, whole_of-canonical}

-- equal altitudes have one text
abbrev pub OneSpelling : Type 0
OneSpelling = (a b : List ℕ) → IsSameAltitude a b → canonical a ≡ canonical b

-- and that text names the same altitude, is its own canonical text, and isn't longer than any text of the altitude
pub record IsCanonicalOf (text spelling : List ℕ) : Type 0 where
  pub same : IsSameAltitude spelling text
  pub own : canonical spelling ≡ spelling
  pub shortest : (other : List ℕ) → 0 < length other → IsSameAltitude other text → length spelling ≤ length other

abbrev pub CanonicalSpelling : Type 0
CanonicalSpelling = (text : List ℕ) → IsCanonicalOf text (canonical text)

then_first : (r s : Ordering) → ordering_then r s ≡ Equal → r ≡ Equal
then_first Less s e = cc e
then_first Equal s e = refl
then_first Greater s e = cc e

then_second : (r s : Ordering) → ordering_then r s ≡ Equal → s ≡ Equal
then_second Less s e = cc e
then_second Equal s e = e
then_second Greater s e = cc e

pub whole_of-equal : (a b : List ℕ) → IsSameAltitude a b → whole_of a ≡ whole_of b
whole_of-equal a b same =
    let parts : parts_cmp a b ≡ Equal = sym (altitude_cmp-parts a b) ∙ same in
    let lengths : Ordering = nat_cmp (length (whole_of a)) (length (whole_of b)) in
    exact_bytes (whole_of a) (whole_of b)
    (then_second (nat_cmp (length (whole_of a)) (length (whole_of b))) (slice_cmp nat_cmp (whole_of a) (whole_of b)) (then_first _ _ parts))

pub fraction_of-equal : (a b : List ℕ) → IsSameAltitude a b → fraction_of a ≡ fraction_of b
fraction_of-equal a b same =
    let parts : parts_cmp a b ≡ Equal = sym (altitude_cmp-parts a b) ∙ same in
    exact_bytes (fraction_of a) (fraction_of b) (then_second _ _ parts)

pub same_from_parts : (a b : List ℕ) → whole_of a ≡ whole_of b → fraction_of a ≡ fraction_of b → IsSameAltitude a b
same_from_parts a b whole fraction =
    altitude_cmp-parts a b ∙ rw (whole, fraction) (sym (altitude_cmp-parts b b) ∙ tied_itself altitude_total b)

pub one_spelling : OneSpelling
one_spelling a b same = canonical-same a b (whole_of-equal a b same) (fraction_of-equal a b same)

pub same-canonical : (text : List ℕ) → IsSameAltitude (canonical text) text
same-canonical text = same_from_parts (canonical text) text (whole_of-canonical text) (fraction_of-canonical text)

pub canonical_spelling : CanonicalSpelling
canonical_spelling text = record {
  same = same-canonical text;
  own = canonical-again text;
  shortest = λ other some same. rw (sym (one_spelling other text same)) (length-canonical other some);
}

-- equal altitudes feed a hasher alike
pub hash_respects_eq : (a b : List ℕ) → IsTrue (eq_by_cmp altitude_cmp a b) → fed.slice fed.u8 (canonical a) ≡ fed.slice fed.u8 (canonical b)
hash_respects_eq a b same = ap (fed.slice fed.u8) (one_spelling a b ((Equal-is (altitude_cmp a b)).0 (search rules)))

-- texts that are canonical are the same text where they are the same altitude
pub texts_decide : (a b : List ℕ) → canonical a ≡ a → canonical b ≡ b → pointwise nat_eq a b ≡ eq_by_cmp altitude_cmp a b
texts_decide a b own_a own_b =
    same_from_decides (pointwise nat_eq a b) (eq_by_cmp altitude_cmp a b) (bytes_decides a b)
    (Decides-like (eq_by_cmp altitude_cmp a b)
    (λ same. sym own_a ∙ one_spelling a b same ∙ own_b)
    (λ same. same_from_parts a b (ap whole_of same) (ap fraction_of same))
    (Equal-is (altitude_cmp a b)))

pub true_where_equal : (r : Bool) (o : Ordering) → r ≡ is_eq o → (IsTrue r → o ≡ Equal) × (o ≡ Equal → IsTrue r)
true_where_equal r Less is = rw is (λ h. cc h, λ h. cc h)
true_where_equal r Equal is = rw is (λ h. refl, λ h. refl)
true_where_equal r Greater is = rw is (λ h. cc h, λ h. cc h)
