-- What `read` makes of an altitude's text keeps the canonical text.
use Rattle.std.proofs.Common.{◌≡◌, ◌-◌, ◌≤◌, ℕ, List, length, take, replicate, refl, sym, ap, ◌∙◌}
use Rattle.std.proofs.lemmas.List.{take_at}
use Rattle.fm_altitude.specs.Grammar.{IsAltitude, canonical, fraction_of, spelled, whole_of}
use Rattle.fm_altitude.specs.Kept.{IsKept}
use Rattle.fm_types.specs.Texts.{padded}
use Rattle.fm_altitude.specs.Spelling.{canonical-again, whole_of-canonical}
use Rattle.fm_altitude.proofs.Grammar.{IsAltitude-canonical}

module _ (text w f : List ℕ) (whole : w ≡ whole_of text) (fraction : f ≡ fraction_of text) where
  pub spelled-canonical : spelled w f ≡ canonical text
  unfolding canonical
  spelled-canonical = rw (whole, fraction) refl

  pub spelled-fits : IsAltitude text → length (spelled w f) ≤ 64
  spelled-fits h = rw spelled-canonical (IsAltitude-canonical text h).few

  pub kept_text : (buffer : List ℕ) (len : ℕ) → buffer ≡ padded 64 (spelled w f) → len ≡ length (spelled w f) → take len buffer ≡ canonical text
  kept_text buffer len zeros exact =
      rw (zeros, exact) (take_at (spelled w f) (replicate (64 - length (spelled w f)) 0) (length (spelled w f)) refl) ∙ spelled-canonical

  pub kept : (buffer : List ℕ) (len front : ℕ) → IsAltitude text → buffer ≡ padded 64 (spelled w f) → len ≡ length (spelled w f) → front ≡ length w
      → IsKept buffer len front
  kept buffer len front h zeros exact first =
      let is : take len buffer ≡ canonical text = kept_text buffer len zeros exact in
      record {
        exact = rw is (ap length (sym spelled-canonical) ∙ sym exact);
        zeros = zeros ∙ ap (padded 64) (spelled-canonical ∙ sym is);
        front = rw (is, whole_of-canonical text) (ap length (sym whole) ∙ sym first);
        grammar = rw is (IsAltitude-canonical text h);
        spelling = rw is (canonical-again text);
      }
