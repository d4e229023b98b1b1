-- The values that a parse found, as rows.
use Rattle.std.proofs.Common.{◌≡◌, Bor, List, [], ◌∷◌, inl, inr, refl, map}
use Rattle.std.proofs.lemmas.Bool.{cases_Bool}
use Rattle.std.specs.Prelude.{bytes_eq, find, option_and_then, option_map, slice_get}
use Rattle.clap.specs.Facts.{Entry}
use Rattle.clap.specs.Matches.{first_value, one_text}
use Rattle.clap.specs.Walk.{Text, first_of, one_of, row_of, rows_of, texts}
use Rattle.clap.specs.Values.{read_as}
use Rattle.clap.specs.declared.parser.matches.Found.{Found}
use Rattle.clap.specs.declared.parser.matches.MatchedArg.{MatchedArg}
use Rattle.clap.specs.declared.builder.value_parser.Reading.{Reading}

first_text : (items : List (Bor Text)) → slice_get (texts items) 0 ≡ option_map (λ s. s.now) (slice_get items 0)
first_text [] = refl
first_text (v ∷ vs) = refl

first_in : (id : Text) (es : List Entry) →
    first_of id (map row_of es) ≡ option_and_then (λ a. option_map (λ s. s.now) (slice_get a.vals.items 0))
    (option_map (λ e. e.1) (find (λ e. bytes_eq e.0.now id) es))
first_in id [] = refl
first_in id (e ∷ es) = elim (cases_Bool (bytes_eq e.0.now id)) [ inl same ↦ rw same (first_text e.1.vals.items) | inr other ↦ rw other (first_in id es) ]

pub first_is : (f : Found) (id : Text) → first_of id (rows_of f) ≡ first_value f id
first_is f id = first_in id f.entries.items

one_read : (a : MatchedArg) → option_map (read_as a.reading) (slice_get (texts a.vals.items) 0)
    ≡ option_map (λ s. read_as a.reading s.now) (slice_get a.vals.items 0)
one_read a = read_first a.reading a.vals.items
  where
    read_first : (r : Reading) (items : List (Bor Text)) → option_map (read_as r) (slice_get (texts items) 0)
        ≡ option_map (λ s. read_as r s.now) (slice_get items 0)
    read_first r [] = refl
    read_first r (v ∷ vs) = refl

one_in : (id : Text) (es : List Entry) →
    one_of id (map row_of es) ≡ option_and_then (λ a. option_map (λ s. read_as a.reading s.now) (slice_get a.vals.items 0))
    (option_map (λ e. e.1) (find (λ e. bytes_eq e.0.now id) es))
one_in id [] = refl
one_in id (e ∷ es) = elim (cases_Bool (bytes_eq e.0.now id)) [ inl same ↦ rw same (one_read e.1) | inr other ↦ rw other (one_in id es) ]

pub one_is : (f : Found) (id : Text) → one_of id (rows_of f) ≡ one_text f id
one_is f id = one_in id f.entries.items
