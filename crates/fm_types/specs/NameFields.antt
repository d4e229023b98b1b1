-- How a name is kept.
use Rattle.std.specs.Prelude.{◌≡◌, ℕ, List, length, take}
use Rattle.std.proofs.Common.{sym, ap, ◌∙◌}
use Rattle.fm_types.specs.Texts.{padded, IsPadded}
use Rattle.fm_types.specs.Names.{IsName}
use Rattle.fm_types.specs.declared.name.Name.TheInside.{Inside}

abbrev pub name_text : Inside → List ℕ
name_text name = take name.len name.buffer

abbrev pub IsNameInside : Inside → Type 0
IsNameInside name = IsName (name_text name) × IsPadded 32 name.buffer (name_text name) name.len

abbrev pub name_fields : List ℕ → Inside
name_fields text = record { buffer = padded 32 text; len = length text }

-- the text gives the fields back
pub name_fields_back : (name : Inside) → IsNameInside name → name_fields (name_text name) ≡ name
name_fields_back name (named, kept) =
    let fields : List ℕ → ℕ → Inside = λ b k. record { buffer = b; len = k } in
    ap (λ b. fields b (length (name_text name))) (sym kept.zeros) ∙ ap (λ k. fields name.buffer k) kept.exact
