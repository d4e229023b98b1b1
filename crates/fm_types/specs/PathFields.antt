-- How a path is kept.
use Rattle.std.specs.Prelude.{◌≡◌, ℕ, List, length, take}
use Rattle.std.proofs.Common.{sym, ap, ◌∙◌}
use Rattle.fm_types.specs.Texts.{padded, IsPadded}
use Rattle.fm_types.specs.Paths.{IsPath}
use Rattle.fm_types.specs.declared.path.RelPath.TheInside.{Inside}

abbrev pub path_text : Inside → List ℕ
path_text path = take path.len path.buffer

abbrev pub IsPathInside : Inside → Type 0
IsPathInside path = IsPath (path_text path) × IsPadded 255 path.buffer (path_text path) path.len

abbrev pub path_fields : List ℕ → Inside
path_fields text = record { buffer = padded 255 text; len = length text }

-- the text gives the fields back
pub path_fields_back : (path : Inside) → IsPathInside path → path_fields (path_text path) ≡ path
path_fields_back path (named, kept) =
    let fields : List ℕ → ℕ → Inside = λ b k. record { buffer = b; len = k } in
    ap (λ b. fields b (length (path_text path))) (sym kept.zeros) ∙ ap (λ k. fields path.buffer k) kept.exact
