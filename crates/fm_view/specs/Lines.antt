-- What a script prints for what its lines answered.
use Rattle.std.specs.Prelude.{ℕ, List, [], ◌∷◌}
use Rattle.fm_script.specs.Sayings.{text_with}
use Rattle.fm_script.specs.declared.said.Said.{Said}

-- one line for each, behind what was printed before
abbrev pub printed_behind : List ℕ → List Said → List ℕ
printed_behind before [] = before
printed_behind before (said ∷ told) = printed_behind (text_with before said) told
