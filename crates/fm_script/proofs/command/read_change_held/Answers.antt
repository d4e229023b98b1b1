use Rattle.std.proofs.Common.{◌≡◌, ◌<◌, ◌∷◌, [], ℕ, Bor, Err, List, arith, length, map, refl}
use Rattle.fm_script.specs.Words.{BadRequest, World}
use Rattle.fm_script.specs.Commands.{change_held_read}
use Rattle.fm_script.proofs.command.read_change_held.Goals as goal

-- a worker, an operation and a word at least
too_few : (w : World) (words : List (Bor (List ℕ))) → length words < 3 → Err BadRequest ≡ change_held_read w (map (λ word. word.now) words)
too_few w [] few = refl
too_few w (a ∷ []) few = refl
too_few w (a ∷ b ∷ []) few = refl
too_few w (a ∷ b ∷ x ∷ words) few = absurd (omega (arith, few))

pub returns-in_default : goal.returns-in_default
returns-in_default c = too_few c.args.state.now c.args.words.now (omega (arith, c.in_default.len_below))
