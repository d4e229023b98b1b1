use Rattle.std.proofs.Common.{◌≡◌, ◌∙◌, ℕ, Bool, List, bytes_eq, length, nat_eq, true, false, refl, ap}
use Rattle.std.proofs.lemmas.Bool.{eqb-true}
use Rattle.std.proofs.lemmas.Slice.Eq.{bytes_eq-Decides}
use Rattle.fm_script.specs.Commands.{spelling}
use Rattle.fm_script.proofs.keyword.Keyword.is_spelled.Goals as goal

-- words that differ in their lengths differ
by_length : (own word : List ℕ) (long same : Bool) → nat_eq (length own) (length word) ≡ long → bytes_eq own word ≡ same
    → (length own ≡ length word → ⊥) → long ≡ same
by_length own word true true long same differ = refl
by_length own word false true long same differ = absurd (differ (ap length ((bytes_eq-Decides own word).0 same)))
by_length own word true false long same differ = absurd (differ (eqb-true (length own) (length word) long))
by_length own word false false long same differ = refl

by_spelling : (own spelled word : List ℕ) → own ≡ spelled → (length own ≡ length word → ⊥) → nat_eq (length own) (length word) ≡ bytes_eq spelled word
by_spelling own spelled word is differ =
    by_length own word (nat_eq (length own) (length word)) (bytes_eq own word) refl refl differ ∙ ap (λ (w : List ℕ). bytes_eq w word) is

pub returns-else-spelling-word : goal.returns-else-spelling-word
returns-else-spelling-word c =
    by_spelling c.spelling-spelling.result.now (spelling c.args.self) c.args.word.now c.spelling-spelling.ensures c.if-spelling-word.false
