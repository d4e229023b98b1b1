use Rattle.std.proofs.Common.{◌≡◌, ◌≤◌, ◌<◌, ◌+◌, ◌/◌, ◌%◌, ◌++◌, ◌∙◌, ℕ, List, [], ◌∷◌, ap, sym, append_assoc, decimal, arith}
use Rattle.std.proofs.lemmas.Fmt.{decimal_digit, decimal_step}
use Rattle.std.proofs.lemmas.Grind.{common_steps}
use Rattle.fm_script.proofs.Lengths.{two_long}
use Rattle.fm_script.proofs.said.print_pair.Goals as goal

two_digits : (n : ℕ) (old : List ℕ) → 10 ≤ n → n < 100 → (old ++ (48 + n / 10) ∷ []) ++ (48 + n % 10) ∷ [] ≡ old ++ decimal n
two_digits n old above below =
    let tens : decimal (n / 10) ≡ (48 + n / 10) ∷ [] = decimal_digit (n / 10) (omega arith) in
    let both : decimal n ≡ (48 + n / 10) ∷ (48 + n % 10) ∷ [] =
    decimal_step n above (omega arith) ∙ ap (λ (digits : List ℕ). digits ++ (48 + n % 10) ∷ []) tens in
    append_assoc old ((48 + n / 10) ∷ []) ((48 + n % 10) ∷ []) ∙ ap (λ (digits : List ℕ). old ++ digits) (sym both)

pub returns-clause-appends : goal.returns-clause-appends
returns-clause-appends c =
    c.in_ok-push-2.ensures.items ∙ ap (λ (front : List ℕ). front ++ (48 + c.args.number % 10) ∷ []) c.in_ok-push.ensures.items
    ∙ two_digits c.args.number c.args.text.now.items c.requires.above c.requires.below

pub returns-in_err-push-clause-full : goal.returns-in_err-push-clause-full
returns-in_err-push-clause-full c = let two = two_long c.args.number c.requires.above c.requires.below in grind (arith, common_steps)

pub returns-in_err-push-2-clause-full : goal.returns-in_err-push-2-clause-full
returns-in_err-push-2-clause-full c = let two = two_long c.args.number c.requires.above c.requires.below in grind (arith, common_steps)
