use Rattle.std.proofs.Common.{◌++◌, ◌∙◌, List, ℕ, ap, arith, sym}
use Rattle.std.proofs.lemmas.Fmt.{decimal_digit}
use Rattle.std.proofs.lemmas.Grind.{common_steps}
use Rattle.fm_script.proofs.Lengths.{one_long}
use Rattle.fm_script.proofs.said.print_number.Goals as goal

pub returns-then-number-lt10-clause-appends : goal.returns-then-number-lt10-clause-appends
returns-then-number-lt10-clause-appends c =
    c.in_ok-push.ensures.items ∙ ap (λ (digits : List ℕ). c.args.text.now.items ++ digits) (sym (decimal_digit c.args.number c.if-number-lt10.true))

pub returns-in_err-push-clause-full : goal.returns-in_err-push-clause-full
returns-in_err-push-clause-full c = let one = one_long c.args.number c.if-number-lt10.true in grind (arith, common_steps)
