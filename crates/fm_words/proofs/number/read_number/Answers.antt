use Rattle.std.proofs.Common.{◌≡◌, ◌<◌, ◌∙◌, sym, ap, take, length, arith}
use Rattle.std.proofs.lemmas.Bool.Decides.{nat_tests}
use Rattle.std.proofs.lemmas.List.{take_all}
use Rattle.std.specs.Char.{is_ascii_digit}
use Rattle.std.specs.List.{list_all}
use Rattle.std.specs.Str.Parse.{digits_value}
use Rattle.fm_words.proofs.Numbers.{none_at, digits_more, number_whole, value_more}
use Rattle.fm_words.proofs.number.read_number.Goals as goal

pub returns-in_err-number : goal.returns-in_err-number
returns-in_err-number c =
    c.from_residual.ensures
    ∙ none_at c.args.word.now c.loop-byte.byte-index c.loop-byte.number c.loop-byte-test.true c.loop-byte.invariant.0 c.in_err-number.ensures

pub loop-byte-preserved : goal.loop-byte-preserved
loop-byte-preserved c =
    let value =
    value_more c.args.word.now c.loop-byte.byte-index c.loop-byte.number c.in_ok-number.number c.loop-byte-test.true c.loop-byte.invariant.0
    c.in_ok-number.ensures.1
    in
    let digits = digits_more c.args.word.now c.loop-byte.byte-index c.loop-byte-test.true c.loop-byte.invariant.1 c.in_ok-number.ensures.0 in
    (value, digits, c.in_ok-number.ensures.2)

pub returns : goal.returns
returns c =
    let whole : take c.loop-byte.byte-index c.args.word.now ≡ c.args.word.now = take_all c.loop-byte.byte-index c.args.word.now c.loop-byte-test.false in
    let some : 0 < length c.args.word.now = grind (arith, nat_tests, c.if-is_empty.ensures) in
    number_whole c.args.word.now c.loop-byte.number some c.loop-byte.invariant.2 (c.loop-byte.invariant.0 ∙ ap (digits_value 10) whole)
    (sym (ap (list_all is_ascii_digit) whole) ∙ c.loop-byte.invariant.1)
