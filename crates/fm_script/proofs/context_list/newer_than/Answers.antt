use Rattle.std.proofs.Common.{◌≡◌, ◌+◌, ◌-◌, ℕ, Some, None, ap, drop, take, length, position, reverse, sym, ◌∙◌, arith}
use Rattle.std.proofs.lemmas.List.{length-drop, length-reverse}
use Rattle.std.specs.List.{position_or_len}
use Rattle.fm_script.specs.ContextLists.{is_context}
use Rattle.fm_script.proofs.Rows.{in_row, past_row}
use Rattle.fm_words.proofs.Rows.{none_passes}
use Rattle.fm_script.proofs.context_list.newer_than.Goals as goal

pub returns-in-Some-newer_in_row : goal.returns-in-Some-newer_in_row
returns-in-Some-newer_in_row c =
    let there : position (is_context c.args.context) (reverse (drop (length c.loop-older.rest.now - 8) c.loop-older.rest.now))
    ≡ Some c.in-Some-newer_in_row.place =
    rw (← c.in-Some.ensures.cases.1) (sym c.in-Some-newer_in_row.ensures) in
    omega (arith, c.loop-older.invariant.1, in_row (is_context c.args.context) (length c.loop-older.rest.now - 8) _ c.loop-older.rest.now there)

pub loop-older-preserved : goal.loop-older-preserved
loop-older-preserved c =
    let none : position (is_context c.args.context) (reverse (drop (length c.loop-older.rest.now - 8) c.loop-older.rest.now)) ≡ None =
    rw (← c.in-Some.ensures.cases.1) (sym c.in_default-newer_in_row.ensures) in
    let few : length c.in-Some.older.now + 8 ≡ length c.loop-older.rest.now = c.in-Some.ensures.cases.2 in
    let older : c.in-Some.older.now ≡ take (length c.loop-older.rest.now - 8) c.loop-older.rest.now = c.in-Some.ensures.cases.0 in
    let past : position_or_len (is_context c.args.context) (reverse c.loop-older.rest.now)
    ≡ 8 + position_or_len (is_context c.args.context) (reverse c.in-Some.older.now) =
    rw older (past_row (is_context c.args.context) (length c.loop-older.rest.now - 8) c.loop-older.rest.now none
    ∙ ap (λ (m : ℕ). m + position_or_len (is_context c.args.context) (reverse (take (length c.loop-older.rest.now - 8) c.loop-older.rest.now)))
    (omega (arith, few, length-drop (length c.loop-older.rest.now - 8) c.loop-older.rest.now))) in
    (omega (arith, few, c.loop-older.invariant.0), omega (arith, past, c.loop-older.invariant.1))

pub returns-in-None : goal.returns-in-None
returns-in-None c =
    let none = none_passes (is_context c.args.context) (reverse c.loop-older.rest.now) (sym c.in-None.ensures) in
    omega (arith, none, length-reverse c.loop-older.rest.now, c.loop-older.invariant.0, c.loop-older.invariant.1)
