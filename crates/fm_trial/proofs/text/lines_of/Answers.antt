use Rattle.std.proofs.Common.{rules, ◌<◌, arith}
use Rattle.fm_trial.specs.Lines.{text_lines}
use Rattle.fm_trial.proofs.LineCuts.{all_lines, last_line, next_line, one_more}
use Rattle.fm_trial.proofs.text.lines_of.Goals as goal

pub loop-line-preserved : goal.loop-line-preserved
loop-line-preserved c =
    let ascii : 10 < 128 = omega arith in
    let parts = c.in-Some.ensures.byte ascii (λ w o found. found) in
    let next = next_line c.loop-line.left.now c.in-Some.line.now c.in-Some.behind.now parts.0 parts.1 parts.2 in (
      rw c.in_ok-push.ensures.items (one_more c.loop-line.lines.items c.in-Some.line _ (text_lines c.in-Some.behind.now) _ c.loop-line.invariant.0 next),
      search rules,
    )

pub returns : goal.returns
returns c =
    let ascii : 10 < 128 = omega arith in
    let none = c.in_default.ensures.byte ascii (λ w o found. found) in
    rw c.in_ok-push-2.ensures.items (all_lines c.loop-line.lines.items c.loop-line.left _ _ c.loop-line.invariant.0 (last_line c.loop-line.left.now none))
