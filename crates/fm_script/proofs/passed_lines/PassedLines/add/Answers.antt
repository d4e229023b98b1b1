use Rattle.std.proofs.Common.{◌≤◌, [], arith, length, subst, sym}
use Rattle.fm_script.specs.Sayings.{text_with}
use Rattle.fm_script.specs.declared.said.Said.{Said}
use Rattle.fm_script.proofs.Passed.{down_long, up_long}
use Rattle.fm_script.proofs.passed_lines.PassedLines.add.Goals as goal

pub short-requires : goal.short-requires
short-requires c =
    subst (λ (line : Said). length (text_with [] line) ≤ 16) (sym c.asks.ensures)
    (down_long c.len.result (omega (arith, c.requires, c.self.view_is, c.len.ensures, c.self.inside.rows.ok.0)))

pub short-requires-2 : goal.short-requires-2
short-requires-2 c =
    subst (λ (line : Said). length (text_with [] line) ≤ 16) (sym c.returns.ensures)
    (up_long c.len.result (omega (arith, c.requires, c.self.view_is, c.len.ensures, c.self.inside.rows.ok.0)))
