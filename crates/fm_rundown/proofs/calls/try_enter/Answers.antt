use Rattle.fm_rundown.proofs.Words.{volume_of, changed, undone, most_passes}
use Rattle.std.proofs.Common.{◌≤◌, ◌∙◌, ap, arith, sym}
use Rattle.fm_rundown.proofs.Changed.{undone_at_closing, undone_at_full, unseen}
use Rattle.fm_rundown.proofs.calls.try_enter.Goals as goal

pub returns-then-is_closing-clause-enters : goal.returns-then-is_closing-clause-enters
returns-then-is_closing-clause-enters c =
    ap (λ me. me.0) c.undo.ensures.tells.0 ∙ ap (λ me. changed c.args.volume undone me.0) c.add-found.ensures.tells.0
    ∙ undone_at_closing c.args.volume c.add-found.result c.args.seat.now.me.0 c.requires.long (sym c.is_closing.ensures ∙ c.if-is_closing.true)

pub returns-then-held-ge-PASSES-clause-enters : goal.returns-then-held-ge-PASSES-clause-enters
returns-then-held-ge-PASSES-clause-enters c =
    let v = c.args.volume in
    let found = c.add-found.result in
    let old = c.args.seat.now.me.0 in
    let is = sym c.is_closing.ensures ∙ c.if-is_closing.false in
    let full : most_passes ≤ (volume_of v old).held = omega (arith, c.requires.rest.0, c.if-held-ge-PASSES.true) in (
      unseen found (volume_of v old).is_closing c.add-found.ensures.tells.1 is,
      full,
      ap (λ me. me.0) c.undo-then-held-ge-PASSES.ensures.tells.0 ∙ ap (λ me. changed v undone me.0) c.add-found.ensures.tells.0
          ∙ undone_at_full v found old c.requires.long is full,
    )
