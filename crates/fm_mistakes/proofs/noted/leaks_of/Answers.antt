use Rattle.std.proofs.Common.{rules, ◌∙◌, ap, sym}
use Rattle.fm_local.specs.Offered.{leaks}
use Rattle.fm_mistakes.proofs.Reading.{take_next, take_none}
use Rattle.fm_mistakes.proofs.noted.leaks_of.Goals as goal
use Rattle.fm_mistakes.proofs.noted.leaks_of.Goals.{in-Some+in_ok-push, in_default}

pub loop-place-preserved : goal.loop-place-preserved
loop-place-preserved g c =
    elim c.match-leak.branch [
      | in-Some+in_ok-push w ↦ search (rules, take_next)
      | in_default w ↦
          ap (λ list. list.items) w.list-is ∙ c.loop-place.invariant
          ∙ sym (take_none (leaks c.args.manager.now) c.loop-place.place (sym c.leak.ensures ∙ w.in_default.is))
    ]
