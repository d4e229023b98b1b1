use Rattle.fm_rundown.proofs.Words.{take_all}
use Rattle.std.proofs.Common.{◌≡◌, ◌≤◌, ◌∙◌, ap, length, sum, rules}
use Rattle.fm_rundown.proofs.Held.{count_is_held}
use Rattle.fm_rundown.proofs.seat.GateSeat.passes.Goals as goal

pub returns-clause-held : goal.returns-clause-held
returns-clause-held c =
    let seat = c.args.self.now in
    let long : length seat.held ≡ 8 = search rules in
    let all : length seat.held ≤ c.loop-count.count-index = search rules in
    c.loop-count.invariant.0 ∙ ap sum (take_all c.loop-count.count-index seat.held all) ∙ count_is_held seat.held seat.seat.me.0 long seat.at_rest
