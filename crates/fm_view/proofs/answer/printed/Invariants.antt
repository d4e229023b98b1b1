use Rattle.std.proofs.Common.{◌≡◌, [], length}
use Rattle.fm_view.specs.Lines.{printed_behind}
use Rattle.fm_view.proofs.answer.printed.Given as goal

abbrev pub invariant-loop-said : goal.invariant-loop-said
invariant-loop-said l = printed_behind l.text.items l.rest ≡ printed_behind [] l.initial.rest

abbrev pub decreases-loop-said : goal.decreases-loop-said
decreases-loop-said l = length l.rest
