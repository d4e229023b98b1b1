use Rattle.std.proofs.Common.{◌≡◌, ◌+◌, length, reverse}
use Rattle.std.specs.List.{position_or_len}
use Rattle.fm_script.specs.ContextLists.{is_context}
use Rattle.fm_script.proofs.context_list.newer_than.Given as goal

abbrev pub invariant-loop-older : goal.invariant-loop-older
invariant-loop-older l =
    (l.newer + length l.rest ≡ length l.contexts)
    × (position_or_len (is_context l.context) (reverse l.contexts) ≡ l.newer + position_or_len (is_context l.context) (reverse l.rest))

abbrev pub decreases-loop-older : goal.decreases-loop-older
decreases-loop-older l = length l.rest
