use Rattle.std.proofs.Common.{◌≡◌, take}
use Rattle.fm_choice.specs.Choices.{taken_of}
use Rattle.fm_choice.proofs.search.taken_of.Given as goal

abbrev pub invariant-loop-choice : goal.invariant-loop-choice
invariant-loop-choice l = l.path.items ≡ taken_of (take l.choice-index l.choices)
