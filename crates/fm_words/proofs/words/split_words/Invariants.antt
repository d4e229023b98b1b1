use Rattle.std.proofs.Common.{◌≡◌, ◌++◌, map}
use Rattle.fm_words.specs.Words.{words_of}
use Rattle.fm_words.proofs.Cuts.{words_left, count_left}
use Rattle.fm_words.proofs.words.split_words.Given as goal

-- what is still to be divided has the words that aren't there yet
abbrev pub invariant-loop-left : goal.invariant-loop-left
invariant-loop-left l =
    map (λ word. word.now) l.words.items ++ words_left l.left ≡ map (λ word. word.now) l.initial.words.items ++ words_of l.line

abbrev pub decreases-loop-left : goal.decreases-loop-left
decreases-loop-left l = count_left l.left
