use Rattle.fm_words.proofs.Cuts.{words_left, next_word, fewer_left, one_more, all_words}
use Rattle.fm_words.proofs.words.split_words.Goals as goal

pub loop-left-smaller : goal.loop-left-smaller
loop-left-smaller c =
    rw c.in-Some.is (fewer_left c.split_at_byte.result.0.now c.in-Some.rest.now c.split_at_byte.result.1 c.split_at_byte.ensures.parts)

pub loop-left-preserved : goal.loop-left-preserved
loop-left-preserved c =
    let before = rw c.in-Some.is at c.loop-left.invariant in
    rw c.in_ok-push.ensures.ok (one_more c.loop-left.words.items c.split_at_byte.result.0 (words_left c.split_at_byte.result.1) _ c.in-Some.rest.now before
    (next_word c.split_at_byte.result.0.now c.in-Some.rest.now c.split_at_byte.result.1 c.split_at_byte.ensures.front c.split_at_byte.ensures.parts))

pub returns : goal.returns
returns c = all_words c.loop-left.words.items _ (rw c.in_default.is at c.loop-left.invariant)
