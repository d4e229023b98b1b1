use Rattle.fm_words.proofs.Cuts.{none_before, none_there, parts_at}
use Rattle.fm_words.proofs.words.split_at_byte.Goals as goal

pub returns-then-at-text-clause-front : goal.returns-then-at-text-clause-front
returns-then-at-text-clause-front c = none_before c.args.byte c.count_before-at.result c.args.text.now c.count_before-at.ensures

pub returns-then-at-text-clause-parts : goal.returns-then-at-text-clause-parts
returns-then-at-text-clause-parts c =
    parts_at c.args.byte c.count_before-at.result c.args.text.now c.count_before-at.ensures c.if-at-text.true

pub returns-else-at-text-clause-front : goal.returns-else-at-text-clause-front
returns-else-at-text-clause-front c =
    none_there c.args.byte c.count_before-at.result c.args.text.now c.count_before-at.ensures c.if-at-text.false
