use Rattle.fm_types.proofs.Heads.{decided_first}
use Rattle.fm_types.proofs.path.RelPathOrd.cmp.Goals as goal

pub returns-in_default : goal.returns-in_default
returns-in_default c =
    decided_first 8 c.args.self.now c.args.other.now c.cmp.result c.head.ensures.characters c.head-2.ensures.characters
    (rw (← c.head.ensures.value, ← c.head-2.ensures.value) c.cmp.ensures)
    c.in_default.not-Equal
