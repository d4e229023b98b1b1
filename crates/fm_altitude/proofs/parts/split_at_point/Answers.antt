use Rattle.std.proofs.Common.{sym, ◌∙◌, arith, length}
use Rattle.std.proofs.lemmas.List.{drop_all, take_rest}
use Rattle.fm_altitude.proofs.Points.{split_at_none, split_at_some}
use Rattle.fm_altitude.proofs.parts.split_at_point.Goals as goal

pub returns-in-Some-clause-before : goal.returns-in-Some-clause-before
returns-in-Some-clause-before c = (split_at_some c.args.text.now c.in-Some.at (sym c.in-Some.ensures)).0

pub returns-in-Some-clause-after : goal.returns-in-Some-clause-after
returns-in-Some-clause-after c =
    take_rest c.args.text.now _ ∙ (split_at_some c.args.text.now c.in-Some.at (sym c.in-Some.ensures)).1

pub returns-in-None-clause-before : goal.returns-in-None-clause-before
returns-in-None-clause-before c = (split_at_none c.args.text.now (sym c.in-None.ensures)).0

pub returns-in-None-clause-after : goal.returns-in-None-clause-after
returns-in-None-clause-after c =
    take_rest c.args.text.now _ ∙ drop_all (length c.args.text.now) c.args.text.now (omega arith) ∙ (split_at_none c.args.text.now (sym c.in-None.ensures)).1
