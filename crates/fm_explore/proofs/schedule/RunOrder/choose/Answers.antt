use Rattle.std.proofs.Common.{rules, sym, subst}
use Rattle.fm_explore.specs.Orders.{IsOnPathOf}
use Rattle.fm_explore.proofs.Paths.{on_path_more}
use Rattle.fm_explore.proofs.schedule.RunOrder.choose.Goals as goal

pub returns-clause-chooses : goal.returns-clause-chooses
returns-clause-chooses c = (c.in-Some.taken, search rules, c.in-Some.ensures, search rules, search rules, search rules)

pub returns-clause-path : goal.returns-clause-path
returns-clause-path c = λ on. subst (IsOnPathOf c.args.self.now.chooser) (sym c.in_ok-note.ensures.choices) (on_path_more c.args.self.now.chooser _ _ on c.in-Some.ensures)
