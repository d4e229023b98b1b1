use Rattle.std.proofs.Common.{None, sym, subst, codes}
use Rattle.clap.specs.Words.{found_of}
use Rattle.fm_cli.specs.Fronts.{ReadsWorkers}
use Rattle.fm_cli.proofs.Rows.{one_is}
use Rattle.fm_cli.proofs.Workers.{from_byte, no_byte}
use Rattle.fm_cli.proofs.front.workers_of.Goals as goal

pub returns-in-Some : goal.returns-in-Some
returns-in-Some c =
    subst (λ text. ReadsWorkers text c.in_range.result) (sym (one_is (found_of c.args.matches.now) (codes "workers")))
    (from_byte _ c.in-Some.workers c.in_range.result c.in-Some.ensures.none (λ t is. (c.in-Some.ensures.value t is).0) c.in_range.ensures)

pub returns-in-None : goal.returns-in-None
returns-in-None c =
    subst (λ text. ReadsWorkers text None) (sym (one_is (found_of c.args.matches.now) (codes "workers"))) (no_byte _ (λ t is. (c.in-None.ensures.value t is).1.0))
