use Rattle.std.proofs.Common.{drop, map}
use Rattle.fm_trial.proofs.LinesTaken.{Leads}
use Rattle.fm_trial.proofs.program.take_all.Given as goal

abbrev pub invariant-loop-place : goal.invariant-loop-place
invariant-loop-place g l =
    Leads g.F.Minifilter (map (λ line. line.now) l.lines) (map (λ line. line.now) (drop l.place l.lines)) l.initial.scenario l.scenario
