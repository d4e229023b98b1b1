use Rattle.fm_local.proofs.Words.{World, worker_at, ap, refl, WORKER}
use Rattle.fm_local.proofs.instances.Ready.{new_ready}
use Rattle.fm_local.proofs.parts.Parts.new.Goals as goal

pub returns-clause-ready : goal.returns-clause-ready
returns-clause-ready g c =
    new_ready _ refl c.in_ok-state.ensures.empty c.new-8.ensures.none
    c.in_ok-resumed.ensures.empty

pub returns-clause-out : goal.returns-clause-out
returns-clause-out g c = ap (λ (w : World). worker_at w.workers WORKER) c.in_ok-state.ensures.empty
