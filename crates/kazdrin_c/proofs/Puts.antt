-- Bytes that are put in an answer, or returned with one, are those that were given.
use Rattle.std.proofs.Common.{◌≡◌, ℕ, List, Option, subst}
use Rattle.fm_types.specs.declared.status.Status.{Status}
use Rattle.kazdrin_c.specs.declared.event.KazdrinEvent.{KazdrinEvent}
use Rattle.kazdrin_c.specs.declared.host.SessionHost.{SessionHost}
use Rattle.kazdrin_c.specs.Calls.{PutsAnswer, ReturnsAnswer}

pub put_given : (e : KazdrinEvent) (status : Status) (some given : Option (List ℕ)) (old : SessionHost) (result : ℕ) (new : SessionHost)
    → some ≡ given → PutsAnswer e status some old result new → PutsAnswer e status given old result new
put_given e status some given old result new same puts = subst (λ b. PutsAnswer e status b old result new) same puts

pub return_given : (e : KazdrinEvent) (status : Status) (some given : Option (List ℕ)) (old : SessionHost) (result : ℕ) (new : SessionHost)
    → some ≡ given → ReturnsAnswer e status some old result new → ReturnsAnswer e status given old result new
return_given e status some given old result new same returns = subst (λ b. ReturnsAnswer e status b old result new) same returns
