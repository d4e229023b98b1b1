use Rattle.std.proofs.Common.{◌≡◌, None, List}
use Rattle.fm_explore.specs.Searches.{RunMade, Searched}
use Rattle.fm_explore.proofs.search.Search.all.Given as goal

abbrev pub invariant-loop : goal.invariant-loop
invariant-loop o l = l.search.stopped ≡ None → (runs : List RunMade) × Searched runs l.path.items l.search
