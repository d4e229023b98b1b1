use Rattle.std.proofs.Common.{◌≡◌, ◌+◌, All, length, sum_by}
use Rattle.fm_queue.specs.Tallies.{empty_tally, every_part}
use Rattle.fm_queue.specs.Passes.{tally_of, parts_of, IsPassOf}
use Rattle.fm_queue.proofs.queue.JobQueue.every_pass.Given as goal

abbrev pub invariant-loop : goal.invariant-loop
invariant-loop l =
    IsPassOf l.self l.first
    × (tally_of l.first ≡ empty_tally (parts_of l.first))
    × All (λ pass. IsPassOf l.self pass) l.all.items
    × All (λ pass. tally_of pass ≡ empty_tally (parts_of pass)) l.all.items
    × (sum_by parts_of l.all.items + parts_of l.first ≡ every_part)
    × (parts_of l.first + length l.all.items ≡ every_part)
    × (length l.all.items + 1 ≡ l.counter)
