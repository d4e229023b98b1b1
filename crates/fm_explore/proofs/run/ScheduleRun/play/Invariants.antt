use Rattle.std.proofs.Common.{◌≡◌, []}
use Rattle.fm_explore.specs.Orders.{IsOnPath}
use Rattle.fm_explore.proofs.run.ScheduleRun.play.Given as goal

abbrev pub invariant-loop : goal.invariant-loop
invariant-loop o l = (l.self.order.chooser ≡ l.initial.self.order.chooser) × (l.initial.self.order.schedule.choices.items ≡ [] → IsOnPath l.self.order)
