use Rattle.fm_core.proofs.Words.{subst, sym, ◌≤◌}
use Rattle.fm_core.proofs.Counted.{phased_counted}
use Rattle.fm_core.proofs.Rising.{phased_rising}
use Rattle.fm_core.proofs.files.Files.set_phase.Goals as goal

pub invariant_of-self : goal.invariant_of-self
invariant_of-self c = record {
  room = subst (λ n. 4096 ≤ n) (sym c.phase_in.ensures.capacity) c.self.invariant.room;
  rising = phased_rising c.args.handle c.args.phase c.self.inside.streams.items c.self.inside.handles.items c.phase_in.new.handles.items c.self.inside.next
      c.phase_in.ensures.items c.self.invariant.rising;
  counted = phased_counted c.args.handle c.args.phase c.self.inside.streams.items c.self.inside.handles.items c.phase_in.new.handles.items
      c.self.inside.opens.items c.phase_in.ensures.items c.self.invariant.counted;
  named = c.self.invariant.named;
}
