use Rattle.fm_core.proofs.Counted.{torn_counted}
use Rattle.fm_core.proofs.Rising.{torn_rising}
use Rattle.fm_core.proofs.files.Files.leave.Goals as goal

pub invariant_of-self : goal.invariant_of-self
invariant_of-self c = record {
  room = c.self.invariant.room;
  rising = torn_rising c.args.stream c.self.inside.streams.items c.tear_in.new.streams.items c.self.inside.handles.items c.self.inside.next
      c.tear_in.ensures.streams c.self.invariant.rising;
  counted = torn_counted c.args.stream c.self.inside.streams.items c.tear_in.new.streams.items c.self.inside.handles.items c.self.inside.opens.items
      c.tear_in.new.opens.items c.tear_in.ensures.streams c.tear_in.ensures.opens c.self.invariant.counted;
  named = c.tear_in.ensures.named;
}
