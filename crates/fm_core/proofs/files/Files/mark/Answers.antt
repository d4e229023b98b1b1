use Rattle.fm_core.proofs.Counted.{marked_counted}
use Rattle.fm_core.proofs.Named.{marked_named}
use Rattle.fm_core.proofs.Rising.{marked_rising}
use Rattle.fm_core.proofs.files.Files.mark.Goals as goal

pub invariant_of-self : goal.invariant_of-self
invariant_of-self c = record {
  room = c.self.invariant.room;
  rising = marked_rising c.args.is_marked c.args.stream c.self.inside.streams.items c.mark_in.new.streams.items c.self.inside.handles.items c.self.inside.next
      c.mark_in.ensures c.self.invariant.rising;
  counted = marked_counted c.args.is_marked c.args.stream c.self.inside.streams.items c.mark_in.new.streams.items c.self.inside.handles.items c.self.inside.opens.items
      c.mark_in.ensures c.self.invariant.counted;
  named = marked_named c.args.is_marked c.args.stream c.self.inside.streams.items c.mark_in.new.streams.items c.self.inside.numbers c.mark_in.ensures c.self.invariant.named;
}
