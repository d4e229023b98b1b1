use Rattle.fm_core.proofs.Named.{reserved_named}
use Rattle.fm_core.proofs.files.Files.reserve.Goals as goal

pub invariant_of-self-2 : goal.invariant_of-self-2
invariant_of-self-2 c =
    rw (c.try_reserve.ensures.items, c.try_reserve-2.ensures.items) (record {
      room = c.self.invariant.room;
      rising = c.self.invariant.rising;
      counted = c.self.invariant.counted;
      named = reserved_named c.self.inside.streams.items c.self.inside.numbers c.try_reserve-3.new.self
          c.try_reserve-3.ensures.entries.2 c.self.invariant.named;
    })
