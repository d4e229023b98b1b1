use Rattle.fm_base.proofs.Words.{keys, listing_of}
use Rattle.std.specs.Prelude.{◌≡◌, ◌+◌, length}
use Rattle.fm_base.proofs.listing.is_listing_short.Given as goal

-- the room that is left lacks as much as the lines so far
abbrev pub invariant-loop-name : goal.invariant-loop-name
invariant-loop-name l = l.room + length (listing_of (keys l.files)) ≡ 32768 + length (listing_of l.name-iterator)
