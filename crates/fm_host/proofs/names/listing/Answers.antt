use Rattle.std.proofs.Common.{ap, ◌∙◌}
use Rattle.fm_base.specs.Folders.{lines_of}
use Rattle.fm_host.proofs.Listings.{listing_is}
use Rattle.fm_host.proofs.names.listing.Goals as goal

pub returns : goal.returns
returns g c =
    listing_is c.in-Some.names.items c.sort_unstable.new.self.items c.from_vec.result (rw c.in-Some.is at c.in_ok-names.ensures)
    c.sort_unstable.ensures.permutation c.sort_unstable.ensures.sorted
    (c.from_vec.ensures ∙ c.in_ok-lines.ensures ∙ ap lines_of c.as_slice.ensures.value)
