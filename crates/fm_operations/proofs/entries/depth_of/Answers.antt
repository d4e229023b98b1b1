use borrow.Author.Tests.{tests}
use Rattle.fm_operations.proofs.Words.{ap, ask_at}
use Rattle.std.proofs.Common.{◌∙◌, position, rules}
use Rattle.std.proofs.lemmas.Iterator.Adapters.{YieldsList-from_rev_slice}
use Rattle.std.proofs.lemmas.Iterator.Search.{position_from_yields_List}
use Rattle.fm_operations.specs.Drains.{is_some_of}
use Rattle.fm_operations.proofs.entries.depth_of.Goals as goal

pub returns : goal.returns
returns c =
    position_from_yields_List (λ place. is_some_of c.args.instance.0 (ask_at c.args.entries.now place)) _ _ c.position.result c.position.ensures.ran
    (YieldsList-from_rev_slice c.places.result.now cc) (λ x b q k. search (rules, tests))
    ∙ ap (position (λ place. is_some_of c.args.instance.0 (ask_at c.args.entries.now place))) c.places.ensures
