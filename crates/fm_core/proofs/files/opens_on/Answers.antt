use Rattle.fm_core.proofs.Words.{sym, ◌∙◌}
use Rattle.fm_core.proofs.Counted.{counted_there}
use Rattle.fm_core.proofs.files.opens_on.Goals as goal

pub returns-in-Some : goal.returns-in-Some
returns-in-Some c =
    counted_there c.args.stream c.args.streams.now c.args.handles.now c.args.opens.now c.in-Some.at 0 (sym c.index_of_stream.ensures
    ∙ c.in-Some.is) c.requires.counted
