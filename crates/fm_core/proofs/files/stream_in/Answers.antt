use Rattle.fm_core.proofs.Words.{found_read, sym, ◌∙◌, is_stream}
use Rattle.fm_core.proofs.files.stream_in.Goals as goal

pub returns-in-Some : goal.returns-in-Some
returns-in-Some c =
    found_read (is_stream c.args.stream) c.args.streams.now c.in-Some.at c.index-streams-at.result (sym c.index_of_stream.ensures
    ∙ c.in-Some.is) c.index-streams-at.is
