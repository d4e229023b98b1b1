use Rattle.fm_core.proofs.Words.{stands_rising, FileStream, arith, ◌-◌, length}
use Rattle.fm_core.proofs.files.index_of_stream.Goals as goal

pub returns-then-streams-count : goal.returns-then-streams-count
returns-then-streams-count c =
    stands_rising (λ (x : FileStream). x.number.0) c.args.stream.0 c.args.streams.now (length c.args.streams.now - 1) _ c.requires (omega arith)
    c.if-streams-count.true
