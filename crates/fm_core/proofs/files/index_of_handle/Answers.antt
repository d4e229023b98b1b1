use Rattle.fm_core.proofs.Words.{stands_rising, FileHandle, arith, ◌-◌, length}
use Rattle.fm_core.proofs.files.index_of_handle.Goals as goal

pub returns-then-handles-count : goal.returns-then-handles-count
returns-then-handles-count c =
    stands_rising (λ (x : FileHandle). x.number.0) c.args.handle.0 c.args.handles.now (length c.args.handles.now - 1) _ c.requires (omega arith)
    c.if-handles-count.true
