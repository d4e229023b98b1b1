use Rattle.fm_wire.proofs.Words.{length, arith, length-append}
use Rattle.std.proofs.Common.{◌≤◌, ◌<◌, ◌++◌}
use Rattle.fm_wire.proofs.Streams.{fault_across, too_short}
use Rattle.fm_wire.proofs.stream.is_fault_across.Goals as goal

pub returns-then-held-piece-lt4 : goal.returns-then-held-piece-lt4
returns-then-held-piece-lt4 c =
    let short : length (c.args.held.now ++ c.args.piece.now) < 4 = omega (arith, length-append c.args.held.now c.args.piece.now) in
    too_short (c.args.held.now ++ c.args.piece.now) short

pub returns : goal.returns
returns c =
    let long : 4 ≤ length (c.args.held.now ++ c.args.piece.now) = omega (arith, length-append c.args.held.now c.args.piece.now) in
    fault_across c.is_fault.result (c.args.held.now ++ c.args.piece.now) c.byte_across.result c.byte_across-2.result
    c.byte_across-3.result c.byte_across-4.result long
    c.byte_across.ensures c.byte_across-2.ensures c.byte_across-3.ensures c.byte_across-4.ensures c.is_fault.ensures
