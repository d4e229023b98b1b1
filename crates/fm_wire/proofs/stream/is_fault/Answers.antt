use Rattle.fm_wire.proofs.Streams.{fault_test, too_short}
use Rattle.fm_wire.proofs.stream.is_fault.Goals as goal

pub returns-then-stream-lt4 : goal.returns-then-stream-lt4
returns-then-stream-lt4 c = too_short c.args.stream.now c.if-stream-lt4.true

pub returns : goal.returns
returns c =
    let split = c.split_u32-len.ensures in
    fault_test c.is_body_length.result c.args.stream.now _ _ split.spelled split.small c.is_body_length.ensures
