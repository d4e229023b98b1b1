use Rattle.fm_wire.proofs.Bytes.{taken_u32}
use Rattle.fm_wire.proofs.numbers.split_u32.Goals as goal

pub returns-clause-spelled : goal.returns-clause-spelled
returns-clause-spelled c =
    let cases = rw c.unwrap.ensures at c.split_first_chunk.ensures.cases in
    taken_u32 c.from_be_bytes.result c.args.fields.now c.unwrap.result.0.now c.unwrap.result.1.now c.type_inv.fields c.requires cases.0
    cases.1 c.from_be_bytes.ensures
