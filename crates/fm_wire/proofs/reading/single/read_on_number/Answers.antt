use Rattle.fm_wire.proofs.Words.{inl}
use Rattle.fm_wire.proofs.Forms.{number_of_wrong_size}
use Rattle.fm_wire.proofs.reading.single.read_on_number.Goals as goal

pub returns-in-Err : goal.returns-in-Err
returns-in-Err c = let refused = c.in-Err.ensures.refused in inl (refused.0, number_of_wrong_size c.args.code c.args.fields.now c.requires refused.1)
