use Rattle.fm_base.proofs.Writes.{read_back}
use Rattle.fm_base.proofs.laws.write_and_read.Goals as goal

pub returns-clause-back : goal.returns-clause-back
returns-clause-back g c =
    read_back c.args.path.now c.args.offset c.args.bytes.now _ _ c.read.result c.in_ok-write.ensures.makes c.read.ensures.tells
