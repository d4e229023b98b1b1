use Rattle.fm_base.proofs.Words.{bytes_from, sym}
use Rattle.fm_base.proofs.Files.{told_at}
use Rattle.fm_base.proofs.memory_base.read_file.Goals as goal

pub returns-in_default-clause-tells : goal.returns-in_default-clause-tells
returns-in_default-clause-tells c = told_at (bytes_from c.args.offset c.args.len) _ _ _ (sym c.in_default.ensures.value)

pub returns-clause-tells : goal.returns-clause-tells
returns-clause-tells c = rw (told_at (bytes_from c.args.offset c.args.len) c.args.path.now _ _ (sym c.in-Some.ensures.value)) c.bytes_of.ensures.tells
