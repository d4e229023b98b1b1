use Rattle.fm_base.proofs.Words.{size_of, sym}
use Rattle.fm_base.proofs.Files.{told_at}
use Rattle.fm_base.proofs.memory_base.size_of_file.Goals as goal

pub returns-in_default : goal.returns-in_default
returns-in_default c = sym (told_at size_of _ _ _ (sym c.in_default.ensures.value))

pub returns : goal.returns
returns c = rw c.size.ensures (sym (told_at size_of _ _ _ (sym c.in-Some.ensures.value)))
