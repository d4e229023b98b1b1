use Rattle.fm_base.proofs.Words.{presence_of, sym}
use Rattle.fm_base.proofs.Files.{told_at}
use Rattle.fm_base.proofs.memory_base.look_for_file.Goals as goal

pub returns-in_default : goal.returns-in_default
returns-in_default c = sym (told_at presence_of _ _ _ (sym c.in_default.ensures.value))

pub returns : goal.returns
returns c = sym (told_at presence_of _ _ _ (sym c.in-Some.ensures.value))
