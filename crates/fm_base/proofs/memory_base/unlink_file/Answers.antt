use Rattle.fm_base.proofs.Words.{folder_of, sym, ap, Ok}
use Rattle.std.proofs.Common.{◌∙◌}
use Rattle.fm_base.proofs.Files.{unlinked_at, one_gone}
use Rattle.fm_base.proofs.memory_base.unlink_file.Goals as goal

pub returns-in-Some-clause-makes : goal.returns-in-Some-clause-makes
returns-in-Some-clause-makes c =
    unlinked_at c.args.path.now _ _ (sym c.in-Some.ensures.value) ∙ ap Ok (sym (one_gone _ _ c.args.path.now c.in-Some.ensures.updates.0))

pub returns-in-None-clause-makes : goal.returns-in-None-clause-makes
returns-in-None-clause-makes c = (unlinked_at c.args.path.now _ _ (sym c.in-None.ensures.value), ap folder_of c.in-None.ensures.unchanged)
