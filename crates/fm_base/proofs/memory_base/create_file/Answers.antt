use Rattle.fm_base.proofs.Words.{created, refl}
use Rattle.fm_base.proofs.Files.{taken, opened, missing, fresh, makes_or_memory}
use Rattle.fm_base.proofs.memory_base.create_file.Goals as goal

pub returns-in-New-clause-makes : goal.returns-in-New-clause-makes
returns-in-New-clause-makes c = (rw c.in-New.is (taken c.args.path.now _ c.if-contains_key.ensures), refl)

pub returns-in-Existing : goal.returns-in-Existing
returns-in-Existing c = record {
  makes = opened c.args.mode c.args.path.now _ c.in-Existing.is c.if-contains_key.ensures;
  sound = λ e. cc;
}

pub returns-in-Existing-mode-clause-makes : goal.returns-in-Existing-mode-clause-makes
returns-in-Existing-mode-clause-makes c = (rw c.in-Existing-mode.is (missing c.args.path.now _ c.if-contains_key.ensures), refl)

pub returns-in-New-mode : goal.returns-in-New-mode
returns-in-New-mode c =
    let wanted = created c.args.mode c.args.path.now in
    let exit = makes_or_memory c.args.path.now wanted _ _ _ c.add_file.result
    (fresh c.args.mode c.args.path.now _ c.in-New-mode.is c.if-contains_key.ensures) c.add_file.ensures.ok c.add_file.ensures.err
    c.add_file.ensures.refused in
    record { makes = exit.0; sound = exit.1 }
