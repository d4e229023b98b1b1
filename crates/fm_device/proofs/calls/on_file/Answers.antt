use Rattle.std.proofs.Common.{refl, true}
use Rattle.fm_types.specs.ByteLists.{written}
use Rattle.fm_base.specs.Folders.{created, changed}
use Rattle.fm_device.proofs.Answers.{made_known}
use Rattle.fm_device.proofs.calls.on_file.Goals as goal

pub returns-in-Create-clause-carried : goal.returns-in-Create-clause-carried
returns-in-Create-clause-carried g c = rw (← c.if-not-is_within_limits.ensures, c.in-Create.is, c.done.ensures)
    (made_known c.args.path.now true (created c.in-Create.mode c.args.path.now) _ _ c.create.result c.create.ensures.makes (λ _ _. refl))

pub returns-in-Write-clause-carried : goal.returns-in-Write-clause-carried
returns-in-Write-clause-carried g c = rw (← c.if-not-is_within_limits.ensures, c.in-Write.is, c.done-in-Write.ensures, ← c.as_slice.ensures)
    (made_known c.args.path.now true (changed (written c.in-Write.offset c.as_slice.result.now) c.args.path.now) _ _ c.write.result
    c.write.ensures.makes (λ _ _. refl))
