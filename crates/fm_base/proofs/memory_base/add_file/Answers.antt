use Rattle.fm_base.proofs.Words.{insert, folder_of}
use Rattle.std.proofs.Common.{ap, ◌∙◌}
use Rattle.fm_base.proofs.Files.{one_made}
use Rattle.fm_base.proofs.memory_base.add_file.Goals as goal

pub returns-clause-ok : goal.returns-clause-ok
returns-clause-ok c =
    one_made _ _ c.args.path.now c.new.result c.in_ok-insert.ensures.updates.0
    ∙ ap (insert (folder_of c.args.files.now.entries) c.args.path.now) c.new.ensures
