use Rattle.std.proofs.Common.{sym}
use Rattle.fm_base.proofs.Keeping.{length-contents}
use Rattle.fm_base.proofs.file.File.size.Goals as goal

pub returns : goal.returns
returns c = rw (← c.self.view_is) (sym (length-contents c.self.inside.size c.self.inside.pages))
