use Rattle.std.proofs.Common.{◌∙◌}
use Rattle.fm_types.specs.PathFields.{path_text}
use Rattle.fm_types.proofs.Heads.{padded_read, head_number}
use Rattle.fm_types.proofs.path.RelPath.head.Goals as goal

pub returns-clause-value : goal.returns-clause-value
returns-clause-value c = rw (← c.self.view_is) (c.from_be_bytes.ensures ∙ simp (padded_read c.self.invariant.1) (head_number (path_text c.self.inside)))
