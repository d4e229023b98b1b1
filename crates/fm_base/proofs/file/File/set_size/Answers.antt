use Rattle.fm_base.proofs.Words.{resized, contents}
use Rattle.std.proofs.Common.{◌∙◌, ap}
use Rattle.fm_base.specs.declared.file.File.TheInside.{Inside}
use Rattle.fm_base.proofs.Keeping.{cut_contents, grown_contents}
use Rattle.fm_base.proofs.file.File.set_size.Goals as goal
use Rattle.fm_base.proofs.file.File.set_size.Goals.{then-size-self, else-size-self}

pub returns : goal.returns
returns c = elim c.if-size-self.branch [
  | then-size-self w ↦
      ap (λ (file : Inside). contents c.args.size file.pages) w.self-inside-is
      ∙ cut_contents c.self.inside.size c.args.size c.self.inside.pages w.cut.new.pages c.self.invariant.zeros w.cut.ensures
      ∙ ap (resized c.args.size) c.self.view_is
  | else-size-self w ↦
      ap (λ (file : Inside). contents c.args.size file.pages) w.self-inside-is
      ∙ grown_contents c.self.inside.size c.args.size c.self.inside.pages c.self.invariant.zeros ∙ ap (resized c.args.size) c.self.view_is
]
