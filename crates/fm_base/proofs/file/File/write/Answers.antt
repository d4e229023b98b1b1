use Rattle.fm_base.proofs.Words.{written, contents}
use Rattle.std.specs.Prelude.{◌≡◌, ℕ, ◌+◌, max, length}
use Rattle.std.proofs.Common.{◌∙◌, ap, arith}
use Rattle.fm_base.proofs.Keeping.{written_file}
use Rattle.fm_base.proofs.file.File.write.Goals as goal

pub returns-clause-ok : goal.returns-clause-ok
returns-clause-ok c =
    let size = c.self.inside.size in
    let bytes = c.args.bytes.now in
    let long : c.max-self-inside.result ≡ max size (c.args.offset + length bytes) = omega arith in
    ap (λ (n : ℕ). contents n c.overwrite.new.pages) long
    ∙ written_file size c.args.offset bytes c.self.inside.pages c.make_room.new.pages c.overwrite.new.pages c.if-is_empty.ensures
    c.self.invariant.zeros c.make_room.ensures.same c.overwrite.ensures
    ∙ ap (written c.args.offset bytes) c.self.view_is
