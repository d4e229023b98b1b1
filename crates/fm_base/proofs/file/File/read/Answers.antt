use Rattle.fm_base.proofs.Words.{range_with_len, byte_at}
use Rattle.std.specs.Prelude.{◌≡◌, ℕ, ◌-◌, min, List, take, drop, map}
use Rattle.std.proofs.Common.{◌∙◌, ap, arith}
use Rattle.fm_base.proofs.Keeping.{read_run}
use Rattle.fm_base.proofs.file.File.read.Goals as goal

pub returns : goal.returns
returns c =
    let size = c.self.inside.size in
    let pages = c.self.inside.pages in
    let counted : c.min-count.result ≡ min (size - c.args.offset) c.args.len = omega arith in
    c.from_vec.ensures ∙ c.in_ok-copy.ensures ∙ ap (λ (n : ℕ). map (byte_at pages) (range_with_len c.args.offset n)) counted
    ∙ read_run size c.args.offset c.args.len pages c.self.invariant.zeros
    ∙ ap (λ (bytes : List ℕ). take c.args.len (drop c.args.offset bytes)) c.self.view_is
