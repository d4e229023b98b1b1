use Rattle.std.proofs.Common.{◌≡◌, ◌-◌, ◌∙◌, min, length, arith}
use Rattle.fm_script.proofs.Kept.{kept_more}
use Rattle.fm_script.proofs.line.Line.extend.Goals as goal

pub returns : goal.returns
returns c =
    let count : c.min.result ≡ min (4097 - length c.self.inside.kept.items) (length c.args.piece.now) =
    omega (arith, c.min.ensures, c.len-room.ensures, c.self.inside.kept.ok) in
    c.in_ok-extend_from_slice.ensures.items
    ∙ rw (← c.self.view_is) (kept_more 4097 c.self.inside.kept.items c.args.piece.now c.min.result c.self.invariant count)
