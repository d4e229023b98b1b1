use Rattle.std.proofs.Common.{◌≡◌, ◌≤◌, ℕ, arith, inl, subst}
use Rattle.fm_samples.specs.Calls.{ResumesMany}
use Rattle.fm_samples.proofs.common.resume_all.Goals as goal

pub returns-clause-calls : goal.returns-clause-calls
returns-clause-calls g c =
    let count : ℕ = c.loop-gone._gone in
    let most : count ≤ 256 = c.loop-gone.auto._gone-end in
    let full : count ≡ 256 = omega arith in
    inl (subst (λ n. ResumesMany g.P.Port c.args.held n c.args.port.now c.loop-gone.port) full c.loop-gone.invariant.0)
