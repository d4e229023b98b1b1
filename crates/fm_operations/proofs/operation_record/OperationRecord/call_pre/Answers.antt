use Rattle.fm_operations.proofs.Words.{length, ap, subst, arith, times, visited, FlowRecord, HasPath}
use Rattle.std.proofs.Common.{◌≡◌, ◌<◌, ◌∙◌, rules}
use Rattle.fm_operations.proofs.Next.{sound_call_pre}
use Rattle.fm_operations.proofs.Noted.{noted_visit}
use Rattle.fm_operations.proofs.operation_record.OperationRecord.call_pre.Goals as goal

pub invariant_of-self : goal.invariant_of-self
invariant_of-self c =
    let stage = ap (λ (r : FlowRecord). r.stage) c.self.view_is ∙ c.requires.stage in
    let path = subst (λ s. HasPath s c.self.inside.path c.self.inside.lent_path) stage c.self.invariant.1.1.1.0 in
    let fresh = ap (λ (r : FlowRecord). times c.args.instance.0 (visited r.entries)) c.self.view_is ∙ c.requires.fresh in
    let visits = ap (λ (r : FlowRecord). length (visited r.entries)) c.self.view_is in
    let few : length (visited c.self.inside.entries.items) < 32 = omega (arith, visits, c.requires.few) in
    let place : c.len-place.result ≡ length c.self.inside.kept.items = search rules in (
      rw (c.push_reserved.ensures.items, place, c.take.ensures.after)
          (sound_call_pre c.args.worker c.args.instance _ c.in-Some.data.received stage fresh few c.self.invariant.0),
      (
        omega arith,
        (
          omega arith,
          (
            path,
            (rw c.take.ensures.after tt, rw c.push_reserved.ensures.items (noted_visit _ c.self.invariant.1.1.1.1.1 _ _ _)),
          ),
        ),
      ),
    )
