use Rattle.fm_operations.proofs.Words.{length, ap, arith, times, visited, Descending, FlowRecord}
use Rattle.std.proofs.Common.{◌≡◌, ◌<◌, ◌∙◌, rules}
use Rattle.fm_operations.proofs.Next.{sound_visit}
use Rattle.fm_operations.proofs.Noted.{noted_ask, owed_few}
use Rattle.fm_operations.proofs.Soundness.{at_stage}
use Rattle.fm_operations.proofs.operation_record.OperationRecord.pass_down.Goals as goal

pub invariant_of-self : goal.invariant_of-self
invariant_of-self c =
    let stage = ap (λ (r : FlowRecord). r.stage) c.self.view_is ∙ c.requires.stage in
    let fresh = ap (λ (r : FlowRecord). times c.args.instance.0 (visited r.entries)) c.self.view_is ∙ c.requires.fresh in
    let visits = ap (λ (r : FlowRecord). length (visited r.entries)) c.self.view_is in
    let few : length (visited c.self.inside.entries.items) < 32 = omega (arith, visits, c.requires.few) in
    let place : c.len-place.result ≡ length c.self.inside.kept.items = search rules in
    let end : c.len.result ≡ length c.self.inside.entries.items = search rules in
    let course = (at_stage _ Descending stage c.self.invariant.0).0 in (
      rw (c.push_reserved.ensures.items, place, stage) (sound_visit c.args.worker c.args.instance c.args.completion _ stage fresh few c.self.invariant.0),
      (
        omega arith,
        (
          omega arith,
          (
            c.self.invariant.1.1.1.0,
            (
              c.self.invariant.1.1.1.1.0,
              rw (c.push_reserved.ensures.items, c.note.ensures, end)
                  (noted_ask _ c.self.invariant.1.1.1.1.1 c.args.worker c.args.instance c.args.completion _ course fresh),
            ),
          ),
        ),
      ),
    )

pub note-requires : goal.note-requires
note-requires c =
    let stage = ap (λ (r : FlowRecord). r.stage) c.self.view_is ∙ c.requires.stage in
    let visits = ap (λ (r : FlowRecord). length (visited r.entries)) c.self.view_is in
    let course = (at_stage _ Descending stage c.self.invariant.0).0 in
    let end : c.len.result ≡ length c.self.inside.entries.items = search rules in
    record { room = omega (arith, owed_few Descending _ course c.self.invariant.1.1.1.1.1, visits, c.requires.few); small = omega (arith, end, course.room) }
