use Rattle.fm_operations.proofs.Words.{ap, sym, subst, arith, Some, Data, FlowRecord}
use Rattle.std.proofs.Common.{◌∙◌}
use Rattle.fm_operations.specs.Noted.{IsBare}
use Rattle.fm_operations.proofs.Next.{kept_within, unwinds}
use Rattle.fm_operations.proofs.operation_record.OperationRecord.unwind.Goals as goal

pub invariant_of-self-2 : goal.invariant_of-self-2
invariant_of-self-2 c =
    let stage = ap (λ (r : FlowRecord). r.stage) c.self.view_is ∙ c.requires in
    let back = unwinds c.args.place _ (Some c.in-Some.params) (sym c.unwind.ensures.value ∙ c.in-Some.is) stage in
    let bare = subst IsBare c.in-Some-data.is c.self.invariant.1.1.1.1.0 in (
      rw (c.unwind.ensures.rest, c.receive.ensures.after) (back.sound c.self.invariant.0),
      (
        omega arith,
        (
          omega arith,
          (c.self.invariant.1.1.1.0, (rw c.receive.ensures.after (ap (λ (d : Data). record d { received = c.in-Some.params }) bare), c.self.invariant.1.1.1.1.1)),
        ),
      ),
    )

pub receive-requires : goal.receive-requires
receive-requires c = record {
  limits = kept_within _ c.args.place c.in-Some.params c.self.invariant.0 (sym c.unwind.ensures.value ∙ c.in-Some.is);
  bare = ap (λ (d : Data). d.changed) (subst IsBare c.in-Some-data.is c.self.invariant.1.1.1.1.0);
}
