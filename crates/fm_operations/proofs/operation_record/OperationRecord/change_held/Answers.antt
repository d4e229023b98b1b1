use Rattle.fm_operations.proofs.Words.{ap, sym, subst, arith, refl, and_parts, Some, Data, FlowRecord, last_place, takes}
use Rattle.std.proofs.Common.{◌∙◌}
use Rattle.fm_callback_data.specs.Params.{are_for, is_within_limits}
use Rattle.fm_operations.specs.Noted.{IsBare, received_in}
use Rattle.fm_operations.proofs.Placing.{sound_held, place_fits}
use Rattle.fm_operations.proofs.operation_record.OperationRecord.change_held.Goals as goal

pub receive-received-requires : goal.receive-received-requires
receive-received-requires c = record {
  limits = (and_parts (are_for c.args.self.now.operation c.args.self.now.path c.args.params) (is_within_limits c.args.params) c.requires.fits).1;
  bare = ap (λ (d : Data). d.changed) (subst IsBare c.in-Some.is c.self.invariant.1.1.1.1.0);
}

pub keep_held-requires : goal.keep_held-requires
keep_held-requires c =
    let stage = ap (λ (r : FlowRecord). r.stage) c.self.view_is ∙ c.requires.stage in
    place_fits _ c.last_place.result _ stage c.self.invariant.0 (c.last_place.ensures ∙ ap last_place c.deref.ensures.value) (omega arith)

pub invariant_of-self : goal.invariant_of-self
invariant_of-self c =
    let stage = ap (λ (r : FlowRecord). r.stage) c.self.view_is ∙ c.requires.stage in
    let fits = ap (takes c.args.params) c.self.view_is ∙ c.requires.fits in
    let bare = subst IsBare c.in-Some.is c.self.invariant.1.1.1.1.0 in (
      rw (c.keep_held.ensures.items, c.receive-received.ensures.after, c.receive-received.ensures.before)
          (sound_held c.args.params _ c.in-Some.data.received c.last_place.result stage (ap received_in c.in-Some.is)
          (c.last_place.ensures ∙ ap last_place c.deref.ensures.value) fits c.self.invariant.0),
      (
        omega arith,
        (
          omega arith,
          (c.self.invariant.1.1.1.0, (rw c.receive-received.ensures.after (ap (λ (d : Data). record d { received = c.args.params }) bare), c.self.invariant.1.1.1.1.1)),
        ),
      ),
    )
