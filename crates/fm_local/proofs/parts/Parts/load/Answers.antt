use Rattle.fm_local.proofs.Words.{Err, Ok, ◌<◌, refl, subst, sym, ℕ, WORKER}
use Rattle.fm_filter.specs.Handed.{place_called}
use Rattle.fm_local.proofs.instances.FilterNumbers.{found_place, noted_numbers, registered_within}
use Rattle.fm_local.proofs.queues.Places.{registered_out}
use Rattle.fm_local.proofs.instances.NoneDue.{none_registered}
use Rattle.fm_local.proofs.instances.Ready.{loaded_ready}
use Rattle.fm_local.proofs.instances.Rest.{registered_calm}
use Rattle.fm_local.proofs.queues.SameOperations as unmoved
use Rattle.fm_local.proofs.queues.ManagerWaits.{same_flow}
use Rattle.fm_local.proofs.parts.Parts.load.Goals as goal

pub returns-in_err-number-clause-ready : goal.returns-in_err-number-clause-ready
returns-in_err-number-clause-ready g c plain ready =
    let old = c.args.self.now in
    let state = c.register.new.self in
    loaded_ready old
    (record old { work = record old.work { state = state } }) ready plain refl refl
    (registered_calm old.work.state c.args.name.now c.registration-registration.result (Err c.in_err-number.field-0.0) state c.in_err-number.ensures.event)

pub returns-clause-ready : goal.returns-clause-ready
returns-clause-ready g c plain ready =
    let old = c.args.self.now in
    let state = c.register.new.self in
    loaded_ready old
    (record old { filters = c.note.new.self; work = record old.work { state = state } }) ready plain c.note.ensures.all refl
    (registered_calm old.work.state c.args.name.now c.registration-registration.result (Ok c.in_ok-number.number) state c.in_ok-number.ensures.event)

pub returns-clause-numbers : goal.returns-clause-numbers
returns-clause-numbers g c =
    let old = c.args.self.now.filters in
    let number = c.in_ok-number.number in
    let within = registered_within c.args.self.now.work.state c.args.name.now c.registration-registration.result number
    c.register.new.self c.in_ok-number.ensures.event in
    noted_numbers old c.note.new.self c.note.ensures.all c.args.name.now number c.in_ok-place.place
    (found_place (place_called c.args.name.now old.all.items) c.in_ok-place.place c.in_ok-place.ensures) c.note.ensures.noted
    (subst (λ (n : ℕ). number.0 < n) (sym c.note.ensures.places) within)

pub returns-in_err-number-clause-between : goal.returns-in_err-number-clause-between
returns-in_err-number-clause-between g c before =
    let event = c.in_err-number.ensures.event in
    record {
      waits = same_flow _ _ _ _ (unmoved.registered c.args.self.now.work.state _ c.args.name.now c.registration-registration.result _ event) before.waits;
      out = registered_out WORKER c.args.self.now.work.state c.args.name.now c.registration-registration.result _ _ event before.out;
      none_due = none_registered WORKER c.args.self.now.work.state c.args.name.now c.registration-registration.result _ _ event before.none_due;
    }

pub returns-clause-between : goal.returns-clause-between
returns-clause-between g c before =
    let event = c.in_ok-number.ensures.event in
    record {
      waits = same_flow _ _ _ _ (unmoved.registered c.args.self.now.work.state _ c.args.name.now c.registration-registration.result _ event) before.waits;
      out = registered_out WORKER c.args.self.now.work.state c.args.name.now c.registration-registration.result _ _ event before.out;
      none_due = none_registered WORKER c.args.self.now.work.state c.args.name.now c.registration-registration.result _ _ event before.none_due;
    }
