use Rattle.fm_operations.proofs.Words.{refl, ap, sym, Some, FlowRecord, Ascending}
use Rattle.fm_operations.proofs.Flows.{uncounted, found, changed_some, said_there, kept_set, stands_some, sound_now}
use Rattle.fm_operations.specs.Steps.{passed_up}
use Rattle.fm_operations.specs.Table.{OwesNext}
use Rattle.fm_operations.proofs.Follows.{follows_less, may_leave}
use Rattle.fm_operations.proofs.Soundness.{unspent}
use Rattle.fm_operations.proofs.Passing.{owing_stands, passed_stays, passes_up, sound_up, undone, up_uncreated}
use Rattle.fm_operations.proofs.flow.Flow.pass_up.Goals as goal

pub standing-place-requires : goal.standing-place-requires
standing-place-requires c = record {
  there = stands_some Ascending c.args.number c.self.view_is c.deref.ensures.value (owing_stands c.args.ask _ c.requires.owes);
  ascending = rw c.deref.ensures.value c.self.invariant.0.ascending;
}

pub pass_up-requires : goal.pass_up-requires
pass_up-requires c =
    let there = found c.args.number c.self.view_is (sym c.standing-place.ensures) c.deref.ensures.value refl
    c.as_mut-operation.ensures.value c.index_mut.ensures.value in
    let owes = said_there there (OwesNext c.args.ask) c.requires.owes in
    record { stage = owes.0; next = owes.1; may = c.requires.may }

pub invariant_of-self : goal.invariant_of-self
invariant_of-self c =
    let there = found c.args.number c.self.view_is (sym c.standing-place.ensures) c.deref.ensures.value refl
    c.as_mut-operation.ensures.value c.index_mut.ensures.value in
    let owes = said_there there (OwesNext c.args.ask) c.requires.owes in
    let d = c.as_mut-operation.result.now in
    kept_set there c.self.invariant (passed_up c.args.worker c.args.ask) c.pass_up.ensures (passed_stays c.args.worker c.args.ask)
    (sound_up c.args.worker c.args.ask d owes.0 owes.1 c.requires.may)
    (λ h needed. unspent d (passed_up c.args.worker c.args.ask d) (passed_stays c.args.worker c.args.ask d) (undone c.args.worker c.args.ask d owes.0 owes.1) h)
    (uncounted c.self.inside.creates d c.pass_up.new.self (up_uncreated d c.pass_up.new.self owes.0 (ap (λ (r : FlowRecord). r.stage) c.pass_up.ensures)))
    (follows_less there c.self.invariant (Some c.args.ask.instance) c.leaves.ensures.table c.leaves.ensures.after
    (passes_up c.args.worker c.args.ask d owes.0 owes.1 (sound_now there c.self.invariant) c.pass_up.ensures))

pub leaves-requires : goal.leaves-requires
leaves-requires c =
    let there = found c.args.number c.self.view_is (sym c.standing-place.ensures) c.deref.ensures.value refl
    c.as_mut-operation.ensures.value c.index_mut.ensures.value in
    let owes = said_there there (OwesNext c.args.ask) c.requires.owes in
    may_leave there c.self.invariant (Some c.args.ask.instance) c.pass_up.new.self
    (passes_up c.args.worker c.args.ask c.as_mut-operation.result.now owes.0 owes.1 (sound_now there c.self.invariant) c.pass_up.ensures)

pub returns : goal.returns
returns c =
    let there = found c.args.number c.self.view_is (sym c.standing-place.ensures) c.deref.ensures.value refl
    c.as_mut-operation.ensures.value c.index_mut.ensures.value in
    changed_some there (passed_up c.args.worker c.args.ask) c.pass_up.ensures
