use Rattle.std.proofs.Common.{◌∙◌}
use Rattle.fm_operations.proofs.Words.{refl, true, Some, FlowRecord, StandsAt, MayLieBelowOf, Descending, with_visit, sym}
use Rattle.fm_operations.proofs.Flows.{uncounted, found, changed_some, said_there, kept_set, stands_some, sound_now}
use Rattle.fm_operations.specs.declared.action.Below.TheVariants as below
use Rattle.fm_operations.specs.declared.entry.PreState.TheVariants as pre
use Rattle.fm_operations.proofs.Follows.{follows_more, may_enter}
use Rattle.fm_operations.proofs.Soundness.{stays_so, unspent}
use Rattle.fm_operations.proofs.Next.{sound_visit}
use Rattle.fm_operations.proofs.Passing.{visit_comes, visit_uncreated}
use Rattle.fm_operations.proofs.flow.Flow.pass_down.Goals as goal

pub standing-place-requires : goal.standing-place-requires
standing-place-requires c = record {
  there = stands_some Descending c.args.number c.self.view_is c.deref.ensures.value
      c.requires.stage;
  ascending = rw c.deref.ensures.value c.self.invariant.0.ascending;
}

pub pass_down-requires : goal.pass_down-requires
pass_down-requires c =
    let there = found c.args.number c.self.view_is (sym c.standing-place.ensures) c.deref.ensures.value refl
    c.as_mut-operation.ensures.value c.index_mut.ensures.value in
    let lies = said_there there (MayLieBelowOf (below.Instance c.args.instance true)) c.requires.lies in
    record { stage = said_there there (StandsAt Descending) c.requires.stage; fresh = lies.0; few = lies.1 }

pub invariant_of-self : goal.invariant_of-self
invariant_of-self c =
    let there = found c.args.number c.self.view_is (sym c.standing-place.ensures) c.deref.ensures.value refl
    c.as_mut-operation.ensures.value c.index_mut.ensures.value in
    let lies = said_there there (MayLieBelowOf (below.Instance c.args.instance true)) c.requires.lies in
    let stage = said_there there (StandsAt Descending) c.requires.stage in
    let d = c.as_mut-operation.result.now in
    let f : FlowRecord → FlowRecord = with_visit c.args.worker c.args.instance (pre.Asked c.args.completion) in
    kept_set there c.self.invariant f c.pass_down.ensures (λ r. stays_so refl refl)
    (λ h. sound_visit c.args.worker c.args.instance c.args.completion d stage lies.0 lies.1 h)
    (λ h needed. unspent d (f d) (stays_so refl refl) (rw stage refl) h)
    (uncounted c.self.inside.creates d c.pass_down.new.self
    (visit_uncreated c.args.worker c.args.instance c.args.completion d c.pass_down.new.self stage c.pass_down.ensures))
    (follows_more (Some c.args.instance) c.enters.ensures.table c.enters.ensures.after
    (visit_comes c.args.worker c.args.instance c.args.completion d stage lies.0 (sound_now there c.self.invariant) c.pass_down.ensures))

pub enters-requires : goal.enters-requires
enters-requires c =
    let there = found c.args.number c.self.view_is (sym c.standing-place.ensures) c.deref.ensures.value refl
    c.as_mut-operation.ensures.value c.index_mut.ensures.value in
    let lies = said_there there (MayLieBelowOf (below.Instance c.args.instance true)) c.requires.lies in
    let stage = said_there there (StandsAt Descending) c.requires.stage in
    let d = c.as_mut-operation.result.now in
    let sound = sound_visit c.args.worker c.args.instance c.args.completion d stage lies.0 lies.1 (sound_now there c.self.invariant) in
    may_enter there c.self.invariant (Some c.args.instance) c.pass_down.new.self c.len-count.result (c.len-count.ensures
    ∙ c.self.inside.operations.ok.0) (rw c.pass_down.ensures sound)
    (visit_comes c.args.worker c.args.instance c.args.completion d stage lies.0 (sound_now there c.self.invariant) c.pass_down.ensures)

pub returns : goal.returns
returns c =
    let there = found c.args.number c.self.view_is (sym c.standing-place.ensures) c.deref.ensures.value refl
    c.as_mut-operation.ensures.value c.index_mut.ensures.value in
    changed_some there (with_visit c.args.worker c.args.instance (pre.Asked c.args.completion)) c.pass_down.ensures
