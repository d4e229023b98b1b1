use Rattle.fm_operations.proofs.Words.{sym, subst, ap}
use Rattle.std.proofs.Common.{◌∙◌}
use Rattle.fm_operations.specs.Counts.{flight}
use Rattle.fm_operations.proofs.Follows.{follows_same}
use Rattle.fm_operations.specs.Drains.{DrainTaken, drained_early}
use Rattle.fm_operations.proofs.Flows.{uncounted, kept_set, sound_now}
use Rattle.fm_operations.proofs.Drains.{lowest_owing, early_told, none_owing, stays_early, sound_early, needed_early, early_uncreated, flies_early}
use Rattle.fm_operations.proofs.flow.Flow.drain_take.Goals as goal

pub returns-in_err-place : goal.returns-in_err-place
returns-in_err-place c =
    subst (λ m. DrainTaken c.args.instance c.args.self.now m c.args.self.now) (sym c.from_residual.ensures)
    (none_owing c.args.instance c.self.view_is c.in_err-place.ensures c.deref.ensures.value)

pub drain_early-completion-requires : goal.drain_early-completion-requires
drain_early-completion-requires c =
    (lowest_owing c.args.instance.0 c.self.view_is c.self.invariant.0.ascending c.in_ok-place.ensures c.deref.ensures.value
    c.as_mut-operation.ensures.value c.index_mut.ensures.value).owing

pub invariant_of-self : goal.invariant_of-self
invariant_of-self c =
    let low = lowest_owing c.args.instance.0 c.self.view_is c.self.invariant.0.ascending c.in_ok-place.ensures c.deref.ensures.value
    c.as_mut-operation.ensures.value c.index_mut.ensures.value in
    kept_set low.there c.self.invariant (drained_early c.args.instance) c.drain_early-completion.ensures.after (stays_early c.args.instance)
    (sound_early c.args.instance c.as_mut-operation.result.now low.owing) (λ h needed. needed_early c.args.instance c.as_mut-operation.result.now low.owing h)
    (uncounted c.self.inside.creates c.as_mut-operation.result.now c.drain_early-completion.new.self
    (early_uncreated c.args.instance _ _ c.drain_early-completion.ensures.after))
    (follows_same (λ j. ap (flight j) c.drain_early-completion.ensures.after
    ∙ flies_early c.args.instance c.as_mut-operation.result.now j low.owing (sound_now low.there c.self.invariant)))

pub returns : goal.returns
returns c =
    early_told c.args.instance
    (lowest_owing c.args.instance.0 c.self.view_is c.self.invariant.0.ascending c.in_ok-place.ensures c.deref.ensures.value
    c.as_mut-operation.ensures.value c.index_mut.ensures.value)
    c.number.ensures c.drain_early-completion.ensures.after c.drain_early-completion.ensures.completion
