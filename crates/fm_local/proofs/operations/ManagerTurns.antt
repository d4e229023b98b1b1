-- A manager that makes turn after turn of an operation carries it to its end.
use Rattle.fm_filter.specs.declared.minifilter.Minifilter as filter
use Rattle.fm_base.specs.declared.base.Base as base
use Rattle.fm_local.proofs.Words.{◌≡◌, ◌≤◌, Completion, Data, Folder, Parts, OpId, Option, PostVerdict, PreVerdict, WorkerId, suc, ℕ, ◌+◌, ◌∙◌}
use Rattle.fm_local.proofs.Words.{ap, arith, refl, subst, sym, ArePlainFilters, IsBegun, IsDoneAt, BasesCarry, numbered, Filters, Turn}
use Rattle.fm_local.specs.Actions.{CarriesIn, HasTurned, ResumesNone, TurnsAs}
use Rattle.fm_local.proofs.operations.TurnCount.{goes_on, ends_so, never_held, few_turns}

module _ {F B : Type 0} (own : filter.Ghosts F) (below : base.Ghosts B) (k : WorkerId) (o : OpId) where
  -- all but what a turn may change is as it was
  abbrev pub Keeps : Parts F B → Parts F B → Type 0
  Keeps old new = new ≡ record old { work = new.work; bases = new.bases; trace = new.trace; leaks = new.leaks }

  -- what a turn promises
  abbrev pub TurnPromises : Parts F B → Turn → Parts F B → Type 0
  TurnPromises old ended new =
      ArePlainFilters own.pre_may own.post_may own.is_quiet (numbered old.filters)
      → TurnsAs own.pre_may own.post_may (BasesCarry below.folder below.faults) (numbered old.filters) k o old.work.state
      old.bases.all.items ended new.work.state new.bases.all.items

  abbrev pub Calm : Parts F B → Parts F B → Type 0
  Calm old new = ResumesNone own below k old new

  -- so many turns were made
  pub record HasGone (old : Parts F B) (n : ℕ) (now : Parts F B) : Type 0 where
    pub kept : Keeps old now
    pub calm : Calm old now
    pub turned : ArePlainFilters own.pre_may own.post_may own.is_quiet (numbered old.filters) → IsBegun k o old.work.state
        → HasTurned own.pre_may own.post_may (BasesCarry below.folder below.faults) (numbered old.filters) k o n old.work.state
        old.bases.all.items now.work.state now.bases.all.items
    pub at_end : IsDoneAt k o old.work.state → (n ≡ 0) × (now ≡ old)

  pub gone_none : (old : Parts F B) → HasGone old 0 old
  gone_none old = record { kept = refl; calm = λ plain. refl; turned = λ plain began. (refl, refl); at_end = λ done. (refl, refl) }

  module _ (old now new : Parts F B) (n : ℕ) (gone : HasGone old n now) (ended : Turn) (promised : TurnPromises now ended new)
      (calm : Calm now new) (kept : Keeps now new)
      (at_once : IsDoneAt k o now.work.state → (ended ≡ Turn.Done) × (new ≡ now)) where
    same_filters : now.filters ≡ old.filters
    same_filters = ap (λ (m : Parts F B). m.filters) gone.kept

    plain_now : ArePlainFilters own.pre_may own.post_may own.is_quiet (numbered old.filters)
        → ArePlainFilters own.pre_may own.post_may own.is_quiet (numbered now.filters)
    plain_now plain = subst (λ (fs : Filters F). ArePlainFilters own.pre_may own.post_may own.is_quiet (numbered fs)) (sym same_filters) plain

    pub kept_both : Keeps old new
    kept_both = kept ∙ ap (λ (m : Parts F B). record m { work = new.work; bases = new.bases; trace = new.trace; leaks = new.leaks }) gone.kept

    pub calm_both : Calm old new
    calm_both plain = calm (plain_now plain) ∙ gone.calm plain

    turns : ArePlainFilters own.pre_may own.post_may own.is_quiet (numbered old.filters)
        → TurnsAs own.pre_may own.post_may (BasesCarry below.folder below.faults) (numbered old.filters) k o now.work.state
        now.bases.all.items ended new.work.state new.bases.all.items
    turns plain = subst (λ (fs : Filters F). TurnsAs own.pre_may own.post_may (BasesCarry below.folder below.faults)
        (numbered fs) k o now.work.state now.bases.all.items ended new.work.state new.bases.all.items) same_filters
        (promised (plain_now plain))

    -- where nothing was left to do, that was said at once
    pub done_at_once : IsDoneAt k o old.work.state → (ended ≡ Turn.Done) × (new ≡ old)
    done_at_once done =
        let g = gone.at_end done in
        let d = at_once (subst (λ (m : Parts F B). IsDoneAt k o m.work.state) (sym g.1) done) in
        (d.0, d.1 ∙ g.1)

    more_not_done : ended ≡ Turn.Goes → IsDoneAt k o old.work.state → (n + 1 ≡ 0) × (new ≡ old)
    more_not_done is done =
        let clash : Turn.Done ≡ Turn.Goes = sym (done_at_once done).0 ∙ is in
        cc

    -- there is more to do
    pub gone_more : ended ≡ Turn.Goes → HasGone old (n + 1) new
    gone_more is = record {
      kept = kept_both;
      calm = calm_both;
      turned = λ plain began.
          let same : suc n ≡ n + 1 = omega arith in
          subst (λ (j : ℕ). HasTurned own.pre_may own.post_may (BasesCarry below.folder below.faults)
          (numbered old.filters) k o j old.work.state old.bases.all.items new.work.state new.bases.all.items) same
          (goes_on own.pre_may own.post_may own.is_quiet (BasesCarry below.folder below.faults)
          (numbered old.filters) plain k o old.work.state began n old.bases.all.items now.work.state now.bases.all.items
          new.work.state new.bases.all.items
          (gone.turned plain began)
          (subst (λ (t : Turn). TurnsAs own.pre_may own.post_may (BasesCarry below.folder below.faults)
          (numbered old.filters) k o now.work.state now.bases.all.items t new.work.state new.bases.all.items) is (turns plain)));
      at_end = more_not_done is;
    }

    -- it ended
    by_end : (t : Turn) → ended ≡ t → (t ≡ Turn.Goes → ⊥) → CarriesIn own below k o old t new
    by_end Turn.Goes is not plain began = absurd (not refl)
    by_end Turn.Held is not plain began =
        absurd (never_held own.pre_may own.post_may own.is_quiet (BasesCarry below.folder below.faults)
        (numbered old.filters) plain k o old.work.state began n old.bases.all.items now.work.state now.bases.all.items
        new.work.state new.bases.all.items
        (gone.turned plain began)
        (subst (λ (t : Turn). TurnsAs own.pre_may own.post_may (BasesCarry below.folder below.faults)
        (numbered old.filters) k o now.work.state now.bases.all.items t new.work.state new.bases.all.items) is (turns plain)))
    by_end Turn.Done is not plain began =
        let whole =
        ends_so own.pre_may own.post_may own.is_quiet (BasesCarry below.folder below.faults)
        (numbered old.filters) plain k o old.work.state began n old.bases.all.items now.work.state now.bases.all.items
        new.work.state new.bases.all.items
        (gone.turned plain began)
        (subst (λ (t : Turn). TurnsAs own.pre_may own.post_may (BasesCarry below.folder below.faults)
        (numbered old.filters) k o now.work.state now.bases.all.items t new.work.state new.bases.all.items) is (turns plain)) in
        (refl, (n, whole))

    pub gone_to_end : (ended ≡ Turn.Goes → ⊥) → CarriesIn own below k o old ended new
    gone_to_end not = by_end ended refl not

  -- there are never so many turns
  pub gone_too_far : (old now : Parts F B) (n : ℕ) → HasGone old n now → 66 ≤ n → CarriesIn own below k o old Turn.Held now
  gone_too_far old now n gone many plain began =
      let few : n ≤ 65 =
      few_turns own.pre_may own.post_may own.is_quiet (BasesCarry below.folder below.faults)
      (numbered old.filters) plain k o old.work.state began n old.bases.all.items now.work.state now.bases.all.items
      (gone.turned plain began) in
      absurd (omega (arith, few, many))

  pub far_not_done : (old now : Parts F B) (n : ℕ) → HasGone old n now → 66 ≤ n → IsDoneAt k o old.work.state → (Turn.Held ≡ Turn.Done) × (now ≡ old)
  far_not_done old now n gone many done = absurd (omega (arith, (gone.at_end done).0, many))
