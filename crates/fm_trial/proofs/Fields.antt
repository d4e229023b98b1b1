-- What stays of a scenario where other fields change.
use Rattle.std.proofs.Common.{◌≡◌, ◌∙◌, List, None, Ok, ℕ, ap, codes, subst, sym, true}
use Rattle.std.specs.Global.{Vec}
use Rattle.fm_types.specs.declared.ids.VolumeId.{VolumeId}
use Rattle.fm_world.specs.Events.{Mounts}
use Rattle.fm_world.specs.World.{empty_world}
use Rattle.fm_local.specs.declared.parts.Parts.{Parts}
use Rattle.fm_local.specs.Offered.{ForgetsReport, HasNoReport, IsNew, MountsAs, SameFilters, world}
use Rattle.fm_trial.specs.declared.scenario.Scenario.{Scenario}
use Rattle.fm_trial.specs.Scenarios.{AsksNothing, IsFresh, Settles}

module _ {F : Type 0} where
  -- a scenario goes on to a line
  pub goes : (old new : Scenario F) → new ≡ record old { reporter = new.reporter; lines = new.lines } → AsksNothing old new
  goes old new same = record {
    manager = ap (λ (s : Scenario F). s.exec) same;
    last = ap (λ (s : Scenario F). s.last) same;
    held = ap (λ (s : Scenario F). s.held) same;
    operates = ap (λ (s : Scenario F). s.operates) same;
  }

  -- a line expects something of it
  pub expects_nothing : (old new : Scenario F) → new ≡ record old { account = new.account; is_heard = true; refused = None } → AsksNothing old new
  expects_nothing old new same = record {
    manager = ap (λ (s : Scenario F). s.exec) same;
    last = ap (λ (s : Scenario F). s.last) same;
    held = ap (λ (s : Scenario F). s.held) same;
    operates = ap (λ (s : Scenario F). s.operates) same;
  }

  pub both : (old mid new : Scenario F) → AsksNothing old mid → AsksNothing mid new → AsksNothing old new
  both old mid new first then = record {
    manager = then.manager ∙ first.manager;
    last = then.last ∙ first.last;
    held = then.held ∙ first.held;
    operates = then.operates ∙ first.operates;
  }

  -- it is settled, and goes on
  pub settles : (old mid new : Scenario F) → Settles old mid → new ≡ record mid { reporter = new.reporter; lines = new.lines } → Settles old new
  settles old mid new settled same =
      let account = ap (λ (s : Scenario F). s.account) same in record {
        unmet = rw account settled.unmet;
        refused = ap (λ (s : Scenario F). s.refused) same ∙ settled.refused;
        heard = ap (λ (s : Scenario F). s.is_heard) same ∙ settled.heard;
        rest = both old mid new settled.rest (goes mid new same);
      }

  -- it begins to be told
  pub begins : (filters : Vec (List ℕ × F)) (old new : Scenario F) → new ≡ record old { reporter = new.reporter } → IsFresh filters old → IsFresh filters new
  begins filters old new same fresh = record {
    handed = ap (λ (s : Scenario F). s.exec.manager.filters.all) same ∙ fresh.handed;
    mounted = subst (λ (s : Scenario F). (volume : VolumeId) × Mounts empty_world (codes "v0") (Ok volume) (world s.exec.manager)) (sym same) fresh.mounted;
    unnoted = subst (λ (s : Scenario F). HasNoReport s.exec.manager) (sym same) fresh.unnoted;
    last = ap (λ (s : Scenario F). s.last) same ∙ fresh.last;
    refused = ap (λ (s : Scenario F). s.refused) same ∙ fresh.refused;
    held = ap (λ (s : Scenario F). s.held.items) same ∙ fresh.held;
    told = ap (λ (s : Scenario F). s.account.told.items) same ∙ fresh.told;
    unmet = ap (λ (s : Scenario F). s.account.unmet) same ∙ fresh.unmet;
    dropped = ap (λ (s : Scenario F). s.account.dropped) same ∙ fresh.dropped;
    operates = ap (λ (s : Scenario F). s.operates) same ∙ fresh.operates;
    heard = ap (λ (s : Scenario F). s.is_heard) same ∙ fresh.heard;
  }

module _ {F B : Type 0} where
  -- a manager that was made, got its volume, and was cleared
  pub is_mounted : (filters : Vec (List ℕ × F)) (made mounted cleared : Parts F B) (name : List ℕ) (volume : VolumeId) → IsNew filters made → name ≡ codes "v0"
      → MountsAs name made (Ok volume) mounted → ForgetsReport mounted cleared → Mounts empty_world (codes "v0") (Ok volume) (world cleared)
  is_mounted filters made mounted cleared name volume new is event forgets =
      subst (λ w. Mounts empty_world (codes "v0") (Ok volume) w) (sym (ap world forgets))
      (subst (λ n. Mounts empty_world n (Ok volume) (world mounted)) is (subst (λ w. Mounts w name (Ok volume) (world mounted)) new.state event))

  pub has_handed : (filters : Vec (List ℕ × F)) (made mounted cleared : Parts F B) → IsNew filters made → SameFilters made mounted → ForgetsReport mounted cleared
      → cleared.filters.all ≡ filters
  has_handed filters made mounted cleared new same forgets =
      ap (λ (m : Parts F B). m.filters.all) forgets ∙ ap (λ f. f.all) same ∙ new.handed
