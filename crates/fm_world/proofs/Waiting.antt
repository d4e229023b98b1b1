-- What keeps an instance from its end waits for its cleanup.
use Rattle.fm_world.proofs.Words.{Headline, keeps_links_by, row_at, InstanceId, Owner, one, owner_at, World, carries, reference_count, Some, ap, arith, false}
use Rattle.fm_world.proofs.Words.{is_some, true, ◌∙◌, ◌≡◌}
use Rattle.fm_world.specs.Words.{is_waiting}
use Rattle.fm_world.specs.ContextEvents.{OwnsOnlyWaiting}

pub waits : (w : World) (i : InstanceId) → Headline w → keeps_links_by (row_at w.stack i) ≡ false → OwnsOnlyWaiting w i
waits w i h none c owned = h.cleaned_once c ∙ waiting (is_some_owned owned) (h.emptied i c none owned)
  where
    is_some_owned : owner_at w.contexts.slots c ≡ Some (Owner.Instance i) → is_some (owner_at w.contexts.slots c) ≡ true
    is_some_owned e = ap is_some e

    waiting : is_some (owner_at w.contexts.slots c) ≡ true → reference_count w c ≡ 0 → one (is_waiting (carries w) w.contexts c) ≡ 1
    waiting there zero = grind arith
