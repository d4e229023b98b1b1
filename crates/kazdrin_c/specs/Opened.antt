-- The session of an open handle, new and before and after a call.
use Rattle.std.specs.Prelude.{◌≡◌, ◌≢◌, ℕ, Option, Some, None, replicate}
use Rattle.std.specs.FinMap.{empty}
use Rattle.fm_world.specs.World.{empty_world}
use Rattle.fm_session.specs.declared.lent.Lent.TheVariants as lent
use Rattle.kazdrin_c.specs.declared.host.SessionHost.{SessionHost}
use Rattle.kazdrin_c.specs.declared.handle.Kazdrin.{Kazdrin}

-- both are there, and the event leads from one to the other
abbrev pub Opened : Option SessionHost → Option SessionHost → (SessionHost → SessionHost → Type 0) → Type 0
Opened (Some old) (Some new) Event = Event old new
Opened _ _ Event = ⊥

-- on a handle that is open its session goes through an event, and it stays open; one that isn't is refused with 35, and nothing changes
abbrev pub CallsOn : Kazdrin → ℕ → Kazdrin → (SessionHost → SessionHost → Type 0) → Type 0
CallsOn old result new Event =
    (old.is_open ≡ 1 → Opened old.kept.host new.kept.host Event × (new.is_open ≡ 1)) × (old.is_open ≢ 1 → (result ≡ 35) × (new ≡ old))

-- a session before its first event, with 48 workers that were lent nothing, and eight empty file systems
pub record IsFresh (host : SessionHost) : Type 0 where
  pub world : host.session.world ≡ empty_world
  pub lent : host.session.lent ≡ replicate 48 lent.Nothing
  pub folders : host.devices ≡ replicate 8 empty

abbrev pub HasFresh : Option SessionHost → Type 0
HasFresh None = ⊥
HasFresh (Some host) = IsFresh host
