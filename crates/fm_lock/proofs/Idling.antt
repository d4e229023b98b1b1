-- An idle worker holds nothing.
use Rattle.fm_lock.proofs.Words.{IsSound, World, Place, WorkerId, ap, empty_hand, hand_len, idle_there, is_idle, length, refl, true, worker_at, ◌≡◌}

pub idle_holds_none : (w : World) (k : WorkerId) → IsSound w → is_idle (worker_at w.workers k) ≡ true → hand_len k.0 w ≡ 0
idle_holds_none w k sound idle = ap (λ hand. length hand) (empty_hand w k Place.Idle (idle_there w.workers k idle) refl sound.owned)
