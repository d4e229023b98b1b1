-- Whose hands are out.
use Rattle.std.specs.Prelude.{◌≡◌, ◌==◌, ◌&&◌, ℕ, Bool, true, false, not, List, [], ◌∷◌, Option, position, slice_index_or, slice_set}
use Rattle.std.specs.List.{list_all}
use Rattle.fm_stack.specs.Instances.{same_name}
use Rattle.fm_lock.specs.Views.{HandView, LockedView}
use Rattle.fm_world.specs.Hands.{hand_len}
use Rattle.fm_world.specs.Workers.{is_idle, worker_at}

-- the hands are those that are out, each once
abbrev pub are_hired : List Bool → List HandView → Bool
are_hired hired [] = list_all not hired
are_hired hired (h ∷ hands) = slice_index_or hired h.worker.0 false && are_hired (slice_set hired h.worker.0 false) hands

abbrev pub AreHired : List Bool → List HandView → Type 0
AreHired hired hands = are_hired hired hands ≡ true

-- a hand that may come back: it is out, its worker is idle, and its number is the state's
abbrev pub is_retired : HandView → LockedView → Bool
is_retired h r =
    is_idle (worker_at r.world.workers h.worker) && ((h.held == hand_len h.worker.0 r.world) && slice_index_or r.hired h.worker.0 false)

-- the hand of a worker whose hand was in goes out, and holds nothing
pub record Hires (hand : HandView) (old new : LockedView) : Type 0 where
  pub empty : hand.held ≡ 0
  pub was_in : slice_index_or old.hired hand.worker.0 true ≡ false
  pub out : new ≡ record old { hired = slice_set old.hired hand.worker.0 true }

-- a hand that may come back is in again, and held nothing
pub record Retires (hand : HandView) (old new : LockedView) : Type 0 where
  pub may : is_retired hand old ≡ true
  pub empty : hand.held ≡ 0
  pub back : new ≡ record old { hired = slice_set old.hired hand.worker.0 false }

-- the place of the filter of that name
abbrev pub place_called : {F : Type 0} → List ℕ → List (List ℕ × F) → Option ℕ
place_called {F} name filters = position (λ (row : List ℕ × F). same_name row.0 name) filters
