-- What C reads of a manager: its counts, and what a worker holds.
use Rattle.std.specs.Prelude.{◌≡◌, ℕ, length, slice_get}
use Rattle.fm_ctx.specs.Bags.{hand_of, left_of}
use Rattle.fm_ctx.specs.Counting.{born, cleaned_count}
use Rattle.fm_world.specs.World.{World}
use Rattle.kazdrin_c.specs.declared.counts.KazdrinCounts.{KazdrinCounts}
use Rattle.kazdrin_c.specs.declared.event.KazdrinEvent.{KazdrinEvent}
use Rattle.kazdrin_c.specs.declared.host.SessionHost.{SessionHost}
use Rattle.kazdrin_c.specs.declared.told.KazdrinTold.{KazdrinTold}
use Rattle.kazdrin_c.specs.Told.{old_told}

-- contexts that were born and cleaned up, references that callbacks left behind, and those that the worker holds
abbrev pub counts_of : World → ℕ → KazdrinCounts
counts_of w worker = record {
  born = born w.contexts.slots;
  cleaned = cleaned_count w.contexts.slots;
  leaks = w.contexts.leaks;
  held = length (hand_of w.contexts.hands worker);
}

-- the reference at that place of the worker's hand, if it holds so many
abbrev pub held_told : World → ℕ → ℕ → KazdrinTold
held_told w worker place = old_told (slice_get (hand_of w.contexts.hands worker) place)

-- the context at that place among those that the worker's last callback left in its hand, if it left so many
abbrev pub left_told : World → ℕ → ℕ → KazdrinTold
left_told w worker place = old_told (slice_get (left_of w.contexts.left worker) place)

-- kazdrin_counts, kazdrin_held_at and kazdrin_left: nothing changes but what is told
abbrev pub CountsTold : KazdrinEvent → SessionHost → ℕ → SessionHost → KazdrinCounts → Type 0
CountsTold e old result new told = (result ≡ 0) × (new ≡ old) × (told ≡ counts_of old.session.world e.worker)

abbrev pub HeldTold : KazdrinEvent → SessionHost → ℕ → SessionHost → KazdrinTold → Type 0
HeldTold e old result new told = (result ≡ 0) × (new ≡ old) × (told ≡ held_told old.session.world e.worker e.len)

abbrev pub LeftTold : KazdrinEvent → SessionHost → ℕ → SessionHost → KazdrinTold → Type 0
LeftTold e old result new told = (result ≡ 0) × (new ≡ old) × (told ≡ left_told old.session.world e.worker e.len)
