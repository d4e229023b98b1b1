-- The steps on a volume's word. Each is one atomic exchange: what the word becomes, and what the seat then knows of the volume, by the word that
-- it found.
use Rattle.std.specs.Prelude.{◌≡◌, ◌+◌, ◌-◌, ◌%◌, ◌^◌, ◌<◌, ◌==◌, ℕ, Bool, true, cond, nat_lt, bit_or, ⊤}
use Rattle.fm_rundown.specs.declared.view.VolumeView.{VolumeView}

-- the lowest bit of a word says that the volume is closing
abbrev pub is_closing_word : ℕ → Bool
is_closing_word word = word % 2 == 1

-- one pass more and one pass less in a word
abbrev pub one_more : ℕ → ℕ
one_more word = (word + 2) % 2 ^ 64

abbrev pub one_less : ℕ → ℕ
one_less word = (word + (2 ^ 64 - 2)) % 2 ^ 64

-- ---- what a seat knows after a step ----

abbrev pub gained : VolumeView → VolumeView
gained p = record p { held = p.held + 1 }

abbrev pub lost : VolumeView → VolumeView
lost p = record p { held = p.held - 1 }

abbrev pub tried : VolumeView → VolumeView
tried p = record p { tentative = p.tentative + 1 }

abbrev pub undone : VolumeView → VolumeView
undone p = record p { tentative = p.tentative - 1 }

abbrev pub saw_closing : VolumeView → VolumeView
saw_closing p = record p { is_closing = true }

abbrev pub saw_drained : VolumeView → VolumeView
saw_drained p = record p { is_closing = true; is_drained = true }

abbrev pub closed : VolumeView → VolumeView
closed p = record p { is_closing = true; has_closed = true }

abbrev pub took_look : VolumeView → VolumeView
took_look p = record p { looks = p.looks + 1 }

-- a seat holds at most so many passes of a volume
abbrev pub most_passes : ℕ
most_passes = 1000

-- `enter` adds a pass: it is held where the volume isn't closing and the seat has room for it, else tentative
abbrev pub entered : ℕ → VolumeView → VolumeView
entered found p = cond (is_closing_word found) (saw_closing (tried p)) (cond (nat_lt p.held most_passes) (gained p) (tried p))

-- `look` is counted; it sees that the volume is closing, and that it is drained where the word is 1: closing, and no pass
abbrev pub looked : ℕ → VolumeView → VolumeView
looked found p = cond (is_closing_word found) (cond (found == 1) (saw_drained (took_look p)) (saw_closing (took_look p))) (took_look p)

-- ---- the kinds of steps ----

-- what the word becomes, what the seat then knows, and what it has to know before
pub record Kind : Type 1 where
  pub word : ℕ → ℕ
  pub seen : ℕ → VolumeView → VolumeView
  pub may : VolumeView → Type 0

abbrev pub enters : Kind
enters = record { word = one_more; seen = entered; may = λ p. p.tentative ≡ 0 }

abbrev pub undoes : Kind
undoes = record { word = one_less; seen = λ _. undone; may = λ p. 0 < p.tentative }

abbrev pub leaves : Kind
leaves = record { word = one_less; seen = λ _. lost; may = λ p. 0 < p.held }

abbrev pub closes : Kind
closes = record { word = λ word. bit_or word 1; seen = λ _. closed; may = λ _. ⊤ }

abbrev pub looks : Kind
looks = record { word = λ word. word; seen = looked; may = λ _. ⊤ }
