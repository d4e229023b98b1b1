-- Which mistake is told of what a callback did.
use Rattle.std.specs.Prelude.{Option, Some, None, Bool, ℕ, true, false, nat_eq, ◌&&◌, ◌||◌, List, [], ◌∷◌, bytes_eq, codes, find}
use Rattle.fm_callback_data.specs.declared.verdict.PreVerdict.{PreVerdict}
use Rattle.fm_callback_data.specs.declared.verdict.PreVerdict.TheVariants as verdict
use Rattle.fm_operations.specs.declared.entry.PreState.{PreState}
use Rattle.fm_operations.specs.declared.entry.PreState.TheVariants as state
use Rattle.fm_types.specs.Statuses as statuses
use Rattle.fm_local.specs.declared.refusal.PortCall.{PortCall}
use Rattle.fm_local.specs.declared.refusal.PortCall.TheVariants as call
use Rattle.fm_types.specs.declared.status.Status.{Status}
use Rattle.fm_types.specs.declared.status.Status.TheVariants as status
use Rattle.fm_mistakes.specs.declared.mistake.Mistake.{Mistake}
use Rattle.fm_mistakes.specs.declared.mistake.Mistake.TheVariants as told

-- of a refused call of a port: what was released, set or used without a reference, or let go on without being held; none where a filter may meet that refusal
abbrev pub mistake_of : Status → PortCall → Option Mistake
mistake_of status.NotHeld (call.Release _) = Some told.ReleasedTwice
mistake_of status.NotHeld (call.Set _) = Some told.SetNotReferenced
mistake_of status.NotHeld _ = Some told.NotReferenced
mistake_of status.NotPended _ = Some told.NotHeld
mistake_of _ _ = None

-- what is a limit of the model, and no mistake of the filter
abbrev pub is_limit : Mistake → Bool
is_limit told.CreateCompleted = true
is_limit told.CloseCompleted = true
is_limit told.FixedAnswer = true
is_limit _ = false

-- a reference that a callback left behind
abbrev pub is_leak : Mistake → Bool
is_leak told.Leak = true
is_leak _ = false

-- where something was given back, or let go on, that isn't held
abbrev pub is_misuse : Mistake → Bool
is_misuse told.ReleasedTwice = true
is_misuse told.NotHeld = true
is_misuse _ = false

-- its number
abbrev pub number_of : Mistake → ℕ
number_of told.Leak = 101
number_of told.ReleasedTwice = 102
number_of told.NotReferenced = 103
number_of told.SetNotReferenced = 110
number_of told.HeldToTheEnd = 111
number_of told.NotHeld = 113
number_of told.NoPost = 124
number_of told.StatusNotCompleted = 125
number_of told.CreateCompleted = 221
number_of told.CloseCompleted = 222
number_of told.FixedAnswer = 223

-- as it is told
abbrev pub id_of : Mistake → List ℕ
id_of told.Leak = codes "KZ0101"
id_of told.ReleasedTwice = codes "KZ0102"
id_of told.NotReferenced = codes "KZ0103"
id_of told.SetNotReferenced = codes "KZ0110"
id_of told.HeldToTheEnd = codes "KZ0111"
id_of told.NotHeld = codes "KZ0113"
id_of told.NoPost = codes "KZ0124"
id_of told.StatusNotCompleted = codes "KZ0125"
id_of told.CreateCompleted = codes "KZ0221"
id_of told.CloseCompleted = codes "KZ0222"
id_of told.FixedAnswer = codes "KZ0223"

abbrev pub all_mistakes : List Mistake
all_mistakes =
    told.Leak ∷ told.ReleasedTwice ∷ told.NotReferenced ∷ told.SetNotReferenced ∷ told.HeldToTheEnd ∷ told.NotHeld ∷ told.NoPost
    ∷ told.StatusNotCompleted ∷ told.CreateCompleted ∷ told.CloseCompleted ∷ told.FixedAnswer ∷ []

-- the mistake that is told so
unfoldable pub mistake_read : List ℕ → Option Mistake
mistake_read id = find (λ m. bytes_eq (id_of m) id) all_mistakes

-- whether two statuses are the same
abbrev pub is_same_status : Status → Status → Bool
is_same_status one other = nat_eq (statuses.number_of one) (statuses.number_of other) && nat_eq (statuses.information_of one) (statuses.information_of other)

-- that mistake, but where that is so
abbrev pub unless : Bool → Mistake → Option Mistake
unless true told = None
unless false told = Some told

-- of a preoperation: the verdict that it gave, what counts of it, and whether it left the status that it found
abbrev pub pre_mistake : PreVerdict → Option PreState → Bool → Option Mistake
pre_mistake (verdict.WithCallback _) (Some state.Passed) same = Some told.NoPost
pre_mistake (verdict.Synchronize _) (Some state.Passed) same = Some told.NoPost
pre_mistake (verdict.Complete _) (Some state.Passed) same = Some told.CloseCompleted
pre_mistake (verdict.Complete given) (Some (state.Completed counted)) same = unless (is_same_status given counted) told.CreateCompleted
pre_mistake verdict.Pending _ same = None
pre_mistake _ _ same = unless same told.StatusNotCompleted

-- of a postoperation: whether it left the status that it found, and whether the operation went on with what it left
abbrev pub post_mistake : Bool → Bool → Option Mistake
post_mistake unchanged counted = unless (unchanged || counted) told.FixedAnswer
