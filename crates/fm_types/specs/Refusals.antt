-- How calls answer: which refusal comes first, and what a refusal leaves.
use Rattle.std.specs.Prelude.{◌≡◌, Bool, cond, List, [], ◌∷◌, Option, Some, None, Result, Ok, Err}
use Rattle.fm_types.specs.declared.status.Status.{Status}
use Rattle.fm_types.specs.declared.status.Status.TheVariants.{NoMemory}

-- the status beside the first test that is true: a call is refused by that one
abbrev pub first_of : List (Bool × Status) → Option Status
first_of [] = None
first_of (test ∷ tests) = cond test.0 (Some test.1) (first_of tests)

-- a call that is given this refusal refuses with that status, and any other only for want of memory
abbrev pub IsRefusalOrMemory : Option Status → Status → Type 0
IsRefusalOrMemory (Some refusal) status = status ≡ refusal
IsRefusalOrMemory None status = status ≡ NoMemory

-- the call succeeds exactly where nothing refuses it; a refusal changes nothing
abbrev pub Answers : {T W : Type 0} → Option Status → Result T Status → W → W → (T → Type 0) → Type 0
Answers refusal (Ok value) old new Effect = (refusal ≡ None) × Effect value
Answers refusal (Err status) old new Effect = (refusal ≡ Some status) × (new ≡ old)

-- the same for a call that takes memory: where nothing else refuses it, memory may
abbrev pub AnswersOrMemory : {T W : Type 0} → Option Status → Result T Status → W → W → (T → Type 0) → Type 0
AnswersOrMemory refusal (Ok value) old new Effect = (refusal ≡ None) × Effect value
AnswersOrMemory refusal (Err status) old new Effect = IsRefusalOrMemory refusal status × (new ≡ old)

-- the same for a call whose refusals have effects of their own
abbrev pub AnswersWith : {T : Type 0} → Option Status → Result T Status → (T → Type 0) → (Status → Type 0) → Type 0
AnswersWith refusal (Ok value) Effect Refused = (refusal ≡ None) × Effect value
AnswersWith refusal (Err status) Effect Refused = (refusal ≡ Some status) × Refused status
