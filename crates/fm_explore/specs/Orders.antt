-- The order of a run: who may go on, and who does.
use Rattle.std.specs.Prelude.{◌≡◌, ◌≤◌, ◌+◌, ◌-◌, ◌^◌, ◌++◌, ◌∷◌, [], ◌&&◌, ⊤, ℕ, Bool, false, cond, not, min, nat_eq, nat_le, List, Option, Some, None, length, slice_get, slice_index_or}
use Rattle.fm_choice.specs.declared.choice.Choice.{Choice}
use Rattle.fm_choice.specs.Trees.{Takes}
use Rattle.fm_explore.specs.declared.schedule.Chooser.{Chooser}
use Rattle.fm_explore.specs.declared.schedule.Chooser.TheVariants as chooser
use Rattle.fm_explore.specs.declared.schedule.RunOrder.{RunOrder}
use Rattle.fm_explore.specs.declared.schedule.Schedule.{Schedule}

-- the client that went on last
abbrev pub last_of : Schedule → Option ℕ
last_of s = slice_get s.clients.items (length s.clients.items - 1)

abbrev pub is_last : Option ℕ → ℕ → Bool
is_last None client = false
is_last (Some last) client = nat_eq last client

-- of clients from a number on, those that can go on and didn't go on last
abbrev pub others_of : Option ℕ → ℕ → List Bool → List ℕ
others_of last client [] = []
others_of last client (can ∷ more) = cond (can && not (is_last last client)) (client ∷ others_of last (client + 1) more) (others_of last (client + 1) more)

-- the clients that may go on: the one that went on last comes first, where it can; so many preemptions are behind that at the bound it is alone then
abbrev pub may_go_on : Option ℕ → ℕ → ℕ → List Bool → List ℕ
may_go_on None preemptions bound can = others_of None 0 can
may_go_on (Some last) preemptions bound can = cond (slice_index_or can last false)
    (cond (nat_le bound preemptions) (last ∷ []) (last ∷ others_of (Some last) 0 can))
    (others_of (Some last) 0 can)

abbrev pub options_of : RunOrder → List Bool → List ℕ
options_of order can = may_go_on (last_of order.schedule) order.schedule.preemptions order.bound can

-- the place that a path wants after so many choices: its own option there, and after its end the first one
abbrev pub IsWanted : Chooser → ℕ → ℕ → Type 0
IsWanted (chooser.Path path) made place = place ≡ slice_index_or path.items made 0
IsWanted (chooser.Clients clients) made place = ⊤

-- who goes on where another one went on last that could have gone on is a preemption
abbrev pub preempts : Option ℕ → ℕ → List Bool → ℕ
preempts None client can = 0
preempts (Some last) client can = cond (not (nat_eq last client) && slice_index_or can last false) 1 0

-- a client goes on that is one of the options, at the place that is wanted: that is noted, and counted where it is a preemption
abbrev pub Chooses : List ℕ → List Bool → RunOrder → RunOrder → ℕ → Type 0
Chooses options can old new client = (place : ℕ) × (slice_get options place ≡ Some client) × IsWanted old.chooser (length old.schedule.choices.items) place
    × (new.schedule.choices.items ≡ old.schedule.choices.items ++ record { options = length options; taken = place } ∷ [])
    × (new.schedule.clients.items ≡ old.schedule.clients.items ++ client ∷ [])
    × (new.schedule.preemptions ≡ min (old.schedule.preemptions + preempts (last_of old.schedule) client can) (2 ^ 32 - 1))

-- choices so far are those of a path, and after its end the first options
abbrev pub TakesSoFar : List ℕ → List Choice → Type 0
TakesSoFar path [] = ⊤
TakesSoFar [] (choice ∷ choices) = (choice.taken ≡ 0) × TakesSoFar [] choices
TakesSoFar (option ∷ path) (choice ∷ choices) = (choice.taken ≡ option) × TakesSoFar path choices

abbrev pub IsOnPathOf : Chooser → List Choice → Type 0
IsOnPathOf (chooser.Path path) choices = TakesSoFar path.items choices
IsOnPathOf (chooser.Clients clients) choices = ⊤

abbrev pub IsOnPath : RunOrder → Type 0
IsOnPath order = IsOnPathOf order.chooser order.schedule.choices.items

-- the path is at its end
abbrev pub IsAtEnd : Chooser → ℕ → Type 0
IsAtEnd (chooser.Path path) made = length path.items ≤ made
IsAtEnd (chooser.Clients clients) made = ⊤

abbrev pub IsFollowed : RunOrder → Type 0
IsFollowed order = IsAtEnd order.chooser (length order.schedule.choices.items)

-- a run took its path, and then the first options
abbrev pub TookPath : Chooser → List Choice → Type 0
TookPath (chooser.Path path) choices = Takes path.items choices
TookPath (chooser.Clients clients) choices = ⊤
