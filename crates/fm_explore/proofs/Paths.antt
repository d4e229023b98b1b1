-- The choices of a run along a path.
use Rattle.std.proofs.Common.{◌≡◌, ◌≤◌, ◌++◌, ◌∷◌, [], ℕ, List, length, slice_index_or, sym, subst, arith}
use Rattle.fm_choice.specs.Trees.{Takes}
use Rattle.fm_choice.specs.declared.choice.Choice.{Choice}
use Rattle.fm_explore.specs.declared.schedule.Chooser.{Chooser}
use Rattle.fm_explore.specs.declared.schedule.Chooser.TheVariants as chooser
use Rattle.fm_explore.specs.declared.schedule.RunOrder.{RunOrder}
use Rattle.fm_explore.specs.Orders.{IsAtEnd, IsFollowed, IsOnPath, IsOnPathOf, IsWanted, TakesSoFar, TookPath}

takes_more : (path : List ℕ) (choices : List Choice) (choice : Choice) → TakesSoFar path choices → choice.taken ≡ slice_index_or path (length choices) 0
    → TakesSoFar path (choices ++ choice ∷ [])
takes_more [] [] choice took wanted = (wanted, tt)
takes_more (x ∷ path) [] choice took wanted = (wanted, tt)
takes_more [] (c ∷ choices) choice took wanted = (took.0, takes_more [] choices choice took.1 wanted)
takes_more (x ∷ path) (c ∷ choices) choice took wanted = (took.0, takes_more path choices choice took.1 wanted)

takes_whole : (path : List ℕ) (choices : List Choice) → TakesSoFar path choices → length path ≤ length choices → Takes path choices
takes_whole [] [] took long = tt
takes_whole [] (c ∷ choices) took long = (took.0, takes_whole [] choices took.1 (omega arith))
takes_whole (x ∷ path) [] took long = absurd (omega (arith, long))
takes_whole (x ∷ path) (c ∷ choices) took long = (took.0, takes_whole path choices took.1 (omega (arith, long)))

pub on_path_more : (c : Chooser) (choices : List Choice) (choice : Choice) → IsOnPathOf c choices → IsWanted c (length choices) choice.taken
    → IsOnPathOf c (choices ++ choice ∷ [])
on_path_more (chooser.Path path) choices choice on wanted = takes_more path.items choices choice on wanted
on_path_more (chooser.Clients clients) choices choice on wanted = tt

took_whole : (c : Chooser) (choices : List Choice) → IsOnPathOf c choices → IsAtEnd c (length choices) → TookPath c choices
took_whole (chooser.Path path) choices on end = takes_whole path.items choices on end
took_whole (chooser.Clients clients) choices on end = tt

on_path_first : (c : Chooser) → IsOnPathOf c []
on_path_first (chooser.Path path) = tt
on_path_first (chooser.Clients clients) = tt

-- nothing was chosen yet
pub on_path_begun : (o : RunOrder) → o.schedule.choices.items ≡ [] → IsOnPath o
on_path_begun o none = subst (IsOnPathOf o.chooser) (sym none) (on_path_first o.chooser)

pub took_path : (o : RunOrder) (c : Chooser) → o.chooser ≡ c → IsOnPath o → IsFollowed o → TookPath c o.schedule.choices.items
took_path o c same on end = subst (λ (d : Chooser). TookPath d o.schedule.choices.items) same (took_whole o.chooser o.schedule.choices.items on end)
