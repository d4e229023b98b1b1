-- The instances of a filter are torn down one after the other.
use Rattle.fm_filter.specs.declared.minifilter.Minifilter as filter
use Rattle.fm_base.specs.declared.base.Base as base
use Rattle.fm_local.proofs.Words.{◌≡◌, Bool, Completion, Data, FilterId, Folder, InstanceId, List, Parts, Ok, Option, PostVerdict, PreVerdict}
use Rattle.fm_local.proofs.Words.{Result, Status, WorkerId, suc, ℕ, ◌+◌, arith, subst, ContextKind, is_to_go}
use Rattle.fm_local.specs.Actions.{TearsDownEach, TearsDownWhere}

module _ {F B : Type 0} (own : filter.Ghosts F) (below : base.Ghosts B) (k : WorkerId) (most limit : ℕ) (f : FilterId) where
  abbrev Where : Bool → InstanceId → Parts F B → Result (Unit {0}) Status → Parts F B → Type 0
  Where b i old result new = TearsDownWhere own below k most limit f b i old result new

  abbrev Each : ℕ → Parts F B → Parts F B → Type 0
  Each n old new = TearsDownEach own below k most limit f n old new

  pub tears_more : (n : ℕ) (old now new : Parts F B) → Each n old now
      → Where (is_to_go f now.work.state (record { 0 = n })) (record { 0 = n }) now (Ok tt) new → Each (n + 1) old new
  tears_more n old now new each tears =
      let more : suc n ≡ n + 1 = omega arith in
      subst (λ (j : ℕ). Each j old new) more (now, each, tears)
