-- Chains whose callbacks and whose base are functions.
use Rattle.std.specs.Prelude.{◌≡◌, List, Option, ℕ}
use Rattle.fm_local.specs.Words.{BaseCall, Data, Completion, PostVerdict, PreVerdict, Answer, Params, StackWorld}
use Rattle.fm_local.specs.Folds.{Chain, Folds}
use Rattle.fm_local.specs.Chains.{Under, Subject, chain_of}

-- whatever is asked, there is one answer at most, and one end
pub record IsFunctional {W : Type 0} (chain : Chain W) : Type 0 where
  pub pre : (i : ℕ) (given : Data) (x y : PreVerdict) (a b : Data) → chain.pre_may i given x a → chain.pre_may i given y b → (x ≡ y) × (a ≡ b)
  pub post : (i : ℕ) (given : Data) (completion : Completion) (x y : PostVerdict) (a b : Data)
      → chain.post_may i given completion x a → chain.post_may i given completion y b → (x ≡ y) × (a ≡ b)
  pub base : (p : Params) (old : W) (x y : Answer) (a b : W) → chain.base_may p old x a → chain.base_may p old y b → (x ≡ y) × (a ≡ b)

-- where all callbacks and the base are functions, a fold has one answer and one end
abbrev pub OneFold : {F D : Type 0} → (F → Data → PreVerdict → Data → Type 0) → (F → Data → Completion → PostVerdict → Data → Type 0)
    → (D → BaseCall → Answer → D → Type 0) → Type 0
OneFold {F} {D} pre post carries =
    (filters : ℕ → Option F) (s : StackWorld) (x : Subject) (is : List ℕ) (p : Params) (old : Under D) (answer other : Answer) (new end : Under D)
    → IsFunctional (chain_of pre post carries filters s x)
    → Folds (chain_of pre post carries filters s x) is p old answer new → Folds (chain_of pre post carries filters s x) is p old other end
    → (answer ≡ other) × (new ≡ end)
