-- Changes of one operation of the table.
use Rattle.fm_core.proofs.Words.{Bool, List, Some, [], ap, arith, cond, inl, inr, refl, sym, ◌∷◌, ◌∙◌, ◌≡◌, FlowRecord, find}
use Rattle.std.proofs.lemmas.Bool.{cases_Bool}
use Rattle.fm_operations.specs.Table.{change_first}

-- two changes that agree on the operation that is found, and one that leaves it as it is
pub change_agrees : (test : FlowRecord → Bool) (f g : FlowRecord → FlowRecord) (rs : List FlowRecord) → ((r : FlowRecord) → find test rs ≡ Some r → f r ≡ g r)
    → change_first test f rs ≡ change_first test g rs
change_agrees test f g [] h = refl
change_agrees test f g (x ∷ rs) h = grind (arith, h, change_agrees test f g rs)

pub change_same : (test : FlowRecord → Bool) (f : FlowRecord → FlowRecord) (rs : List FlowRecord) → ((r : FlowRecord) → find test rs ≡ Some r → f r ≡ r)
    → change_first test f rs ≡ rs
change_same test f [] h = refl
change_same test f (x ∷ rs) h = grind (arith, h, change_same test f rs)

-- one change after another, as one
pub change_twice : (test : FlowRecord → Bool) (f g h : FlowRecord → FlowRecord) (rs : List FlowRecord) → ((r : FlowRecord) → test (f r) ≡ test r)
    → ((r : FlowRecord) → find test rs ≡ Some r → g (f r) ≡ h r) → change_first test g (change_first test f rs) ≡ change_first test h rs
change_twice test f g h [] same whole = refl
change_twice test f g h (x ∷ rs) same whole = elim (cases_Bool (test x)) [
  | inl e ↦
      ap (λ b. change_first test g (cond b (f x ∷ rs) (x ∷ change_first test f rs))) e
      ∙ ap (λ b. cond b (g (f x) ∷ rs) (f x ∷ change_first test g rs)) (same x ∙ e)
      ∙ ap (λ (y : FlowRecord). y ∷ rs) (whole x (ap (λ b. cond b (Some x) (find test rs)) e))
      ∙ sym (ap (λ b. cond b (h x ∷ rs) (x ∷ change_first test h rs)) e)
  | inr e ↦
      ap (λ b. change_first test g (cond b (f x ∷ rs) (x ∷ change_first test f rs))) e
      ∙ ap (λ b. cond b (g x ∷ change_first test f rs) (x ∷ change_first test g (change_first test f rs))) e
      ∙ ap (λ (ys : List FlowRecord). x ∷ ys)
      (change_twice test f g h rs same (λ r at. whole r (ap (λ b. cond b (Some x) (find test rs)) e ∙ at)))
      ∙ sym (ap (λ b. cond b (h x ∷ rs) (x ∷ change_first test h rs)) e)
]
