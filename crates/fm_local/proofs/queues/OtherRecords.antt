-- What a change of some operations leaves of another: whether nobody is inside it, and whether it has ended.
use Rattle.fm_local.proofs.Words.{[], ◌∷◌, ◌≡◌, Ask, Bool, FlowRecord, FlowTable, List, None, OpId, Option, Some, Stage, false, true, ◌&&◌, ◌++◌, ◌==◌, ◌∙◌, ap, arith}
use Rattle.fm_local.proofs.Words.{changed, find, inl, inr, is_number, operation_at, option_map, owed, subst, sym, true≢false, unwrap_or, cases_Bool, not, ℕ, nat_tests}
use Rattle.std.specs.Option.{option_or}
use Rattle.std.proofs.lemmas.List.Folds.{find-append}
use Rattle.fm_types.proofs.Firsts.{find_unchanged, find_without, find_changed}
use Rattle.fm_operations.specs.Steps.{done_at}
use Rattle.fm_operations.specs.Table.{is_collectable, removed}
use Rattle.fm_local.specs.Waits.{IsEnded, IsLoose, is_between, is_loose}

-- what ended is with nobody
pub ended_loose : (r : FlowRecord) → is_collectable r ≡ true → is_loose r ≡ true
ended_loose r h = by_parts r.collected r.stage (owed r.entries) h
  where
    by_parts : (b : Bool) (s : Stage) (asks : List Ask) → not b && done_at s asks ≡ true → not b && is_between s ≡ true
    by_parts b s asks h = grind arith

-- what stays of an operation
pub record Stays (p : OpId) (t u : FlowTable) : Type 0 where
  pub loose : IsLoose t p → IsLoose u p
  pub ended : IsEnded t p → IsEnded u p

-- it is told of the record alone
pub by_record : (p : OpId) (t u : FlowTable) → operation_at p u ≡ operation_at p t → Stays p t u
by_record p t u same = record {
  loose = λ h. ap (λ m. unwrap_or (option_map is_loose m) false) same ∙ h;
  ended = λ h. ap (λ m. unwrap_or (option_map is_collectable m) false) same ∙ h;
}

pub by_same : (p : OpId) (t u : FlowTable) → u ≡ t → Stays p t u
by_same p t u same = by_record p t u (ap (operation_at p) same)

-- numbers that differ
apart : (p o : OpId) → (p.0 == o.0) ≡ false → (r : FlowRecord) → is_number o r ≡ true → is_number p r ≡ false
apart p o differ r is = grind (arith, nat_tests)

pub others_changed : (p o : OpId) (f : FlowRecord → FlowRecord) (t : FlowTable) → (p.0 == o.0) ≡ false → ((r : FlowRecord) → (f r).number.0 ≡ r.number.0)
    → operation_at p (changed o f t) ≡ operation_at p t
others_changed p o f t differ same =
    find_unchanged (is_number o) (is_number p) f t.operations (λ r is. (apart p o differ r is, ap (λ n. n == p.0) (same r) ∙ apart p o differ r is))

pub others_removed : (p o : OpId) (t : FlowTable) → (p.0 == o.0) ≡ false → operation_at p (removed o t) ≡ operation_at p t
others_removed p o t differ = find_without (is_number o) (is_number p) t.operations (apart p o differ)

pub same_number : (a b : ℕ) → (a == b) ≡ true → a ≡ b
same_number a b h = grind (arith, nat_tests)

-- the operation itself, or another
pub by_number : (P : OpId → Type 0) (o p : OpId) → P o → ((p.0 == o.0) ≡ false → P p) → P p
by_number P o p here other = elim (cases_Bool (p.0 == o.0)) [
  | inl e ↦ subst P (ap (λ n. record { 0 = n }) (sym (same_number p.0 o.0 e))) here
  | inr e ↦ other e
]

-- where somebody is inside the operation that changes, or a filter holds it, no other one changes
pub busy_changed : (p o : OpId) (r : FlowRecord) (f : FlowRecord → FlowRecord) (t : FlowTable) → operation_at o t ≡ Some r
    → is_loose r ≡ false → ((x : FlowRecord) → (f x).number.0 ≡ x.number.0)
    → Stays p t (changed o f t)
busy_changed p o r f t at busy same =
    by_number (λ q. Stays q t (changed o f t)) o p
    (record { loose = λ h. absurd (not_loose h); ended = λ h. absurd (not_loose (loosely h)) })
    (λ differ. by_record p t (changed o f t) (others_changed p o f t differ same))
  where
    not_loose : IsLoose t o → ⊥
    not_loose h = true≢false (sym h ∙ ap (λ m. unwrap_or (option_map is_loose m) false) at ∙ busy)

    loosely : IsEnded t o → IsLoose t o
    loosely h = ap (λ m. unwrap_or (option_map is_loose m) false) at ∙ ended_loose r (sym (ap (λ m. unwrap_or (option_map is_collectable m) false) at) ∙ h)

-- an operation that changes so that it is told as before
pub alike_changed : (p o : OpId) (r : FlowRecord) (f : FlowRecord → FlowRecord) (t : FlowTable) → operation_at o t ≡ Some r
    → ((x : FlowRecord) → (f x).number.0 ≡ x.number.0)
    → (is_loose r ≡ true → is_loose (f r) ≡ true) → (is_collectable r ≡ true → is_collectable (f r) ≡ true) → Stays p t (changed o f t)
alike_changed p o r f t at same loose ended =
    by_number (λ q. Stays q t (changed o f t)) o p
    (record {
      loose = λ h. ap (λ m. unwrap_or (option_map is_loose m) false) there ∙ loose (sym (ap (λ m. unwrap_or (option_map is_loose m) false) at) ∙ h);
      ended = λ h. ap (λ m. unwrap_or (option_map is_collectable m) false) there ∙ ended (sym (ap (λ m. unwrap_or (option_map is_collectable m) false) at) ∙ h);
    })
    (λ differ. by_record p t (changed o f t) (others_changed p o f t differ same))
  where
    there : operation_at o (changed o f t) ≡ Some (f r)
    there = find_changed (is_number o) f t.operations (λ x. ap (λ n. n == o.0) (same x)) ∙ ap (option_map f) at

-- an operation whose answer was handed out goes
pub spent_removed : (p o : OpId) (r : FlowRecord) (t : FlowTable) → operation_at o t ≡ Some r → r.collected ≡ true → Stays p t (removed o t)
spent_removed p o r t at spent =
    by_number (λ q. Stays q t (removed o t)) o p
    (record { loose = λ h. absurd (not_loose h); ended = λ h. absurd (not_loose (loosely h)) })
    (λ differ. by_record p t (removed o t) (others_removed p o t differ))
  where
    busy : is_loose r ≡ false
    busy = ap (λ b. not b && is_between r.stage) spent

    not_loose : IsLoose t o → ⊥
    not_loose h = true≢false (sym h ∙ ap (λ m. unwrap_or (option_map is_loose m) false) at ∙ busy)

    loosely : IsEnded t o → IsLoose t o
    loosely h = ap (λ m. unwrap_or (option_map is_loose m) false) at ∙ ended_loose r (sym (ap (λ m. unwrap_or (option_map is_collectable m) false) at) ∙ h)

-- one more operation comes behind the others
pub one_more : (p : OpId) (x : FlowRecord) (t : FlowTable) (n : ℕ) → Stays p t (record { operations = t.operations ++ x ∷ []; next = n })
one_more p x t n = record {
  loose = λ h. ap (λ m. unwrap_or (option_map is_loose m) false) (find-append (is_number p) t.operations (x ∷ []))
      ∙ first is_loose (find (is_number p) t.operations) _ h;
  ended = λ h. ap (λ m. unwrap_or (option_map is_collectable m) false) (find-append (is_number p) t.operations (x ∷ []))
      ∙ first is_collectable (find (is_number p) t.operations) _ h;
}
  where
    first : (test : FlowRecord → Bool) (a b : Option FlowRecord) → unwrap_or (option_map test a) false ≡ true
        → unwrap_or (option_map test (option_or a b)) false ≡ true
    first test None b h = cc
    first test (Some r) b h = h
