-- The count of all contexts, after each change of one slot.
use Rattle.fm_ctx.proofs.Words.{ℕ, true, false, List, [], length, set, slice_get, Some, subst, arith, nat_tests}
use Rattle.fm_ctx.proofs.Words.{slice_get_within, get_or_from_slice_get}
use Rattle.fm_ctx.proofs.Words.{get_or-le-sum_by, sum_by-set, All-set, one, Tally}
use Rattle.std.proofs.Common.{◌≡◌, ◌+◌, ◌<◌, ◌≤◌, ◌∷◌, ◌++◌, ◌^◌, sum_by}
use Rattle.std.proofs.lemmas.List.Elements.{All-push}
use Rattle.std.proofs.lemmas.List.Sums.{sum_by_push, sum_by-le}
use Rattle.fm_types.proofs.Lists.{all_at, count_by-push}
use Rattle.fm_ctx.specs.Births.{last_generation}
use Rattle.fm_ctx.specs.Generations.{Life, IsAccount, is_living, begun, ended}

-- no slots
pub account_none : {tally : Tally} → tally.born ≡ 0 → tally.living ≡ 0 → IsAccount [] tally
account_none born living = record { young = λ k d within. absurd (omega (arith, within)); born = born; opened = living }

-- a new slot
abbrev pub first_life : Life
first_life = record { generation = 0; is_cleaned = false }

pub account_new : {lives : List Life} {tally : Tally} → IsAccount lives tally → IsAccount (lives ++ first_life ∷ []) (begun tally)
account_new {lives} a = record {
  young = All-push (λ (l : Life). l.generation ≤ last_generation) lives first_life a.young (omega arith);
  born = omega (arith, a.born, sum_by_push (λ (l : Life). l.generation + 1) lives first_life);
  opened = omega (arith, a.opened, count_by-push is_living lives first_life);
}

-- ---- a slot that is there

-- what one number of each slot sums up to
sum_set : (f : Life → ℕ) (lives : List Life) (k : ℕ) (l l' : Life) → slice_get lives k ≡ Some l → sum_by f (set lives k l') + f l ≡ sum_by f lives + f l'
sum_set f lives k l l' there =
    subst (λ (old : Life). sum_by f (set lives k l') + f old ≡ sum_by f lives + f l') (get_or_from_slice_get lives k l l there)
    (sum_by-set f lives k l' l (slice_get_within lives k l there))

module _ {lives : List Life} {tally : Tally} (a : IsAccount lives tally) (k : ℕ) (l : Life) (there : slice_get lives k ≡ Some l) where
  -- a life begins where one has ended
  pub account_again : (g : ℕ) → l.is_cleaned ≡ true → l.generation < last_generation → g ≡ l.generation + 1
      → IsAccount (set lives k (record { generation = g; is_cleaned = false })) (begun tally)
  account_again g over young follows =
      let now : Life = record { generation = g; is_cleaned = false } in
      record {
        young = All-set (λ (x : Life). x.generation ≤ last_generation) lives k now (omega (arith, follows, young)) a.young;
        born = omega (arith, a.born, sum_set (λ (x : Life). x.generation + 1) lives k l now there, follows);
        opened = grind (arith, nat_tests, a.opened, sum_set (λ (x : Life). one (is_living x)) lives k l now there, over);
      }

  -- a life ends
  pub some_living : l.is_cleaned ≡ false → 0 < tally.living
  some_living lives_yet =
      grind (
        arith,
        nat_tests,
        a.opened,
        get_or-le-sum_by (λ (x : Life). one (is_living x)) lives k l,
        slice_get_within lives k l there,
        get_or_from_slice_get lives k l l there,
      )

  pub account_end : l.is_cleaned ≡ false → IsAccount (set lives k (record { generation = l.generation; is_cleaned = true })) (ended tally)
  account_end lives_yet =
      let now : Life = record { generation = l.generation; is_cleaned = true } in
      record {
        young = All-set (λ (x : Life). x.generation ≤ last_generation) lives k now
            (all_at (λ (x : Life). x.generation ≤ last_generation) lives k l a.young there) a.young;
        born = omega (arith, a.born, sum_set (λ (x : Life). x.generation + 1) lives k l now there);
        opened = grind (arith, nat_tests, a.opened, sum_set (λ (x : Life). one (is_living x)) lives k l now there, some_living lives_yet);
      }

-- ---- how many there are

pub few_born : {lives : List Life} {tally : Tally} → IsAccount lives tally → length lives ≤ 65536 → tally.born ≤ 2 ^ 48
unfolding last_generation
few_born {lives} {tally} a few =
    omega (arith, a.born, few, sum_by-le (λ (l : Life). l.generation + 1) (2 ^ 32) lives (λ k d within. omega (arith, a.young k d within)))
