use Rattle.std.proofs.Common.{◌≡◌, ℕ, Option, None, Some, refl}
use Rattle.fm_ctx.proofs.Chains.{chained_none}
use Rattle.fm_ctx.proofs.seats.Seats.new.Goals as goal

none_only : (P : Option ℕ → Type 0) → ((k : ℕ) → P (Some k) → ⊥) → (y : Option ℕ) → P y → y ≡ None
none_only P never None same = refl
none_only P never (Some k) same = absurd (never k same)

pub invariant_of-result : goal.invariant_of-result
invariant_of-result c =
    let all = c.in_ok-vec.ensures.items_if_clones_equal (none_only _ (λ k never. never)) in
    record {
      chained = rw (c.in_ok-with_capacity.ensures.items, c.in_ok-with_capacity-2.ensures.items, all) chained_none;
      nexts_fit = c.in_ok-with_capacity.ensures.capacity;
      seats_fit = c.in_ok-with_capacity-2.ensures.capacity;
    }
