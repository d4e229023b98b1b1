-- Where nothing was allocated yet.
use Rattle.fm_ctx.proofs.Words.{ℕ, List, [], Option, None, sym, arith, CtxId, one, references, held, places, context_at, count_in}
use Rattle.fm_ctx.proofs.Words.{carried_of, IsLawful, row_at, IsSound, lit≤, length-replicate, cleans}
use Rattle.std.proofs.Common.{◌≡◌}
use Rattle.std.proofs.lemmas.List.Elements.{All-replicate}
use Rattle.std.proofs.lemmas.List.Folds.{sum_by-replicate}
use Rattle.fm_ctx.specs.Table.{empty_table}
use Rattle.fm_ctx.specs.Kept.{nothing_kept}
use Rattle.fm_ctx.proofs.Bags.{IsSmall, references_none}

none_counted : (c : CtxId) → count_in (carried_of nothing_kept) empty_table c ≡ 0
unfolding context_at carried_of held
none_counted c = omega (arith, sum_by-replicate (λ (hand : List CtxId). references hand c) 48 [], references_none c)

pub lawful_empty : IsLawful (carried_of nothing_kept) empty_table
unfolding context_at places
lawful_empty = record {
  alive = λ c none. none_counted c;
  waits = λ c. let by : Option CtxId → ℕ = λ o. one (cleans c o) in omega (arith, references_none c, sum_by-replicate by 48 None);
  once = λ owner object. lit≤ tt;
  workers = length-replicate {A = List CtxId} 48 [];
  cleaners = length-replicate {A = Option CtxId} 48 None;
  leavers = length-replicate {A = List CtxId} 48 [];
  small = All-replicate IsSmall 48 [] (lit≤ tt);
  few = lit≤ tt;
}

pub sound_empty : IsSound [] nothing_kept
unfolding row_at context_at carried_of
sound_empty = record {
  lawful = lawful_empty;
  counted = λ c. sym (none_counted c);
  bounded = λ c. lit≤ tt;
}
