-- What is put behind the operations that wait, and taken from them, leaves each number there once.
use Rattle.std.proofs.Common.{◌≡◌, ◌++◌, ◌∷◌, [], Bool, false, List, refl, arith}
use Rattle.std.specs.List.{list_any}
use Rattle.std.proofs.lemmas.Bool.{or_parts}
use Rattle.std.proofs.lemmas.List.Folds.{list_any-append}
use Rattle.std.proofs.lemmas.Bool.Decides.{nat_tests}
use Rattle.fm_types.specs.declared.ids.OpId.{OpId}
use Rattle.fm_worker.specs.OpQueues.{is_number, IsOnce}

-- one number isn't the other, and so the other isn't the one
unlike : (o other : OpId) → is_number o other ≡ false → is_number other o ≡ false
unlike o other h = grind (arith, nat_tests, h)

none_pushed : (p : OpId → Bool) (numbers : List OpId) (o : OpId) → list_any p numbers ≡ false → p o ≡ false → list_any p (numbers ++ o ∷ []) ≡ false
none_pushed p numbers o none not_last = rw (list_any-append p numbers (o ∷ [])) rw none rw not_last refl

pub once_put : (o : OpId) (numbers : List OpId) → list_any (is_number o) numbers ≡ false → IsOnce numbers → IsOnce (numbers ++ o ∷ [])
once_put o [] none once = (refl, tt)
once_put o (other ∷ numbers) none once =
    let parts = or_parts (is_number o other) (list_any (is_number o) numbers) none in
    (none_pushed (is_number other) numbers o once.0 (unlike o other parts.0), once_put o numbers parts.1 once.1)
