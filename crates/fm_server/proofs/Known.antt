-- What is known of a sink and a source, step by step.
use Rattle.std.proofs.Common.{◌++◌, ℕ, List, [], Option, Some, None, sym, ◌∙◌, append-nil, refl}
use Rattle.std.proofs.KnownBytes.{Appends-trans, Consumes-trans}
use Rattle.std.specs.Io.KnownBytes.{Appends, Consumes, Keeps}

pub appends_none : (a b : Option (List ℕ)) → Keeps a b → Appends a b []
appends_none None b kept = tt
appends_none (Some x) None kept = absurd kept
appends_none (Some x) (Some y) kept = kept ∙ sym (append-nil x)

pub appends_nothing : (a : Option (List ℕ)) → Appends a a []
appends_nothing None = tt
appends_nothing (Some x) = sym (append-nil x)

pub appends_more : (a b c : Option (List ℕ)) (first second : List ℕ) → Appends a b first → Appends b c second → Appends a c (first ++ second)
appends_more a b c first second p q = Appends-trans a b c first second p q

pub consumes_nothing : (a : Option (List ℕ)) → Consumes a a []
consumes_nothing None = tt
consumes_nothing (Some x) = refl

pub consumes_more : (a b c : Option (List ℕ)) (first second : List ℕ) → Consumes a b first → Consumes b c second → Consumes a c (first ++ second)
consumes_more a b c first second p q = Consumes-trans a b c first second p q
