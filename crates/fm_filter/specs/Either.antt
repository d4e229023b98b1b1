-- One of two filters: a function, or a relation, of each makes one of both.
use Rattle.fm_filter.specs.declared.either.Either.{Either}
use Rattle.fm_filter.specs.declared.either.Either.TheVariants.{Left, Right}

abbrev pub of_either : {A B T : Type 0} → (A → T) → (B → T) → Either A B → T
of_either f g (Left a) = f a
of_either f g (Right b) = g b

abbrev pub OfEither : {A B : Type 0} → (A → Type 0) → (B → Type 0) → Either A B → Type 0
OfEither F G (Left a) = F a
OfEither F G (Right b) = G b
