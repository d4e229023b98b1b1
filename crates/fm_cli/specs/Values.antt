-- What single words stand for.
use Rattle.std.specs.Prelude.{◌≡◌, ℕ, cond, nat_lt, List, Option, Some, None, MatchOption, codes, bytes_eq}
use Rattle.fm_types.specs.Names.{IsName}
use Rattle.fm_types.specs.Paths.{IsPath}
use Rattle.fm_types.specs.declared.operation.CreateMode.{CreateMode}
use Rattle.fm_types.specs.declared.operation.CreateMode.TheVariants.{Existing, New, Always}
use Rattle.fm_altitude.specs.Grammar.{IsAltitude, canonical}
use Rattle.fm_words.specs.Hexadecimal.{IsNoHexadecimal, hex_of}
use Rattle.fm_words.specs.Numbers.{number_read}

-- what comes next, if there is something
infixl 10 ◌>>=◌
abbrev pub ◌>>=◌ : {A B : Type 0} → Option A → (A → Option B) → Option B
(Some x) >>= next = next x
None >>= next = None

-- a number below a limit
abbrev pub number_below : ℕ → List ℕ → Option ℕ
number_below limit word = number_read word >>= λ n. cond (nat_lt n limit) (Some n) None

abbrev pub mode_read : List ℕ → Option CreateMode
mode_read word =
    cond (bytes_eq word (codes "existing")) (Some Existing) (cond (bytes_eq word (codes "new")) (Some New) (cond (bytes_eq word (codes "always")) (Some Always) None))

-- a word is a path, a name, an altitude or bytes, or it isn't
abbrev pub ReadsPath : List ℕ → Option (List ℕ) → Type 0
ReadsPath word r = MatchOption r (IsPath word → ⊥) (λ path. IsPath word × (path ≡ word))

abbrev pub ReadsName : List ℕ → Option (List ℕ) → Type 0
ReadsName word r = MatchOption r (IsName word → ⊥) (λ name. IsName word × (name ≡ word))

abbrev pub ReadsAltitude : List ℕ → Option (List ℕ) → Type 0
ReadsAltitude word r = MatchOption r (IsAltitude word → ⊥) (λ altitude. IsAltitude word × (altitude ≡ canonical word))

abbrev pub ReadsBytes : List ℕ → Option (List ℕ) → Type 0
ReadsBytes word r = MatchOption r (IsNoHexadecimal word) (λ bytes. hex_of bytes ≡ word)
