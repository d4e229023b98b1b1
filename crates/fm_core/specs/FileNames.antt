-- Files by their names, and which stream each has.
use Rattle.std.specs.Prelude.{◌≡◌, ℕ, ◌≤◌, ◌==◌, ◌&&◌, ◌++◌, ◌∷◌, [], Bool, IsTrue, List, Option, cond, count_by, find, option_map}
use Rattle.std.specs.Cmp.{IsEquivalence, and_equiv, on_equiv, nat_eq_equiv, unsigned_Decides}
use Rattle.std.specs.Cmp.Lexicographic.{pointwise, bytes_decides, nat_list_eq_equiv}
use Rattle.std.specs.Hash as fed
use Rattle.std.specs.HashMap.{HashMap, get}
use Rattle.fm_types.specs.declared.ids.StreamId.{StreamId}
use Rattle.fm_world.specs.declared.file.FileStream.{FileStream}
use Rattle.fm_world.specs.Files.{is_at_path}
use Rattle.fm_core.specs.declared.file_name.FileName.{FileName}

-- whether two names are of one file
abbrev pub is_same_file : FileName → FileName → Bool
is_same_file f g = (f.volume.0 == g.volume.0) && pointwise ◌==◌ f.path g.path

pub same_file_laws : IsEquivalence is_same_file
same_file_laws = and_equiv (on_equiv (λ (f : FileName). f.volume.0) nat_eq_equiv) (on_equiv (λ (f : FileName). f.path) nat_list_eq_equiv)

-- one file's names are hashed alike
pub fed_alike : (f g : FileName) → IsTrue (is_same_file f g) → fed.u8 f.volume.0 ++ f.path ∷ [] ≡ fed.u8 g.volume.0 ++ g.path ∷ []
fed_alike = (fed.and-Alike (fed.on_Alike (λ (f : FileName). f.volume.0) (fed.same_Alike fed.u8 unsigned_Decides))
    (fed.on_Alike (λ (f : FileName). f.path) (fed.same_Alike (λ (path : List ℕ). path ∷ []) bytes_decides))).fed

-- the name of a stream's file
abbrev pub name_of : FileStream → FileName
name_of x = record { volume = x.volume; path = x.path }

abbrev pub is_file : FileName → FileStream → Bool
is_file f x = is_at_path f.volume f.path x

module _ {S : Type 0} where
  -- the stream of a file
  abbrev pub number_in : HashMap FileName StreamId S → FileName → Option StreamId
  number_in numbers = get is_same_file numbers

  -- one file has that stream from here on, or none
  abbrev pub Notes : HashMap FileName StreamId S → HashMap FileName StreamId S → FileName → Option StreamId → Type 0
  Notes old new f s = (g : FileName) → number_in new g ≡ cond (is_same_file f g) s (number_in old g)

  -- each file has the stream that is found by its name, and no file has two
  pub record AreNamed (xs : List FileStream) (numbers : HashMap FileName StreamId S) : Type 0 where
    pub named : (f : FileName) → number_in numbers f ≡ option_map (λ (x : FileStream). x.number) (find (is_file f) xs)
    pub once : (f : FileName) → count_by (is_file f) xs ≤ 1
