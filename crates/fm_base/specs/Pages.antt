-- How the bytes of a file in memory are kept: in pages of 4096 bytes, by their numbers. A page that isn't
-- there, and the end that a page lacks, stand for zeros.
use Rattle.std.specs.Prelude.{◌≡◌, ◌⊎◌, ℕ, ◌+◌, ◌*◌, ◌/◌, ◌%◌, ◌^◌, ◌<◌, ◌≤◌, List, [], ◌++◌, length, take, drop, map, get_or}
use Rattle.std.specs.Option.{unwrap_or}
use Rattle.std.specs.Ordering.{nat_cmp}
use Rattle.std.specs.BTreeMap as tree
use Rattle.std.specs.BTreeMap.{BTreeMap}
use Rattle.std.specs.List.{range_with_len}

-- pages by their numbers
abbrev pub Pages : Type 0
Pages = BTreeMap ℕ (List ℕ)

-- the page of that number, empty where it isn't there
abbrev pub page_of : Pages → ℕ → List ℕ
page_of pages number = unwrap_or (tree.get nat_cmp pages number) []

-- the byte at a place of a page
abbrev pub byte_in : List ℕ → ℕ → ℕ
byte_in page place = get_or page place 0

-- the byte at a place of the file
abbrev pub byte_at : Pages → ℕ → ℕ
byte_at pages place = byte_in (page_of pages (place / 4096)) (place % 4096)

-- as many bytes of the file as it is long
abbrev pub contents : ℕ → Pages → List ℕ
contents size pages = map (byte_at pages) (range_with_len 0 size)

-- behind the file's end the pages have zeros alone
pub record IsZeroFrom (size : ℕ) (pages : Pages) : Type 0 where
  pub past : (number place : ℕ) → place < 4096 → size ≤ 4096 * number + place → byte_in (page_of pages number) place ≡ 0

-- a file is no longer than operations may make it
pub record IsStored (size : ℕ) (pages : Pages) : Type 0 where
  pub small : size ≤ 2 ^ 40
  pub zeros : IsZeroFrom size pages

-- the pages have the same bytes as before
abbrev pub SameBytes : Pages → Pages → Type 0
SameBytes old new = (number place : ℕ) → byte_in (page_of new number) place ≡ byte_in (page_of old number) place

-- no page is shorter than before
abbrev pub NoneShorter : Pages → Pages → Type 0
NoneShorter old new = (number : ℕ) → length (page_of old number) ≤ length (page_of new number)

-- the pages are long enough to be written from one place of the file up to another
abbrev pub HasRoom : ℕ → ℕ → Pages → Type 0
HasRoom from end pages = (number place : ℕ) → place < 4096 → from ≤ 4096 * number + place → 4096 * number + place < end
    → place < length (page_of pages number)

-- a page with some of its bytes overwritten from a place on
abbrev pub overwritten : ℕ → List ℕ → List ℕ → List ℕ
overwritten from bytes page = take from page ++ bytes ++ drop (from + length bytes) page

-- bytes were written over what lay from a place of the file on
pub record Overwrites (offset : ℕ) (bytes : List ℕ) (old new : Pages) : Type 0 where
  pub inside : (number place k : ℕ) → place < 4096 → k < length bytes → offset + k ≡ 4096 * number + place
      → byte_in (page_of new number) place ≡ get_or bytes k 0
  pub outside : (number place : ℕ) → place < 4096 → (4096 * number + place < offset) ⊎ (offset + length bytes ≤ 4096 * number + place)
      → byte_in (page_of new number) place ≡ byte_in (page_of old number) place

-- the bytes from the new end on were taken away
pub record Cuts (size : ℕ) (old new : Pages) : Type 0 where
  pub below : (number place : ℕ) → place < 4096 → 4096 * number + place < size
      → byte_in (page_of new number) place ≡ byte_in (page_of old number) place
  pub past : (number place : ℕ) → place < 4096 → size ≤ 4096 * number + place → byte_in (page_of new number) place ≡ 0
