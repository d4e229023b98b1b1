-- What a listener makes of an input that is handed to it line by line, with pauses between.
use Rattle.std.specs.Prelude.{◌≡◌, ◌⊎◌, ◌≤◌, ◌+◌, ◌==◌, ℕ, Bool, true, false, All, List, [], ◌∷◌, ◌++◌, take, Option, Some, None, Result, Ok, Err}
use Rattle.std.specs.Io.KnownBytes.{Consumes, IsAtEnd}
use Rattle.fm_script.specs.declared.script_end.ScriptEnd.{ScriptEnd}
use Rattle.fm_script.specs.declared.script_end.ScriptEnd.TheVariants.{Ended, NoMemory, ReadFault}

-- as much of a line as is handed on
abbrev pub clipped : List ℕ → List ℕ
clipped line = take 4097 line

abbrev pub HasNoFeed : List ℕ → Type 0
HasNoFeed text = All (λ b. (b == 10) ≡ false) text

-- the lines that ended, each with its line feed; the last one is first here, and what is no line is a pause
abbrev pub text_of : List (Option (List ℕ)) → List ℕ
text_of [] = []
text_of (None ∷ before) = text_of before
text_of (Some line ∷ before) = text_of before ++ (line ++ 10 ∷ [])

abbrev pub count_of : List (Option (List ℕ)) → ℕ
count_of [] = 0
count_of (None ∷ before) = count_of before
count_of (Some line ∷ before) = count_of before + 1

-- the first line of a text that has a line feed
abbrev pub IsNext : List ℕ → List ℕ → Type 0
IsNext line rest = (behind : List ℕ) × HasNoFeed line × (rest ≡ line ++ 10 ∷ behind)

-- lines may end so without a line: the reader failed, there are too many of them or of reads, or memory is wanting
abbrev pub Stops : ScriptEnd → Type 0
Stops NoMemory = Unit {0}
Stops ReadFault = Unit {0}
Stops _ = ⊥

-- an end of the lines is that of the whole; after all lines it is the last pause's, if that failed
abbrev pub IsEnd : Result (Unit {0}) ScriptEnd → Result (Unit {0}) ScriptEnd → ScriptEnd → Type 0
IsEnd (Ok _) (Ok _) end = end ≡ Ended
IsEnd (Ok _) (Err fault) end = end ≡ fault
IsEnd (Err fault) rested end = end ≡ fault

-- what takes a line, and what a pause makes, with how that ended
module _ {S : Type 0} (takes : S → List ℕ → Result (Unit {0}) ScriptEnd → S → Type 0) (pauses : S → Result (Unit {0}) ScriptEnd → S → Type 0) where
  -- all lines were taken, and all pauses ended well
  abbrev pub Hears : List (Option (List ℕ)) → S → S → Type 0
  Hears [] old new = new ≡ old
  Hears (None ∷ before) old new = (mid : S) × Hears before old mid × pauses mid (Ok tt) new
  Hears (Some line ∷ before) old new = (mid : S) × Hears before old mid × HasNoFeed line × takes mid (clipped line) (Ok tt) new

  -- the lines that ended in the input were taken, and the rest, which has no line feed, is kept as far as a line is handed on
  pub record Stands (first : S) (input kept : List ℕ) (count : ℕ) (now : S) : Type 0 where
    pub heard : List (Option (List ℕ))
    pub rest : List ℕ
    pub parts : input ≡ text_of heard ++ rest
    pub no_feed : HasNoFeed rest
    pub hears : Hears heard first now
    pub keeps : kept ≡ clipped rest
    pub counts : count ≡ count_of heard
    pub few : count_of heard ≤ 100000

  -- why the lines end before the input does: the next one wasn't taken, a pause failed, or no more were handed on
  abbrev pub Breaks : ScriptEnd → List ℕ → S → S → Type 0
  Breaks end rest old new =
      ((line : List ℕ) × IsNext line rest × takes old (clipped line) (Err end) new) ⊎ (pauses old (Err end) new ⊎ (Stops end × (new ≡ old)))

  pub record BreaksAt (end : ScriptEnd) (first : S) (input : List ℕ) (now : S) : Type 0 where
    pub heard : List (Option (List ℕ))
    pub rest : List ℕ
    pub mid : S
    pub parts : input ≡ text_of heard ++ rest
    pub hears : Hears heard first mid
    pub few : count_of heard ≤ 100000
    pub breaks : Breaks end rest mid now

  -- all lines were taken, and what stands after the last line feed as one more, which ended so
  pub record TakesAll (result : Result (Unit {0}) ScriptEnd) (first : S) (input : List ℕ) (now : S) : Type 0 where
    pub heard : List (Option (List ℕ))
    pub rest : List ℕ
    pub mid : S
    pub parts : input ≡ text_of heard ++ rest
    pub no_feed : HasNoFeed rest
    pub hears : Hears heard first mid
    pub few : count_of heard ≤ 100000
    pub takes_last : takes mid (clipped rest) result now

  -- the input goes on, or the lines ended in it
  abbrev pub StandsOr : Result (Unit {0}) ScriptEnd → S → List ℕ → List ℕ → ℕ → S → Type 0
  StandsOr (Ok _) first input kept count now = Stands first input kept count now
  StandsOr (Err end) first input kept count now = BreaksAt end first input now

  -- a piece is taken in, of any input so far
  abbrev pub TakesPiece : Result (Unit {0}) ScriptEnd → List ℕ → List ℕ → ℕ → S → List ℕ → ℕ → S → Type 0
  TakesPiece result piece kept_old count_old old kept_new count_new new =
      (first : S) (input : List ℕ) → Stands first input kept_old count_old old → StandsOr result first (input ++ piece) kept_new count_new new

  -- the front of a piece is taken in, up to what is left of it; or the lines end in it
  abbrev pub TakesUpTo : List ℕ → List ℕ → List ℕ → ℕ → S → List ℕ → ℕ → S → Type 0
  TakesUpTo left piece kept_old count_old old kept_new count_new new =
      (front : List ℕ) × (piece ≡ front ++ left)
      × ((first : S) (input : List ℕ) → Stands first input kept_old count_old old → Stands first (input ++ front) kept_new count_new new)

  abbrev pub BreaksIn : ScriptEnd → List ℕ → List ℕ → ℕ → S → S → Type 0
  BreaksIn end piece kept count old new =
      (first : S) (input : List ℕ) → Stands first input kept count old → BreaksAt end first (input ++ piece) new

  -- the line that ends with a piece is taken, unless memory for it is wanting
  abbrev pub TakesLine : Result (Unit {0}) ScriptEnd → List ℕ → List ℕ → S → S → Type 0
  TakesLine result piece kept old new =
      (rest : List ℕ) → kept ≡ clipped rest → takes old (clipped (rest ++ piece)) result new ⊎ ((result ≡ Err NoMemory) × (new ≡ old))

  -- what stands after the last line feed is taken as one more line: there is no more
  abbrev pub TakesRest : Result Bool ScriptEnd → List ℕ → S → S → Type 0
  TakesRest (Ok more) kept old new = (more ≡ false) × takes old kept (Ok tt) new
  TakesRest (Err end) kept old new = takes old kept (Err end) new

  -- a piece is taken: there may be more
  abbrev pub TakesMore : Result Bool ScriptEnd → List ℕ → List ℕ → ℕ → S → List ℕ → ℕ → S → Type 0
  TakesMore (Ok more) piece kept_old count_old old kept_new count_new new =
      (more ≡ true) × TakesPiece (Ok tt) piece kept_old count_old old kept_new count_new new
  TakesMore (Err end) piece kept_old count_old old kept_new count_new new = TakesPiece (Err end) piece kept_old count_old old kept_new count_new new

  -- how handing over ended, before the last pause: all was read, and the last line ended so, or the lines ended before
  abbrev pub EndsAs : Result (Unit {0}) ScriptEnd → S → List ℕ → Option (List ℕ) → S → Type 0
  EndsAs (Ok _) first input left now = TakesAll (Ok tt) first input now × IsAtEnd left
  EndsAs (Err end) first input left now = (TakesAll (Err end) first input now × IsAtEnd left) ⊎ BreaksAt end first input now

  -- a reader is read to its end, or until the lines end: what it gave is the input, so far as that is known
  abbrev pub RunsAll : Result (Unit {0}) ScriptEnd → S → Option (List ℕ) → Option (List ℕ) → S → Type 0
  RunsAll outcome first read left now = (input : List ℕ) × Consumes read left input × EndsAs outcome first input left now

  -- and then there is a last pause
  pub record ReadsLines (end : ScriptEnd) (first : S) (read left : Option (List ℕ)) (now : S) : Type 0 where
    pub input : List ℕ
    pub outcome : Result (Unit {0}) ScriptEnd
    pub rested : Result (Unit {0}) ScriptEnd
    pub mid : S
    pub consumes : Consumes read left input
    pub ends : EndsAs outcome first input left mid
    pub rests : pauses mid rested now
    pub is_end : IsEnd outcome rested end

  -- so far a reader gave that input, and the listener stands after it
  pub record Waits (first : S) (read left : Option (List ℕ)) (kept : List ℕ) (count : ℕ) (now : S) : Type 0 where
    pub input : List ℕ
    pub consumes : Consumes read left input
    pub stands : Stands first input kept count now

  -- after one more read: it goes on, or all was read and taken, or the lines ended
  abbrev pub WaitsOr : Result Bool ScriptEnd → S → Option (List ℕ) → Option (List ℕ) → List ℕ → ℕ → S → Type 0
  WaitsOr (Ok true) first read left kept count now = Waits first read left kept count now
  WaitsOr (Ok false) first read left kept count now = RunsAll (Ok tt) first read left now
  WaitsOr (Err end) first read left kept count now = RunsAll (Err end) first read left now

  -- one read, of any reader so far
  abbrev pub GoesOn : Result Bool ScriptEnd → Option (List ℕ) → List ℕ → ℕ → S → Option (List ℕ) → List ℕ → ℕ → S → Type 0
  GoesOn result left_old kept_old count_old old left_new kept_new count_new new =
      (first : S) (read : Option (List ℕ)) → Waits first read left_old kept_old count_old old
      → WaitsOr result first read left_new kept_new count_new new

  -- and until it ends
  abbrev pub RunsOn : Result (Unit {0}) ScriptEnd → Option (List ℕ) → List ℕ → ℕ → S → Option (List ℕ) → S → Type 0
  RunsOn outcome left_old kept count old left_new new =
      (first : S) (read : Option (List ℕ)) → Waits first read left_old kept count old → RunsAll outcome first read left_new new

  -- with the last pause
  abbrev pub ReadsOn : ScriptEnd → Option (List ℕ) → List ℕ → ℕ → S → Option (List ℕ) → S → Type 0
  ReadsOn end left_old kept count old left_new new =
      (first : S) (read : Option (List ℕ)) → Waits first read left_old kept count old → ReadsLines end first read left_new new
