-- What a listener was handed, from one piece of the input to the next.
use Rattle.std.proofs.Common.{◌≡◌, ◌⊎◌, ◌≤◌, ◌<◌, ◌+◌, ◌-◌, ◌==◌, ◌++◌, ◌∷◌, inl, inr, ℕ, zero, suc, Bool, true, false, All, List, [], Option, Some, None, Result, Ok, Err, refl, sym, ap, subst, ◌∙◌, append_assoc, append-nil, arith, drop, length, min, take}
use Rattle.std.proofs.lemmas.List.Elements.{All-append}
use Rattle.std.proofs.lemmas.List.{take_min}
use Rattle.std.proofs.KnownBytes.{Consumes-nil, Consumes-trans, Consumes-kept}
use Rattle.std.specs.Io.KnownBytes.{Consumes, IsAtEnd, Keeps}
use Rattle.fm_script.specs.declared.script_end.ScriptEnd.{ScriptEnd}
use Rattle.fm_script.specs.declared.script_end.ScriptEnd.TheVariants.{NoMemory, ReadFault}
use Rattle.fm_script.specs.Listening.{BreaksAt, HasNoFeed, Hears, RunsAll, Stands, Stops, Waits, WaitsOr, TakesLine, TakesMore, TakesRest, clipped, count_of, text_of}

-- what is kept of a text, and then of that with more
take_twice : (n : ℕ) (xs ys : List ℕ) → take n (take n xs ++ ys) ≡ take n (xs ++ ys)
take_twice zero xs ys = refl
take_twice (suc n) [] ys = refl
take_twice (suc n) (x ∷ xs) ys = ap (λ (t : List ℕ). x ∷ t) (take_twice n xs ys)

pub clipped_more : (kept rest piece : List ℕ) → kept ≡ clipped rest → take 4097 (kept ++ piece) ≡ clipped (rest ++ piece)
clipped_more kept rest piece keeps = ap (λ (t : List ℕ). take 4097 (t ++ piece)) keeps ∙ take_twice 4097 rest piece

-- nothing is kept of nothing alone
none_taken : (n : ℕ) (rest : List ℕ) → take (suc n) rest ≡ [] → rest ≡ []
none_taken n [] is = refl
none_taken n (b ∷ rest) is = absurd (cons_is_not_nil is)
  where
    cons_is_not_nil : b ∷ take n rest ≡ [] → ⊥
    cons_is_not_nil same = cc

none_kept : (rest : List ℕ) → clipped rest ≡ [] → rest ≡ []
none_kept rest is = none_taken 4096 rest is

take_of_none : (n : ℕ) → take {A = ℕ} n [] ≡ []
take_of_none zero = refl
take_of_none (suc n) = refl

-- what is left of a piece after all of it
pub all_of : (piece : List ℕ) → piece ≡ piece ++ take (length piece - length piece) (drop (length piece) piece)
all_of piece =
    sym (ap (λ (t : List ℕ). piece ++ t) (ap (take (length piece - length piece)) (drop_at_end piece) ∙ take_of_none (length piece - length piece)) ∙ append-nil piece)
  where
    drop_at_end : (xs : List ℕ) → drop (length xs) xs ≡ []
    drop_at_end [] = refl
    drop_at_end (x ∷ xs) = drop_at_end xs

-- a line that stands in a piece whole
pub whole_line : (kept rest piece : List ℕ) (n : ℕ) → kept ≡ clipped rest → kept ≡ [] → n ≡ min 4097 (length piece) → take n piece ≡ clipped (rest ++ piece)
whole_line kept rest piece n keeps none is =
    let nothing : rest ≡ [] = none_kept rest (sym keeps ∙ none) in
    rw (is, nothing) (take_min 4097 piece)

no_feed_in_none : HasNoFeed []
no_feed_in_none k d below = absurd (omega (arith, below))

-- what is taken, if memory isn't wanting
pub taken_well : {S : Type 0} (took : Result (Unit {0}) ScriptEnd → S → Type 0) (r : Result (Unit {0}) ScriptEnd) (old new : S) → r ≡ Ok tt
    → took r new ⊎ ((r ≡ Err NoMemory) × (new ≡ old)) → took (Ok tt) new
taken_well took r old new is (inl took_it) = subst (λ (x : Result (Unit {0}) ScriptEnd). took x new) is took_it
taken_well took r old new is (inr wants) = absurd (apart r is wants.0)
  where
    apart : (x : Result (Unit {0}) ScriptEnd) → x ≡ Ok tt → x ≡ Err NoMemory → ⊥
    apart x ok err = cc

module _ {S : Type 0} (takes : S → List ℕ → Result (Unit {0}) ScriptEnd → S → Type 0) (pauses : S → Result (Unit {0}) ScriptEnd → S → Type 0) where
  -- a line that ended in a piece was taken
  pub line_taken : (first old new : S) (input kept front : List ℕ) (count : ℕ) → (s : Stands takes pauses first input kept count old)
      → HasNoFeed front → count < 100000 → takes old (clipped (s.rest ++ front)) (Ok tt) new
      → Stands takes pauses first (input ++ (front ++ 10 ∷ [])) [] (count + 1) new
  line_taken first old new input kept front count s no_feed fewer took =
      let joined : input ++ (front ++ 10 ∷ []) ≡ text_of s.heard ++ ((s.rest ++ front) ++ 10 ∷ []) =
      ap (λ (t : List ℕ). t ++ (front ++ 10 ∷ [])) s.parts
      ∙ append_assoc (text_of s.heard) s.rest (front ++ 10 ∷ [])
      ∙ ap (λ (t : List ℕ). text_of s.heard ++ t) (sym (append_assoc s.rest front (10 ∷ []))) in
      record {
        heard = Some (s.rest ++ front) ∷ s.heard;
        rest = [];
        parts = joined ∙ sym (append-nil _);
        no_feed = no_feed_in_none;
        hears = (old, s.hears, All-append (λ (b : ℕ). (b == 10) ≡ false) s.rest front s.no_feed no_feed, took);
        keeps = refl;
        counts = ap (λ (n : ℕ). n + 1) s.counts;
        few = omega (arith, s.counts, fewer);
      }

  -- a piece without a line feed was kept
  pub rest_kept : (first old new : S) (input kept piece more : List ℕ) (count : ℕ) → Stands takes pauses first input kept count old
      → HasNoFeed piece → more ≡ take 4097 (kept ++ piece) → new ≡ old → Stands takes pauses first (input ++ piece) more count new
  rest_kept first old new input kept piece more count s no_feed is same = record {
    heard = s.heard;
    rest = s.rest ++ piece;
    parts = ap (λ (t : List ℕ). t ++ piece) s.parts ∙ append_assoc (text_of s.heard) s.rest piece;
    no_feed = All-append (λ (b : ℕ). (b == 10) ≡ false) s.rest piece s.no_feed no_feed;
    hears = subst (λ (x : S). Hears takes pauses s.heard first x) (sym same) s.hears;
    keeps = is ∙ clipped_more kept s.rest piece s.keeps;
    counts = s.counts;
    few = s.few;
  }

  -- a line that ended in a piece wasn't taken
  pub line_breaks : (end : ScriptEnd) (first old new : S) (input kept front behind : List ℕ) (count : ℕ) → (s : Stands takes pauses first input kept count old)
      → HasNoFeed front → takes old (clipped (s.rest ++ front)) (Err end) new
      → BreaksAt takes pauses end first (input ++ (front ++ 10 ∷ behind)) new
  line_breaks end first old new input kept front behind count s no_feed took = record {
    heard = s.heard;
    rest = s.rest ++ (front ++ 10 ∷ behind);
    mid = old;
    parts = ap (λ (t : List ℕ). t ++ (front ++ 10 ∷ behind)) s.parts ∙ append_assoc (text_of s.heard) s.rest (front ++ 10 ∷ behind);
    hears = s.hears;
    few = s.few;
    breaks = inl (s.rest ++ front, (behind, All-append (λ (b : ℕ). (b == 10) ≡ false) s.rest front s.no_feed no_feed, sym (append_assoc s.rest front (10 ∷ behind))), took);
  }

  -- the lines end where none was handed on
  pub stops : (end : ScriptEnd) (first old new : S) (input kept piece : List ℕ) (count : ℕ) → Stands takes pauses first input kept count old
      → Stops end → new ≡ old → BreaksAt takes pauses end first (input ++ piece) new
  stops end first old new input kept piece count s stop same = record {
    heard = s.heard;
    rest = s.rest ++ piece;
    mid = old;
    parts = ap (λ (t : List ℕ). t ++ piece) s.parts ∙ append_assoc (text_of s.heard) s.rest piece;
    hears = s.hears;
    few = s.few;
    breaks = inr (inr (stop, same));
  }

  -- the line that ends in a piece fails, or memory for it is wanting
  fails : (r : Result (Unit {0}) ScriptEnd) (end : ScriptEnd) (first old new : S) (input kept front behind : List ℕ) (count : ℕ)
      → (s : Stands takes pauses first input kept count old) → HasNoFeed front → r ≡ Err end
      → takes old (clipped (s.rest ++ front)) r new ⊎ ((r ≡ Err NoMemory) × (new ≡ old))
      → BreaksAt takes pauses end first (input ++ (front ++ 10 ∷ behind)) new
  fails r end first old new input kept front behind count s no_feed is (inl took) =
      line_breaks end first old new input kept front behind count s no_feed
      (subst (λ (x : Result (Unit {0}) ScriptEnd). takes old (clipped (s.rest ++ front)) x new) is took)
  fails r end first old new input kept front behind count s no_feed is (inr wants) =
      let same : end ≡ NoMemory = cc in
      stops end first old new input kept (front ++ 10 ∷ behind) count s (subst Stops (sym same) tt) wants.1

  pub line_fails : (r : Result (Unit {0}) ScriptEnd) (end : ScriptEnd) (first old new : S) (input kept front behind : List ℕ) (count : ℕ)
      → (s : Stands takes pauses first input kept count old) → HasNoFeed front → r ≡ Err end → TakesLine takes pauses r front kept old new
      → BreaksAt takes pauses end first (input ++ (front ++ 10 ∷ behind)) new
  line_fails r end first old new input kept front behind count s no_feed is took =
      fails r end first old new input kept front behind count s no_feed is (took s.rest s.keeps)

  -- ---- a reader

  pub pauses_once : (first old new : S) (read left : Option (List ℕ)) (kept : List ℕ) (count : ℕ) → Waits takes pauses first read left kept count old
      → pauses old (Ok tt) new → Waits takes pauses first read left kept count new
  pauses_once first old new read left kept count w rested = record {
    input = w.input;
    consumes = w.consumes;
    stands = record {
      heard = None ∷ w.stands.heard;
      rest = w.stands.rest;
      parts = w.stands.parts;
      no_feed = w.stands.no_feed;
      hears = (old, w.stands.hears, rested);
      keeps = w.stands.keeps;
      counts = w.stands.counts;
      few = w.stands.few;
    };
  }

  pub pause_breaks : (end : ScriptEnd) (first old new : S) (read left : Option (List ℕ)) (kept : List ℕ) (count : ℕ)
      → Waits takes pauses first read left kept count old → pauses old (Err end) new → RunsAll takes pauses (Err end) first read left new
  pause_breaks end first old new read left kept count w rested = (
    w.input,
    w.consumes,
    inr (record {
      heard = w.stands.heard;
      rest = w.stands.rest;
      mid = old;
      parts = w.stands.parts;
      hears = w.stands.hears;
      few = w.stands.few;
      breaks = inr (inl rested);
    }),
  )

  -- a read gave a piece
  pub piece_read : (r : Result Bool ScriptEnd) (first old new : S) (read left left_new : Option (List ℕ)) (kept kept_new piece : List ℕ) (count count_new : ℕ)
      → Waits takes pauses first read left kept count old → Consumes left left_new piece
      → TakesMore takes pauses r piece kept count old kept_new count_new new → WaitsOr takes pauses r first read left_new kept_new count_new new
  piece_read (Ok true) first old new read left left_new kept kept_new piece count count_new w consumes took = record {
    input = w.input ++ piece;
    consumes = Consumes-trans read left left_new w.input piece w.consumes consumes;
    stands = took.1 first w.input w.stands;
  }
  piece_read (Ok false) first old new read left left_new kept kept_new piece count count_new w consumes took = absurd (false_is_not_true took.0)
    where
      false_is_not_true : false ≡ true → ⊥
      false_is_not_true is = cc
  piece_read (Err end) first old new read left left_new kept kept_new piece count count_new w consumes took =
      (w.input ++ piece, Consumes-trans read left left_new w.input piece w.consumes consumes, inr (took first w.input w.stands))

  -- a read gave nothing, at the end
  pub end_read : (r : Result Bool ScriptEnd) (first old new : S) (read left left_new : Option (List ℕ)) (kept kept_new : List ℕ) (count count_new : ℕ)
      → Waits takes pauses first read left kept count old → Consumes left left_new [] → IsAtEnd left_new
      → TakesRest takes pauses r kept old new → WaitsOr takes pauses r first read left_new kept_new count_new new
  end_read (Ok true) first old new read left left_new kept kept_new count count_new w consumes at_end took = absurd (true_is_not_false took.0)
    where
      true_is_not_false : true ≡ false → ⊥
      true_is_not_false is = cc
  end_read (Ok false) first old new read left left_new kept kept_new count count_new w consumes at_end took = (
    w.input,
    rw (append-nil w.input) at (Consumes-trans read left left_new w.input [] w.consumes consumes),
    (
      record {
        heard = w.stands.heard;
        rest = w.stands.rest;
        mid = old;
        parts = w.stands.parts;
        no_feed = w.stands.no_feed;
        hears = w.stands.hears;
        few = w.stands.few;
        takes_last = subst (λ (t : List ℕ). takes old t (Ok tt) new) w.stands.keeps took.1;
      },
      at_end,
    ),
  )
  end_read (Err end) first old new read left left_new kept kept_new count count_new w consumes at_end took = (
    w.input,
    rw (append-nil w.input) at (Consumes-trans read left left_new w.input [] w.consumes consumes),
    inl (
      record {
        heard = w.stands.heard;
        rest = w.stands.rest;
        mid = old;
        parts = w.stands.parts;
        no_feed = w.stands.no_feed;
        hears = w.stands.hears;
        few = w.stands.few;
        takes_last = subst (λ (t : List ℕ). takes old t (Err end) new) w.stands.keeps took;
      },
      at_end,
    ),
  )

  -- lines end without a line
  pub ends_between : (end : ScriptEnd) (first old : S) (read left left_new : Option (List ℕ)) (kept : List ℕ) (count : ℕ)
      → Waits takes pauses first read left kept count old → Keeps left left_new → Stops end → RunsAll takes pauses (Err end) first read left_new old
  ends_between end first old read left left_new kept count w kept_left stop = (
    w.input,
    Consumes-kept read left left_new w.input w.consumes kept_left,
    inr (record {
      heard = w.stands.heard;
      rest = w.stands.rest;
      mid = old;
      parts = w.stands.parts;
      hears = w.stands.hears;
      few = w.stands.few;
      breaks = inr (inr (stop, refl));
    }),
  )

  -- a read failed, and is made again, or is the last
  pub fault_read : (r : Result Bool ScriptEnd) (first old : S) (read left left_new : Option (List ℕ)) (kept : List ℕ) (count : ℕ)
      → Waits takes pauses first read left kept count old → Keeps left left_new → (r ≡ Ok true) ⊎ (r ≡ Err ReadFault)
      → WaitsOr takes pauses r first read left_new kept count old
  fault_read r first old read left left_new kept count w kept_left (inl again) = subst (λ (x : Result Bool ScriptEnd). WaitsOr takes pauses x first read left_new kept count old) (sym again) (record {
    input = w.input;
    consumes = Consumes-kept read left left_new w.input w.consumes kept_left;
    stands = w.stands;
  })
  fault_read r first old read left left_new kept count w kept_left (inr fault) =
      subst (λ (x : Result Bool ScriptEnd). WaitsOr takes pauses x first read left_new kept count old) (sym fault)
      (ends_between ReadFault first old read left left_new kept count w kept_left tt)

  -- before the first read
  pub waits_first : (first : S) (read : Option (List ℕ)) (kept : List ℕ) → kept ≡ [] → Waits takes pauses first read read kept 0 first
  waits_first first read kept none = record {
    input = [];
    consumes = Consumes-nil read;
    stands = record {
      heard = [];
      rest = [];
      parts = refl;
      no_feed = no_feed_in_none;
      hears = refl;
      keeps = none;
      counts = refl;
      few = omega arith;
    };
  }
