-- A text that is cut at a byte, and the words of a line.
use Rattle.std.proofs.Common.{◌≡◌, ◌==◌, ◌<◌, ◌≤◌, ◌+◌, ◌-◌, [], ◌∷◌, ◌++◌, ℕ, Bor, append_assoc, append-nil, MatchOption, false, List, get_or, length, take, drop, map, Option, Some, None, refl, sym, ap, ◌∙◌, arith}
use Rattle.std.proofs.lemmas.Bool.{eqb-true}
use Rattle.std.proofs.lemmas.List.{get_or-take, length-append, length-drop, length-take, map-append, take_all}
use Rattle.std.proofs.lemmas.List.Splits.{slice_split_at, slice_split_none}
use Rattle.std.proofs.lemmas.List.Sums.{fails_before_first, passes_at_first, split_at_first}
use Rattle.std.specs.List.{All, position_or_len}
use Rattle.fm_words.specs.Words.{words_of}

-- before the first byte of that value there is none
pub none_before : (byte at : ℕ) (text : List ℕ) → at ≡ position_or_len (λ b. b == byte) text
    → (k d : ℕ) → k < length (take at text) → (get_or (take at text) k d == byte) ≡ false
none_before byte at text is k d inside =
    let small : k < at = omega (arith, inside, length-take at text) in
    rw (get_or-take at text k d small) (fails_before_first (λ b. b == byte) text k d (rw (sym is) small))

pub none_there : (byte at : ℕ) (text : List ℕ) → at ≡ position_or_len (λ b. b == byte) text → length text ≤ at
    → (k d : ℕ) → k < length text → (get_or text k d == byte) ≡ false
none_there byte at text is past k d inside = fails_before_first (λ b. b == byte) text k d (omega (arith, is))

pub parts_at : (byte at : ℕ) (text : List ℕ) → at ≡ position_or_len (λ b. b == byte) text → at < length text
    → text ≡ take at text ++ byte ∷ take (length text - (at + 1)) (drop (at + 1) text)
parts_at byte at text is inside =
    let found : get_or text at 0 ≡ byte = eqb-true _ _ (rw is (passes_at_first (λ b. b == byte) text 0 (rw (sym is) inside))) in
    let behind : take (length text - (at + 1)) (drop (at + 1) text) ≡ drop (at + 1) text =
    take_all (length text - (at + 1)) (drop (at + 1) text) (omega (arith, length-drop (at + 1) text)) in
    rw behind (rw (sym found) (rw is (split_at_first (λ b. b == byte) text 0 (rw (sym is) inside))))

-- ---- the words of a line, one after the other

-- the words of what is left of a line
abbrev pub words_left : Option (Bor (List ℕ)) → List (List ℕ)
words_left (Some rest) = words_of rest.now
words_left None = []

abbrev pub count_left : Option (Bor (List ℕ)) → ℕ
count_left (Some rest) = length rest.now + 1
count_left None = 0

-- the next word is the first of those that are left
pub next_word : (word text : List ℕ) (behind : Option (Bor (List ℕ))) → All (λ b. (b == 32) ≡ false) word
    → MatchOption behind (word ≡ text) (λ rest. text ≡ word ++ 32 ∷ rest.now) → words_of text ≡ word ∷ words_left behind
next_word word text None clear is = ap words_of (sym is) ∙ slice_split_none (λ b. b == 32) word clear
next_word word text (Some rest) clear is = ap words_of is ∙ slice_split_at (λ b. b == 32) word 32 rest.now clear refl

pub fewer_left : (word text : List ℕ) (behind : Option (Bor (List ℕ)))
    → MatchOption behind (word ≡ text) (λ rest. text ≡ word ++ 32 ∷ rest.now) → count_left behind < length text + 1
fewer_left word text None is = omega arith
fewer_left word text (Some rest) is = omega (arith, ap length is, length-append word (32 ∷ rest.now))

pub one_more : (done : List (Bor (List ℕ))) (word : Bor (List ℕ)) (left all : List (List ℕ)) (text : List ℕ)
    → map (λ w. w.now) done ++ words_of text ≡ all → words_of text ≡ word.now ∷ left → map (λ w. w.now) (done ++ word ∷ []) ++ left ≡ all
one_more done word left all text before is =
    ap (λ (ws : List (List ℕ)). ws ++ left) (map-append (λ (w : Bor (List ℕ)). w.now) done (word ∷ []))
    ∙ append_assoc (map (λ (w : Bor (List ℕ)). w.now) done) (word.now ∷ []) left
    ∙ ap (λ (ws : List (List ℕ)). map (λ (w : Bor (List ℕ)). w.now) done ++ ws) (sym is) ∙ before

pub all_words : (done : List (Bor (List ℕ))) (all : List (List ℕ)) → map (λ w. w.now) done ++ [] ≡ all → map (λ w. w.now) done ≡ all
all_words done all before = sym (append-nil (map (λ (w : Bor (List ℕ)). w.now) done)) ∙ before
