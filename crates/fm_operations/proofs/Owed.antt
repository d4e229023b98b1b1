-- Lists of numbers in which each is counted, filters of lists, and what one more entry makes of the postoperations owed.
use Rattle.fm_operations.proofs.Words.{ℕ, Bool, false, not, List, [], length, reverse, filter}
use Rattle.fm_operations.proofs.Words.{Option, Some, None, option_to_list, refl, sym, ap, arith, append-nil, nat_tests, Ask, Entry}
use Rattle.fm_operations.proofs.Words.{filter_map-append, one, times, instances, ask_of, answers, is_drained, is_answered, asked, owed, without}
use Rattle.fm_operations.proofs.Words.{answer_count, list_any, filter_agree, drains, common_steps}
use Rattle.std.proofs.Common.{◌≡◌, ◌+◌, ◌≤◌, ◌==◌, ◌&&◌, ◌∷◌, ◌++◌, ◌∙◌, filter_map}
use Rattle.std.proofs.lemmas.List.Folds.{list_any-append}

-- ---- numbers and filters

-- the numbers other than i
abbrev pub others : ℕ → List ℕ → List ℕ
others i js = filter (λ j. not (i == j)) js

pub times-append : (i : ℕ) (xs ys : List ℕ) → times i (xs ++ ys) ≡ times i xs + times i ys
times-append i [] ys = omega arith
times-append i (x ∷ xs) ys = omega (arith, times-append i xs ys)

pub times_instances-append : (i : ℕ) (xs ys : List Ask) → times i (instances (xs ++ ys)) ≡ times i (instances xs) + times i (instances ys)
times_instances-append i [] ys = omega arith
times_instances-append i (ask ∷ xs) ys = omega (arith, times_instances-append i xs ys)

pub others_none : (i : ℕ) (js : List ℕ) → times i js ≡ 0 → others i js ≡ js
others_none i [] none = refl
others_none i (j ∷ js) none = grind (arith, nat_tests, none, others_none i js)

pub others_once : (i k : ℕ) (js : List ℕ) → times i js ≡ 1 → one (i == k) + times k (others i js) ≡ times k js
others_once i k [] once = grind (arith, nat_tests)
others_once i k (j ∷ js) once = grind (arith, nat_tests, others_once i k js, others_none i js)

pub instances_without : (i : ℕ) (asks : List Ask) → instances (without i asks) ≡ others i (instances asks)
instances_without i [] = refl
instances_without i (ask ∷ asks) = grind (arith, nat_tests, instances_without i asks)

pub length_without : (i : ℕ) (asks : List Ask) → length (without i asks) + times i (instances asks) ≡ length asks
length_without i [] = refl
length_without i (ask ∷ asks) = grind (arith, nat_tests, length_without i asks)

pub without_none : (i : ℕ) (asks : List Ask) → times i (instances asks) ≡ 0 → without i asks ≡ asks
without_none i [] none = refl
without_none i (ask ∷ asks) none = grind (arith, nat_tests, none, without_none i asks)

-- the first goes where its instance stands once
pub without_head : (ask : Ask) (asks : List Ask) → times ask.instance.0 (instances (ask ∷ asks)) ≤ 1 → without ask.instance.0 (ask ∷ asks) ≡ asks
without_head ask asks few = grind (arith, nat_tests, without_none ask.instance.0 asks)

filter_both : {X : Type 0} (p q : X → Bool) (xs : List X) → filter p (filter q xs) ≡ filter (λ x. p x && q x) xs
filter_both p q [] = refl
filter_both p q (x ∷ xs) = grind (arith, filter_both p q xs)

-- ---- one more entry, list by list

pub filter_map-push : {Y : Type 0} (f : Entry → Option Y) (es : List Entry) (e : Entry) → filter_map f (es ++ e ∷ []) ≡ filter_map f es ++ option_to_list (f e)
filter_map-push f es e = grind (arith, filter_map-append f es (e ∷ []))

pub answer_count_push : (i : ℕ) (es : List Entry) (e : Entry) → answer_count i (es ++ e ∷ []) ≡ answer_count i es + one (answers i e)
answer_count_push i [] e = omega arith
answer_count_push i (x ∷ es) e = omega (arith, answer_count_push i es e)

-- those asked for, last first, without those of instances of which the test holds: those owed, those not drained
abbrev pub left : (ℕ → Entry → Bool) → List Entry → List Ask
left test es = filter (λ ask. not (list_any (test ask.instance.0) es)) (reverse (asked es))

reverse_asked : (es : List Entry) (e : Entry) → reverse (asked (es ++ e ∷ [])) ≡ option_to_list (ask_of e) ++ reverse (asked es)
reverse_asked es e = grind (arith, filter_map-push ask_of es e, append-nil (asked es), common_steps)

left_push : (test : ℕ → Entry → Bool) (es : List Entry) (e : Entry)
    → left test (es ++ e ∷ []) ≡ filter (λ ask. not (test ask.instance.0 e) && not (list_any (test ask.instance.0) es))
    (option_to_list (ask_of e) ++ reverse (asked es))
left_push test es e =
    rw reverse_asked (filter_agree _ _ (λ ask. grind (arith, list_any-append (test ask.instance.0) es (e ∷ [])))
    (option_to_list (ask_of e) ++ reverse (asked es)))

-- an entry that asks for nothing and answers nothing
pub left_push_none : (test : ℕ → Entry → Bool) (es : List Entry) (e : Entry) → ask_of e ≡ None → ((i : ℕ) → test i e ≡ false)
    → left test (es ++ e ∷ []) ≡ left test es
left_push_none test es e asks none = rw asks at (left_push test es e)
    ∙ filter_agree _ _ (λ ask. ap (λ b. not b && not (list_any (test ask.instance.0) es)) (none ask.instance.0)) (reverse (asked es))

pub owed_push_none : (es : List Entry) (e : Entry) → ask_of e ≡ None → ((i : ℕ) → answers i e ≡ false) → owed (es ++ e ∷ []) ≡ owed es
owed_push_none es e asks answers_none = left_push_none answers es e asks answers_none

-- an entry that asks
pub left_push_ask : (test : ℕ → Entry → Bool) (es : List Entry) (e : Entry) (a : Ask) → ask_of e ≡ Some a
    → ((i : ℕ) → test i e ≡ false) → list_any (test a.instance.0) es ≡ false
    → left test (es ++ e ∷ []) ≡ a ∷ left test es
left_push_ask test es e a asks none unseen =
    rw asks at (left_push test es e) ∙ filter_agree _ _ (λ ask. ap (λ b. not b && not (list_any (test ask.instance.0) es))
    (none ask.instance.0)) (a ∷ reverse (asked es)) ∙ rw unseen refl

-- an entry that answers an instance
pub left_push_answer : (test : ℕ → Entry → Bool) (es : List Entry) (e : Entry) (j : ℕ) → ask_of e ≡ None
    → ((i : ℕ) → test i e ≡ (j == i)) → left test (es ++ e ∷ []) ≡ without j (left test es)
left_push_answer test es e j asks answers_j =
    rw asks at (left_push test es e) ∙ filter_agree _ _ (λ ask. ap (λ b. not b && not (list_any (test ask.instance.0) es))
    (answers_j ask.instance.0)) (reverse (asked es))
    ∙ sym (filter_both (λ ask. not (j == ask.instance.0)) (λ ask. not (list_any (test ask.instance.0) es)) (reverse (asked es)))

-- ---- what follows of counts

-- an instance that no entry answers
pub unanswered : (i : ℕ) (es : List Entry) → answer_count i es ≡ 0 → is_answered es i ≡ false
unanswered i [] none = refl
unanswered i (e ∷ es) none = grind (arith, none, unanswered i es)

drains_apart : (i : ℕ) (e : Entry) → one (answers i e) ≡ 0 → drains i e ≡ false
drains_apart i e none = grind (arith, none)

-- and so none drains
pub not_drained : (i : ℕ) (es : List Entry) → answer_count i es ≡ 0 → is_drained es i ≡ false
not_drained i [] none = refl
not_drained i (e ∷ es) none = grind (arith, none, not_drained i es, drains_apart i e)
