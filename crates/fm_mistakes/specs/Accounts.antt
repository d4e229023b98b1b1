-- What was told of a scenario, and what of it was expected.
use Rattle.std.specs.Prelude.{◌≡◌, ◌+◌, ◌-◌, ◌^◌, ℕ, List, Bool, true, false, nat_eq, nat_lt, min, not, ◌&&◌, ◌||◌, ◌++◌, cond, count_by, map, position, MatchOption}
use Rattle.fm_types.specs.Lists.{updated}
use Rattle.fm_mistakes.specs.declared.mistake.Mistake.{Mistake}
use Rattle.fm_mistakes.specs.declared.account.ToldMistake.{ToldMistake}
use Rattle.fm_mistakes.specs.declared.account.Account.{Account}
use Rattle.fm_mistakes.specs.declared.finding.Finding.{Finding}
use Rattle.fm_mistakes.specs.Findings.{mistake_in}
use Rattle.fm_mistakes.specs.Mistakes.{is_leak, is_limit, is_misuse, number_of}

-- told just now, and not expected yet
abbrev pub told_now : Mistake → ℕ → ToldMistake
told_now mistake request = record { mistake = mistake; request = request; is_expected = false }

-- it counts: no line expects it, and it is no limit of the model
abbrev pub counts_as_mistake : ToldMistake → Bool
counts_as_mistake told = not told.is_expected && not (is_limit told.mistake)

abbrev pub is_told_misuse : ToldMistake → Bool
is_told_misuse told = is_misuse told.mistake

abbrev pub is_told_leak : ToldMistake → Bool
is_told_leak told = is_leak told.mistake

-- how many references that callbacks left behind were told
abbrev pub told_leaks : Account → ℕ
told_leaks a = count_by is_told_leak a.told.items

-- the number of the next request, as far as 64 bits tell
abbrev pub next_request : ℕ → ℕ
next_request request = min (request + 1) (2 ^ 64 - 1)

-- that mistake of that request, which no line expects yet
abbrev pub is_open : Mistake → ℕ → ToldMistake → Bool
is_open wanted request told = not told.is_expected && nat_eq told.request request && nat_eq (number_of told.mistake) (number_of wanted)

-- it is expected by a line of its own
abbrev pub expected : ToldMistake → ToldMistake
expected told = record told { is_expected = true }

-- that one telling is expected, and nothing else changes
abbrev pub IsExpectedAt : ℕ → Account → Account → Type 0
IsExpectedAt place old new = (new ≡ record old { told = new.told }) × (new.told.items ≡ updated expected old.told.items place)

-- a line expects a mistake: it is met by the first telling of the last request that is that mistake and that no line expects yet, which is expected from then on
abbrev pub Expects : Mistake → Account → Bool → Account → Type 0
Expects wanted old met new =
    MatchOption (position (is_open wanted old.request) old.told.items)
    ((met ≡ false) × (new ≡ old))
    (λ place. (met ≡ true) × IsExpectedAt place old new)

-- what is told of a request's findings, in their order
abbrev pub tellings : ℕ → List Finding → List ToldMistake
tellings request found = map (λ finding. told_now (mistake_in finding) request) found

-- these findings are told of the last request
abbrev pub TellsAll : List Finding → Account → Account → Type 0
TellsAll found old new = (new ≡ record old { told = new.told }) × (new.told.items ≡ old.told.items ++ tellings old.request found)

-- how a scenario ends
abbrev pub status_of : Account → ℕ
status_of a = cond (nat_lt 0 a.unmet) 1 (cond (nat_lt 0 (count_by counts_as_mistake a.told.items) || nat_lt 0 a.dropped) 5 0)
