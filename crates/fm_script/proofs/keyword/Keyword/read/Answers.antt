use Rattle.std.proofs.Common.{◌≡◌, ◌≤◌, ◌∙◌, ℕ, List, [], ◌∷◌, bytes_eq, find, get_or, length, arith}
use Rattle.fm_script.specs.Commands.{keyword_read, spelling}
use Rattle.fm_script.specs.declared.keyword.Keyword.{Keyword}
use Rattle.fm_script.proofs.keyword.Keyword.read.Goals as goal

-- a word begins with its first letter
by_first : (group : List Keyword) (word : List ℕ) → 1 ≤ length word
    → ((rest : List ℕ) → find (λ k. bytes_eq (spelling k) (get_or word 0 0 ∷ rest)) group ≡ keyword_read (get_or word 0 0 ∷ rest))
    → find (λ k. bytes_eq (spelling k) word) group ≡ keyword_read word
by_first group [] some h = absurd (omega arith)
by_first group (b ∷ bs) some h = h bs

pub returns-in-len1-up : goal.returns-in-len1-up
returns-in-len1-up c = c.spelled.ensures ∙ by_first c.beginning_with.result.now c.args.word.now c.in-len1-up.len_at_least c.beginning_with.ensures
