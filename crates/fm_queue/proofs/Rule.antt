-- Each step of a pass keeps the rule that jobs are kept, and what a pass with every part learns from it.
use Rattle.std.proofs.Common.{◌≡◌, ◌+◌, ◌<◌, ℕ, suc, List, [], ◌∷◌, ◌++◌, All, set, sum_by, flat_map, refl, ap, ◌∙◌, arith}
use Rattle.std.proofs.lemmas.List.Elements.{All-set, All-push}
use Rattle.std.proofs.lemmas.List.Sums.{sum_by-append, sum_by_push, sum_by-cons}
use mathlib.Core.Option.{some}
use lib.ListN.{get_elem?}
use Rattle.crossbeam_channel.specs.Fifo.{Pushes, Pops, Forks, Merges, Learns}
use Rattle.fm_queue.specs.declared.job.Job.{Job}
use Rattle.fm_queue.specs.declared.tally.PassTally.{PassTally}
use Rattle.fm_queue.specs.Tallies.{every_part, first_tally, new_tally, cut_tally, after_put, after_take, joined, spent_tally, IsIdleWithNoPart, JobsAreKept, KnowsAll}
use Rattle.fm_queue.proofs.Sums.{sum_changed, flat_changed, flat_more}

abbrev parts_of : PassTally → ℕ
parts_of t = t.parts

abbrev puts_of : PassTally → List Job
puts_of t = t.puts

abbrev takes_of : PassTally → List Job
takes_of t = t.takes

-- a queue with one pass, before its first step
pub begins : JobsAreKept [] (first_tally ∷ [])
begins = ((λ weight. refl), refl, All-push IsIdleWithNoPart [] first_tally (λ k d within. absurd (omega (arith, within))) (λ none. (refl, refl)))

-- a pass that keeps its parts, of which it has some, puts and takes
goes_on : (queued queued' : List Job) (tallies : List PassTally) (pass : ℕ) (t after : PassTally) → 0 < t.parts
    → JobsAreKept queued tallies → get_elem? tallies pass ≡ some t
    → after.parts ≡ t.parts
    → ((weight : Job → ℕ) → sum_by weight queued' + (sum_by weight t.puts + sum_by weight after.takes)
    ≡ sum_by weight queued + (sum_by weight after.puts + sum_by weight t.takes))
    → JobsAreKept queued' (set tallies pass after)
goes_on queued queued' tallies pass t after some_part rule at same change = (
  (λ weight.
      let p = flat_changed weight puts_of tallies pass t after at in
      let q = flat_changed weight takes_of tallies pass t after at in
      let kept = rule.0 weight in
      omega (arith, p, q, kept, change weight)),
  (let s = sum_changed parts_of tallies pass t after at in let all = rule.1 in omega (arith, s, all, same)),
  All-set IsIdleWithNoPart tallies pass after (λ none. absurd (omega (arith, none, same, some_part))) rule.2,
)

-- a pass with a part puts a job
pub puts : (room pass : ℕ) (t : PassTally) (job : Job) → 0 < t.parts → Pushes JobsAreKept room pass t job (λ after. after ≡ after_put t job)
puts room pass t job some_part queued tallies _ rule at = (
  after_put t job,
  goes_on queued (queued ++ job ∷ []) tallies pass t (after_put t job) some_part rule at refl
      (λ weight. omega (arith, sum_by_push weight t.puts job, sum_by_push weight queued job)),
  refl,
)

-- a pass with a part takes a job
pub takes : (pass : ℕ) (t : PassTally) → 0 < t.parts → Pops JobsAreKept pass t (λ job after. after ≡ after_take t job)
takes pass t some_part job queued tallies rule at = (
  after_take t job,
  goes_on (job ∷ queued) queued tallies pass t (after_take t job) some_part rule at refl
      (λ weight. omega (arith, sum_by_push weight t.takes job, sum_by-cons weight job queued)),
  refl,
)

-- a pass with two parts makes another
pub cuts : (pass : ℕ) (t : PassTally) → 1 < t.parts → Forks JobsAreKept pass t (cut_tally t) new_tally
cuts pass t two_parts queued tallies rule at =
    let left = cut_tally t in
    let others = set tallies pass left in (
      (λ weight.
          let p = flat_changed weight puts_of tallies pass t left at in
          let q = flat_changed weight takes_of tallies pass t left at in
          let kept = rule.0 weight in
          omega (arith, p, q, kept, flat_more weight puts_of others new_tally, flat_more weight takes_of others new_tally)),
      (let s = sum_changed parts_of tallies pass t left at in let all = rule.1 in omega (arith, s, all, sum_by_push parts_of others new_tally)),
      All-push IsIdleWithNoPart others new_tally (All-set IsIdleWithNoPart tallies pass left (λ none. absurd (omega (arith, none, two_parts))) rule.2)
          (λ none. (refl, refl)),
    )

-- a pass takes in another
pub joins : (pass : ℕ) (t : PassTally) (other : ℕ) (u : PassTally) → 0 < t.parts → Merges JobsAreKept pass t other u (joined t u) spent_tally
joins pass t other u some_part queued tallies rule at apart at_other =
    let both = joined t u in
    let rest = set tallies pass both in (
      (λ weight.
          let p = flat_changed weight puts_of tallies pass t both at in
          let q = flat_changed weight takes_of tallies pass t both at in
          let p' = flat_changed weight puts_of rest other u spent_tally at_other in
          let q' = flat_changed weight takes_of rest other u spent_tally at_other in
          let kept = rule.0 weight in
          omega (arith, p, q, p', q', kept, sum_by-append weight t.puts u.puts, sum_by-append weight t.takes u.takes)),
      (let s = sum_changed parts_of tallies pass t both at in
          let s' = sum_changed parts_of rest other u spent_tally at_other in
          let all = rule.1 in
          omega (arith, s, s', all)),
      All-set IsIdleWithNoPart rest other spent_tally (λ none. (refl, refl))
          (All-set IsIdleWithNoPart tallies pass both (λ none. absurd (omega (arith, none, some_part))) rule.2),
    )

-- passes that have no part have put and taken nothing, together
nothing_with_no_part : (weight : Job → ℕ) (list : PassTally → List Job) → ((t : PassTally) → t.parts ≡ 0 → IsIdleWithNoPart t → list t ≡ [])
    → (tallies : List PassTally) → sum_by parts_of tallies ≡ 0 → All IsIdleWithNoPart tallies → sum_by weight (flat_map list tallies) ≡ 0
nothing_with_no_part weight list is_empty [] none idle = refl
nothing_with_no_part weight list is_empty (t ∷ tallies) none idle =
    let sum = sum_by-cons parts_of t tallies in
    let first : list t ≡ [] = is_empty t (omega (arith, sum, none)) (idle 0 t (omega arith)) in
    let rest = nothing_with_no_part weight list is_empty tallies (omega (arith, sum, none)) (λ k d within. idle (suc k) d (omega (arith, within))) in
    ap (λ jobs. sum_by weight (jobs ++ flat_map list tallies)) first ∙ rest

-- the pass with every part has put or taken all that was
all_of_whole : (weight : Job → ℕ) (list : PassTally → List Job) → ((t : PassTally) → t.parts ≡ 0 → IsIdleWithNoPart t → list t ≡ []) → list spent_tally ≡ []
    → (pass : ℕ) (t : PassTally) (tallies : List PassTally) → t.parts ≡ every_part → sum_by parts_of tallies ≡ every_part → All IsIdleWithNoPart tallies
    → get_elem? tallies pass ≡ some t → sum_by weight (flat_map list tallies) ≡ sum_by weight (list t)
all_of_whole weight list is_empty none_spent pass t tallies whole all idle at =
    let others = set tallies pass spent_tally in
    let parts = sum_changed parts_of tallies pass t spent_tally at in
    let change = flat_changed weight list tallies pass t spent_tally at in
    let spent : sum_by weight (list spent_tally) ≡ 0 = ap (sum_by weight) none_spent in
    let idle_others = All-set IsIdleWithNoPart tallies pass spent_tally (λ none. (refl, refl)) idle in
    let rest = nothing_with_no_part weight list is_empty others (omega (arith, parts, whole, all)) idle_others in
    omega (arith, change, rest, spent)

-- what it learns: the jobs queued are those that it put and hasn't taken
pub learns : (pass : ℕ) (t : PassTally) → Learns JobsAreKept pass t (KnowsAll t)
learns pass t queued tallies rule at whole weight =
    let p = all_of_whole weight puts_of (λ u none idle. (idle none).0) refl pass t tallies whole rule.1 rule.2 at in
    let q = all_of_whole weight takes_of (λ u none idle. (idle none).1) refl pass t tallies whole rule.1 rule.2 at in
    let kept = rule.0 weight in
    omega (arith, p, q, kept)
