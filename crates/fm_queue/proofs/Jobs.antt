-- Jobs counted with repeats.
use Rattle.std.proofs.Common.{◌≡◌, ℕ, List, [], ◌∷◌, length, sum_by, refl, arith}
use Rattle.std.proofs.lemmas.List.Sums.{sum_by-cons}
use Rattle.fm_queue.specs.declared.job.Job.{Job}
use Rattle.fm_queue.specs.Jobs.{IsKept}

-- where each job weighs 1, the jobs weigh as much as they are
weight_of_one : (jobs : List Job) → sum_by (λ _. 1) jobs ≡ length jobs
weight_of_one [] = refl
weight_of_one (job ∷ jobs) = let more = sum_by-cons (λ (_ : Job). 1) job jobs in let rest = weight_of_one jobs in omega (arith, more, rest)

weight_of_none : (jobs : List Job) → length jobs ≡ 0 → (weight : Job → ℕ) → sum_by weight jobs ≡ 0
weight_of_none [] none weight = refl
weight_of_none (job ∷ jobs) none weight = absurd (omega (arith, none))

-- where as many were taken as were put, none is queued
pub nothing_left : (puts takes queued : List Job) → IsKept puts takes queued → length takes ≡ length puts → IsKept puts takes []
nothing_left puts takes queued kept as_many weight =
    let numbers = kept (λ _. 1) in
    let none = weight_of_none queued (omega (arith, numbers, as_many, weight_of_one puts, weight_of_one takes, weight_of_one queued)) weight in
    let all = kept weight in
    omega (arith, all, none)
