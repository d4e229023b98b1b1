-- The answer to an operation as a fold over the instances that it meets: the parameters are folded down through the preoperations, and the answer is folded
-- up through the postoperations that were asked for, in the reverse order.
use Rattle.std.specs.Prelude.{[], ◌∷◌, ◌≡◌, Bool, List, None, false, true, ℕ}
use Rattle.fm_local.specs.Words.{Data, Completion, PostVerdict, Finished, PreVerdict, bare_answer, Answer, Operation, Params, Status}
use Rattle.fm_callback_data.specs.Data.{current_of, fresh_data, answered_data}
use Rattle.fm_operations.specs.declared.entry.PreState.{PreState}
use Rattle.fm_operations.specs.Steps.{lent_answer, returned_answer}
use Rattle.fm_operations.specs.Verdict.{verdict_counted}

-- what an operation meets on its way: its kind, which instances have callbacks for it and what these may answer, what the base may answer, and what a filter
-- that completes the operation makes of what lies below
pub record Chain (W : Type 0) : Type 1 where
  pub operation : Operation
  pub has_pre : ℕ → Bool
  pub has_post : ℕ → Bool
  pub pre_may : ℕ → Data → PreVerdict → Data → Type 0
  pub post_may : ℕ → Data → Completion → PostVerdict → Data → Type 0
  pub base_may : Params → W → Answer → W → Type 0
  pub completes : Status → W → W

-- an instance that asked for its postoperation: what its preoperation received, and the completion that it gave
pub record Asker : Type 0 where
  pub instance : ℕ
  pub received : Params
  pub completion : Completion

abbrev pub asker : ℕ → Params → Completion → Asker
asker i p completion = record { instance = i; received = p; completion = completion }

-- the completion of an instance whose filter has no preoperation callback
abbrev pub bare_completion : Completion
bare_completion = record { number = 0; context = None }

-- on its way up, an answer passes those that asked, the one that asked last first
abbrev pub Rises : {W : Type 0} → Chain W → List Asker → Answer → Answer → Type 0
Rises chain [] before answer = answer ≡ before
Rises chain (x ∷ above) before answer =
    (back : Data) × chain.post_may x.instance (answered_data x.received (lent_answer chain.operation before)) x.completion Finished back
    × Rises chain above (returned_answer chain.operation before back) answer

-- where a verdict leads that counts: down, with one more that asked or without, or up again
abbrev pub Leads : {W : Type 0} → Chain W → (Params → List Asker → W → Answer → W → Type 0) → ℕ → Params → Data → List Asker → PreState
    → W → Answer → W → Type 0
Leads chain Below i p back asked (PreState.Asked completion) old answer new = Below (current_of back) (asker i p completion ∷ asked) old answer new
Leads chain Below i p back asked (PreState.Synchronized completion) old answer new = Below (current_of back) (asker i p completion ∷ asked) old answer new
Leads chain Below i p back asked PreState.Passed old answer new = Below (current_of back) asked old answer new
Leads chain Below i p back asked (PreState.Completed status) old answer new = Rises chain asked (bare_answer status) answer × (new ≡ chain.completes status old)
Leads chain Below i p back asked PreState.Running old answer new = ⊥
Leads chain Below i p back asked PreState.Held old answer new = ⊥

-- an instance is met on the way down: its preoperation gives a verdict, or, where it has none, it asks for its postoperation
abbrev pub Visit : {W : Type 0} → Chain W → (Params → List Asker → W → Answer → W → Type 0) → ℕ → Bool → Params → List Asker → W → Answer → W → Type 0
Visit chain Below i true p asked old answer new =
    (given : PreVerdict) × (back : Data) × chain.pre_may i (fresh_data p) given back
    × Leads chain Below i p back asked (verdict_counted given chain.operation (chain.has_post i)) old answer new
Visit chain Below i false p asked old answer new = Below p (asker i p bare_completion ∷ asked) old answer new

-- on its way down, an operation meets these instances, and then the base
abbrev pub Descends : {W : Type 0} → Chain W → List ℕ → Params → List Asker → W → Answer → W → Type 0
Descends chain [] p asked old answer new = (given : Answer) × chain.base_may p old given new × Rises chain asked given answer
Descends chain (i ∷ below) p asked old answer new = Visit chain (Descends chain below) i (chain.has_pre i) p asked old answer new

-- the fold: down through these instances with the client's parameters, and up again to the client
abbrev pub Folds : {W : Type 0} → Chain W → List ℕ → Params → W → Answer → W → Type 0
Folds chain is p old answer new = Descends chain is p [] old answer new
