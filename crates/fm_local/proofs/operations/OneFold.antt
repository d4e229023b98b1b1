-- A fold of functions has one answer and one end.
use Rattle.fm_local.proofs.Words.{[], ◌∷◌, ◌≡◌, Answer, BaseCall, Bool, Completion, Data, Finished, List, Params, PostVerdict, PreVerdict}
use Rattle.fm_local.proofs.Words.{bare_answer, false, true, ℕ, ◌∙◌, subst, sym, answered_data, fresh_data, lent_answer, returned_answer}
use Rattle.fm_local.proofs.Words.{verdict_counted, PreState, chain_of, Asker, Chain, Descends, Leads, Rises, Visit, asker}
use Rattle.fm_callback_data.specs.Data.{current_of}
use Rattle.fm_local.specs.Folds.{bare_completion}
use Rattle.fm_local.specs.Functions.{IsFunctional, OneFold}

-- one answer and one end
pub record AreOne {W : Type 0} (a b : Answer) (x y : W) : Type 0 where
  pub answer : a ≡ b
  pub end : x ≡ y

module _ {W : Type 0} (chain : Chain W) (fixed : IsFunctional chain) where
  rises_once : (asked : List Asker) (before a b : Answer) → Rises chain asked before a → Rises chain asked before b → a ≡ b
  rises_once [] before a b h k = h ∙ sym k
  rises_once (x ∷ above) before a b h k =
      let same = (fixed.post x.instance (answered_data x.received (lent_answer chain.operation before)) x.completion Finished Finished h.0 k.0 h.1 k.1).1 in
      rises_once above (returned_answer chain.operation before h.0) a b h.2
      (subst (λ (back : Data). Rises chain above (returned_answer chain.operation before back) b) (sym same) k.2)

  -- a way down with one answer and one end
  abbrev Once : (Params → List Asker → W → Answer → W → Type 0) → Type 0
  Once Below = (p : Params) (asked : List Asker) (old : W) (a b : Answer) (x y : W) → Below p asked old a x → Below p asked old b y → AreOne a b x y

  module _ (Below : Params → List Asker → W → Answer → W → Type 0) (once : Once Below) (i : ℕ) (p : Params) (asked : List Asker)
      (old : W) (a b : Answer) (x y : W) where
    leads_once : (back : Data) (state : PreState) → Leads chain Below i p back asked state old a x
        → Leads chain Below i p back asked state old b y → AreOne a b x y
    leads_once back (PreState.Asked completion) h k = once (current_of back) (asker i p completion ∷ asked) old a b x y h k
    leads_once back PreState.Passed h k = once (current_of back) asked old a b x y h k
    leads_once back (PreState.Completed status) h k = record { answer = rises_once asked (bare_answer status) a b h.0 k.0; end = h.1 ∙ sym k.1 }
    leads_once back PreState.Running h k = absurd h
    leads_once back PreState.Held h k = absurd h
    leads_once back (PreState.Synchronized completion) h k = once (current_of back) (asker i p completion ∷ asked) old a b x y h k

    visit_once : (called : Bool) → Visit chain Below i called p asked old a x → Visit chain Below i called p asked old b y → AreOne a b x y
    visit_once true h k =
        let same = fixed.pre i (fresh_data p) h.0 k.0 h.1 k.1 h.2 k.2 in
        let Led : PreVerdict → Data → Type 0 =
        λ given back. Leads chain Below i p back asked (verdict_counted given chain.operation (chain.has_post i)) old b y in
        leads_once h.1 (verdict_counted h.0 chain.operation (chain.has_post i)) h.3
        (subst (λ (given : PreVerdict). Led given h.1) (sym same.0) (subst (λ (back : Data). Led k.0 back) (sym same.1) k.3))
    visit_once false h k = once p (asker i p bare_completion ∷ asked) old a b x y h k

  pub descends_once : (is : List ℕ) → Once (Descends chain is)
  descends_once [] p asked old a b x y h k =
      let same = fixed.base p old h.0 k.0 x y h.1 k.1 in
      record {
        answer = rises_once asked h.0 a b h.2 (subst (λ (given : Answer). Rises chain asked given b) (sym same.0) k.2);
        end = same.1;
      }
  descends_once (i ∷ below) p asked old a b x y h k = visit_once (Descends chain below) (descends_once below) i p asked old a b x y (chain.has_pre i) h k

-- so of every chain of a manager
pub one_fold : {F D : Type 0} (pre : F → Data → PreVerdict → Data → Type 0) (post : F → Data → Completion → PostVerdict → Data → Type 0)
    (carries : D → BaseCall → Answer → D → Type 0) → OneFold pre post carries
one_fold pre post carries filters s x is p old answer other new end fixed h k =
    let one = descends_once (chain_of pre post carries filters s x) fixed is p [] old answer other new end h k in
    (one.answer, one.end)
