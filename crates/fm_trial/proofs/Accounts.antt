-- What lines count and tell.
use Rattle.std.proofs.Common.{◌≡◌, ◌∙◌, ◌++◌, ◌<◌, Bool, ℕ, true, false, ap, subst, sym, arith}
use Rattle.fm_local.specs.declared.parts.Parts.{Parts}
use Rattle.fm_local.specs.Offered.{leaks, refused_calls, steps}
use Rattle.fm_mistakes.specs.declared.account.Account.{Account}
use Rattle.fm_mistakes.specs.Accounts.{tellings}
use Rattle.fm_mistakes.specs.Findings.{findings}
use Rattle.fm_trial.specs.Scenarios.{CountsUnmet, Keeps, Reports}

-- an expectation that isn't met is counted, and one that is changes nothing more
pub counts_unmet : (met : Bool) (between new : Account) → met ≡ false → new ≡ record between { unmet = new.unmet } → 0 < new.unmet
    → CountsUnmet met between new
counts_unmet met between new is same more = subst (λ b. CountsUnmet b between new) (sym is) (same, more)

pub counts_met : (met : Bool) (between new : Account) → met ≡ true → new ≡ between → CountsUnmet met between new
counts_met met between new is same = subst (λ b. CountsUnmet b between new) (sym is) same

module _ {F B : Type 0} (noted : Parts F B) where
  -- what is told after a request began is told after what was told before it
  pub begins : (old began new : Account) (n : ℕ) → began ≡ record old { request = n } → Reports noted began new → Reports noted old new
  begins old began new n same reports =
      let told = ap (λ (a : Account). a.told.items) same in
      let unmet = ap (λ (a : Account). a.unmet) same in
      let dropped = ap (λ (a : Account). a.dropped) same in record {
        told =
            reports.told
            ∙ ap (λ items. items ++ tellings new.request (findings (steps noted) (leaks noted) (refused_calls noted))) told;
        unmet = reports.unmet ∙ unmet;
        kept = omega (arith, reports.kept, dropped);
        dropped = reports.dropped;
      }

  -- and stays told
  pub stays : (old mid new : Account) → Reports noted old mid → Keeps mid new → Reports noted old new
  stays old mid new reports keeps = record {
    told =
        keeps.told ∙ reports.told
        ∙ ap (λ n. old.told.items ++ tellings n (findings (steps noted) (leaks noted) (refused_calls noted))) (sym keeps.request);
    unmet = keeps.unmet ∙ reports.unmet;
    kept = omega (arith, reports.kept, keeps.dropped);
    dropped = omega (arith, reports.dropped, keeps.dropped);
  }
