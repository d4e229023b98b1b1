-- What the callback leaves of the filter that was found for an instance.
use Rattle.fm_local.proofs.Words.{◌≡◌, ⊤, FilterId, Instance, None, Option, Some, option_and_then, option_map, refl, subst, ◌∙◌, ap, ℕ, WORKER}
use Rattle.std.specs.Borrow.{Bor}
use Rattle.std.specs.Prelude.{MatchOption}
use Rattle.fm_filter.specs.Standing.{Kept}
use Rattle.fm_local.specs.Callbacks.{CallsOnly}
use Rattle.fm_local.specs.Chains.{filter_in_row}
use Rattle.fm_local.specs.Waits.{standing_with}
use Rattle.fm_local.specs.declared.local_port.Work.{Work}
use Rattle.fm_local.proofs.operations.FilterAnswers.{is_quiet_found}
use Rattle.fm_local.proofs.queues.ManagerWaits.{calls_only}

module _ {F : Type 0} (filters : ℕ → Option F) (row : Option Instance) (number : Option FilterId)
    (is : number ≡ option_map (λ (x : Instance). x.filter) row) where
  wanted : option_and_then (λ (n : FilterId). filters n.0) number ≡ filter_in_row filters row
  wanted = ap (option_and_then (λ (n : FilterId). filters n.0)) is ∙ by_row row
    where
      by_row : (m : Option Instance) → option_and_then (λ (n : FilterId). filters n.0) (option_map (λ (x : Instance). x.filter) m) ≡ filter_in_row filters m
      by_row None = refl
      by_row (Some x) = refl

  pub calls_found : (is_quiet : F → Type 0) (result : Option (Bor F)) (old new : Work)
      → MatchOption result (option_and_then (λ (n : FilterId). filters n.0) number ≡ None)
      (λ f. option_and_then (λ (n : FilterId). filters n.0) number ≡ Some f.now)
      → (MatchOption result ⊤ (λ f. is_quiet f.now) → new ≡ old)
      → ◌≡◌ {A = Kept} (record { worker = WORKER; standing = Some (standing_with new.resumed.items.items new.state) })
      (record { worker = WORKER; standing = Some (standing_with old.resumed.items.items old.state) })
      → CallsOnly is_quiet (filter_in_row filters row) old new
  calls_found is_quiet result old new found quiet kept =
      calls_only is_quiet (filter_in_row filters row) old new WORKER
      (λ calls. quiet (is_quiet_found (filter_in_row filters row) is_quiet result
      (subst (λ (w : Option F). MatchOption result (w ≡ None) (λ f. w ≡ Some f.now)) wanted found) calls))
      kept
