-- The number that a load gives, and what it stands for.
use Rattle.fm_local.proofs.Words.{◌≡◌, FilterId, List, Ok, Option, Some, World, ℕ, ◌<◌, ◌∙◌, ap, arith, length, option_and_then, option_map, slice_get, sym, Registers, Filters}
use Rattle.std.specs.Prelude.{nat_le, ok_or, slice_set, false, None}
use Rattle.fm_types.specs.declared.status.Status.TheVariants.{NoFilter}
use Rattle.std.proofs.lemmas.Bool.Decides.{nat_tests}
use Rattle.fm_types.specs.declared.registration.Registration.{Registration}
use Rattle.fm_types.proofs.Lists.{slice_get-set_same, slice_get-set_other}
use Rattle.fm_types.proofs.Refusals.{none_refuses}
use Rattle.fm_stack.specs.Events as setting
use Rattle.fm_local.specs.Calls.{Numbers}
use Rattle.fm_filter.specs.Handed.{handed_in, place_called}

-- the number is one of those that there is room for
pub registered_within : (old : World) (name : List ℕ) (registration : Registration) (f : FilterId) (new : World)
    → Registers old name registration (Ok f) new → f.0 < 16
unfolding Registers setting.Registers
registered_within old name registration f new h =
    let room : nat_le 16 (length old.stack.filters) ≡ false = (none_refuses (setting.register_refusals old.stack name) h.0.0).1.0 in
    let at : f.0 ≡ length old.stack.filters = h.0.1.0 in
    grind (arith, nat_tests)

module _ {F : Type 0} (old new : Filters F) (same : new.all ≡ old.all) where
  handed : (place : Option ℕ) → option_and_then (handed_in new) place ≡ option_and_then (handed_in old) place
  handed place = ap (λ all. option_and_then (λ at. option_map (λ row. row.1) (slice_get all.items at)) place) same

  -- a number that was noted for the place of a name stands for the filter there
  pub noted_numbers : (name : List ℕ) (f : FilterId) (place : ℕ) → place_called name old.all.items ≡ Some place
      → new.loaded ≡ slice_set old.loaded f.0 (Some place)
      → f.0 < length old.loaded → Numbers old name f new
  noted_numbers name f place called noted within = record {
    own = ap (λ loaded. option_and_then (handed_in new) (option_and_then (λ (p : Option ℕ). p) (slice_get loaded f.0))) noted
        ∙ ap (λ (m : Option (Option ℕ)). option_and_then (handed_in new) (option_and_then (λ (p : Option ℕ). p) m))
        (slice_get-set_same old.loaded f.0 (Some place) within)
        ∙ handed (Some place) ∙ ap (option_and_then (handed_in old)) (sym called);
    others = λ n other. ap (λ loaded. option_and_then (handed_in new) (option_and_then (λ (p : Option ℕ). p) (slice_get loaded n))) noted
        ∙ ap (λ (m : Option (Option ℕ)). option_and_then (handed_in new) (option_and_then (λ (p : Option ℕ). p) m))
        (slice_get-set_other old.loaded f.0 n (Some place) other)
        ∙ handed (option_and_then (λ (p : Option ℕ). p) (slice_get old.loaded n));
  }

-- the name has a place where it was found
pub found_place : (m : Option ℕ) (place : ℕ) → Ok place ≡ ok_or m NoFilter → m ≡ Some place
found_place None place h = cc
found_place (Some at) place h = cc
