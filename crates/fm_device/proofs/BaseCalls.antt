-- A call that one of the bases answers, or none.
use Rattle.std.specs.Prelude.{◌≡◌, ◌≢◌, ◌≤◌, ◌<◌, ℕ, List, Option, Some, None, length, refl, slice_get, slice_set, slice_index_or}
use Rattle.std.proofs.Common.{sym, subst, ap, ◌∙◌, inl, inr, arith, unwrap_or}
use Rattle.std.specs.FinMap.{empty}
use Rattle.std.proofs.lemmas.List.{ext_get_or, get_or-set_other, get_or-set_same, length-set}
use Rattle.std.proofs.lemmas.Bool.{cases_eq}
use Rattle.std.proofs.lemmas.Option.{get_or_from_slice_get, slice_get-get_or, slice_get_cases, slice_get_past, slice_get_read, slice_get_within, unwrap_or-slice_get}
use Rattle.fm_types.proofs.Lists.{slice_get-set_same, slice_get-set_other}
use Rattle.fm_types.specs.declared.status.Status.TheVariants.{NoVolume, DeviceFault}
use Rattle.fm_callback_data.specs.Calls.{BaseCall}
use Rattle.fm_callback_data.specs.declared.answer.Answer.{Answer}
use Rattle.fm_base.specs.Folders.{Folder}
use Rattle.fm_device.specs.Devices.{bare, faults_told, CarriesAny, CarriesCall, KnownAs}
use Rattle.fm_device.specs.Bases.{BaseCarries, BasesCarry}

module _ {B : Type 0} (folder : B → Option Folder) (faults : B → ℕ) (old : List B) (call : BaseCall) (answer : Answer) where
  -- the base of the volume answers, and nothing but it changes
  carried_there : (was is : B) → slice_get old call.volume.0 ≡ Some was
      → KnownAs (folder was) (folder is) (λ b a. CarriesAny call.path call.params b a answer)
      → faults is ≡ faults_told answer.status (faults was)
      → BasesCarry folder faults old call answer (slice_set old call.volume.0 is)
  carried_there was is at known counts = record {
    absent = λ past. absurd (none (sym at ∙ slice_get_past old call.volume.0 past));
    carried = λ found here. (
      is,
      slice_get-set_same old call.volume.0 is within,
      subst (λ (b : B). BaseCarries folder faults call answer b is) (same found here) (record { known = known; counts = counts }),
    );
    others = λ k other. slice_get-set_other old call.volume.0 k is other;
    same = length-set old call.volume.0 is;
  }
    where
      none : Some was ≡ None → ⊥
      none p = cc

      within : call.volume.0 < length old
      within = slice_get_within old call.volume.0 was at

      same : (found : B) → slice_get old call.volume.0 ≡ Some found → was ≡ found
      same found here = cc

  pub there : (n : ℕ) → n ≡ call.volume.0 → (was is : B) → n < length old → was ≡ slice_index_or old n was
      → KnownAs (folder was) (folder is) (λ b a. CarriesAny call.path call.params b a answer)
      → faults is ≡ faults_told answer.status (faults was)
      → BasesCarry folder faults old call answer (slice_set old n is)
  there n at was is within value known counts =
      subst (λ (k : ℕ). BasesCarry folder faults old call answer (slice_set old k is)) (sym at)
      (carried_there was is (subst (λ (k : ℕ). slice_get old k ≡ Some was) at (slice_get_read old (length old) n was refl within value)) known counts)

  -- there is no base of that volume
  none_at : length old ≤ call.volume.0 → answer ≡ bare NoVolume → BasesCarry folder faults old call answer old
  none_at past refused = record {
    absent = λ _. (refused, refl);
    carried = λ found here. absurd (none found (sym here ∙ slice_get_past old call.volume.0 past));
    others = λ k other. refl;
    same = refl;
  }
    where
      none : (found : B) → Some found ≡ None → ⊥
      none found p = cc

  pub none_there : (n : ℕ) → n ≡ call.volume.0 → length old ≤ n → answer ≡ bare NoVolume → BasesCarry folder faults old call answer old
  none_there n at past refused = none_at (subst (λ (k : ℕ). length old ≤ k) at past) refused

-- bases that know their folders and meet no fault answer as these folders say
module _ (old new : List Folder) (call : BaseCall) (answer : Answer) (carry : BasesCarry Some (λ folder. 0) old call answer new) where
  abbrev at : ℕ
  at = call.volume.0

  -- there is no fault
  sound : answer ≢ bare DeviceFault
  sound fault =
      elim (slice_get_cases old at).1 [
        | inl here ↦ let (is, there, one) = carry.carried here.0 here.2 in let none : 0 ≡ 1 = one.counts
            ∙ ap (λ (a : Answer). faults_told a.status 0) fault in absurd (omega (arith, none))
        | inr past ↦ let refused = (carry.absent past.0).0 in let s : NoVolume ≡ DeviceFault = ap (λ (a : Answer). a.status) (sym refused ∙ fault) in cc
      ]

  carried_by : at < length old → CarriesAny call.path call.params (slice_index_or old at empty) (slice_index_or new at empty) answer
  carried_by within =
      let (is, there, one) = carry.carried (slice_index_or old at empty) (slice_get-get_or old at empty within) in
      subst (λ (f : Folder). CarriesAny call.path call.params (slice_index_or old at empty) f answer)
      (sym (get_or_from_slice_get new at is empty there)) one.known

  -- all others stay, so the lists are one but for the folder of the volume
  one_set : new ≡ slice_set old at (slice_index_or new at empty)
  one_set = ext_get_or empty new (slice_set old at (slice_index_or new at empty)) (carry.same ∙ sym (length-set old at (slice_index_or new at empty))) same_at
    where
      same_at : (k : ℕ) → k < length new → slice_index_or new k empty ≡ slice_index_or (slice_set old at (slice_index_or new at empty)) k empty
      same_at k within =
          elim (cases_eq k at) [
            | inl same ↦ rw same (sym (get_or-set_same old at (slice_index_or new at empty) empty (rw (← same, ← carry.same) within)))
            | inr other ↦ sym (unwrap_or-slice_get new k empty)
                ∙ ap (λ (row : Option Folder). unwrap_or row empty) (carry.others k other) ∙ unwrap_or-slice_get old k empty
                ∙ sym (get_or-set_other old at k (slice_index_or new at empty) empty other)
          ]

  pub carries_call : CarriesCall old call answer new
  carries_call = record { absent = carry.absent; carried = carried_by; sound = sound; others = one_set }
