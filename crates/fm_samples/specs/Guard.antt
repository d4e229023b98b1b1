-- The filter that denies creates below one folder.
use Rattle.std.specs.Prelude.{◌≡◌, ℕ, Bool, true, false, cond, List, codes, nat_eq}
use Rattle.std.specs.List.{starts_with}
use Rattle.fm_types.specs.declared.registration.Registration.{Registration}
use Rattle.fm_types.specs.declared.status.Status.TheVariants as status
use Rattle.fm_callback_data.specs.declared.params.Params.{Params}
use Rattle.fm_callback_data.specs.declared.params.Params.TheVariants as params
use Rattle.fm_callback_data.specs.declared.verdict.PreVerdict.{PreVerdict}
use Rattle.fm_callback_data.specs.declared.verdict.PreVerdict.TheVariants as verdict
use Rattle.fm_callback_data.specs.Data.{Data, current_of}

-- it has a preoperation of creates alone
abbrev pub guard_registers : Registration
guard_registers = record { pre = record { 0 = 1 }; post = record { 0 = 0 }; contexts = record { 0 = 0 }; query = true; unload = true }

-- a path below the folder `deny`
abbrev pub is_below_deny : List ℕ → Bool
is_below_deny path = starts_with nat_eq path (codes "deny/")

abbrev pub is_denied : Params → Bool
is_denied (params.Create path mode) = is_below_deny path
is_denied _ = false

-- such a create is completed with AccessDenied, and everything else goes on, as it is
abbrev pub GuardsPre : Data → PreVerdict → Data → Type 0
GuardsPre old answer new =
    (answer ≡ cond (is_denied (current_of old)) (verdict.Complete status.AccessDenied) verdict.NoCallback) × (new ≡ old)
