-- The quiet samples are plain.
use Rattle.std.proofs.Common.{◌≡◌, ℕ, ◌<◌, Bool, true, false, cond, List, [], ◌∷◌, refl, arith, rules}
use Rattle.std.specs.Prelude.{All}
use Rattle.std.proofs.lemmas.List.Elements.{All-tail}
use Rattle.fm_callback_data.specs.declared.params.Params.{Params}
use Rattle.fm_callback_data.specs.declared.params.Params.TheVariants as params
use Rattle.fm_callback_data.specs.declared.verdict.Completion.{Completion}
use Rattle.fm_callback_data.specs.declared.verdict.PreVerdict.{PreVerdict}
use Rattle.fm_callback_data.specs.declared.verdict.PreVerdict.TheVariants as verdict
use Rattle.fm_callback_data.specs.declared.verdict.PostVerdict.{PostVerdict}
use Rattle.fm_callback_data.specs.Data.{Data, current_of}
use Rattle.fm_types.specs.declared.status.Status.TheVariants as status
use Rattle.fm_filter.specs.Plain.{IsPlainFilter, IsPlainPre, IsPlainPost}
use Rattle.fm_samples.specs.declared.sample.Sample.{Sample}
use Rattle.fm_samples.specs.declared.sample.Sample.TheVariants as sample
use Rattle.fm_samples.specs.Sample.{SamplesPre, SamplesPost, IsQuietSample}
use Rattle.fm_samples.specs.Common.{IsBarePost}
use Rattle.fm_samples.specs.Guard.{is_denied, GuardsPre}
use Rattle.fm_samples.specs.Shift.{raised_byte, lowered_byte, raised, lowered, ShiftsPost, ShiftsParams}

denied_plain : (b : Bool) (answer : PreVerdict) → answer ≡ cond b (verdict.Complete status.AccessDenied) verdict.NoCallback → IsPlainPre answer
denied_plain true answer e = search rules
denied_plain false answer e = search rules

guard_descends : (old : Data) (answer : PreVerdict) (new : Data) → GuardsPre old answer new → IsPlainPre answer
guard_descends old answer new h = denied_plain (is_denied (current_of old)) answer h.0

bare_ascends : (old : Data) (completion : Completion) (answer : PostVerdict) (new : Data) → IsBarePost old completion answer new → IsPlainPost answer
bare_ascends old completion answer new h = search rules

shift_ascends : (old : Data) (completion : Completion) (answer : PostVerdict) (new : Data) → ShiftsPost old completion answer new → IsPlainPost answer
shift_ascends old completion answer new h = search rules

shifted_plain : (p : Params) (old : Data) (answer : PreVerdict) (new : Data) → ShiftsParams p old answer new → IsPlainPre answer
shifted_plain (params.Write offset bytes) old answer new h = search rules
shifted_plain (params.Read offset len) old answer new h = search rules
shifted_plain (params.Create path mode) old answer new h = search rules
shifted_plain params.QuerySize old answer new h = search rules
shifted_plain (params.SetSize size) old answer new h = search rules
shifted_plain params.Flush old answer new h = search rules
shifted_plain params.List old answer new h = search rules
shifted_plain params.SetDelete old answer new h = search rules
shifted_plain params.Restore old answer new h = search rules
shifted_plain params.Cleanup old answer new h = search rules
shifted_plain (params.Other major number) old answer new h = search rules
shifted_plain params.Close old answer new h = search rules

pub plain_where_quiet : (f : Sample) → IsQuietSample f → IsPlainFilter SamplesPre SamplesPost IsQuietSample f
plain_where_quiet (sample.Guard filter) = λ quiet. record { descends = guard_descends; ascends = bare_ascends; quiet = quiet }
plain_where_quiet (sample.Shift filter) = λ quiet. record {
  descends =
      λ old answer new h. shifted_plain (current_of old) old answer new h;
  ascends = shift_ascends;
  quiet = quiet;
}
plain_where_quiet (sample.Meter filter) = elim [ ]
plain_where_quiet (sample.Hold filter) = elim [ ]
plain_where_quiet (sample.Carry filter) = elim [ ]
plain_where_quiet (sample.Stay filter) = elim [ ]
plain_where_quiet (sample.Scan filter) = elim [ ]

byte_back : (byte : ℕ) → byte < 256 → lowered_byte (raised_byte byte) ≡ byte
byte_back byte small = grind arith

pub all_back : (bytes : List ℕ) → All (λ byte. byte < 256) bytes → lowered (raised bytes) ≡ bytes
all_back [] small = refl
all_back (byte ∷ bytes) small =
    let e : lowered_byte (raised_byte byte) ≡ byte = byte_back byte (small 0 0 (omega arith)) in
    let f : lowered (raised bytes) ≡ bytes = all_back bytes (All-tail (λ b. b < 256) byte bytes small) in
    rw e (rw f refl)
