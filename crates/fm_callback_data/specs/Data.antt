-- Callback data as its callers see it.
use Rattle.std.specs.Prelude.{ℕ, ◌≤◌, ◌&&◌, Bool, true, List, [], length, Option, Some, None, option_map, unwrap_or, nat_le, IsTrue}
use Rattle.fm_types.specs.declared.operation.Operation.{Operation}
use Rattle.fm_types.specs.declared.status.Status.{Status}
use Rattle.fm_types.specs.declared.status.Status.TheVariants.{Success}
use Rattle.fm_callback_data.specs.declared.params.Params.{Params}
use Rattle.fm_callback_data.specs.declared.answer.Answer.{Answer}
use Rattle.fm_callback_data.specs.declared.callback_data.Parts.{Parts}
use Rattle.fm_callback_data.specs.Params.{is_within_limits, fit, may_replace}

-- what a callback received, what was put in its place, and the answer so far
pub record Data : Type 0 where
  pub received : Params
  pub changed : Option Params
  pub status : Status
  pub information : ℕ
  pub out : List ℕ

-- what a callback's data consists of, as its callers see it
abbrev pub data_of : Parts → Data
data_of parts =
    record {
      received = parts.received;
      changed = parts.changed;
      status = parts.answer.status;
      information = parts.answer.information;
      out = parts.answer.bytes;
    }

-- the parameters that count: the changed ones, or else those that were received
abbrev pub current_of : Data → Params
current_of d = unwrap_or d.changed d.received

-- what a callback on the way down is given: nothing is answered yet
abbrev pub fresh_data : Params → Data
fresh_data p = record { received = p; changed = None; status = Success; information = 0; out = [] }

-- what a callback on the way up is given: the answer so far
abbrev pub answered_data : Params → Answer → Data
answered_data p answer = record { received = p; changed = None; status = answer.status; information = answer.information; out = answer.bytes }

-- what a callback received that it put something else in place of
abbrev pub replaced_in : Data → Option Params
replaced_in d = option_map (λ p. d.received) d.changed

-- a change passes a test, where there is one
abbrev pub change_passes : (Params → Bool) → Option Params → Bool
change_passes test None = true
change_passes test (Some p) = test p

-- the laws of callback data: what was received and what stands in its place keep the limits, and so does the answer
pub record IsData (d : Data) : Type 0 where
  pub limits : IsTrue (is_within_limits d.received)
  pub change : IsTrue (change_passes (may_replace d.received) d.changed)
  pub size : length d.out ≤ 32768

-- data that a callback of such an operation may hand back
abbrev pub data_fits : Operation → Option (List ℕ) → Data → Bool
data_fits operation path d = fit operation path d.received && (change_passes (fit operation path) d.changed && nat_le (length d.out) 32768)
