-- What the commands on files and on the device stand for.
use Rattle.std.specs.Prelude.{ℕ, min, ◌^◌, ◌-◌, List, [], ◌∷◌, Result, Ok, Err}
use Rattle.fm_types.specs.declared.major.Major.{Major}
use Rattle.fm_types.specs.Majors.{major_at}
use Rattle.fm_script.specs.Words.{HandleId, Status, BadRequest, World, Keyword, Task, number_read, ◌>>=◌}
use Rattle.fm_callback_data.specs.declared.request.FileRequest.{FileRequest}
use Rattle.fm_callback_data.specs.declared.request.FileRequest.TheVariants as file
use Rattle.fm_callback_data.specs.declared.request.Request.TheVariants as request
use Rattle.fm_world.specs.declared.step.Step.TheVariants as step
use Rattle.fm_script.specs.declared.keyword.Keyword.TheVariants as keyword
use Rattle.fm_script.specs.declared.task.Task.TheVariants as task
use Rattle.fm_script.specs.Ids.{handle_in, volume_in}
use Rattle.fm_script.specs.Tasks.{or_bad, handle_id, volume_id, numbers_read, event}

-- a handle, and what is read behind it
unfoldable pub with_handle : {T : Type 0} → World → List ℕ → Result T Status → Result (HandleId × T) Status
with_handle w handle read = handle_id handle >>= λ h. read >>= λ it. handle_in w h >>= λ own. Ok (own, it)

-- a request on a handle begins
abbrev pub asked : World → ℕ → FileRequest → Result Task Status
asked w h what = handle_in w h >>= λ own. event (step.Begin (request.OnHandle own what))

-- the same of the handle that is the only word
abbrev pub only_asked : World → List (List ℕ) → FileRequest → Result Task Status
only_asked w (handle ∷ []) what = handle_id handle >>= λ h. asked w h what
only_asked w _ what = Err BadRequest

-- a length past all bounds stands for one that is past the limit
abbrev pub length_asked : ℕ → ℕ
length_asked len = min len (2 ^ 32 - 1)

abbrev pub read_read : World → List (List ℕ) → Result Task Status
read_read w (handle ∷ offset ∷ len ∷ []) =
    handle_id handle >>= λ h. numbers_read offset len >>= λ n. asked w h (file.Read n.0 (length_asked n.1))
read_read w _ = Err BadRequest

-- a handle and a number, as the only words
abbrev pub handle_and_number : World → List (List ℕ) → Result (HandleId × ℕ) Status
handle_and_number w (handle ∷ word ∷ []) = with_handle w handle (or_bad (number_read word))
handle_and_number w _ = Err BadRequest

abbrev pub set_size_read : World → List (List ℕ) → Result Task Status
set_size_read w words = handle_and_number w words >>= λ both. event (step.Begin (request.OnHandle both.0 (file.SetSize both.1)))

-- with the bytes that one more word spells
abbrev pub write_read : World → List (List ℕ) → List ℕ → Result Task Status
write_read w words bytes = handle_and_number w words >>= λ both. event (step.Begin (request.OnHandle both.0 (file.Write both.1 bytes)))

-- a major function by the kit's number, and what stands for its parameters
unfoldable pub major_read : List ℕ → List ℕ → Result (Major × ℕ) Status
major_read code word = numbers_read code word >>= λ n. or_bad (major_at n.0) >>= λ m. Ok (m, n.1)

-- such a request on a handle begins
abbrev pub other_read : World → List (List ℕ) → Result Task Status
other_read w (handle ∷ code ∷ word ∷ []) = handle_id handle >>= λ h. major_read code word >>= λ both. asked w h (file.Other both.0 both.1)
other_read w _ = Err BadRequest

-- and on a volume
abbrev pub other_on_volume_read : World → List (List ℕ) → Result Task Status
other_on_volume_read w (volume ∷ code ∷ word ∷ []) =
    volume_id volume >>= λ v. major_read code word >>= λ both. volume_in w v >>= λ at. event (step.Begin (request.OnVolume at both.0 both.1))
other_on_volume_read w _ = Err BadRequest

abbrev pub fail_read : List (List ℕ) → Result Task Status
fail_read (number ∷ []) = or_bad (number_read number) >>= λ n. Ok (task.Fail n)
fail_read _ = Err BadRequest

abbrev pub failures_read : List (List ℕ) → Result Task Status
failures_read [] = Ok task.Failures
failures_read _ = Err BadRequest

-- the words behind a keyword
abbrev pub file_read : World → Keyword → List (List ℕ) → Result Task Status
file_read w keyword.Read words = read_read w words
file_read w keyword.Size words = only_asked w words file.QuerySize
file_read w keyword.QuerySize words = only_asked w words file.QuerySize
file_read w keyword.SetSize words = set_size_read w words
file_read w keyword.Flush words = only_asked w words file.Flush
file_read w keyword.Delete words = only_asked w words file.SetDelete
file_read w keyword.SetDelete words = only_asked w words file.SetDelete
file_read w keyword.Restore words = only_asked w words file.Restore
file_read w keyword.Other words = other_read w words
file_read w keyword.OtherV words = other_on_volume_read w words
file_read w keyword.Cleanup words = only_asked w words file.Cleanup
file_read w keyword.Close words = only_asked w words file.Close
file_read w keyword.Fail words = fail_read words
file_read w keyword.Failures words = failures_read words
file_read w _ words = Err BadRequest
