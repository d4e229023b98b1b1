-- What a connection is answered, whatever other connections do.
use Rattle.std.specs.Prelude.{◌≡◌, ◌≢◌, ◌⊎◌, ◌==◌, ◌++◌, ◌∷◌, [], ℕ, Bool, true, false, filter, not, List, MatchBool}
use Rattle.std.specs.List.{list_any}
use Rattle.fm_types.specs.declared.ids.HandleId.{HandleId}
use Rattle.fm_callback_data.specs.declared.request.Request.{Request}
use Rattle.fm_callback_data.specs.declared.request.Request.TheVariants as request
use Rattle.fm_types.specs.declared.status.Status.{Status}
use Rattle.fm_types.specs.declared.status.Status.TheVariants.{NoHandle, Success}
use Rattle.fm_callback_data.specs.declared.request.FileRequest.{FileRequest}
use Rattle.fm_callback_data.specs.declared.request.FileRequest.TheVariants as file
use Rattle.fm_server.specs.Replies.{status_reply}
use Rattle.fm_callback_data.specs.declared.request.Reply.{Reply}
use Rattle.fm_callback_data.specs.declared.request.Reply.TheVariants as reply

-- a handle of that number is among these
abbrev pub has_handle : HandleId → List HandleId → Bool
has_handle handle handles = list_any (λ (own : HandleId). own.0 == handle.0) handles

-- an operation is asked for on a handle that is none of these
abbrev pub is_foreign : List HandleId → Request → Bool
is_foreign handles (request.OnHandle handle what) = not (has_handle handle handles)
is_foreign handles _ = false

-- a reply that says a status, and never that an operation is held
abbrev pub IsDone : Reply → Type 0
IsDone (reply.Done status information bytes) = Unit {0}
IsDone _ = ⊥

-- a create that succeeds gives its connection the handle that its answer names, and one that doesn't leaves it those that it had
pub record OpensHandle (status : Status) (information : ℕ) (old new : List HandleId) : Type 0 where
  pub opened : status ≡ Success → new ≡ old ++ record { 0 = information } ∷ []
  pub refused : status ≢ Success → new ≡ old

-- a close takes that handle from its connection, and leaves it all others
abbrev pub ClosesHandle : HandleId → List HandleId → List HandleId → Type 0
ClosesHandle handle old new = new ≡ filter (λ (own : HandleId). not (own.0 == handle.0)) old

-- a close that succeeds takes its own handle away; one that doesn't takes that or none
pub record EndsHandle (handle : HandleId) (status : Status) (old new : List HandleId) : Type 0 where
  pub closed : status ≡ Success → ClosesHandle handle old new
  pub refused : status ≢ Success → (new ≡ old) ⊎ ClosesHandle handle old new

abbrev pub is_close : FileRequest → Bool
is_close file.Close = true
is_close _ = false

-- what an operation on a handle that was answered so made of its connection's handles: only a close changes them
abbrev pub HandlesOn : HandleId → FileRequest → Status → List HandleId → List HandleId → Type 0
HandlesOn handle what status old new = MatchBool (is_close what) (EndsHandle handle status old new) (new ≡ old)

-- the same of any operation: a create that succeeds gives a handle, a close that succeeds takes it, and all else leaves them as they were
abbrev pub HandlesAfter : Request → Status → ℕ → List HandleId → List HandleId → Type 0
HandlesAfter (request.Create volume path mode) status information old new = OpensHandle status information old new
HandlesAfter (request.OnHandle handle what) status information old new = HandlesOn handle what status old new
HandlesAfter (request.List volume) status information old new = new ≡ old
HandlesAfter (request.OnVolume volume major number) status information old new = new ≡ old

-- the same of a reply
abbrev pub HandlesBy : Request → Reply → List HandleId → List HandleId → Type 0
HandlesBy asked (reply.Done status information bytes) old new = HandlesAfter asked status information old new
HandlesBy asked _ old new = ⊥

-- what a connection with those handles answers, and which it has then: to an operation on another handle 14, and nothing is begun
pub record OperatesOver (asked : Request) (answer : Reply) (old new : List HandleId) : Type 0 where
  pub done : IsDone answer
  pub foreign : is_foreign old asked ≡ true → (answer ≡ status_reply NoHandle) × (new ≡ old)
  pub handles : HandlesBy asked answer old new
