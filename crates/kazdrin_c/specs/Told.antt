-- What C is told of an answer.
use Rattle.std.specs.Prelude.{ℕ, ◌++◌, Bool, cond, List, [], Option, Some, None, Result, Ok, Err, length, min, take, drop}
use Rattle.fm_types.specs.declared.ids.CtxId.{CtxId}
use Rattle.fm_types.specs.declared.context_kind.ContextKind.{ContextKind}
use Rattle.fm_types.specs.declared.context_kind.ContextKind.TheVariants as kind
use Rattle.fm_types.specs.declared.status.Status.{Status}
use Rattle.fm_types.specs.Statuses.{number_of, information_of}
use Rattle.fm_callback_data.specs.declared.verdict.Completion.{Completion}
use Rattle.fm_world.specs.declared.set_answer.SetAnswer.TheVariants as set
use Rattle.fm_world.specs.declared.step.StepReply.{StepReply}
use Rattle.fm_world.specs.declared.step.StepReply.TheVariants as reply
use Rattle.fm_session.specs.declared.lent.Given.{Given}
use Rattle.fm_session.specs.declared.lent.Given.TheVariants as given
use Rattle.kazdrin_c.specs.declared.told.KazdrinTold.{KazdrinTold}

abbrev pub nothing_told : KazdrinTold
nothing_told = record {
  slot = 0;
  generation = 0;
  operation = 0;
  handle = 0;
  number = 0;
  information = 0;
  length = 0;
  instance = 0;
  filter = 0;
  volume = 0;
  kind = 0;
  action = 0;
  status = 0;
  has = 0;
  due = 0;
}

abbrev pub code_of : ContextKind → ℕ
code_of kind.Volume = 0
code_of kind.Instance = 1
code_of kind.Stream = 2
code_of kind.Handle = 3
code_of kind.File = 4

abbrev pub context_told : CtxId → KazdrinTold
context_told c = record nothing_told { slot = c.slot; generation = c.generation; has = 1 }

abbrev pub old_told : Option CtxId → KazdrinTold
old_told (Some c) = context_told c
old_told None = nothing_told

abbrev pub completion_told : Completion → KazdrinTold
completion_told completion = record (old_told completion.context) { number = completion.number }

-- whether some context waits for its cleanup
abbrev pub due_code : Bool → ℕ
due_code b = cond b 1 0

-- 0, or the number of the status
abbrev pub outcome_of : {T : Type 0} → Result T Status → ℕ
outcome_of (Ok value) = 0
outcome_of (Err status) = number_of status

abbrev pub reply_outcome : StepReply → ℕ
reply_outcome (reply.Filter r) = outcome_of r
reply_outcome (reply.Volume r) = outcome_of r
reply_outcome (reply.Instance r) = outcome_of r
reply_outcome (reply.Operation r) = outcome_of r
reply_outcome (reply.Action r) = outcome_of r
reply_outcome (reply.Done r) = outcome_of r
reply_outcome (reply.Held r) = outcome_of r
reply_outcome (reply.Drained r) = outcome_of r
reply_outcome (reply.Dropped r) = outcome_of r
reply_outcome (reply.Answer r) = outcome_of r
reply_outcome (reply.Context r) = outcome_of r
reply_outcome (reply.Set (set.Linked old)) = 0
reply_outcome (reply.Set (set.AlreadyDefined old)) = 22
reply_outcome (reply.Set (set.Refused status)) = number_of status
reply_outcome (reply.Old r) = outcome_of r
reply_outcome (reply.Body r) = outcome_of r
reply_outcome (reply.Number r) = outcome_of r
reply_outcome (reply.Due r) = outcome_of r

-- of a refusal: how many are in the way, if it is Busy
abbrev pub refusal_told : Status → KazdrinTold
refusal_told status = record nothing_told { number = information_of status }

-- an answer, but for its bytes
abbrev pub told_of : StepReply → KazdrinTold
told_of (reply.Done (Err status)) = refusal_told status
told_of (reply.Filter (Ok f)) = record nothing_told { filter = f.0 }
told_of (reply.Volume (Ok v)) = record nothing_told { volume = v.0 }
told_of (reply.Instance (Ok i)) = record nothing_told { instance = i.0 }
told_of (reply.Operation (Ok o)) = record nothing_told { operation = o.0 }
told_of (reply.Held (Ok (Some o))) = record nothing_told { operation = o.0; has = 1 }
told_of (reply.Dropped (Ok (Some h))) = record nothing_told { handle = h.0; has = 1 }
told_of (reply.Number (Ok n)) = record nothing_told { number = n }
told_of (reply.Answer (Ok a)) = record nothing_told { status = number_of a.status; number = information_of a.status; information = a.information }
told_of (reply.Context (Ok c)) = context_told c
told_of (reply.Old (Ok old)) = old_told old
told_of (reply.Set (set.Linked old)) = old_told old
told_of (reply.Set (set.AlreadyDefined old)) = old_told old
told_of (reply.Drained (Ok (Some (o, completion)))) = record (completion_told completion) { operation = o.0; action = 1 }
told_of (reply.Due (Ok (Some due))) = record (context_told due.id) { kind = code_of due.kind }
told_of _ = nothing_told

abbrev pub bytes_in : StepReply → List ℕ
bytes_in (reply.Answer (Ok a)) = a.bytes
bytes_in (reply.Body (Ok body)) = body
bytes_in (reply.Due (Ok (Some due))) = due.body
bytes_in _ = []

-- as many bytes as there is room for
abbrev pub copied : List ℕ → List ℕ → List ℕ
copied bytes room = take (min (length bytes) (length room)) bytes ++ drop (min (length bytes) (length room)) room

abbrev pub given_told : Given → KazdrinTold
given_told (given.Pre i) = record nothing_told { instance = i.0 }
given_told given.Base = record nothing_told { action = 1 }
given_told (given.Post i completion) = record (completion_told completion) { instance = i.0; action = 2 }
given_told (given.Drain i completion) = record (completion_told completion) { instance = i.0; action = 3 }
given_told given.Moved = record nothing_told { action = 4 }
given_told given.Held = record nothing_told { action = 5 }
given_told given.Done = record nothing_told { action = 6 }
