-- What a script prints: which line for which answer, and the bytes of each line.
use Rattle.std.specs.Prelude.{ℕ, ◌++◌, List, [], ◌∷◌, Option, Some, None, codes, decimal, Result, Ok, Err}
use Rattle.fm_script.specs.Words.{CtxId, HandleId, OpId, Status, Answer, Completion, PreVerdict, StepReply, Given}
use Rattle.fm_types.specs.declared.status.Status.TheVariants.{Busy, NotHeld, AlreadyDefined, NoInstance}
use Rattle.fm_types.specs.Statuses.{number_of}
use Rattle.fm_callback_data.specs.declared.verdict.PreVerdict.TheVariants as verdict
use Rattle.fm_stack.specs.declared.instance.Phase.{Phase}
use Rattle.fm_stack.specs.declared.instance.Phase.TheVariants as phase
use Rattle.fm_ctx.specs.declared.due.Due.{Due}
use Rattle.fm_ctx.specs.declared.count.Count.{Count}
use Rattle.fm_ctx.specs.declared.count.Count.TheVariants as count
use Rattle.fm_world.specs.declared.set_answer.SetAnswer.{SetAnswer}
use Rattle.fm_world.specs.declared.set_answer.SetAnswer.TheVariants as set
use Rattle.fm_world.specs.declared.step.StepReply.TheVariants as reply
use Rattle.fm_session.specs.declared.lent.Given.TheVariants as given
use Rattle.fm_session.specs.Sessions.{given_after_next}
use Rattle.fm_script.specs.declared.said.Word.{Word}
use Rattle.fm_script.specs.declared.said.Word.TheVariants as word
use Rattle.fm_script.specs.declared.said.Said.{Said}
use Rattle.fm_script.specs.declared.said.Said.TheVariants.{Plain, Id, Number, Refused, Defined, Told, Replied, Answered, Based}
use Rattle.fm_script.specs.ContextLists.{number_in}
use Rattle.fm_words.specs.Hexadecimal.{hex_of}

-- ---- which line

-- the letters of ids: c, f, h, i, o, v
abbrev pub said_at : (ℕ → Said) → Option ℕ → Said
said_at make (Some n) = make n
said_at make None = Refused NotHeld

-- a context, by its number in the order of allocation
abbrev pub said_context : (ℕ → Said) → List CtxId → CtxId → Said
said_context make contexts c = said_at make (number_in c contexts)

abbrev pub said_given : Result Given Status → Said
said_given (Ok (given.Pre i)) = Id word.Pre 105 i.0
said_given (Ok given.Base) = Plain word.Base
said_given (Ok (given.Post i completion)) = Id word.Post 105 i.0
said_given (Ok (given.Drain i completion)) = Id word.Drain 105 i.0
said_given (Ok given.Moved) = Plain word.Moved
said_given (Ok given.Held) = Plain word.Held
said_given (Ok given.Done) = Plain word.Done
said_given (Err status) = Refused status

abbrev pub said_done : Result (Unit {0}) Status → Said
said_done (Ok done) = Plain word.Ok
said_done (Err status) = Refused status

abbrev pub said_set : List CtxId → SetAnswer → Said
said_set contexts (set.Linked None) = Plain word.Ok
said_set contexts (set.Linked (Some old)) = said_context (Id word.Ok 99) contexts old
said_set contexts (set.AlreadyDefined None) = Refused AlreadyDefined
said_set contexts (set.AlreadyDefined (Some old)) = said_context Defined contexts old
said_set contexts (set.Refused status) = Refused status

abbrev pub said_old : List CtxId → Result (Option CtxId) Status → Said
said_old contexts (Ok None) = Plain word.Ok
said_old contexts (Ok (Some old)) = said_context (Id word.Ok 99) contexts old
said_old contexts (Err status) = Refused status

abbrev pub said_due : List CtxId → Result (Option Due) Status → Said
said_due contexts (Ok None) = Plain word.None
said_due contexts (Ok (Some due)) = said_context (Id word.Cleanup 99) contexts due.id
said_due contexts (Err status) = Refused status

abbrev pub said_held : Result (Option OpId) Status → Said
said_held (Ok None) = Plain word.None
said_held (Ok (Some o)) = Id word.Ok 111 o.0
said_held (Err status) = Refused status

abbrev pub said_drained : Result (Option (OpId × Completion)) Status → Said
said_drained (Ok None) = Plain word.None
said_drained (Ok (Some (o, completion))) = Id word.Drain 111 o.0
said_drained (Err status) = Refused status

abbrev pub said_dropped : Result (Option HandleId) Status → Said
said_dropped (Ok None) = Plain word.None
said_dropped (Ok (Some h)) = Id word.Ok 104 h.0
said_dropped (Err status) = Refused status

abbrev pub said_new : {A : Type 0} → (A → Said) → Result A Status → Said
said_new say (Ok it) = say it
said_new say (Err status) = Refused status

-- what an event answered
abbrev pub said_of : List CtxId → StepReply → Said
said_of contexts (reply.Filter r) = said_new (λ f. Id word.Ok 102 f.0) r
said_of contexts (reply.Volume r) = said_new (λ v. Id word.Ok 118 v.0) r
said_of contexts (reply.Instance r) = said_new (λ i. Id word.Ok 105 i.0) r
said_of contexts (reply.Operation r) = said_new (λ o. Id word.Ok 111 o.0) r
said_of contexts (reply.Action r) = said_given (given_after_next r)
said_of contexts (reply.Done r) = said_done r
said_of contexts (reply.Held r) = said_held r
said_of contexts (reply.Drained r) = said_drained r
said_of contexts (reply.Dropped r) = said_dropped r
said_of contexts (reply.Answer r) = said_new Replied r
said_of contexts (reply.Context r) = said_new (said_context (Id word.Ok 99) contexts) r
said_of contexts (reply.Set r) = said_set contexts r
said_of contexts (reply.Old r) = said_old contexts r
said_of contexts (reply.Body r) = said_new (Told word.Body) r
said_of contexts (reply.Number r) = said_new (Number word.Ok) r
said_of contexts (reply.Due r) = said_due contexts r

abbrev pub said_count : Count → Said
said_count (count.Live n) = Number word.Count n
said_count count.Due = Plain word.Due
said_count count.Cleaning = Plain word.Cleaning
said_count count.Cleaned = Plain word.Cleaned
said_count count.Absent = Refused NotHeld

abbrev pub phase_word : Phase → Word
phase_word phase.Setup = word.Setup
phase_word phase.Attached = word.Attached
phase_word phase.Stopping = word.Stopping
phase_word phase.Completing = word.Completing
phase_word phase.Emptying = word.Emptying
phase_word phase.Detached = word.Detached

abbrev pub said_phase : Option Phase → Said
said_phase (Some p) = Plain (phase_word p)
said_phase None = Refused NoInstance

-- ---- its bytes

abbrev pub word_text : Word → List ℕ
word_text word.Ok = codes "ok"
word_text word.Pre = codes "pre"
word_text word.Base = codes "base"
word_text word.Post = codes "post"
word_text word.Drain = codes "drain"
word_text word.Moved = codes "moved"
word_text word.Held = codes "held"
word_text word.Done = codes "done"
word_text word.Body = codes "body"
word_text word.Cleanup = codes "cleanup"
word_text word.None = codes "none"
word_text word.Count = codes "count"
word_text word.Due = codes "due"
word_text word.Cleaning = codes "cleaning"
word_text word.Cleaned = codes "cleaned"
word_text word.Setup = codes "setup"
word_text word.Attached = codes "attached"
word_text word.Stopping = codes "stopping"
word_text word.Completing = codes "completing"
word_text word.Emptying = codes "emptying"
word_text word.Detached = codes "detached"
word_text word.Flight = codes "flight"
word_text word.Leaks = codes "leaks"
word_text word.Failures = codes "failures"

-- behind what was printed before
abbrev pub refused_text : List ℕ → Status → List ℕ
refused_text before (Busy n) = (((before ++ codes "no ") ++ decimal 34) ++ 32 ∷ []) ++ decimal n
refused_text before status = (before ++ codes "no ") ++ decimal (number_of status)

abbrev pub verdict_text : List ℕ → PreVerdict → List ℕ
verdict_text before (verdict.WithCallback completion) = before ++ codes " with"
verdict_text before (verdict.Synchronize completion) = before ++ codes " sync"
verdict_text before verdict.NoCallback = before ++ codes " none"
verdict_text before (verdict.Complete status) = (before ++ codes " complete ") ++ decimal (number_of status)
verdict_text before verdict.Pending = before ++ codes " pend"

abbrev pub reply_text : List ℕ → Answer → List ℕ
reply_text before answer =
    (((((before ++ codes "reply ") ++ decimal (number_of answer.status)) ++ 32 ∷ []) ++ decimal answer.information) ++ 32 ∷ []) ++ hex_of answer.bytes

abbrev pub said_text : List ℕ → Said → List ℕ
said_text before (Plain w) = before ++ word_text w
said_text before (Id w letter n) = (((before ++ word_text w) ++ 32 ∷ []) ++ letter ∷ []) ++ decimal n
said_text before (Number w n) = ((before ++ word_text w) ++ 32 ∷ []) ++ decimal n
said_text before (Refused status) = refused_text before status
said_text before (Defined n) = (before ++ codes "no 22 c") ++ decimal n
said_text before (Told w bytes) = ((before ++ word_text w) ++ 32 ∷ []) ++ hex_of bytes
said_text before (Replied answer) = reply_text before answer
said_text before (Answered i answer) = verdict_text ((before ++ codes "pre i") ++ decimal i) answer
said_text before (Based status) = (before ++ codes "base ") ++ decimal (number_of status)

-- with its line feed
abbrev pub text_with : List ℕ → Said → List ℕ
text_with before line = said_text before line ++ 10 ∷ []
