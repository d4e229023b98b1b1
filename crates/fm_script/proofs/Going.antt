-- The turns of a `go`, one after the other.
use Rattle.std.proofs.Common.{◌≡◌, List, [], ◌∷◌, ◌++◌, Result, Ok, Option, Some, None, refl, sym, subst}
use Rattle.fm_script.specs.Words.{InstanceId, Completion, OpId, WorkerId, Status, Answer, PreVerdict, Given, Task}
use Rattle.fm_callback_data.specs.declared.verdict.PreVerdict.TheVariants.{WithCallback}
use Rattle.fm_session.specs.declared.lent.Given.TheVariants as given
use Rattle.fm_callback_data.specs.declared.verdict.PostVerdict.TheVariants.{Finished}
use Rattle.fm_core.specs.Passing.{numbered}
use Rattle.fm_core.specs.declared.passing.Passed.{Passed}
use Rattle.fm_core.specs.declared.passing.Passed.TheVariants as passed
use Rattle.fm_world.specs.Events.{Collects}
use Rattle.fm_world.specs.declared.step.Step.TheVariants as step
use Rattle.fm_world.specs.declared.step.StepReply.TheVariants as reply
use Rattle.fm_session.specs.Sessions.{Lending, LendsNext, LentBaseReturns, LentPasses, LentPassesDown, LentPassesUp, LentPostReturns, LentPreReturns}
use Rattle.fm_script.specs.Devices.{Calls}
use Rattle.fm_script.specs.Runs.{Acts, BySession, Goes, IsTurn, KeepsLists, Turns}
use Rattle.fm_script.specs.declared.interpreter.Interpreter.{Interpreter}
use Rattle.fm_script.specs.declared.task.Task.TheVariants as task

turns_then : (k : WorkerId) (o : OpId) (first second : List Task) (old mid new : Interpreter)
    → Turns k o first old mid → Turns k o second mid new → Turns k o (second ++ first) old new
turns_then k o first [] old mid new before after = subst (λ (i : Interpreter). Turns k o first old i) (sym after) before
turns_then k o first (t ∷ second) old mid new before (is, between, after, acts) =
    (is, between, turns_then k o first second old mid between before after, acts)

pub goes_then : (k : WorkerId) (o : OpId) (old mid new : Interpreter) → Goes k o old mid → Goes k o mid new → Goes k o old new
unfolding Goes
goes_then k o old mid new (first, before) (second, after) = (second ++ first, turns_then k o first second old mid new before after)

pub goes_none : (k : WorkerId) (o : OpId) (i : Interpreter) → Goes k o i i
unfolding Goes
goes_none k o i = ([], refl)

one : (k : WorkerId) (o : OpId) (t : Task) (old new : Interpreter) → IsTurn k o t → Acts t (λ line. Unit {0}) old new → Goes k o old new
unfolding Goes
one k o t old new is acts = (t ∷ [], (is, old, refl, acts))

pub goes_next : (k : WorkerId) (o : OpId) (r : Result Given Status) (old new : Interpreter)
    → LendsNext old.session k o r new.session → BySession old new → Goes k o old new
goes_next k o r old new event rest = one k o (task.Next k o) old new (refl, refl) (r, event, rest, tt)

pub goes_pre : (k : WorkerId) (o : OpId) (answer : PreVerdict) (r : Result (Unit {0}) Status) (old new : Interpreter)
    → LentPreReturns old.session k answer r new.session → BySession old new → Goes k o old new
goes_pre k o answer r old new event rest = one k o (task.Pre k answer) old new refl (r, event, rest, tt)

pub goes_post : (k : WorkerId) (o : OpId) (r : Result (Unit {0}) Status) (old new : Interpreter)
    → LentPostReturns old.session k Finished r new.session → BySession old new → Goes k o old new
goes_post k o r old new event rest = one k o (task.Post k Finished) old new (refl, refl) (r, event, rest, tt)

pub goes_base : (k : WorkerId) (o : OpId) (r : Result Status Status) (old new : Interpreter)
    → LentBaseReturns Calls old.session old.devices k r new.session new.devices → KeepsLists old new → Goes k o old new
goes_base k o r old new event lists = one k o (task.Base k) old new refl (r, event, lists, tt)

pub goes_collect : (k : WorkerId) (o : OpId) (r : Result Answer Status) (old new : Interpreter)
    → Collects old.session.world o r new.session.world → new.session.lent ≡ old.session.lent → BySession old new → Goes k o old new
goes_collect k o r old new event lent rest =
    one k o (task.Event (step.Collect o)) old new refl
    (reply.Answer r, record { event = event; lent = lent; devices = rest.0; plans = rest.1.plans; contexts = rest.1.contexts }, tt)

-- ---- two at once

goes_down : (k : WorkerId) (o : OpId) (i : InstanceId) (completion : Completion) (old new : Interpreter)
    → LentPassesDown old.session k o i completion new.session → BySession old new → Goes k o old new
goes_down k o i completion old new (mid, nexts, returns) rest =
    let between : Interpreter = record old { session = mid } in
    goes_then k o old between new (goes_next k o (Ok (given.Pre i)) old between nexts (refl, record { plans = refl; contexts = refl }))
    (goes_pre k o (WithCallback completion) (Ok tt) between new returns (rest.0, record { plans = rest.1.plans; contexts = rest.1.contexts }))

goes_up : (k : WorkerId) (o : OpId) (i : InstanceId) (old new : Interpreter) → LentPassesUp old.session k o i new.session → BySession old new → Goes k o old new
goes_up k o i old new (completion, mid, nexts, returns) rest =
    let between : Interpreter = record old { session = mid } in
    goes_then k o old between new (goes_next k o (Ok (given.Post i completion)) old between nexts (refl, record { plans = refl; contexts = refl }))
    (goes_post k o (Ok tt) between new returns (rest.0, record { plans = rest.1.plans; contexts = rest.1.contexts }))

pub goes_pass : (k : WorkerId) (o : OpId) (plans : List PreVerdict) (m : Option Passed) (old : Interpreter) (s : Lending) → LentPasses old.session k o plans m s
    → Goes k o old (record old { session = s })
goes_pass k o plans None old s same = subst (λ (x : Lending). Goes k o old (record old { session = x })) (sym same) (goes_none k o old)
goes_pass k o plans (Some (passed.Down i n)) old s (answer, event) =
    goes_down k o i (numbered n) old (record old { session = s }) event (refl, record { plans = refl; contexts = refl })
goes_pass k o plans (Some (passed.Up i)) old s event = goes_up k o i old (record old { session = s }) event (refl, record { plans = refl; contexts = refl })
