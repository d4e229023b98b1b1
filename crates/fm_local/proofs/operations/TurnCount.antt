-- Turn after turn an operation goes on, until it is done: it is never held, and its turns are few.
use Rattle.fm_local.proofs.Words.{[], ⊤, ◌∷◌, ◌≡◌, ◌≤◌, Answer, BaseCall, Bool, Completion, Data, Err, FlowAction, FlowRecord, List, Ok, OpId, Option}
use Rattle.fm_local.proofs.Words.{Params, PostVerdict, PreVerdict, Result, Some, Status, WorkerId, World, false, length, slice_get, suc, true, zero}
use Rattle.fm_local.proofs.Words.{ℕ, ◌+◌, ◌∙◌, ap, arith, cond, refl, subst, sym, ascend, call_base, call_post, call_pre, descend}
use Rattle.fm_local.proofs.Words.{give_post, next_at, next_of, turn, unwound, Below, Ascending, step_keeps, Nexts, IsSound, Ask, Descending}
use Rattle.fm_local.proofs.Words.{Stage, owed, Step, StepReply, ArePlainFilters, IsBegun, Subject, subject_of, ArePlain, NoneStops, Carries, Turns}
use Rattle.fm_local.proofs.Words.{Turn}
use Rattle.fm_operations.specs.Steps.{Turned as Turning}
use Rattle.fm_local.specs.Actions.{Acts, TurnsAs, HasTurned}
use Rattle.fm_local.proofs.operations.Beginnings.{start, first, going}
use Rattle.fm_local.proofs.operations.FoldAnswer.{turn_sound}
use Rattle.fm_local.proofs.operations.TurnFolds.{IsGoing, is_between, turn_leaves, has_params, calm_here, record_sound}
use Rattle.fm_local.proofs.operations.Events.{next_leaves}
use Rattle.fm_local.proofs.operations.Askers.{takes_own}
use Rattle.fm_local.proofs.operations.WholeTurns.{put_back}

-- ---- what is next

-- there is more to do, or all is done
abbrev IsMore : Result FlowAction Status → Type 0
IsMore (Ok FlowAction.Held) = ⊥
IsMore (Ok (FlowAction.Drain i completion)) = ⊥
IsMore (Err why) = ⊥
IsMore _ = ⊤

module _ (k : WorkerId) (r : FlowRecord) (p : Params) (has : r.params ≡ Some p) (plainly : ArePlain k (length r.kept) (owed r.entries)) where
  more_down : (lies : Below) → IsMore (descend k lies r).reply
  more_down (Below.Instance i true) = subst (λ (m : Option Params). IsMore (call_pre k i r m).reply) (sym has) tt
  more_down (Below.Instance i false) = tt
  more_down Below.Call = subst (λ (m : Option Params). IsMore (call_base r m).reply) (sym has) tt
  more_down (Below.Known why) = tt

  -- its one worker may make each postoperation, and the parameters are at hand
  more_up : (asks : List Ask) → ArePlain k (length r.kept) asks → IsMore (ascend k false r (slice_get asks 0)).reply
  more_up [] fall = tt
  more_up (ask ∷ rest) fall =
      let takes = takes_own k ask fall.1 in
      let back = put_back ask.place r p (slice_get r.kept ask.place) refl has in
      subst (λ (b : Bool). IsMore (cond b (call_post k ask r) (turn (Err Status.WrongStep) r)).reply) (sym takes)
      (subst (λ (m : Option Params). IsMore (give_post k ask (unwound ask.place r) m).reply) (sym back.params) tt)

  more_at : (t : Stage) → is_between t ≡ true → (lies : Below) → IsMore (next_at k lies false r t).reply
  more_at Descending between lies = more_down lies
  more_at Ascending between lies = more_up (owed r.entries) plainly
  more_at _ between lies = cc

-- ---- turn after turn

-- after so many turns it goes on, and no instance is being torn down
record Stands (k : WorkerId) (o : OpId) (n : ℕ) (w : World) : Type 0 where
  subject : Subject
  now : FlowRecord
  goes : IsGoing k o subject now w
  sound : IsSound w
  quiet : NoneStops w.stack
  long : length now.entries ≡ n

-- where it began
begun_stands : (k : WorkerId) (o : OpId) (begun : World) → IsBegun k o begun → Stands k o 0 begun
begun_stands k o begun b = record {
  subject = subject_of (first k o b.what b.before b.rests begun b.begins);
  now = first k o b.what b.before b.rests begun b.begins;
  goes = going k o b.what b.before b.rests begun b.begins;
  sound = step_keeps b.before (Step.Begin b.what) (StepReply.Operation (Ok o)) begun b.begins b.sound;
  quiet = subst NoneStops (sym (start k o b.what b.before b.rests begun b.begins).stack) b.calm;
  long = refl;
}

some_of : (a b : ℕ) → a + b ≤ 65 → a ≤ 65
some_of a b h = omega (arith, h)

module _ {F D : Type 0} (pre : F → Data → PreVerdict → Data → Type 0) (post : F → Data → Completion → PostVerdict → Data → Type 0) (is_quiet : F → Type 0)
    (carries : D → BaseCall → Answer → D → Type 0) (filters : ℕ → Option F) (plain : ArePlainFilters pre post is_quiet filters) (k : WorkerId) (o : OpId) where
  abbrev Turned : World → D → World → D → Type 0
  Turned = Turns pre post carries filters k o

  stand_on : (n : ℕ) (old : World) (d : D) (new : World) (e : D) → Stands k o n old → Turned old d new e → Stands k o (suc n) new
  stand_on n old d new e st h =
      let t = turn_leaves pre post is_quiet carries filters plain k o st.subject old.stack st.quiet st.now old d st.goes st.sound refl new e h in
      record {
        subject = st.subject;
        now = t.next;
        goes = t.going;
        sound = turn_sound pre post is_quiet carries filters plain k o st.subject old d new e st.sound h;
        quiet = subst NoneStops (sym t.stays) st.quiet;
        long = t.longer ∙ ap suc st.long;
      }

  -- what is next, of an operation that goes on
  more_next : (n : ℕ) (w : World) (d : D) → Stands k o n w → (reply : Result FlowAction Status) (mid : World) → Nexts w k o reply mid → IsMore reply
  more_next n w d st reply mid h =
      let r = st.now in
      let here = has_params pre post is_quiet carries filters plain k o st.subject w.stack st.quiet r w d st.goes st.sound refl in
      let calm = calm_here pre post is_quiet carries filters plain k o st.subject w.stack st.quiet r w d st.goes st.sound refl in
      let found = next_leaves w k o r st.goes.alone reply mid st.goes.idle calm h in
      let is : next_of k found.lies false r ≡ next_at k found.lies false r r.stage =
      ap (λ b. cond b (turn (Err Status.WrongStep) r) (next_at k found.lies false r r.stage)) st.goes.uncollected in
      subst IsMore (sym (found.said ∙ ap (λ (t : Turning). t.reply) is)) (more_at k r here.0 here.1 st.goes.asks r.stage st.goes.between found.lies)

  -- how a turn ended says what was next
  turn_of : (w : World) (reply : Result FlowAction Status) (mid : World) (d : D) (new : World) (e : D) → Nexts w k o reply mid
      → IsMore reply → Acts pre post carries filters k o reply mid d Turn.Goes new e
      → Turned w d new e
  turn_of w (Ok (FlowAction.Pre i lent)) mid d new e h more acts = (Ok (FlowAction.Pre i lent), mid, h, acts.1)
  turn_of w (Ok (FlowAction.Base call)) mid d new e h more acts = (Ok (FlowAction.Base call), mid, h, acts.1)
  turn_of w (Ok (FlowAction.Post i lent completion)) mid d new e h more acts = (Ok (FlowAction.Post i lent completion), mid, h, acts.1)
  turn_of w (Ok FlowAction.Moved) mid d new e h more acts = (Ok FlowAction.Moved, mid, h, acts.1)
  turn_of w (Ok FlowAction.Done) mid d new e h more acts = let none = acts.0 in cc
  turn_of w _ mid d new e h more acts = absurd more

  end_of : (w : World) (reply : Result FlowAction Status) (mid : World) (d : D) (new : World) (e : D) → Nexts w k o reply mid
      → IsMore reply → Acts pre post carries filters k o reply mid d Turn.Done new e
      → Carries pre post carries filters k o 0 w d new e
  end_of w (Ok FlowAction.Done) mid d new e h more acts = (subst (λ (v : World). Nexts w k o (Ok FlowAction.Done) v) (sym acts.1) h, acts.2)
  end_of w (Ok (FlowAction.Pre i lent)) mid d new e h more acts = let none = acts.0 in cc
  end_of w (Ok (FlowAction.Base call)) mid d new e h more acts = let none = acts.0 in cc
  end_of w (Ok (FlowAction.Post i lent completion)) mid d new e h more acts = let none = acts.0 in cc
  end_of w (Ok FlowAction.Moved) mid d new e h more acts = let none = acts.0 in cc
  end_of w _ mid d new e h more acts = absurd more

  none_held : (reply : Result FlowAction Status) (mid : World) (d : D) (new : World) (e : D) → IsMore reply
      → Acts pre post carries filters k o reply mid d Turn.Held new e → ⊥
  none_held (Ok FlowAction.Done) mid d new e more acts = let none = acts.0 in cc
  none_held (Ok (FlowAction.Pre i lent)) mid d new e more acts = let none = acts.0 in cc
  none_held (Ok (FlowAction.Base call)) mid d new e more acts = let none = acts.0 in cc
  none_held (Ok (FlowAction.Post i lent completion)) mid d new e more acts = let none = acts.0 in cc
  none_held (Ok FlowAction.Moved) mid d new e more acts = let none = acts.0 in cc
  none_held _ mid d new e more acts = absurd more

  -- turns that were made, and then those that are to come
  carries_on : (n m : ℕ) (old : World) (d : D) (mid : World) (b : D) (new : World) (e : D)
      → HasTurned pre post carries filters k o n old d mid b → Carries pre post carries filters k o m mid b new e
      → Carries pre post carries filters k o (n + m) old d new e
  carries_on zero m old d mid b new e h c =
      let same : m ≡ 0 + m = omega arith in
      subst (λ (j : ℕ). Carries pre post carries filters k o j old d new e) same
      (subst (λ (w : World). Carries pre post carries filters k o m w d new e) h.0
      (subst (λ (f : D). Carries pre post carries filters k o m mid f new e) h.1 c))
  carries_on (suc n) m old d mid b new e h c =
      let same : n + suc m ≡ suc n + m = omega arith in
      subst (λ (j : ℕ). Carries pre post carries filters k o j old d new e) same (carries_on n (suc m) old d h.0 h.1 new e h.2 (mid, b, h.3, c))

  module _ (begun : World) (b : IsBegun k o begun) where
    stands : (n : ℕ) (d : D) (mid : World) (e : D) → HasTurned pre post carries filters k o n begun d mid e → Stands k o n mid
    stands zero d mid e h = subst (Stands k o 0) (sym h.0) (begun_stands k o begun b)
    stands (suc n) d mid e h = stand_on n h.0 h.1 mid e (stands n d h.0 h.1 h.2) h.3

    pub goes_on : (n : ℕ) (d : D) (mid : World) (between : D) (new : World) (e : D) → HasTurned pre post carries filters k o n begun d mid between
        → TurnsAs pre post carries filters k o mid between Turn.Goes new e → HasTurned pre post carries filters k o (suc n) begun d new e
    goes_on n d mid between new e h t =
        (mid, between, h, turn_of mid t.0 t.1 between new e t.2 (more_next n mid between (stands n d mid between h) t.0 t.1 t.2) t.3)

    pub ends_so : (n : ℕ) (d : D) (mid : World) (between : D) (new : World) (e : D) → HasTurned pre post carries filters k o n begun d mid between
        → TurnsAs pre post carries filters k o mid between Turn.Done new e → Carries pre post carries filters k o n begun d new e
    ends_so n d mid between new e h t =
        let same : n + 0 ≡ n = omega arith in
        subst (λ (j : ℕ). Carries pre post carries filters k o j begun d new e) same
        (carries_on n 0 begun d mid between new e h (end_of mid t.0 t.1 between new e t.2 (more_next n mid between (stands n d mid between h) t.0 t.1 t.2) t.3))

    pub never_held : (n : ℕ) (d : D) (mid : World) (between : D) (new : World) (e : D) → HasTurned pre post carries filters k o n begun d mid between
        → TurnsAs pre post carries filters k o mid between Turn.Held new e → ⊥
    never_held n d mid between new e h t = none_held t.0 t.1 between new e (more_next n mid between (stands n d mid between h) t.0 t.1 t.2) t.3

    -- 32 instances on the way down, the base, and 32 on the way up
    pub few_turns : (n : ℕ) (d : D) (mid : World) (between : D) → HasTurned pre post carries filters k o n begun d mid between → n ≤ 65
    few_turns n d mid between h =
        let st = stands n d mid between h in
        subst (λ (j : ℕ). j ≤ 65) st.long (some_of (length st.now.entries) _ (record_sound mid st.sound o st.now st.goes.alone).course.room)
