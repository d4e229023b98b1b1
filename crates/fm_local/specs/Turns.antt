-- How an operation is carried from its beginning to its end: turn after turn, by one worker.
use Rattle.std.specs.Prelude.{◌≡◌, ◌≤◌, Ok, Option, Result, Some, length, suc, zero, ℕ}
use Rattle.fm_local.specs.Words.{BaseCall, Data, Completion, PostVerdict, PreVerdict, Answer, FlowAction, OpId, Status, WorkerId, World}
use Rattle.fm_callback_data.specs.Data.{IsData}
use Rattle.fm_world.specs.Events.{Nexts, PreReturns, BaseReturns, PostReturns}
use Rattle.fm_local.specs.Chains.{PreMay, PostMay, filter_in}

-- a callback hands its data back: what it received is what it was given, and the data keeps its laws
pub record HandsBack (lent back : Data) : Type 0 where
  pub received : back.received ≡ lent.received
  pub laws : IsData back

module _ {F D : Type 0} (pre : F → Data → PreVerdict → Data → Type 0) (post : F → Data → Completion → PostVerdict → Data
    → Type 0) (carries : D → BaseCall → Answer → D → Type 0)
    (filters : ℕ → Option F) (k : WorkerId) (o : OpId) where
  -- what is to be done is done: the callback of the instance that is named, the call of the device, or nothing
  abbrev pub Does : Result FlowAction Status → World → D → World → D → Type 0
  Does (Ok (FlowAction.Pre i lent)) mid d new e =
      (verdict : PreVerdict) × (back : Data) × (result : Result (Unit {0}) Status)
      × PreMay pre (filter_in filters mid.stack i.0) lent verdict back × HandsBack lent back
      × PreReturns mid k verdict back result new × (e ≡ d)
  Does (Ok (FlowAction.Base call)) mid d new e =
      (answer : Answer) × (result : Result (Unit {0}) Status) × carries d call answer e × (length answer.bytes ≤ 32768)
      × BaseReturns mid k call answer result new
  Does (Ok (FlowAction.Post i lent completion)) mid d new e =
      (verdict : PostVerdict) × (back : Data) × (result : Result (Unit {0}) Status)
      × PostMay post (filter_in filters mid.stack i.0) lent completion verdict back
      × HandsBack lent back × PostReturns mid k verdict (Some back) result new × (e ≡ d)
  Does (Ok FlowAction.Moved) mid d new e = (new ≡ mid) × (e ≡ d)
  Does _ mid d new e = ⊥

  -- one turn: what is next, and that it is done
  abbrev pub Turns : World → D → World → D → Type 0
  Turns old d new e = (reply : Result FlowAction Status) × (mid : World) × Nexts old k o reply mid × Does reply mid d new e

  -- so many turns, and then it is done
  abbrev pub Carries : ℕ → World → D → World → D → Type 0
  Carries zero old d new e = Nexts old k o (Ok FlowAction.Done) new × (e ≡ d)
  Carries (suc n) old d new e = (mid : World) × (between : D) × Turns old d mid between × Carries n mid between new e
