-- What a callback holds: the contexts to which it has a reference, as far as its port says it, and what each call makes of them.
use Rattle.std.specs.Prelude.{◌≡◌, ◌⊎◌, ⊤, Bool, true, false, List, [], ◌∷◌, ◌++◌, Option, Some, None, option_map, Result, Ok, Err}
use Rattle.fm_types.specs.declared.ids.CtxId.{CtxId}
use Rattle.fm_types.specs.declared.status.Status.{Status}
use Rattle.fm_types.specs.declared.status.Status.TheVariants as status
use Rattle.fm_callback_data.specs.declared.verdict.PreVerdict.{PreVerdict}
use Rattle.fm_callback_data.specs.declared.verdict.PreVerdict.TheVariants as verdict
use Rattle.fm_ctx.specs.Bags.{holds, without}
use Rattle.fm_ctx.specs.declared.set_reply.SetMode.{SetMode}
use Rattle.fm_ctx.specs.declared.set_reply.SetMode.TheVariants as mode
use Rattle.fm_world.specs.declared.set_answer.SetAnswer.{SetAnswer}
use Rattle.fm_world.specs.declared.set_answer.SetAnswer.TheVariants as answer

-- the references of a hand; none where the port doesn't say them
abbrev pub InHand : Type 0
InHand = Option (List CtxId)

abbrev pub more : Option CtxId → List CtxId → List CtxId
more None hand = hand
more (Some c) hand = hand ++ c ∷ []

-- a call gives a reference to the context that it names
abbrev pub Gains : Result CtxId Status → InHand → InHand → Type 0
Gains (Ok c) old new = new ≡ option_map (more (Some c)) old
Gains (Err why) old new = new ≡ old

-- what is so of a port that says its hand
abbrev pub Known : InHand → Type 0 → Type 0
Known old P = (hand : List CtxId) → old ≡ Some hand → P

-- the old one comes only where it is wanted
abbrev pub IsWanted : Bool → Option CtxId → Type 0
IsWanted true c = ⊤
IsWanted false c = c ≡ None

abbrev pub GainsOld : Bool → Result (Option CtxId) Status → InHand → InHand → Type 0
GainsOld wants (Ok c) old new = Known old (IsWanted wants c) × (new ≡ option_map (more c) old)
GainsOld wants (Err why) old new = new ≡ old

-- no old one is replaced where it is to be kept
abbrev pub IsReplaced : SetMode → Option CtxId → Type 0
IsReplaced mode.Replace c = ⊤
IsReplaced mode.Keep c = c ≡ None

abbrev pub GainsSet : SetMode → Bool → SetAnswer → InHand → InHand → Type 0
GainsSet mode wants (answer.Linked c) old new = Known old (IsReplaced mode c) × Known old (IsWanted wants c) × (new ≡ option_map (more c) old)
GainsSet mode wants (answer.AlreadyDefined c) old new = Known old (IsWanted wants c) × (new ≡ option_map (more c) old)
GainsSet mode wants (answer.Refused why) old new = new ≡ old

-- one more reference to a context that is there
abbrev pub GainsSame : CtxId → Result (Unit {0}) Status → InHand → InHand → Type 0
GainsSame c (Ok done) old new = new ≡ option_map (more (Some c)) old
GainsSame c (Err why) old new = new ≡ old

-- a context that is in the hand is released, and no other
abbrev pub LosesHeld : CtxId → Result (Unit {0}) Status → List CtxId → InHand → Bool → Type 0
LosesHeld c result hand new true = (result ≡ Ok tt) × (new ≡ Some (without c hand))
LosesHeld c result hand new false = (result ≡ Err status.NotHeld) × (new ≡ Some hand)

abbrev pub Loses : CtxId → Result (Unit {0}) Status → InHand → InHand → Type 0
Loses c result None new = new ≡ None
Loses c result (Some hand) new = LosesHeld c result hand new (holds hand c)

-- what a verdict may send along
abbrev pub sent_by : PreVerdict → Option CtxId
sent_by (verdict.WithCallback completion) = completion.context
sent_by (verdict.Synchronize completion) = completion.context
sent_by _ = None

-- a resumption takes what its verdict sends along, where it counts
abbrev pub LosesSent : Option CtxId → InHand → InHand → Type 0
LosesSent None old new = new ≡ old
LosesSent (Some c) old new = (new ≡ old) ⊎ (new ≡ option_map (without c) old)
