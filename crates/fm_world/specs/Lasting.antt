-- Contexts over a whole list of events: an id is given once, and what was cleaned stays cleaned.
use Rattle.std.specs.Prelude.{◌≡◌, ◌⊎◌, List, [], ◌∷◌, Option, Some, None, Ok}
use Rattle.fm_world.specs.Words.{CtxId, context_at}
use Rattle.fm_world.specs.declared.step.Step.{Step}
use Rattle.fm_world.specs.declared.step.Step.TheVariants as step
use Rattle.fm_world.specs.declared.step.StepReply.{StepReply}
use Rattle.fm_world.specs.declared.step.StepReply.TheVariants as reply
use Rattle.fm_world.specs.Steps.{Run}
use Rattle.fm_world.specs.World.{World, empty_world}

-- the context that an event allocates
abbrev pub given_by : Step → StepReply → Option CtxId
given_by (step.Allocate k kind body) (reply.Context (Ok c)) = Some c
given_by _ _ = None

-- the context that an event hands to a worker for its cleanup
abbrev pub due_by : Step → StepReply → Option CtxId
due_by (step.TakeDue k) (reply.Due (Ok (Some due))) = Some due.id
due_by _ _ = None

-- one of the events does so with that context
abbrev pub Comes : (Step → StepReply → Option CtxId) → List Step → List StepReply → CtxId → Type 0
Comes by (s ∷ steps) (r ∷ replies) c = (by s r ≡ Some c) ⊎ Comes by steps replies c
Comes by [] replies c = ⊥
Comes by (s ∷ steps) [] c = ⊥

-- the context was cleaned, or never allocated
abbrev pub IsGone : World → CtxId → Type 0
IsGone w c = context_at w.contexts.slots c ≡ None

-- Whatever events follow others, with every answer that the rules allow: no context that was allocated is allocated again; none that a worker got for its
-- cleanup is got for its cleanup again; and one that was allocated and is cleaned stays so, and doesn't come to its cleanup any more.
abbrev pub ContextsLast : Type 0
ContextsLast = (steps : List Step) (replies : List StepReply) (mid : World) (later : List Step) (answers : List StepReply) (new : World)
    → Run empty_world steps replies mid → Run mid later answers new → (c : CtxId)
    → (Comes given_by steps replies c → Comes given_by later answers c → ⊥)
    × (Comes due_by steps replies c → Comes due_by later answers c → ⊥)
    × (Comes given_by steps replies c → IsGone mid c → IsGone new c × (Comes due_by later answers c → ⊥))
