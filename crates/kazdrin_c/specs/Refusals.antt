-- Why what C passes makes no event.
use Rattle.std.specs.Prelude.{Bool, ◌≡◌, ◌==◌, ◌||◌, ◌&&◌, ℕ, List, Option, None, true}
use Rattle.fm_types.specs.declared.status.Status.{Status}
use Rattle.fm_types.specs.declared.status.Status.TheVariants.{NoMemory, BadAltitude, BadName, BadPath, BadRequest}
use Rattle.fm_types.specs.Names.{IsName}
use Rattle.fm_types.specs.Paths.{IsPath}
use Rattle.fm_altitude.specs.Grammar.{IsAltitude}
use Rattle.fm_world.specs.declared.step.Step.{Step}
use Rattle.kazdrin_c.specs.declared.event.KazdrinEvent.{KazdrinEvent}

-- parameters that take memory for what C passes: a create's path, what is written
abbrev pub copies : ℕ → Bool
copies n = n == 4 || n == 7

-- those that take memory for what C passes: a create, a write, an allocation, a write of a body, a change to the parameters of the first two
abbrev pub takes_memory : KazdrinEvent → Bool
takes_memory e = (copies e.event || (e.event == 18 || e.event == 25)) || (e.event == 52 && copies e.kind)

-- those whose bytes are a path: a create, a change to the parameters of one
abbrev pub names_path : KazdrinEvent → Bool
names_path e = e.event == 4 || (e.event == 52 && e.kind == 4)

-- memory was refused, where some is taken, or the number names nothing
abbrev pub Unnamed : {T : Type 0} → Bool → Option T → Status → Type 0
Unnamed takes named NoMemory = takes ≡ true
Unnamed takes named BadRequest = named ≡ None
Unnamed takes named _ = ⊥

-- that of kazdrin_step: or a text is no name of a filter or a volume, or no path of a create
abbrev pub Unread : KazdrinEvent → List ℕ → Option Step → Status → Type 0
Unread e bytes named BadName = ((e.event == 1 || e.event == 2) ≡ true) × (IsName bytes → ⊥)
Unread e bytes named BadPath = (names_path e ≡ true) × (IsPath bytes → ⊥)
Unread e bytes named status = Unnamed (takes_memory e) named status

-- that of kazdrin_attach: the name is read first
abbrev pub UnreadTexts : List ℕ → List ℕ → Status → Type 0
UnreadTexts name altitude BadName = IsName name → ⊥
UnreadTexts name altitude BadAltitude = IsName name × (IsAltitude altitude → ⊥)
UnreadTexts name altitude _ = ⊥

-- that of parameters: the number is no operation's, or the text no path of a create
abbrev pub UnreadParams : {T : Type 0} → ℕ → List ℕ → Option T → Status → Type 0
UnreadParams n bytes named BadPath = (n ≡ 4) × (IsPath bytes → ⊥)
UnreadParams n bytes named status = Unnamed (copies n) named status
