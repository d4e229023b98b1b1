-- Which words start the server, and with what.
use Rattle.std.specs.Prelude.{◌≡◌, ◌≢◌, ◌⊎◌, ◌≤◌, ℕ, true, List, [], ◌∷◌, Option, Some, None, codes, pos}
use Rattle.std.specs.Str.Parse.{IsNumeral, digits_value, without_leading_plus}
use Rattle.clap.specs.Words.{App, Row, Rule, fault_of, first_of, matches_of, new_app, new_rule, one_of, with_rule}
use Rattle.clap.specs.Simple.{on_top}
use Rattle.clap.specs.declared.builder.action.ArgAction.TheVariants.{Set}
use Rattle.clap.specs.declared.builder.value_parser.ValueParser.TheVariants.{Signed}
use Rattle.fm_cli.specs.declared.front.Front.{Front}

-- FOLDER and SOCKET, and `--workers N` with N from 1 to 16, 4 without it
abbrev pub required_rule : List ℕ → Rule
required_rule id = record (new_rule id) { required = true; action = Some Set }

abbrev pub workers_rule : Rule
workers_rule = record (new_rule (codes "workers")) {
  long = Some (codes "workers");
  action = Some Set;
  parser = Some (Signed (pos 1) (pos 16));
  defaults = codes "4" ∷ [];
}

-- the command, whose words begin after the program's name
abbrev pub front_app : App
front_app =
    with_rule (with_rule (with_rule (on_top (λ s. record s { no_binary_name = true }) (new_app (codes "fltd"))) (required_rule (codes "folder"))) (required_rule (codes "socket")))
    workers_rule

-- the text is that number, perhaps with a plus in front, and the server may have so many workers
abbrev pub IsWorkers : List ℕ → ℕ → Type 0
IsWorkers text n = IsNumeral 10 (without_leading_plus text) × (n ≡ digits_value 10 (without_leading_plus text)) × (1 ≤ n) × (n ≤ 16)

-- the number that the text is, if there is a text and it is one
abbrev pub ReadsWorkers : Option (List ℕ) → Option ℕ → Type 0
ReadsWorkers (Some text) (Some n) = IsWorkers text n
ReadsWorkers (Some text) None = (n : ℕ) → IsWorkers text n → ⊥
ReadsWorkers None (Some n) = ⊥
ReadsWorkers None None = Unit {0}

-- the values that a parse found are these
pub record HasValues (rows : List Row) (front : Front) : Type 0 where
  pub folder : first_of (codes "folder") rows ≡ Some front.folder.now
  pub socket : first_of (codes "socket") rows ≡ Some front.socket.now
  pub workers : ReadsWorkers (one_of (codes "workers") rows) (Some front.workers)

-- or there is a value that it didn't find
abbrev pub LacksValues : List Row → Type 0
LacksValues rows =
    (first_of (codes "folder") rows ≡ None) ⊎ (first_of (codes "socket") rows ≡ None) ⊎ ReadsWorkers (one_of (codes "workers") rows) None

-- the command takes the words, and these are the values that they name
abbrev pub Fronts : List (List ℕ) → Front → Type 0
Fronts words front = (fault_of front_app words ≡ []) × HasValues (matches_of front_app words) front

-- the command doesn't take the words, or finds no values in them
abbrev pub HasNoFront : List (List ℕ) → Type 0
HasNoFront words = (fault_of front_app words ≢ []) ⊎ LacksValues (matches_of front_app words)

-- nothing is wrong with these words, and they were taken as the rules of the command say
abbrev pub TakesWords : List (List ℕ) → List Row → Type 0
TakesWords words rows = (fault_of front_app words ≡ []) × (rows ≡ matches_of front_app words)
