-- What an operation keeps beside its entries, so that nobody has to walk them, and the data that lies there for whoever comes next.
use Rattle.std.specs.Prelude.{◌≡◌, ℕ, List, map, Option, Some, IfSome, option_map}
use Rattle.fm_types.specs.declared.ids.InstanceId.{InstanceId}
use Rattle.fm_callback_data.specs.Data.{Data, fresh_data}
use Rattle.fm_callback_data.specs.declared.params.Params.{Params}
use Rattle.fm_operations.specs.declared.entry.Entry.{Entry}
use Rattle.fm_operations.specs.Entries.{ask_at, owed, last_visited}

-- the places of the entries that ask for what is owed, in the order in which it comes, and the instance that was visited last
pub record IsNoted (places : List ℕ) (latest : Option InstanceId) (entries : List Entry) : Type 0 where
  pub asks : map (ask_at entries) places ≡ map Some (owed entries)
  pub last : option_map (λ i. i.0) latest ≡ last_visited entries

-- the parameters as the next callback finds them
abbrev pub received_in : Option Data → Option Params
received_in = option_map (λ d. d.received)

-- nobody has changed or answered anything in data that lies there
abbrev pub IsBare : Option Data → Type 0
IsBare lies = IfSome lies (λ d. d ≡ fresh_data d.received)
