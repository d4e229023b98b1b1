-- Steps of any seats in any order.
use Rattle.std.specs.Prelude.{◌≡◌, ◌<◌, ℕ, List, [], ◌∷◌, slice_index}
use mathlib.Core.Option.{some}
use lib.ListN.{get_elem?}
use Rattle.atomic_table.specs.Table.{stepped, keeps}
use Rattle.fm_rundown.specs.declared.view.SeatView.{SeatView}
use Rattle.fm_rundown.specs.Views.{most_volumes, volume_of, changed}
use Rattle.fm_rundown.specs.Kinds.{Kind, enters, undoes, leaves, closes, looks}
use Rattle.fm_rundown.specs.Rule.{GateState}

-- the five calls' steps
pub data Call : Type 0 where
  enter : Call
  undo : Call
  leave : Call
  close : Call
  look : Call

abbrev pub kind_of : Call → Kind
kind_of enter = enters
kind_of undo = undoes
kind_of leave = leaves
kind_of close = closes
kind_of look = looks

-- a step of one seat on one volume
pub record Step : Type 0 where
  pub seat : ℕ
  pub volume : ℕ
  pub call : Call

-- the gate after a step of a seat that knew `seat`
abbrev pub after_step : Step → SeatView → GateState → GateState
after_step step seat s =
    let kind = kind_of step.call in
    let found = slice_index s.words step.volume in
    stepped s step.volume (kind.word found) step.seat [] (changed step.volume (kind.seen found) seat) keeps

-- a schedule leads from one state of the gate to another: each step is by a seat that is there and may take it
abbrev pub Leads : List Step → GateState → GateState → Type 0
Leads [] s t = t ≡ s
Leads (step ∷ steps) s t =
    (seat : SeatView) × (get_elem? s.views step.seat ≡ some seat) × (step.volume < most_volumes)
    × (kind_of step.call).may (volume_of step.volume seat)
    × Leads steps (after_step step seat s) t
