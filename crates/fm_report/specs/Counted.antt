-- What the manager's records tell of an operation, and how many operations are held.
use Rattle.std.specs.Prelude.{ℕ, zero, suc, ◌+◌, ◌==◌, ◌∷◌, [], cond, nat_eq, is_some, List, Option, Some, None, option_and_then}
use Rattle.fm_callback_data.specs.declared.verdict.PreVerdict.{PreVerdict}
use Rattle.fm_callback_data.specs.declared.verdict.PreVerdict.TheVariants.{WithCallback, Synchronize, NoCallback, Complete}
use Rattle.fm_types.specs.declared.ids.InstanceId.{InstanceId}
use Rattle.fm_types.specs.declared.ids.OpId.{OpId}
use Rattle.fm_types.specs.Statuses.{number_of}
use Rattle.fm_operations.specs.declared.entry.Entry.{Entry}
use Rattle.fm_operations.specs.declared.entry.Entry.TheVariants.{Pre, Post}
use Rattle.fm_operations.specs.declared.entry.PreState.{PreState}
use Rattle.fm_operations.specs.declared.entry.PreState.TheVariants as pre
use Rattle.fm_operations.specs.declared.hold.Hold.{Hold}
use Rattle.fm_operations.specs.declared.hold.Hold.TheVariants as hold
use Rattle.fm_operations.specs.Holds.{is_post_held, is_pre_held}
use Rattle.fm_operations.specs.Record.{FlowRecord}
use Rattle.fm_operations.specs.Table.{FlowTable, operation_at}

-- the callback that holds an operation by an entry of its record
abbrev pub holder : Entry → Option (InstanceId × Hold)
holder (Pre visit) = cond (is_pre_held visit.state) (Some (visit.instance, hold.Pre)) None
holder (Post visit) = cond (is_post_held visit.state) (Some (visit.instance, hold.Post)) None
holder _ = None

-- how the preoperation of that instance stands by an entry
abbrev pub stand : ℕ → Entry → Option PreState
stand i (Pre visit) = cond (visit.instance.0 == i) (Some visit.state) None
stand i _ = None

abbrev pub or_else : {A : Type 0} → Option A → Option A → Option A
or_else (Some x) other = Some x
or_else None other = other

-- what the first of the entries tells that tells something
abbrev pub first_in : {A : Type 0} → (Entry → Option A) → List Entry → Option A
first_in tells [] = None
first_in tells (e ∷ entries) = or_else (tells e) (first_in tells entries)

-- who holds that operation
abbrev pub held_at : OpId → FlowTable → Option (InstanceId × Hold)
held_at o t = option_and_then (λ (r : FlowRecord). first_in holder r.entries) (operation_at o t)

-- how the preoperation of that instance stands that saw that operation
abbrev pub stands_at : OpId → ℕ → FlowTable → Option PreState
stands_at o i t = option_and_then (λ (r : FlowRecord). first_in (stand i) r.entries) (operation_at o t)

-- how many of the operations with a number below that one are held
abbrev pub held_below : ℕ → FlowTable → ℕ
held_below zero t = 0
held_below (suc n) t = held_below n t + cond (is_some (held_at (record { 0 = n }) t)) 1 0

-- how many operations are held
abbrev pub held_in : FlowTable → ℕ
held_in t = held_below t.next t

-- the verdict that counts in place of the one that a preoperation gave and that left it standing so, where another one does
abbrev pub counted_for : PreVerdict → PreState → Option PreVerdict
counted_for (WithCallback completion) pre.Passed = Some NoCallback
counted_for (Synchronize completion) pre.Passed = Some NoCallback
counted_for (Complete status) pre.Passed = Some NoCallback
counted_for (Complete status) (pre.Completed other) = cond (nat_eq (number_of status) (number_of other)) None (Some (Complete other))
counted_for _ _ = None
