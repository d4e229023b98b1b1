-- What an operation's entries say: whom it visited, who asked for a postoperation, and who is still owed one.
use Rattle.std.specs.Prelude.{ℕ, ◌+◌, ◌==◌, Bool, true, false, cond, not, ◌&&◌, List, [], ◌∷◌, map, reverse, filter, filter_map, Option, Some, None, slice_get, option_and_then}
use Rattle.std.specs.List.{list_any}
use Rattle.fm_operations.specs.declared.entries.Ending.{Ending}
use Rattle.fm_operations.specs.declared.entries.Ending.TheVariants as ending
use Rattle.fm_operations.specs.declared.entry.PreState.{PreState}
use Rattle.fm_operations.specs.declared.entry.PreState.TheVariants as pre
use Rattle.fm_operations.specs.declared.entry.PostState.{PostState}
use Rattle.fm_operations.specs.declared.entry.PostState.TheVariants as post
use Rattle.fm_operations.specs.declared.entry.PreVisit.{PreVisit}
use Rattle.fm_operations.specs.declared.entry.Ask.{Ask}
use Rattle.fm_operations.specs.declared.entry.Entry.{Entry}
use Rattle.fm_operations.specs.declared.entry.Entry.TheVariants.{Pre, Base, Post, Drain}

-- 1 where the test holds, else 0
abbrev pub one : Bool → ℕ
one test = cond test 1 0

-- how often a number stands in a list
abbrev pub times : ℕ → List ℕ → ℕ
times i [] = 0
times i (j ∷ js) = one (j == i) + times i js

-- what a preoperation asks for, if its verdict asks
abbrev pub ask_in : PreVisit → PreState → Option Ask
ask_in visit (pre.Asked completion) = Some (record {
  instance = visit.instance;
  worker = visit.worker;
  completion = completion;
  is_synchronized = false;
  place = visit.place;
})
ask_in visit (pre.Synchronized completion) = Some (record {
  instance = visit.instance;
  worker = visit.worker;
  completion = completion;
  is_synchronized = true;
  place = visit.place;
})
ask_in visit _ = None

-- what an entry asks for
abbrev pub ask_of : Entry → Option Ask
ask_of (Pre visit) = ask_in visit visit.state
ask_of _ = None

-- what the entry at a place asks for
abbrev pub ask_at : List Entry → ℕ → Option Ask
ask_at entries place = option_and_then ask_of (slice_get entries place)

-- whether a verdict asks
abbrev pub asks : PreState → Bool
asks (pre.Asked completion) = true
asks (pre.Synchronized completion) = true
asks _ = false

-- the instance that an entry visits on the way down, on the way up, drains
abbrev pub visit_of : Entry → Option ℕ
visit_of (Pre visit) = Some visit.instance.0
visit_of _ = None

abbrev pub post_of : Entry → Option ℕ
post_of (Post visit) = Some visit.instance.0
post_of _ = None

-- whether an entry drains an instance
abbrev pub drains : ℕ → Entry → Bool
drains i (Drain visit) = visit.instance.0 == i
drains i _ = false

-- whether an entry is the postoperation or the drain of an instance
abbrev pub answers : ℕ → Entry → Bool
answers i (Post visit) = visit.instance.0 == i
answers i (Drain visit) = visit.instance.0 == i
answers i _ = false

abbrev pub is_drained : List Entry → ℕ → Bool
is_drained entries i = list_any (drains i) entries

abbrev pub is_answered : List Entry → ℕ → Bool
is_answered entries i = list_any (answers i) entries

-- the instances visited on the way down, in order
abbrev pub visited : List Entry → List ℕ
visited entries = filter_map visit_of entries

-- the one that was visited last
abbrev pub last_visited : List Entry → Option ℕ
last_visited entries = slice_get (reverse (visited entries)) 0

-- the place of a visit on the way down: how many values were kept of what earlier visits received
abbrev pub place_of : Entry → Option ℕ
place_of (Pre visit) = Some visit.place
place_of _ = None

-- that of the last one
abbrev pub last_place : List Entry → Option ℕ
last_place entries = slice_get (reverse (filter_map place_of entries)) 0

-- the postoperations that were asked for, in order
abbrev pub asked : List Entry → List Ask
asked entries = filter_map ask_of entries

-- the instances visited on the way up, in order
abbrev pub posted : List Entry → List ℕ
posted entries = filter_map post_of entries

-- the one that was visited last on the way up
abbrev pub last_posted : List Entry → Option ℕ
last_posted entries = slice_get (reverse (posted entries)) 0

-- the postoperations still owed, in the order in which they come: those asked for, last first, without
-- those of an instance that had its postoperation or was drained
abbrev pub owed : List Entry → List Ask
owed entries = filter (λ ask. not (is_answered entries ask.instance.0)) (reverse (asked entries))

-- the postoperations that were asked for, last first, without those of drained instances
abbrev pub undrained : List Entry → List Ask
undrained entries = filter (λ ask. not (is_drained entries ask.instance.0)) (reverse (asked entries))

-- the instances of postoperations
abbrev pub instances : List Ask → List ℕ
instances asks = map (λ ask. ask.instance.0) asks

-- the postoperations of all other instances
abbrev pub without : ℕ → List Ask → List Ask
without i asks = filter (λ ask. not (i == ask.instance.0)) asks

-- whether an entry is the base's, and whether one is
abbrev pub is_base : Entry → Bool
is_base (Base status information) = true
is_base _ = false

abbrev pub has_base : List Entry → Bool
has_base entries = list_any is_base entries

-- whether a preoperation runs or holds, and likewise a postoperation
abbrev pub is_pre_open : PreState → Bool
is_pre_open pre.Running = true
is_pre_open pre.Held = true
is_pre_open _ = false

abbrev pub is_post_open : PostState → Bool
is_post_open post.Running = true
is_post_open post.Held = true
is_post_open post.Finished = false

-- a callback runs or holds the operation at the entry
abbrev pub is_open : Entry → Bool
is_open (Pre visit) = is_pre_open visit.state
is_open (Post visit) = is_post_open visit.state
is_open _ = false

-- the entry with its preoperation settled, if it ran or held; its postoperation; its drain
abbrev pub settle_pre : PreState → Entry → Entry
settle_pre state (Pre visit) = Pre (record visit { state = cond (is_pre_open visit.state) state visit.state })
settle_pre state entry = entry

abbrev pub settle_post : PostState → Entry → Entry
settle_post state (Post visit) = Post (record visit { state = cond (is_post_open visit.state) state visit.state })
settle_post state entry = entry

abbrev pub settle_drain : ℕ → Entry → Entry
settle_drain i (Drain visit) = Drain (record visit { is_running = not (visit.instance.0 == i) && visit.is_running })
settle_drain i entry = entry

-- the entry with what is over settled
abbrev pub settle : Ending → Entry → Entry
settle (ending.Pre state) = settle_pre state
settle (ending.Post state) = settle_post state
settle (ending.Drain instance) = settle_drain instance.0
