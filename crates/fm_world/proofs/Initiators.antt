-- What the event does by which an operation begins that an instance's filter asks for itself.
use Rattle.fm_world.proofs.Words.{BeginsFrom, BeginsLower, after_begin, after_begin_from, begin_refused_at, from_refusals, placed_at, placed_from, or_else}
use Rattle.fm_world.proofs.Words.{FileTable, IsStack, Spot, creates, count_changed, one, All-cons, IsAmong, IsFileSound, IsSound, KeepsHands, AskCarries, is_left_by, row_at, trail, begun, begun_record, carried_by, changed}
use Rattle.fm_world.proofs.Words.{CtxId, Descending, FlowRecord, FlowTable, HandleId, Instance, InstanceId}
use Rattle.fm_world.proofs.Words.{OpId, Params, Request, StackWorld, Status, StreamId, VolumeId, World, carried, drain_opens, flight}
use Rattle.fm_world.proofs.Words.{is_creating, is_number, operation_at, owed, slice_get_within, all_change, found_holds, lawful_alike, none_refuses, first_of}
use Rattle.fm_world.proofs.Words.{All, Bool, List, None, Option, Result, Some, [], ap, arith, cond, false, find, length, refl}
use Rattle.fm_world.proofs.Words.{subst, sym, true, ℕ, ◌++◌, ◌<◌, ◌==◌, ◌∙◌, ◌∷◌, ◌≡◌, ◌≤◌, All-head, All-tail, All-nil, none-some}
use Rattle.fm_world.proofs.Words.{eq-eqb, ne_eqb, same_Some}
use Rattle.fm_operations.specs.Sound as flow
use Rattle.fm_operations.specs.Table.{is_spent, placed}
use Rattle.fm_operations.proofs.Flows.{flow_changes}
use Rattle.fm_operations.proofs.Requests.{sound_placed}
use Rattle.fm_stack.proofs.Visits.{is_to_visit_few}
use Rattle.fm_world.specs.Sound.{IsAmongAt}
use Rattle.fm_world.proofs.Amongs.{among_placed}
use Rattle.fm_world.proofs.Callbacks.{not_false}
use Rattle.fm_world.proofs.Events.{memory_by}
use Rattle.fm_world.proofs.Filed.{sound_from, stands_in, stands_same}
use Rattle.fm_world.proofs.Flowing.{asks_of, carried_changed, carry_changed, flow_owned, quieter}
use Rattle.fm_world.proofs.Requests.{begun_by, begun_sound, none_else}
use Rattle.fm_world.proofs.Staying.{Does, TableStays, contexts_in, makes, nothing, still}
use Rattle.fm_world.proofs.Ties.{standing, told_same}
use Rattle.fm_world.specs.Initiators.{asker_of, asker_refusals, born_from}
use Rattle.fm_world.proofs.Asking.{placed_asked}

-- ---- the operation that has just begun

first_free : (m n : Option Status) → or_else m n ≡ None → m ≡ None
first_free m n h = grind arith

-- a new number is the last one's
found_pushed : (o : OpId) (rs : List FlowRecord) (r : FlowRecord) → All (λ (x : FlowRecord). x.number.0 < o.0) rs → r.number.0 ≡ o.0
    → find (is_number o) (rs ++ r ∷ []) ≡ Some r
found_pushed o [] r below same = ap (λ b. cond b (Some r) None) (eq-eqb r.number.0 o.0 same)
found_pushed o (x ∷ rs) r below same =
    let under : x.number.0 < o.0 = All-head (λ (y : FlowRecord). y.number.0 < o.0) x rs below in
    let other : (x.number.0 == o.0) ≡ false = ne_eqb x.number.0 o.0 (λ e. absurd (omega arith)) in
    ap (λ b. cond b (Some x) (find (is_number o) (rs ++ r ∷ []))) other
    ∙ found_pushed o rs r (All-tail (λ (y : FlowRecord). y.number.0 < o.0) x rs below) same

-- an operation to which nothing has happened yet
pub record IsNew (r : FlowRecord) : Type 0 where
  pub entries : r.entries ≡ []
  pub stage : r.stage ≡ Descending

abbrev pub HasNew : World → World → Type 0
HasNew old w = (r : FlowRecord) × (operation_at (record { 0 = old.flow.next }) w.flow ≡ Some r) × IsNew r

new_begun : (old : World) (v : VolumeId) (stream : Option StreamId) (handle : Option HandleId) (path : Option (List ℕ)) (p : Params) → IsSound old
    → HasNew old (record old { flow = begun v stream handle old.stack.births path p old.flow })
new_begun old v stream handle path p s =
    let r = begun_record old.flow.next v stream handle old.stack.births path p in (
      r,
      found_pushed (record { 0 = old.flow.next }) old.flow.operations r s.under_way.flow.below refl,
      record { entries = refl; stage = refl },
    )

-- whatever begins, it is there, and the instances are as they were
pub begun_there : (lower : Bool) (old : World) (what : Request) → begin_refused_at lower old what ≡ None → IsSound old
    → HasNew old (after_begin old what) × ((after_begin old what).stack ≡ old.stack)
begun_there lower old what free s = begun_by (λ w. HasNew old w × (w.stack ≡ old.stack)) lower old what free
    (λ v p none within room. (new_begun old v None None None p s, refl))
    (λ v path mode room. (new_begun old v _ None (Some path) (Params.Create path mode) s, refl))
    (λ h p x y none at within room. (new_begun old y.volume (Some x.stream) (Some h) (Some y.path) p s, refl))

-- ---- its place

among_of : (s : StackWorld) (r : FlowRecord) (below : Option InstanceId) (born : ℕ) → IsNew r → IsStack s
    → born ≤ s.births → All (λ i. i < length s.instances) (trail below []) → IsAmong s (placed below born r)
among_of s r below born new stack past there =
    subst (λ es. IsAmongAt s r.volume below born r.operation es r.stage) (sym new.entries)
    (subst (IsAmongAt s r.volume below born r.operation []) (sym new.stage)
    (among_placed s r.volume below born r.operation (is_to_visit_few s stack r.volume born r.operation) past there))

-- the initiator is there
row_there : (m : Option Instance) → is_left_by m ≡ true → (row : Instance) × (m ≡ Some row)
row_there m h = grind arith

-- whoever asks for an operation is there
abbrev pub AskerIsThere : StackWorld → BeginsFrom → Type 0
AskerIsThere s from = (i : InstanceId) → asker_of from ≡ Some i → is_left_by (row_at s i) ≡ true

born_past : (births : ℕ) (from : BeginsFrom) → born_from births from ≤ births
born_past births (BeginsFrom.Below i) = omega arith
born_past births (BeginsFrom.Base i) = omega arith
born_past births BeginsFrom.FileSystem = omega arith
born_past births BeginsFrom.Top = omega arith

asker_within : (s : StackWorld) (m : Option InstanceId) → ((i : InstanceId) → m ≡ Some i → is_left_by (row_at s i) ≡ true)
    → All (λ n. n < length s.instances) (trail m [])
asker_within s None left = All-nil (λ n. n < length s.instances)
asker_within s (Some i) left =
    let row = row_there (row_at s i) (left i refl) in
    All-cons (λ n. n < length s.instances) i.0 [] (slice_get_within s.instances i.0 row.0 row.1) (All-nil (λ n. n < length s.instances))

new_among : (s : StackWorld) (r : FlowRecord) (from : BeginsFrom) → IsNew r → IsStack s → AskerIsThere s from → IsAmong s (placed_from s.births from r)
new_among s r from new stack left =
    among_of s r (asker_of from) (born_from s.births from) new stack (born_past s.births from) (asker_within s (asker_of from) left)

-- what a step of an operation has to leave alone
record Keeps (f : FlowRecord → FlowRecord) (r : FlowRecord) : Type 0 where
  pub number : (f r).number.0 ≡ r.number.0
  pub collected : (f r).collected ≡ r.collected
  pub entries : (f r).entries ≡ r.entries
  pub stage : (f r).stage ≡ r.stage
  pub operation : (f r).operation ≡ r.operation
  pub stream : (f r).stream ≡ r.stream
  pub handle : (f r).handle ≡ r.handle

placed_keeps : (births : ℕ) (from : BeginsFrom) (r : FlowRecord) → Keeps (placed_from births from) r
placed_keeps births from r =
    record { number = refl; collected = refl; entries = refl; stage = refl; operation = refl; stream = refl; handle = refl }

placed_sound : (births : ℕ) (from : BeginsFrom) (r : FlowRecord) → flow.IsSound r → flow.IsSound (placed_from births from r)
placed_sound births from r h = sound_placed (asker_of from) (born_from births from) r h

placed_creating : (births : ℕ) (from : BeginsFrom) (r : FlowRecord) → is_creating (placed_from births from r) ≡ is_creating r
placed_creating births from r = refl

placed_unspent : (births : ℕ) (from : BeginsFrom) (r : FlowRecord) → is_spent r ≡ false → is_spent (placed_from births from r) ≡ false
placed_unspent births from r h = h

placed_stands : (births : ℕ) (from : BeginsFrom) (x : Spot) (r : FlowRecord) → standing x (placed_from births from r) ≡ standing x r
placed_stands births from x r = refl

placed_drains : (births : ℕ) (from : BeginsFrom) (i : ℕ) (r : FlowRecord) → drain_opens i (placed_from births from r).entries ≡ drain_opens i r.entries
placed_drains births from i r = refl

placed_flies : (births : ℕ) (from : BeginsFrom) (i : ℕ) (r : FlowRecord) → flight i (placed_from births from r) ≡ flight i r
placed_flies births from i r = refl

placed_carries : (births : ℕ) (from : BeginsFrom) (c : CtxId) (r : FlowRecord) → carried_by c (placed_from births from r) ≡ carried_by c r
placed_carries births from c r = refl

pub placed_balance : (births : ℕ) (t : FlowTable) (o : OpId) (r : FlowRecord) (from : BeginsFrom) → operation_at o t ≡ Some r → (c : CtxId)
    → carried c t ≡ carried c (changed o (placed_from births from) t)
placed_balance births t o r from at c = omega (arith, carried_changed t o r (placed_from births from) at c, placed_carries births from c r)

placed_filed : (births : ℕ) (f : FileTable) (o : OpId) (t : FlowTable) (r : FlowRecord) (from : BeginsFrom) → operation_at o t ≡ Some r → IsFileSound f t
    → IsFileSound f (changed o (placed_from births from) t)
placed_filed births f o t r from at h =
    let keeps = placed_keeps births from r in
    let creating = placed_creating births from r in
    let counts : creates (changed o (placed_from births from) t) ≡ creates t =
    omega (arith, count_changed is_creating (is_number o) (placed_from births from) t.operations r at, ap one creating) in
    sound_from f (changed o (placed_from births from) t)
    (record { numbers = omega (arith, counts, h.room.numbers); few = omega (arith, counts, h.room.few) })
    (stands_same f t.operations t.next (is_number o) (placed_from births from) r at
    (record { stream = keeps.stream; handle = keeps.handle; creating = creating }) (stands_in f t h))

pub placed_holds : (w : World) (o : OpId) (r : FlowRecord) (from : BeginsFrom) → operation_at o w.flow ≡ Some r → IsNew r
    → AskerIsThere w.stack from → IsSound w → IsSound (placed_at o from w)
placed_holds w o r from at new left s =
    let births = w.stack.births in
    let f = placed_from births from in
    let u = s.under_way in
    let operations = w.flow.operations in
    let opens = λ (i : ℕ) (y : FlowRecord). drain_opens i y.entries in
    let keeps = placed_keeps births from in
    record {
      under_way = record {
        stack = u.stack;
        flow = flow_changes w.flow o f u.flow (λ x. (keeps x).number) (λ x. (keeps x).collected)
            (λ x k. placed_sound births from x (found_holds flow.IsSound (is_number o) operations x u.flow.sound k))
            (λ x k. placed_unspent births from x (found_holds (λ (y : FlowRecord). is_spent y ≡ false) (is_number o) operations x u.flow.needed k));
        among = all_change (IsAmong w.stack) (is_number o) f operations
            (λ x k. subst (λ (y : FlowRecord). IsAmong w.stack (f y)) (same_Some r x (sym at ∙ k)) (new_among w.stack r from new u.stack left)) u.among;
        hands = u.hands;
        workers = λ p x. u.workers p x ∙ told_same (standing x) p w.flow o r f at (λ y. (keeps y).number) (placed_stands births from x r);
        drains = λ p i. u.drains p i ∙ told_same (opens i) p w.flow o r f at (λ y. (keeps y).number) (placed_drains births from i r);
        instance_callbacks = u.instance_callbacks;
      };
      owned = flow_owned w (changed o f w.flow) (lawful_alike (λ c. placed_balance births w.flow o r from at c) s.owned.lawful)
          (carry_changed w.stack w.contexts.slots w.flow o r f at
          (subst (λ es. All (AskCarries w.stack w.contexts.slots) (owed es)) (sym (keeps r).entries) (asks_of w o r at s.owned)) s.owned.completions)
          (quieter w o r f at (λ i. omega (arith, placed_flies births from i r)) s.owned.quiet) s.owned;
      begun = placed_asked w.stack w.flow o r (asker_of from) (born_from births from) at left s.begun;
      filed = placed_filed births w.files o w.flow r from at s.filed;
      links = s.links;
    }

-- ---- it begins

same_hands : (old new : World) → new.contexts ≡ old.contexts → KeepsHands old new
same_hands old new same n = grind arith

asker_there : (w : World) (m : Option InstanceId) (what : Request) → first_of (asker_refusals w m what) ≡ None → (i : InstanceId) → m ≡ Some i
    → is_left_by (row_at w.stack i) ≡ true
asker_there w None what free i is = absurd (none-some i is)
asker_there w (Some j) what free i is =
    let left = not_false (is_left_by (row_at w.stack j)) (none_refuses (asker_refusals w (Some j) what) free).0 in
    subst (λ (n : InstanceId). is_left_by (row_at w.stack n) ≡ true) (same_Some j i is) left

-- where nothing refuses it, the instance that asks is there
pub asks_there : (w : World) (from : BeginsFrom) (what : Request) → first_of (from_refusals w from what) ≡ None → AskerIsThere w.stack from
asks_there w from what free = asker_there w (asker_of from) what free

pub begin_from_does : (old : World) (from : BeginsFrom) (what : Request) (result : Result OpId Status) (new : World) → BeginsLower old from what result new
    → Does old new × KeepsHands old new
unfolding BeginsLower
begin_from_does old from what result new h =
    memory_by (λ _ w. Does old w × KeepsHands old w) _ result old new _ h (λ why. (nothing old, λ n. refl)) (λ o free e.
    let mine = first_free (first_of (from_refusals old from what)) (begin_refused_at true old what) free in
    let theirs = none_else (first_of (from_refusals old from what)) (begin_refused_at true old what) free in
    let begun = begun_sound true old what theirs in
    let mid = after_begin old what in
    let left = asks_there old from what mine in (
      makes old (after_begin_from old from what) new e.1 (subst (TableStays old.contexts) (sym begun.0) (still old.contexts)) (λ s.
          let there = begun_there true old what theirs s in
          placed_holds mid (record { 0 = old.flow.next }) there.0.0 from there.0.1 there.0.2
          (λ i is. ap (λ (t : StackWorld). is_left_by (row_at t i)) there.1 ∙ left i is) (begun.1 s)),
      same_hands old new (ap contexts_in e.1 ∙ begun.0),
    ))
