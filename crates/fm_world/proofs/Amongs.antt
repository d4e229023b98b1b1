-- What each step of an operation leaves of its place among the instances.
use Rattle.fm_world.proofs.Words.{is_base, post_of, settle_drain, settle_post, settle_pre, visit_of, after, if_down, walk, way_of, Base, Drain, Post, Pre}
use Rattle.fm_world.proofs.Words.{PostState, PostVisit, PreVisit, Ascending, PostHeld, Follows, IsHighest, IsStack, HasRoom, IsDescent, last_of, trail, cursor_of, InstanceId, IsAmongAt, option_map}
use Rattle.fm_world.proofs.Words.{NoneLeft, Descending, Entry, InBase, Operation, PostRunning, PreState, StackWorld, Stage, Status, VolumeId, has_base}
use Rattle.fm_world.proofs.Words.{is_candidate, is_to_visit, last_posted, last_visited, posted, visited, All, Bool, List, None, Option, Some, [], ap, arith}
use Rattle.fm_world.proofs.Words.{count_by, false, filter_map, length, map, option_and_then, refl, subst, sym, true, ℕ, ◌++◌, ◌<◌, ◌||◌, ◌∙◌, ◌∷◌, ◌≡◌, ◌≤◌}
use Rattle.fm_world.proofs.Words.{append-nil, All-head, All-push, All-tail, All-weaker, filter_map-append, list_any-append, none-some, same_Some}
use Rattle.fm_world.proofs.Words.{slice_get_within, cons_option}
use Rattle.fm_operations.specs.declared.entry.DrainVisit.{DrainVisit}
use Rattle.fm_world.proofs.Descents.{descent_begins, descent_follows, descent_reaches, descent_visits, last_of-cons, last_of-push, none_follows, room_below}
use Rattle.fm_world.proofs.Descents.{room_follows, room_visits, trail_push}

-- ---- an operation on its way down has no base entry

abbrev pub is_up : Stage → Bool
is_up Ascending = true
is_up PostRunning = true
is_up PostHeld = true
is_up _ = false

walk_on : (next : Option Stage) (es : List Entry) (t : Stage) → option_and_then (λ s. walk s es) next ≡ Some t
    → (s : Stage) × (next ≡ Some s) × (walk s es ≡ Some t)
walk_on next es t h = grind arith

after_up : (s : Stage) (e : Entry) (t : Stage) → is_up s ≡ true → after s e ≡ Some t → is_up t ≡ true
after_up s e t u h = grind arith

stays_up : (s : Stage) (es : List Entry) (t : Stage) → is_up s ≡ true → walk s es ≡ Some t → is_up t ≡ true
stays_up s [] t u h = ap is_up (sym (same_Some s t h)) ∙ u
stays_up s (e ∷ es) t u h = let k = walk_on (after s e) es t h in stays_up k.0 es t (after_up s e k.0 u k.1) k.2

base_leads_up : (s t : Stage) → if_down s Ascending ≡ Some t → is_up t ≡ true
base_leads_up s t h = grind arith

no_base_from : (s : Stage) (es : List Entry) (t : Stage) → walk s es ≡ Some t → is_up t ≡ false → has_base es ≡ false
no_base_from s [] t h u = refl
no_base_from s (Base status information ∷ es) t h u = grind (arith, walk_on, stays_up, base_leads_up)
no_base_from s (e ∷ es) t h u = let k = walk_on (after s e) es t h in no_base_from k.0 es t k.2 u

pub no_base : (s : Stage) (es : List Entry) → walk Descending es ≡ Some (way_of s) → is_up (way_of s) ≡ false → has_base es ≡ false
no_base s es h u = no_base_from Descending es (way_of s) h u

-- ---- what the entries say after one more, and after they were settled

visited_push : (es : List Entry) (e : Entry) → visited (es ++ e ∷ []) ≡ visited es ++ filter_map visit_of (e ∷ [])
visited_push es e = filter_map-append visit_of es (e ∷ [])

pub visit_last : (es : List Entry) (visit : PreVisit) → last_visited (es ++ Pre visit ∷ []) ≡ Some visit.instance.0
visit_last es visit = ap last_of (visited_push es (Pre visit)) ∙ last_of-push (visited es) visit.instance.0

pub post_last : (es : List Entry) (visit : PostVisit) → last_posted (es ++ Post visit ∷ []) ≡ Some visit.instance.0
post_last es visit = ap last_of (filter_map-append post_of es (Post visit ∷ [])) ∙ last_of-push (posted es) visit.instance.0

base_push : (es : List Entry) (e : Entry) → has_base (es ++ e ∷ []) ≡ (has_base es || (is_base e || false))
base_push es e = list_any-append is_base es (e ∷ [])

or_false : (a : Bool) → (a || (false || false)) ≡ a
or_false a = grind arith

or_true : (a : Bool) → (a || (true || false)) ≡ true
or_true a = grind arith

last_holds : (P : ℕ → Type 0) (is : List ℕ) (l : ℕ) → All P is → last_of is ≡ Some l → P l
last_holds P [] l all h = absurd (none-some l h)
last_holds P (i ∷ []) l all h = subst P (same_Some i l h) (All-head P i [] all)
last_holds P (i ∷ j ∷ is) l all h = last_holds P (j ∷ is) l (All-tail P i (j ∷ is) all) (sym (last_of-cons i j is) ∙ h)

-- the parts of an operation's place, over its visits and whether the base was reached
record Stands (s : StackWorld) (v : VolumeId) (below : Option InstanceId) (born : ℕ) (operation : Operation) (visits : List ℕ) (reached : Bool) : Type 0 where
  pub descent : IsDescent s v below born operation visits reached
  pub room : HasRoom s v below born operation visits
  pub there : All (λ i. i < length s.instances) (trail below visits)

among_from : (s : StackWorld) (v : VolumeId) (below : Option InstanceId) (born : ℕ) (operation : Operation) (entries : List Entry) (stage : Stage) (visits : List ℕ) (reached : Bool)
    → visited entries ≡ visits → has_base entries ≡ reached → Stands s v below born operation visits reached
    → (stage ≡ InBase → NoneLeft s v (cursor_of below (visited entries)) born operation) → IsAmongAt s v below born operation entries stage
among_from s v below born operation entries stage visits reached ve be h base = grind arith

stands_of : {s : StackWorld} {v : VolumeId} {below : Option InstanceId} {born : ℕ} {operation : Operation} (entries : List Entry) (stage : Stage)
    → IsAmongAt s v below born operation entries stage → Stands s v below born operation (visited entries) (has_base entries)
stands_of entries stage h = record { descent = h.descent; room = h.room; there = h.there }

-- a visit of the next instance
pub among_visits : (s : StackWorld) (v : VolumeId) (below : Option InstanceId) (born : ℕ) (operation : Operation) (entries : List Entry) (before stage : Stage) (visit : PreVisit)
    → IsStack s → has_base entries ≡ false → (stage ≡ InBase → ⊥)
    → IsHighest (is_candidate s v (cursor_of below (visited entries)) born operation) s.instances visit.instance.0
    → IsAmongAt s v below born operation entries before → IsAmongAt s v below born operation (entries ++ Pre visit ∷ []) stage
among_visits s v below born operation entries before stage visit stack none other next h =
    let descent = subst (λ b. IsDescent s v below born operation (visited entries) b) none h.descent in
    among_from s v below born operation (entries ++ Pre visit ∷ []) stage (visited entries ++ visit.instance.0 ∷ []) false
    (visited_push entries (Pre visit)) (base_push entries (Pre visit) ∙ or_false (has_base entries) ∙ none)
    (record {
      descent = descent_visits s v below born operation (visited entries) visit.instance.0 stack descent next;
      room = room_visits s v below born operation (visited entries) visit.instance.0 h.room next;
      there = subst (All (λ i. i < length s.instances)) (sym (trail_push below (visited entries) visit.instance.0))
          (All-push (λ i. i < length s.instances) (trail below (visited entries)) visit.instance.0 h.there
          (slice_get_within s.instances visit.instance.0 next.row next.there));
    })
    (λ e. absurd (other e))

-- a postoperation, or a drain
pub among_other : (s : StackWorld) (v : VolumeId) (below : Option InstanceId) (born : ℕ) (operation : Operation) (entries : List Entry) (before stage : Stage) (e : Entry)
    → visit_of e ≡ None → is_base e ≡ false → (stage ≡ InBase → ⊥)
    → IsAmongAt s v below born operation entries before → IsAmongAt s v below born operation (entries ++ e ∷ []) stage
among_other s v below born operation entries before stage e no_visit not_base other h =
    among_from s v below born operation (entries ++ e ∷ []) stage (visited entries) (has_base entries)
    (visited_push entries e ∙ ap (λ m. visited entries ++ cons_option m []) no_visit ∙ append-nil (visited entries))
    (base_push entries e ∙ ap (λ b. has_base entries || (b || false)) not_base ∙ or_false (has_base entries))
    (stands_of entries before h) (λ k. absurd (other k))

-- the answer of the base
pub among_base : (s : StackWorld) (v : VolumeId) (below : Option InstanceId) (born : ℕ) (operation : Operation) (entries : List Entry) (before : Stage) (status : Status) (information : ℕ)
    → has_base entries ≡ false → NoneLeft s v (cursor_of below (visited entries)) born operation
    → IsAmongAt s v below born operation entries before → IsAmongAt s v below born operation (entries ++ Base status information ∷ []) Ascending
among_base s v below born operation entries before status information none left h =
    let descent = subst (λ b. IsDescent s v below born operation (visited entries) b) none h.descent in
    among_from s v below born operation (entries ++ Base status information ∷ []) Ascending (visited entries) true
    (visited_push entries (Base status information) ∙ append-nil (visited entries))
    (base_push entries (Base status information) ∙ or_true (has_base entries))
    (record { descent = descent_reaches s v below born operation (visited entries) descent left; room = h.room; there = h.there })
    (λ e. absurd (cc))

-- each entry stays a visit of its instance, and the base's call or not
abbrev pub KeepsKind : (Entry → Entry) → Type 0
KeepsKind f = (e : Entry) → (visit_of (f e) ≡ visit_of e) × (is_base (f e) ≡ is_base e)

-- the entries are settled
map_keeps : (f : Entry → Entry) (es : List Entry) → KeepsKind f → (visited (map f es) ≡ visited es) × (has_base (map f es) ≡ has_base es)
map_keeps f [] same = (refl, refl)
map_keeps f (e ∷ es) same = grind (arith, (map_keeps f es))

pub among_settles : (s : StackWorld) (v : VolumeId) (below : Option InstanceId) (born : ℕ) (operation : Operation) (entries : List Entry) (before stage : Stage) (f : Entry → Entry)
    → KeepsKind f → (stage ≡ InBase → ⊥) → IsAmongAt s v below born operation entries before → IsAmongAt s v below born operation (map f entries) stage
among_settles s v below born operation entries before stage f keeps other h =
    let same = map_keeps f entries keeps in
    among_from s v below born operation (map f entries) stage (visited entries) (has_base entries) same.0 same.1 (stands_of entries before h) (λ k. absurd (other k))

pub settle_pre_keeps : (state : PreState) → KeepsKind (settle_pre state)
settle_pre_keeps state = grind arith

pub settle_post_keeps : (state : PostState) → KeepsKind (settle_post state)
settle_post_keeps state = grind arith

pub settle_drain_keeps : (i : ℕ) → KeepsKind (settle_drain i)
settle_drain_keeps i = grind arith

-- the instance below which an operation began stands on its way
first_there : (P : ℕ → Type 0) (below : Option InstanceId) (is : List ℕ) (l : ℕ) → All P (trail below is) → option_map (λ (i : InstanceId). i.0) below ≡ Some l → P l
first_there P None is l all h = absurd (none-some l h)
first_there P (Some i) is l all h = subst P (same_Some i.0 l h) (All-head P i.0 is all)

-- every event of the stack leaves each operation in place
pub among_follows : (s t : StackWorld) (v : VolumeId) (below : Option InstanceId) (born : ℕ) (operation : Operation) (entries : List Entry) (stage : Stage)
    → Follows s t → IsAmongAt s v below born operation entries stage → IsAmongAt t v below born operation entries stage
among_follows s t v below born operation entries stage f h =
    let way = trail below (visited entries) in
    let last : (l : ℕ) → last_of way ≡ Some l → l < length s.instances = λ l e. last_holds (λ i. i < length s.instances) way l h.there e in
    let first : (l : ℕ) → option_map (λ (i : InstanceId). i.0) below ≡ Some l → l < length s.instances =
    λ l e. first_there (λ i. i < length s.instances) below (visited entries) l h.there e in
    record {
      descent = descent_follows s t v below born operation (visited entries) (has_base entries) f h.room.past first h.descent;
      room = room_follows s t v below born operation (visited entries) f last h.room;
      there = All-weaker (λ i. i < length s.instances) (λ i. i < length t.instances) (λ i k. omega (arith, k, f.longer)) way h.there;
      base = λ e. none_follows s t v born operation (last_of way) f h.room.past last (h.base e);
    }

-- an operation begins
pub among_begins : (s : StackWorld) (v : VolumeId) (operation : Operation)
    → count_by (is_to_visit s v s.births operation) s.instances ≤ 32 → IsAmongAt s v None s.births operation [] Descending
among_begins s v operation few = grind arith

-- it begins below an instance, if one is named, of those that were born before
pub among_placed : (s : StackWorld) (v : VolumeId) (below : Option InstanceId) (born : ℕ) (operation : Operation)
    → count_by (is_to_visit s v born operation) s.instances ≤ 32 → born ≤ s.births → All (λ i. i < length s.instances) (trail below [])
    → IsAmongAt s v below born operation [] Descending
among_placed s v below born operation few past there = record {
  descent = descent_begins s v below born operation;
  room = room_below s v below born operation few past;
  there = there;
  base = λ e. absurd (cc);
}

-- ---- drains that come and go beside what the operation is doing

pub drain_unseen : (es : List Entry) (visit : DrainVisit) → (last_visited (es ++ Drain visit ∷ []) ≡ last_visited es)
    × (last_posted (es ++ Drain visit ∷ []) ≡ last_posted es)
drain_unseen es visit = (
  ap last_of (visited_push es (Drain visit) ∙ append-nil (visited es)),
  ap last_of (filter_map-append post_of es (Drain visit ∷ [])
      ∙ append-nil (posted es)),
)

pub among_drain : (s : StackWorld) (v : VolumeId) (below : Option InstanceId) (born : ℕ) (operation : Operation) (entries : List Entry) (stage : Stage) (visit : DrainVisit)
    → IsAmongAt s v below born operation entries stage → IsAmongAt s v below born operation (entries ++ Drain visit ∷ []) stage
among_drain s v below born operation entries stage visit h =
    among_from s v below born operation (entries ++ Drain visit ∷ []) stage (visited entries) (has_base entries)
    (visited_push entries (Drain visit) ∙ append-nil (visited entries))
    (base_push entries (Drain visit) ∙ or_false (has_base entries)) (stands_of entries stage h)
    (λ k. subst (λ is. NoneLeft s v (cursor_of below is) born operation)
    (sym (visited_push entries (Drain visit) ∙ append-nil (visited entries))) (h.base k))

posts_settled : (i : ℕ) (es : List Entry) → posted (map (settle_drain i) es) ≡ posted es
posts_settled i [] = refl
posts_settled i (e ∷ es) = grind (arith, (posts_settled i es))

pub over_unseen : (i : ℕ) (es : List Entry) → (last_visited (map (settle_drain i) es) ≡ last_visited es)
    × (last_posted (map (settle_drain i) es) ≡ last_posted es)
over_unseen i es = (ap last_of (map_keeps (settle_drain i) es (settle_drain_keeps i)).0, ap last_of (posts_settled i es))

pub among_over : (s : StackWorld) (v : VolumeId) (below : Option InstanceId) (born : ℕ) (operation : Operation) (entries : List Entry) (stage : Stage) (i : ℕ)
    → IsAmongAt s v below born operation entries stage → IsAmongAt s v below born operation (map (settle_drain i) entries) stage
among_over s v below born operation entries stage i h =
    let same = map_keeps (settle_drain i) entries (settle_drain_keeps i) in
    among_from s v below born operation (map (settle_drain i) entries) stage (visited entries) (has_base entries) same.0 same.1 (stands_of entries stage h)
    (λ k. subst (λ is. NoneLeft s v (cursor_of below is) born operation) (sym same.0) (h.base k))
