-- Links that go with what they name: what the code unlinks is all that is gone.
use Rattle.fm_core.proofs.Words.{IsTied, Sweeping, file_lost, handle_lost, is_lost, is_lost_of, stream_lost, torn, answered, decided, Target, sweeps_alike, carried_there}
use Rattle.fm_core.proofs.Words.{ContextsKept, carried_of, fresh_handle, Bool, List, None, Option, Some, [], ap, arith, false, inl, inr, is_some, map, refl}
use Rattle.fm_core.proofs.Words.{subst, sym, true, ℕ, ◌==◌, ◌||◌, ◌∙◌, ◌∷◌, ◌≡◌, nat_tests, Sweeps, Context, ContextTable, Slot, context_at, Object, FlowTable}
use Rattle.fm_core.proofs.Words.{PreState, option_map, without_first, CtxId, HandleId, StreamId, Operation, Status, is_created_on, FileTable, after_pre, is_handle}
use Rattle.fm_core.proofs.Words.{is_stream, with_mark, LosesLinks, is_there, names_there, IsSound, World, carries, All, find, cases_Bool, false≢true, All-cons}
use Rattle.fm_core.proofs.Words.{All-head, All-nil, All-tail, All-weaker}
use Rattle.fm_world.proofs.Words.{context_at-swept, is_to, swept, swept_slot, after_base, closed, left, opened, torn_down, is_on_gone}
use Rattle.fm_core.specs.Lost.{is_named, handle_lost_by, torn_by, GoneAlone}
use Rattle.fm_ctx.proofs.Alike.{settles_alike}
use Rattle.fm_ctx.proofs.Carried.{carried_numbers}
use Rattle.fm_ctx.proofs.Objects.{same_object-same}
use Rattle.fm_ctx.proofs.Leaving.{settles_none, settles_both}
use Rattle.fm_world.specs.Files.{marked}
use Rattle.fm_world.proofs.Belonging.{AllPass}
use Rattle.fm_world.proofs.Losing.{found_before, found_changed}
use Rattle.fm_types.specs.declared.operation.Operation.TheVariants as kind
use Rattle.fm_operations.specs.declared.entry.PreState.TheVariants as state

-- ---- sweeps

-- two tests that agree on a slot's context
abbrev pub Agrees : (Context → Bool) → (Context → Bool) → Slot → Type 0
Agrees p q s = (x : Context) → s.context ≡ Some x → p x ≡ q x

everywhere : (p q : Context → Bool) (slots : List Slot) → ((x : Context) → p x ≡ q x) → All (Agrees p q) slots
everywhere p q [] h = All-nil (Agrees p q)
everywhere p q (s ∷ slots) h = All-cons (Agrees p q) s slots (λ x is. h x) (everywhere p q slots h)

slots_alike : (p q : Context → Bool) (slots : List Slot) → All (Agrees p q) slots → map (swept_slot p) slots ≡ map (swept_slot q) slots
slots_alike p q [] h = refl
slots_alike p q (s ∷ slots) h = grind (arith, All-head (Agrees p q) s slots h, slots_alike p q slots (All-tail (Agrees p q) s slots h))

pub sweeps_as : (by : CtxId → ℕ) (p q : Context → Bool) (old new : ContextTable) → All (Agrees p q) old.slots → Sweeps by p old new → Sweeps by q old new
sweeps_as by p q old new h s = record {
  slots = s.slots ∙ slots_alike p q old.slots h;
  hands = s.hands;
  cleaning = s.cleaning;
  leaks =
      s.leaks;
  left = s.left;
  settles = s.settles;
}

pub sweeping_as : (p q : Context → Bool) (old new : ContextsKept) → ((x : Context) → p x ≡ q x) → Sweeping p old new → Sweeping q old new
sweeping_as p q old new h s = record {
  sweeps = sweeps_as (carried_of old) p q old.table new.table
      (everywhere p q old.table.slots h) s.sweeps;
  carried = s.carried;
}

-- no context passes, and nothing changes
bare_slots : (slots : List Slot) → slots ≡ map (swept_slot (λ x. false)) slots
bare_slots [] = refl
bare_slots (s ∷ slots) = grind (arith, bare_slots slots)

pub sweeps_none : (by : CtxId → ℕ) (p : Context → Bool) (t : ContextTable) → All (Agrees (λ x. false) p) t.slots → Sweeps by p t t
sweeps_none by p t h = record {
  slots = bare_slots t.slots ∙ slots_alike (λ x. false) p t.slots h;
  hands = refl;
  cleaning = refl;
  leaks = refl;
  left = refl;
  settles = settles_none by t by t refl (λ c. refl);
}

pub sweeping_none : (p : Context → Bool) (kept : ContextsKept) → ((x : Context) → p x ≡ false) → Sweeping p kept kept
sweeping_none p kept h = record {
  sweeps = sweeps_none (carried_of kept) p kept.table
      (everywhere (λ x. false) p kept.table.slots (λ x. sym (h x)));
  carried = refl;
}

-- one after the other
twice_swept : (p q : Context → Bool) (x : Context) → swept q (swept p x) ≡ swept (λ y. p y || q y) x
twice_swept p q x = grind arith

slots_twice : (p q : Context → Bool) (slots : List Slot) → map (swept_slot q) (map (swept_slot p) slots) ≡ map (swept_slot (λ x. p x || q x)) slots
slots_twice p q [] = refl
slots_twice p q (s ∷ slots) = grind (arith, twice_swept, slots_twice p q slots)

there_swept : (test : Context → Bool) (slots : List Slot) (c : CtxId) → is_some (context_at (map (swept_slot test) slots) c) ≡ is_some (context_at slots c)
there_swept test slots c = let same = context_at-swept test slots c in rw same (grind arith)

-- completions carry what they did
sweeping_carried : (test : Context → Bool) (old new : ContextsKept) → Sweeping test old new → (c : CtxId) → carried_of new c ≡ carried_of old c
sweeping_carried test old new s c =
    sym (carried_numbers old new s.carried c)
    ∙ sym (carried_there old new.table (λ d. ap (λ (slots : List Slot). is_some (context_at slots d)) s.sweeps.slots ∙ there_swept test old.table.slots d) c)

pub sweeping_tied : (test : Context → Bool) (old new : ContextsKept) (f : FlowTable) → Sweeping test old new → IsTied old f → IsTied new f
sweeping_tied test old new f s tied c = sweeping_carried test old new s c ∙ tied c

pub sweeping_both : (p q : Context → Bool) (a b c : ContextsKept) → Sweeping p a b → Sweeping q b c → Sweeping (λ x. p x || q x) a c
sweeping_both p q a b c first second =
    let same = sweeping_carried p a b first in
    record {
      sweeps = record {
        slots = second.sweeps.slots ∙ ap (map (swept_slot q)) first.sweeps.slots ∙ slots_twice p q a.table.slots;
        hands = second.sweeps.hands ∙ first.sweeps.hands;
        cleaning = second.sweeps.cleaning ∙ first.sweeps.cleaning;
        leaks = second.sweeps.leaks ∙ first.sweeps.leaks;
        left = second.sweeps.left ∙ first.sweeps.left;
        settles = settles_both first.sweeps.settles (settles_alike same same second.sweeps.settles);
      };
      carried = second.carried ∙ first.carried;
    }

-- ---- what is unlinked

same_there : (f : FileTable) (o : Object) (l : Option Object) → is_to o l ≡ true → is_there f l ≡ is_there f (Some o)
same_there f o None h = absurd (false≢true h)
same_there f o (Some p) h = ap (λ (q : Object). is_there f (Some q)) (sym (same_object-same o p h))

-- an object that is there loses nothing
pub nothing_lost : (f : FileTable) (o : Object) (x : Context) → is_there f (Some o) ≡ true → is_lost f (Some o) x ≡ false
nothing_lost f o x is = grind (arith, same_there f o x.link, is)

-- ---- what is gone

-- whatever was there still is, but for that object, and that stream and its file
abbrev pub KeepsBut : FileTable → FileTable → Option Object → Option StreamId → Type 0
KeepsBut f g a b = (l : Option Object) → is_there f l ≡ true
    → (is_there g l || ((is_named a l || is_named (option_map Object.Stream b) l) || is_named (option_map Object.File b) l)) ≡ true

keeps_all : (f g : FileTable) (a : Option Object) (b : Option StreamId) → ((l : Option Object) → is_there f l ≡ true → is_there g l ≡ true) → KeepsBut f g a b
keeps_all f g a b keeps l h = grind (arith, keeps l h)

keeps_same : (f : FileTable) (a : Option Object) (b : Option StreamId) → KeepsBut f f a b
keeps_same f a b = keeps_all f f a b (λ l h. h)

keeps_then : (f g k : FileTable) (a : Option Object) (b : Option StreamId) → KeepsBut f g a b → KeepsBut g k a b → KeepsBut f k a b
keeps_then f g k a b first second l h = grind (arith, first l h, second l)

-- what passes a test that no removed one passes is found still
found_without : {A : Type 0} (test other : A → Bool) → ((x : A) → test x ≡ true → other x ≡ false) → (xs : List A) → is_some (find test xs) ≡ true
    → is_some (find test (without_first other xs)) ≡ true
found_without test other apart [] h = absurd (false≢true h)
found_without test other apart (x ∷ xs) h = grind (arith, apart x, h, found_without test other apart xs)

torn_keeps : (s : StreamId) (f : FileTable) (a : Option Object) → KeepsBut f (torn_down s f) a (Some s)
torn_keeps s f a (Some (Object.Handle g)) h = grind (arith, h)
torn_keeps s f a (Some (Object.Stream r)) h = elim (cases_Bool (s.0 == r.0)) [
  | inl is ↦ grind (arith, is)
  | inr is ↦ grind (arith, found_without (is_stream r) (is_stream s) (λ x here. grind (arith, nat_tests, here, is)) f.streams h)
]
torn_keeps s f a (Some (Object.File r)) h = elim (cases_Bool (s.0 == r.0)) [
  | inl is ↦ grind (arith, is)
  | inr is ↦ grind (arith, found_without (is_stream r) (is_stream s) (λ x here. grind (arith, nat_tests, here, is)) f.streams h)
]
torn_keeps s f a l h = refl

closed_keeps : (g : HandleId) (f : FileTable) (b : Option StreamId) → KeepsBut f (closed g f) (Some (Object.Handle g)) b
closed_keeps g f b (Some (Object.Stream s)) h = grind (arith, h)
closed_keeps g f b (Some (Object.File s)) h = grind (arith, h)
closed_keeps g f b (Some (Object.Handle r)) h = elim (cases_Bool (g.0 == r.0)) [
  | inl is ↦ grind (arith, is)
  | inr is ↦ grind (arith, found_without (is_handle r) (is_handle g) (λ x here. grind (arith, nat_tests, here, is)) f.handles h)
]
closed_keeps g f b l h = refl

left_keeps : (s : StreamId) (c : Bool) (f : FileTable) (a : Option Object) → KeepsBut f (left s c f) a (Some s)
left_keeps s c f a l h = grind (arith, h, torn_keeps s f a l h)

opened_keeps : (s : StreamId) (f : FileTable) (l : Option Object) → is_there f l ≡ true → is_there (opened s f) l ≡ true
opened_keeps s f (Some (Object.Stream r)) h = h
opened_keeps s f (Some (Object.File r)) h = h
opened_keeps s f (Some (Object.Handle g)) h = found_before (is_handle g) f.handles (fresh_handle s f.next ∷ []) h
opened_keeps s f l h = refl

marked_keeps : (b : Bool) (s : StreamId) (f : FileTable) (l : Option Object) → is_there f l ≡ true → is_there (marked b s f) l ≡ true
marked_keeps b s f (Some (Object.Stream r)) h = found_changed (is_stream r) (is_stream s) (with_mark b) (λ x. refl) f.streams h
marked_keeps b s f (Some (Object.File r)) h = found_changed (is_stream r) (is_stream s) (with_mark b) (λ x. refl) f.streams h
marked_keeps b s f (Some (Object.Handle g)) h = h
marked_keeps b s f l h = refl

-- the base's answer takes away a close's handle at most, and the stream of a close or a create
base_keeps : (k : Operation) (s : Option StreamId) (h : Option HandleId) (why : Status) (c : Bool) (f : FileTable)
    → KeepsBut f (after_base k s h why c f) (handle_lost_by k (record { operation = k; stream = s; handle = h }))
    (torn_by k (record { operation = k; stream = s; handle = h }))
base_keeps kind.Create (Some s) h why c f = λ l there. grind (arith, there, opened_keeps s f l there, left_keeps s c f None l there)
base_keeps kind.SetDelete (Some s) h why c f = λ l there. grind (arith, there, marked_keeps true s f l there)
base_keeps kind.Restore (Some s) h why c f = λ l there. grind (arith, there, marked_keeps false s f l there)
base_keeps kind.Close (Some s) (Some h) why c f =
    keeps_then f (closed h f) (left s c (closed h f)) (Some (Object.Handle h)) (Some s) (closed_keeps h f (Some s))
    (left_keeps s c (closed h f) (Some (Object.Handle h)))
base_keeps k s h why c f =
    keeps_same f (handle_lost_by k (record { operation = k; stream = s; handle = h })) (torn_by k (record { operation = k; stream = s; handle = h }))

-- so does a filter's verdict
pre_keeps : (given : PreState) (k : Operation) (s : Option StreamId) (h : Option HandleId) (c : Bool) (f : FileTable)
    → KeepsBut f (after_pre given k s c f) (handle_lost_by k (record { operation = k; stream = s; handle = h }))
    (torn_by k (record { operation = k; stream = s; handle = h }))
pre_keeps (state.Completed why) kind.Create (Some s) h c f = left_keeps s c f None
pre_keeps given k s h c f =
    keeps_same f (handle_lost_by k (record { operation = k; stream = s; handle = h })) (torn_by k (record { operation = k; stream = s; handle = h }))

gone_but : (f g : FileTable) (x : Target) → KeepsBut f g (handle_lost x) (torn x) → GoneAlone f g x
gone_but f g x keeps y named = grind (arith, keeps y.link named)

pub answer_gone : (f g : FileTable) (t : FlowTable) (why : Status) (x : Target) → g ≡ answered t why x f → GoneAlone f g x
answer_gone f g t why x e =
    subst (λ h. GoneAlone f h x) (sym e) (gone_but f (answered t why x f) x (base_keeps x.operation x.stream x.handle why (is_created_on x.stream t) f))

pub verdict_gone : (f g : FileTable) (t : FlowTable) (given : PreState) (x : Target) → g ≡ decided t given x f → GoneAlone f g x
verdict_gone f g t given x e =
    subst (λ h. GoneAlone f h x) (sym e) (gone_but f (decided t given x f) x (pre_keeps given x.operation x.stream x.handle (is_created_on x.stream t) f))

-- ---- the World loses the links

pub loses : (old mid : World) (kept after : ContextsKept) (x : Target) → IsSound old → mid.contexts ≡ kept.table → kept.table.slots ≡ old.contexts.slots
    → IsTied kept mid.flow
    → GoneAlone old.files mid.files x → Sweeping (is_lost_of mid.files x) kept after → LosesLinks mid (record mid { contexts = after.table })
loses old mid kept after x s same slots tied gone sweeps = (
  sweeps_as (carries mid) (is_lost_of mid.files x) (is_on_gone mid.files) mid.contexts after.table
      (All-weaker (λ (r : Slot). names_there old.files r.context ≡ true) (Agrees (is_lost_of mid.files x) (is_on_gone mid.files))
      (λ r there y is. sym (gone y (sym (ap (names_there old.files) is) ∙ there))) mid.contexts.slots
      (subst (AllPass (names_there old.files)) (sym (ap (λ (t : ContextTable). t.slots) same ∙ slots)) s.links))
      (subst (λ t. Sweeps (carries mid) (is_lost_of mid.files x) t after.table) (sym same) (sweeps_alike tied sweeps.sweeps)),
  refl,
)
