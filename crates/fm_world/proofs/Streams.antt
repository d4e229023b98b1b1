-- Streams, handles and operations on them through the events: whose stream is whose, and no stream without use.
use Rattle.fm_world.proofs.Words.{all_change, all_without, found_holds, found_passes, IsCreatedOn, IsOnHandle, has_stream, FileTable, closed, created}
use Rattle.fm_world.proofs.Words.{created_in, fresh_stream, handle_at, has_handle_on, is_at_path, is_handle, is_on, is_stream, left, opened, phased, stream_for}
use Rattle.fm_world.proofs.Words.{stream_of_path, torn_down, with_mark, with_phase, FlowRecord, HandleId, StreamId, VolumeId, change_first, is_creating}
use Rattle.fm_world.proofs.Words.{is_on_stream, without_first, FileHandle, FileStream, HandlePhase, All, AllPairs, Bool, List, None, Option, Some, [], ap}
use Rattle.fm_world.proofs.Words.{arith, cond, false, find, get_or, refl, subst, suc, sym, true, ℕ, ◌&&◌, ◌++◌, ◌+◌, ◌<◌, ◌==◌, ◌||◌, ◌∙◌, ◌∷◌, ◌≡◌, ◌≤◌}
use Rattle.fm_world.proofs.Words.{and_right, eq-eqb, eqb-true, false≢true, ne_eqb, or_left, or_parts, or_right, true≢false, common_steps, All-cons, All-head}
use Rattle.fm_world.proofs.Words.{All-nil, All-push, All-tail, list_any-append, all_pairs_push, none-some, same_Some, list_any}
use Rattle.std.proofs.lemmas.List.Kept.{AllPairs-cons}
use Rattle.fm_world.proofs.Cases.{by_bool, by_option}
use Rattle.fm_world.specs.Files as files

-- ---- lists

any_change : {A : Type 0} (p test : A → Bool) (f : A → A) (rs : List A) → ((r : A) → find test rs ≡ Some r → p (f r) ≡ p r)
    → list_any p (change_first test f rs) ≡ list_any p rs
any_change p test f [] same = refl
any_change p test f (x ∷ rs) same = grind (arith, (any_change p test f rs))

pub any_without : {A : Type 0} (p test : A → Bool) (rs : List A) → ((r : A) → find test rs ≡ Some r → p r ≡ false)
    → list_any p (without_first test rs) ≡ list_any p rs
any_without p test [] none = refl
any_without p test (x ∷ rs) none = grind (arith, (any_without p test rs))

any_before : {A : Type 0} (p : A → Bool) (xs ys : List A) → list_any p xs ≡ true → list_any p (xs ++ ys) ≡ true
any_before p xs ys h = list_any-append p xs ys ∙ or_left (list_any p xs) (list_any p ys) h

pub any_pushed : {A : Type 0} (p : A → Bool) (xs : List A) (y : A) → p y ≡ true → list_any p (xs ++ y ∷ []) ≡ true
any_pushed p xs y h = list_any-append p xs (y ∷ []) ∙ or_right (list_any p xs) (p y || false) (or_left (p y) false h)

found_any : {A : Type 0} (p test : A → Bool) (rs : List A) (r : A) → find test rs ≡ Some r → p r ≡ true → list_any p rs ≡ true
found_any p test [] r h passes = absurd (none-some r h)
found_any p test (x ∷ rs) r h passes = grind (arith, (found_any p test rs r))

none_of : {A : Type 0} (p : A → Bool) (rs : List A) → list_any p rs ≡ false → All (λ x. p x ≡ false) rs
none_of p [] h = All-nil (λ x. p x ≡ false)
none_of p (x ∷ rs) h = let parts = or_parts (p x) (list_any p rs) h in All-cons (λ y. p y ≡ false) x rs parts.0 (none_of p rs parts.1)

none_found : {A : Type 0} (test : A → Bool) (rs : List A) → find test rs ≡ None → All (λ x. test x ≡ false) rs
none_found test [] h = All-nil (λ x. test x ≡ false)
none_found test (x ∷ rs) h = grind (arith, (none_found test rs))

pub all_kept : {A : Type 0} (P : A → Type 0) (test : A → Bool) (f : A → A) (rs : List A) → ((x : A) → P x → P (f x)) → All P rs → All P (change_first test f rs)
all_kept P test f rs keeps h = all_change P test f rs (λ r found. keeps r (found_holds P test rs r h found)) h

pairs_head : {A : Type 0} (R : A → A → Type 0) (x : A) (xs : List A) → AllPairs R (x ∷ xs) → All (R x) xs
pairs_head R x xs h = λ k d within. h 0 (suc k) d (omega arith) (omega (arith, within))

pairs_tail : {A : Type 0} (R : A → A → Type 0) (x : A) (xs : List A) → AllPairs R (x ∷ xs) → AllPairs R xs
pairs_tail R x xs h = λ i j d below within. h (suc i) (suc j) d (omega (arith, below)) (omega (arith, within))

pub pairs_change : {A : Type 0} (R : A → A → Type 0) (test : A → Bool) (f : A → A) (rs : List A) → ((x y : A) → R x y → R (f x) y)
    → ((x y : A) → R x y → R x (f y))
    → AllPairs R rs → AllPairs R (change_first test f rs)
pairs_change R test f [] front back h = h
pairs_change R test f (x ∷ rs) front back h =
    let head = pairs_head R x rs h in
    let tail = pairs_tail R x rs h in
    by_bool (λ c. AllPairs R (cond c (f x ∷ rs) (x ∷ change_first test f rs))) (test x)
    (λ e. AllPairs-cons R (f x) rs (λ k d l. front x (get_or rs k d) (head k d l)) tail)
    (λ e. AllPairs-cons R x (change_first test f rs) (all_kept (R x) test f rs (back x) head) (pairs_change R test f rs front back tail))

pub pairs_without : {A : Type 0} (R : A → A → Type 0) (test : A → Bool) (rs : List A) → AllPairs R rs → AllPairs R (without_first test rs)
pairs_without R test [] h = h
pairs_without R test (x ∷ rs) h =
    let tail = pairs_tail R x rs h in
    by_bool (λ c. AllPairs R (cond c rs (x ∷ without_first test rs))) (test x) (λ e. tail)
    (λ e. AllPairs-cons R x (without_first test rs) (all_without (R x) test rs (pairs_head R x rs h)) (pairs_without R test rs tail))

-- where one at most passes a test, what holds of all others holds of all without it
all_others : {A : Type 0} (P : A → Type 0) (test : A → Bool) (rs : List A) → AllPairs (λ x y. test x ≡ true → test y ≡ false) rs
    → All (λ x. test x ≡ false → P x) rs → All P (without_first test rs)
all_others P test [] once h = All-nil P
all_others {A = A} P test (x ∷ rs) once h =
    let Once = λ (x y : A). test x ≡ true → test y ≡ false in
    let tail = All-tail (λ x. test x ≡ false → P x) x rs h in
    by_bool (λ c. All P (cond c rs (x ∷ without_first test rs))) (test x) (λ e k d within. tail k d within (pairs_head Once x rs once k d within e))
    (λ e. All-cons P x (without_first test rs) (All-head (λ x. test x ≡ false → P x) x rs h e) (all_others P test rs (pairs_tail Once x rs once) tail))

-- and what holds of the one that is found holds of each that passes
all_passing : {A : Type 0} (P : A → Type 0) (test : A → Bool) (rs : List A) (r : A)
    → AllPairs (λ x y. test x ≡ true → test y ≡ false) rs → find test rs ≡ Some r → P r
    → All (λ x. test x ≡ true → P x) rs
all_passing P test [] r once found here = absurd (none-some r found)
all_passing {A = A} P test (x ∷ rs) r once found here =
    let Once = λ (x y : A). test x ≡ true → test y ≡ false in
    let Q = λ (y : A). test y ≡ true → P y in
    by_bool (λ c. cond c (Some x) (find test rs) ≡ Some r → All Q (x ∷ rs)) (test x)
    (λ e is. All-cons Q x rs (λ passes. subst P (sym (same_Some x r is)) here)
    (λ k d l passes. absurd (false≢true (sym (pairs_head Once x rs once k d l e) ∙ passes))))
    (λ e is. All-cons Q x rs (λ passes. absurd (false≢true (sym e ∙ passes))) (all_passing P test rs r (pairs_tail Once x rs once) is here)) found

-- ---- numbers

pub same_number : (a b : ℕ) → (a == b) ≡ true → (b == a) ≡ true
same_number a b h = eq-eqb b a (sym (eqb-true a b h))

other_number : (a b : ℕ) → (a == b) ≡ false → (b == a) ≡ false
other_number a b h = ne_eqb b a (λ e. true≢false (sym (eq-eqb a b (sym e)) ∙ h))

-- what is the same as c isn't the same as a, which differs from c
apart_from : (a b c : ℕ) → (a == c) ≡ false → (b == c) ≡ true → (b == a) ≡ false
apart_from a b c differs is = ne_eqb b a (λ e. true≢false (sym (eq-eqb a c (sym e ∙ eqb-true b c is)) ∙ differs))

-- of numbers in ascending order one at most is that one
once : {A : Type 0} (number : A → ℕ) (n : ℕ) (xs : List A) → AllPairs (λ x y. number x < number y) xs
    → AllPairs (λ x y. (number x == n) ≡ true → (number y == n) ≡ false) xs
once number n xs h3 = grind arith

-- and what is found by another test is found by its number
found_by_number : {A : Type 0} (number : A → ℕ) (test : A → Bool) (xs : List A) (x : A) → AllPairs (λ y z. number y < number z) xs → find test xs ≡ Some x
    → find (λ y. number y == number x) xs ≡ Some x
found_by_number number test [] x ascend found = absurd (none-some x found)
found_by_number {A} number test (y ∷ xs) x ascend found =
    let Below = λ (a b : A). number a < number b in
    let is_x = λ (z : A). number z == number x in
    by_bool (λ b. cond b (Some y) (find test xs) ≡ Some x → find is_x (y ∷ xs) ≡ Some x) (test y)
    (λ _ is. let same = same_Some y x is in
    ap (λ b. cond b (Some y) (find is_x xs)) (eq-eqb (number y) (number x) (ap number same)) ∙ is)
    (λ _ is. let less = found_holds (Below y) test xs x (pairs_head Below y xs ascend) is in
    ap (λ b. cond b (Some y) (find is_x xs)) (ne_eqb (number y) (number x) (λ e. omega (arith, e, less)))
    ∙ found_by_number number test xs x (pairs_tail Below y xs ascend) is) found

-- ---- streams and handles, among operations of numbers below n

-- a create of that stream is under way
abbrev pub is_creating_on : StreamId → FlowRecord → Bool
is_creating_on s r = is_creating r && is_on_stream s r.stream

-- whether a handle is open on a stream, or a create of it is under way
abbrev pub uses : FileTable → List FlowRecord → StreamId → Bool
uses f rs s = has_handle_on s f || list_any (is_creating_on s) rs

abbrev pub IsOn : FileTable → FlowRecord → Type 0
IsOn f r = IsOnHandle f r.stream r.handle

pub record StreamsStand (xs : List FileStream) (n : ℕ) : Type 0 where
  pub ascend : AllPairs (λ (x y : FileStream). x.number.0 < y.number.0) xs
  pub born : All (λ (x : FileStream). x.number.0 < n) xs
  pub paths : AllPairs (λ (x y : FileStream). is_at_path y.volume y.path x ≡ false) xs

pub record HandlesStand (xs : List FileHandle) (next : ℕ) : Type 0 where
  pub ascend : AllPairs (λ (x y : FileHandle). x.number.0 < y.number.0) xs
  pub given : All (λ (x : FileHandle). x.number.0 < next) xs

-- each stream is in use, but perhaps those that are out
pub record Stands (out : StreamId → Bool) (f : FileTable) (rs : List FlowRecord) (n : ℕ) : Type 0 where
  pub streams : StreamsStand f.streams n
  pub handles : HandlesStand f.handles f.next
  pub handles_on : All (λ (x : FileHandle). has_stream f x.stream ≡ true) f.handles
  pub creates_on : All (IsCreatedOn f) rs
  pub operations_on : All (IsOn f) rs
  pub in_use : All (λ (x : FileStream). out x.number ≡ false → uses f rs x.number ≡ true) f.streams

abbrev pub none_out : StreamId → Bool
none_out q = false

abbrev pub that : StreamId → StreamId → Bool
that s q = q.0 == s.0

-- the operations change
pub stands_among : (out then : StreamId → Bool) (f : FileTable) (rs qs : List FlowRecord) (n m : ℕ) → All (IsCreatedOn f) qs → All (IsOn f) qs → n ≤ m
    → ((q : StreamId) → then q ≡ false → (out q ≡ false → uses f rs q ≡ true) → uses f qs q ≡ true) → Stands out f rs n → Stands then f qs m
stands_among out then f rs qs n m creates on later uses_on h = grind arith

pub stands_opened : (s : StreamId) (f : FileTable) (rs : List FlowRecord) (n : ℕ) → has_stream f s ≡ true → Stands none_out f rs n
    → Stands none_out (opened s f) rs n
stands_opened s f rs n there h = grind (arith, common_steps)

on_closed : (g : HandleId) (f : FileTable) (stream : Option StreamId) (handle : Option HandleId) → IsOnHandle f stream handle
    → IsOnHandle (closed g f) stream handle
on_closed g f stream None h = tt
on_closed g f stream (Some k) h = (
  h.0,
  all_without (λ (x : FileHandle). is_handle k x ≡ true → is_on_stream x.stream stream ≡ true)
      (is_handle g) f.handles h.1,
)

-- a handle of that stream closes
pub stands_closed : (s : StreamId) (g : HandleId) (f : FileTable) (rs : List FlowRecord) (n : ℕ) → IsOnHandle f (Some s) (Some g) → Stands none_out f rs n
    → Stands (that s) (closed g f) rs n
stands_closed s g f rs n on h = record {
  streams = h.streams;
  handles = record {
    ascend = pairs_without (λ (x y : FileHandle). x.number.0 < y.number.0) (is_handle g) f.handles h.handles.ascend;
    given = all_without (λ (x : FileHandle). x.number.0 < f.next) (is_handle g) f.handles h.handles.given;
  };
  handles_on = all_without (λ (x : FileHandle). has_stream f x.stream ≡ true) (is_handle g) f.handles h.handles_on;
  creates_on = h.creates_on;
  operations_on = λ k d l. on_closed g f (get_or rs k d).stream (get_or rs k d).handle (h.operations_on k d l);
  in_use = λ k d l other. let q = (get_or f.streams k d).number in
      ap (λ b. b || list_any (is_creating_on q) rs) (any_without (is_on q) (is_handle g) f.handles (λ r found.
      apart_from q.0 r.stream.0 s.0 other (same_number s.0 r.stream.0
      (found_holds (λ (y : FileHandle). is_handle g y ≡ true → is_on_stream y.stream (Some s) ≡ true)
      (is_handle g) f.handles r on.1 found (found_passes (is_handle g) f.handles r found)))))
      ∙ h.in_use k d l refl;
}

on_phased : (g : HandleId) (p : HandlePhase) (f : FileTable) (stream : Option StreamId) (handle : Option HandleId)
    → IsOnHandle f stream handle → IsOnHandle (phased g p f) stream handle
on_phased g p f stream None h = tt
on_phased g p f stream (Some k) h =
    let P = λ (x : FileHandle). is_handle k x ≡ true → is_on_stream x.stream stream ≡ true in
    (h.0, all_kept P (is_handle g) (with_phase p) f.handles (λ x k. k) h.1)

pub stands_phased : (g : HandleId) (p : HandlePhase) (f : FileTable) (rs : List FlowRecord) (n : ℕ) → Stands none_out f rs n
    → Stands none_out (phased g p f) rs n
stands_phased g p f rs n h = record {
  streams = h.streams;
  handles = record {
    ascend = pairs_change (λ (x y : FileHandle). x.number.0 < y.number.0) (is_handle g) (with_phase p) f.handles (λ x y k. k) (λ x y k. k) h.handles.ascend;
    given = all_kept (λ (x : FileHandle). x.number.0 < f.next) (is_handle g) (with_phase p) f.handles (λ x k. k) h.handles.given;
  };
  handles_on = all_kept (λ (x : FileHandle). has_stream f x.stream ≡ true) (is_handle g) (with_phase p) f.handles (λ x k. k) h.handles_on;
  creates_on = h.creates_on;
  operations_on = λ k d l. on_phased g p f (get_or rs k d).stream (get_or rs k d).handle (h.operations_on k d l);
  in_use = grind (arith, any_change);
}

-- every stream is there still
created_still : (f g : FileTable) (r : FlowRecord) → ((q : StreamId) → has_stream f q ≡ true → has_stream g q ≡ true) → IsCreatedOn f r → IsCreatedOn g r
created_still f g r h3 h4 = grind arith

marked_has : (b : Bool) (s : StreamId) (f : FileTable) (q : StreamId) → has_stream (files.marked b s f) q ≡ has_stream f q
marked_has b s f q = any_change (is_stream q) (is_stream s) (with_mark b) f.streams (λ r found. refl)

stands_marked : (b : Bool) (s : StreamId) (f : FileTable) (rs : List FlowRecord) (n : ℕ) → Stands none_out f rs n → Stands none_out (files.marked b s f) rs n
stands_marked b s f rs n h = record {
  streams = record {
    ascend = pairs_change (λ (x y : FileStream). x.number.0 < y.number.0) (is_stream s) (with_mark b) f.streams (λ x y k. k) (λ x y k. k) h.streams.ascend;
    born = all_kept (λ (x : FileStream). x.number.0 < n) (is_stream s) (with_mark b) f.streams (λ x k. k) h.streams.born;
    paths = pairs_change (λ (x y : FileStream). is_at_path y.volume y.path x ≡ false) (is_stream s) (with_mark b) f.streams (λ x y k. k)
        (λ x y k. k) h.streams.paths;
  };
  handles = h.handles;
  handles_on = λ k d l. marked_has b s f (get_or f.handles k d).stream ∙ h.handles_on k d l;
  creates_on = λ k d l. created_still f (files.marked b s f) (get_or rs k d) (λ q there. marked_has b s f q ∙ there) (h.creates_on k d l);
  operations_on = h.operations_on;
  in_use = all_kept (λ (x : FileStream). false ≡ false → uses f rs x.number ≡ true) (is_stream s) (with_mark b) f.streams (λ x k. k) h.in_use;
}

pub stands_marked_where : (b counts : Bool) (s : StreamId) (f : FileTable) (rs : List FlowRecord) (n : ℕ) → Stands none_out f rs n
    → Stands none_out (cond counts (files.marked b s f) f) rs n
stands_marked_where b true s f rs n h = stands_marked b s f rs n h
stands_marked_where b false s f rs n h = h

-- another stream is there still, where one is torn down
torn_has : (s : StreamId) (f : FileTable) (q : StreamId) → (q.0 == s.0) ≡ false → has_stream f q ≡ true → has_stream (torn_down s f) q ≡ true
torn_has s f q h3 h4 = grind (arith, any_without, apart_from, found_passes)

torn_created : (s : StreamId) (f : FileTable) (r : FlowRecord) → is_creating_on s r ≡ false → IsCreatedOn f r → IsCreatedOn (torn_down s f) r
torn_created s f r none h = grind (arith, torn_has)

-- a stream without use goes
pub stands_left : (s : StreamId) (b : Bool) (f : FileTable) (rs : List FlowRecord) (n : ℕ) → list_any (is_creating_on s) rs ≡ b → Stands (that s) f rs n
    → Stands none_out (left s b f) rs n
stands_left s b f rs n is h =
    by_bool (λ c. Stands none_out (cond c f (torn_down s f)) rs n) (has_handle_on s f || b)
    (λ e. stands_among (that s) none_out f rs rs n n h.creates_on h.operations_on (omega arith) (λ q apart was.
    by_bool (λ c. (q.0 == s.0) ≡ c → uses f rs q ≡ true) (q.0 == s.0)
    (λ _ same. subst (λ m. uses f rs (record { 0 = m }) ≡ true) (sym (eqb-true q.0 s.0 same)) (ap (λ a. has_handle_on s f || a) is
    ∙ e)) (λ _ other. was other) refl) h)
    (λ e.
    let parts = or_parts (has_handle_on s f) b e in
    let no_handle = none_of (is_on s) f.handles parts.0 in
    let no_create = none_of (is_creating_on s) rs (is ∙ parts.1) in
    record {
      streams = record {
        ascend = pairs_without (λ (x y : FileStream). x.number.0 < y.number.0) (is_stream s) f.streams h.streams.ascend;
        born = all_without (λ (x : FileStream). x.number.0 < n) (is_stream s) f.streams h.streams.born;
        paths = pairs_without (λ (x y : FileStream). is_at_path y.volume y.path x ≡ false) (is_stream s) f.streams h.streams.paths;
      };
      handles = h.handles;
      handles_on = λ k d l. torn_has s f (get_or f.handles k d).stream (no_handle k d l) (h.handles_on k d l);
      creates_on = λ k d l. torn_created s f (get_or rs k d) (no_create k d l) (h.creates_on k d l);
      operations_on = h.operations_on;
      in_use = all_others (λ (x : FileStream). false ≡ false → uses f rs x.number ≡ true) (is_stream s) f.streams
          (once (λ (x : FileStream). x.number.0) s.0 f.streams h.streams.ascend) (λ k d l other _. h.in_use k d l other);
    })

created_has : (v : VolumeId) (path : List ℕ) (n : ℕ) (f : FileTable) (q : StreamId) → has_stream f q ≡ true
    → list_any (is_stream q) (f.streams ++ fresh_stream v path n ∷ []) ≡ true
created_has v path n f q there = any_before (is_stream q) f.streams (fresh_stream v path n ∷ []) there

-- the stream of a create that begins has no use yet
pub stands_created : (v : VolumeId) (path : List ℕ) (n : ℕ) (f : FileTable) (rs : List FlowRecord) → Stands none_out f rs n
    → Stands (that (stream_for v path n f)) (created v path n f) rs (n + 1)
stands_created v path n f rs h =
    by_option (λ m. Stands (that (files.number_or n m)) (created_in v path n f m) rs (n + 1)) (stream_of_path v path f)
    (λ at.
    let g = created_in v path n f None in
    let fresh = fresh_stream v path n in
    grind (arith, common_steps, all_pairs_push, All-push, none_found, created_has, created_still, eq-eqb))
    (λ x at. stands_among none_out (that x.number) f rs rs n (n + 1) h.creates_on h.operations_on (omega arith) (λ q apart was. was refl) h)

-- the stream of a create that begins is there
pub fresh_there : (v : VolumeId) (path : List ℕ) (n : ℕ) (f : FileTable) → has_stream (created v path n f) (stream_for v path n f) ≡ true
fresh_there v path n f = grind (arith, any_pushed, eq-eqb, found_any)

-- an operation that begins on an open handle is on its stream
pub on_open : (f : FileTable) (rs : List FlowRecord) (n : ℕ) (g : HandleId) (x : FileHandle) → handle_at g f ≡ Some x
    → Stands none_out f rs n → IsOnHandle f (Some x.stream) (Some g)
on_open f rs n g x at h =
    let below = found_holds (λ (y : FileHandle). y.number.0 < f.next) (is_handle g) f.handles x h.handles.given at in
    let is = eqb-true x.number.0 g.0 (found_passes (is_handle g) f.handles x at) in (
      omega (arith, below, is),
      all_passing (λ (y : FileHandle). is_on_stream y.stream (Some x.stream) ≡ true) (is_handle g) f.handles x
          (once (λ (y : FileHandle). y.number.0) g.0 f.handles h.handles.ascend) at (eq-eqb x.stream.0 x.stream.0 refl),
    )

-- so it is of one that is found by another test
pub on_found : (f : FileTable) (rs : List FlowRecord) (n : ℕ) (test : FileHandle → Bool) (x : FileHandle)
    → find test f.handles ≡ Some x → Stands none_out f rs n
    → IsOnHandle f (Some x.stream) (Some x.number)
on_found f rs n test x at h = on_open f rs n x.number x (found_by_number (λ (y : FileHandle). y.number.0) test f.handles x h.handles.ascend at) h

-- ---- one operation changes

pub creating_same : (test : FlowRecord → Bool) (step : FlowRecord → FlowRecord) (rs : List FlowRecord) (r : FlowRecord) → find test rs ≡ Some r
    → (step r).stream ≡ r.stream → is_creating (step r) ≡ is_creating r → (q : StreamId)
    → list_any (is_creating_on q) (change_first test step rs) ≡ list_any (is_creating_on q) rs
creating_same test step rs r at stream same q = grind (arith, any_change)

-- a create that is under way no more used its own stream alone
pub creating_ended : (test : FlowRecord → Bool) (step : FlowRecord → FlowRecord) (rs : List FlowRecord) (r : FlowRecord) (s : StreamId) → find test rs ≡ Some r
    → r.stream ≡ Some s → is_creating (step r) ≡ false → (q : StreamId) → (q.0 == s.0) ≡ false
    → list_any (is_creating_on q) (change_first test step rs) ≡ list_any (is_creating_on q) rs
creating_ended test step rs r s at stream ended q other = grind (arith, any_change, and_right, other_number)
