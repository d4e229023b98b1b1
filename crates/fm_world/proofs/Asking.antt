-- What filters asked for themselves: nothing that is detached, or isn't there, asked for what is still under way.
use Rattle.fm_world.proofs.Words.{FlowRecord, FlowTable, InstanceId, OpId, StackWorld, change_first, changed, count_changed, count_without, is_left_by}
use Rattle.fm_world.proofs.Words.{is_number, operation_at, row_at, without_first, List, None, Option, Some, [], ap, arith, cond, count_by, false, not, refl, sum_by_push}
use Rattle.fm_world.proofs.Words.{sym, true, ne_eqb, slice_get, true≢false, Bool, ℕ, ◌&&◌, ◌++◌, ◌+◌, ◌∙◌, ◌∷◌, ◌≡◌, ◌≤◌}
use Rattle.fm_operations.specs.Initiators.{begun_by, is_begun_by, is_below}
use Rattle.fm_operations.specs.Table.{marked, placed, removed}
use Rattle.fm_world.specs.Sound.{NoneBegun}
use Rattle.fm_world.proofs.Cases.{by_bool}

-- instances go on, and none comes to be detached
pub left_asks : (s t : StackWorld) (flow : FlowTable) → ((j : InstanceId) → is_left_by (row_at s j) ≡ true → is_left_by (row_at t j) ≡ true)
    → NoneBegun s flow → NoneBegun t flow
left_asks s t flow left none i gone = none i (by_bool (λ b. is_left_by (row_at s i) ≡ b → is_left_by (row_at s i) ≡ false) (is_left_by (row_at s i))
    (λ there _. absurd (true≢false (sym (left i there) ∙ gone))) (λ went _. went) refl)

-- an operation goes on
pub goes_asked : (s : StackWorld) (t : FlowTable) (o : OpId) (r : FlowRecord) (f : FlowRecord → FlowRecord) → operation_at o t ≡ Some r
    → (f r).below ≡ r.below → (f r).collected ≡ r.collected → NoneBegun s t → NoneBegun s (changed o f t)
goes_asked s t o r f at below collected none i gone =
    let same : ◌≡◌ {A = ℕ} (cond (is_begun_by i.0 (f r)) 1 0) (cond (is_begun_by i.0 r) 1 0) =
    ap (λ (b : Bool). cond (not b && is_below i.0 (f r).below) 1 0) collected
    ∙ ap (λ (m : Option InstanceId). cond (not r.collected && is_below i.0 m) 1 0) below in
    omega (arith, count_changed (is_begun_by i.0) (is_number o) f t.operations r at, same, none i gone)

-- its answer is handed out
pub marked_asked : (s : StackWorld) (t : FlowTable) (o : OpId) (r : FlowRecord) → operation_at o t ≡ Some r → NoneBegun s t → NoneBegun s (changed o marked t)
marked_asked s t o r at none i gone = omega (arith, count_changed (is_begun_by i.0) (is_number o) marked t.operations r at, none i gone)

-- its record goes
pub gone_asked : (s : StackWorld) (t : FlowTable) (o : OpId) → NoneBegun s t → NoneBegun s (removed o t)
gone_asked s t o none i gone = omega (arith, count_without (is_begun_by i.0) (is_number o) t.operations, none i gone)

pushed_asks : (i : ℕ) (rs : List FlowRecord) (r : FlowRecord) → r.below ≡ None → count_by (is_begun_by i) (rs ++ r ∷ []) ≡ count_by (is_begun_by i) rs
pushed_asks i rs r none =
    let more : count_by (is_begun_by i) (rs ++ r ∷ []) ≡ count_by (is_begun_by i) rs + cond (is_begun_by i r) 1 0 =
    sum_by_push (λ (x : FlowRecord). cond (is_begun_by i x) 1 0) rs r in
    let asks : ◌≡◌ {A = ℕ} (cond (is_begun_by i r) 1 0) 0 =
    ap (λ (m : Option InstanceId). cond (not r.collected && is_below i m) 1 0) none
    ∙ by_bool (λ (b : Bool). ◌≡◌ {A = ℕ} (cond (b && false) 1 0) 0) (not r.collected) (λ _. refl) (λ _. refl) in
    omega (arith, more, asks)

-- one comes that a client asked for
pub comes_asked : (s : StackWorld) (t : FlowTable) (r : FlowRecord) (next : ℕ) → r.below ≡ None → NoneBegun s t
    → NoneBegun s (record { operations = t.operations ++ r ∷ []; next = next })
comes_asked s t r next below none i gone = pushed_asks i.0 t.operations r below ∙ none i gone

not_asker : (s : StackWorld) (m : Option InstanceId) (i : InstanceId) → ((j : InstanceId) → m ≡ Some j → is_left_by (row_at s j) ≡ true)
    → is_left_by (row_at s i) ≡ false → is_below i.0 m ≡ false
not_asker s None i left gone = refl
not_asker s (Some j) i left gone =
    ne_eqb j.0 i.0 (λ e. true≢false (sym (left j refl) ∙ ap (λ n. is_left_by (slice_get s.instances n)) e ∙ gone))

-- an instance that is there asks for it
pub placed_asked : (s : StackWorld) (t : FlowTable) (o : OpId) (r : FlowRecord) (below : Option InstanceId) (born : ℕ) → operation_at o t ≡ Some r
    → ((j : InstanceId) → below ≡ Some j → is_left_by (row_at s j) ≡ true) → NoneBegun s t → NoneBegun s (changed o (placed below born) t)
placed_asked s t o r below born at left none i gone =
    let asks : ◌≡◌ {A = ℕ} (cond (is_begun_by i.0 (placed below born r)) 1 0) 0 =
    ap (λ (b : Bool). cond (not r.collected && b) 1 0) (not_asker s below i left gone)
    ∙ by_bool (λ (b : Bool). ◌≡◌ {A = ℕ} (cond (b && false) 1 0) 0) (not r.collected) (λ _. refl) (λ _. refl) in
    omega (arith, count_changed (is_begun_by i.0) (is_number o) (placed below born) t.operations r at, asks, none i gone)
