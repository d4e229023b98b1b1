-- Where the visit that came last stands among the parameters that are kept.
use Rattle.fm_operations.proofs.Words.{ℕ, Bool, true, false, cond, List, [], length, map, Option, Some, None, refl, sym, ap, subst, arith, nat_tests}
use Rattle.fm_operations.proofs.Words.{All, All-push, IfSome, cases_Bool, inl, inr, length-append, option_to_list, get_or, take, take_more, append-nil}
use Rattle.fm_operations.proofs.Words.{InstanceId, WorkerId, Params, PreState, PostState, post_leads, Entry, Stage, PreRunning, PreHeld, FlowRecord, IsSound, IsPlaced, HasPlace, keeps_more}
use Rattle.fm_operations.proofs.Words.{last_place, place_of, visit_of, visited, pre_entry, pre_leads, kept_held, changed_from, changed_held}
use Rattle.std.proofs.Common.{◌≡◌, ◌+◌, ◌-◌, ◌<◌, ◌≤◌, ◌∷◌, ◌++◌, ◌∙◌, is_some, nat_lt}
use Rattle.std.specs.Option.{option_or}
use Rattle.fm_callback_data.specs.Params.{fit}
use Rattle.fm_operations.specs.declared.entry.PreState.TheVariants as pre
use Rattle.fm_operations.specs.declared.entry.PostState.TheVariants as post
use Rattle.fm_operations.proofs.Owed.{filter_map-push}
use Rattle.fm_operations.proofs.Noted.{last_more}
use Rattle.fm_operations.proofs.Soundness.{Stays, stays_so}

-- ---- the place of the last visit

place_push : (es : List Entry) (e : Entry) → last_place (es ++ e ∷ []) ≡ option_or (place_of e) (last_place es)
place_push es e = last_more place_of es e

-- the last entry up to a place says it, or those before it do
pub placed_back : (es : List Entry) (n : ℕ) (e : Entry) (m : Option ℕ) → 0 < n → n ≤ length es → last_place es ≡ last_place (take n es)
    → m ≡ place_of (get_or es (n - 1) e) → last_place es ≡ option_or m (last_place (take (n - 1) es))
placed_back es n e m some within from is =
    let k : n - 1 + 1 ≡ n = omega (arith, some) in
    from ∙ ap (λ j. last_place (take j es)) (sym k) ∙ ap last_place (take_more es (n - 1) e (omega (arith, some, within)))
    ∙ place_push (take (n - 1) es) (get_or es (n - 1) e) ∙ ap (λ o. option_or o (last_place (take (n - 1) es))) (sym is)

pub placed_here : (m last rest : Option ℕ) → last ≡ option_or m rest → is_some m ≡ true → m ≡ last
placed_here m last rest is some = grind (arith, is, some)

pub placed_before : (m last rest : Option ℕ) → last ≡ option_or m rest → is_some m ≡ false → last ≡ rest
placed_before m last rest is none = grind (arith, is, none)

-- ---- what keeps it

abbrev pub Lies : List Params → ℕ → Option ℕ → Type 0
Lies kept n m = IfSome m (λ p. (p ≤ length kept) × (p < n))

lies_among : (kept more : List Params) (n : ℕ) (m : Option ℕ) → length kept ≤ length more → Lies kept n m → Lies more n m
lies_among kept more n None few h = tt
lies_among kept more n (Some p) few h = (omega (arith, h.0, few), h.1)

has_place_still : (es fs : List Entry) (kept more : List Params) → length kept ≤ length more → last_place fs ≡ last_place es → visited fs ≡ visited es
    → HasPlace es kept → HasPlace fs more
has_place_still es fs kept more few places visits h =
    subst (λ (m : Option ℕ). Lies more (length (visited fs)) m) (sym places)
    (subst (λ (vs : List ℕ). Lies more (length vs) (last_place es)) (sym visits) (lies_among kept more (length (visited es)) (last_place es) few h))

-- where the visits and their places stay
pub placed_still : (t : Stage) (es fs : List Entry) (kept more : List Params) → length kept ≤ length more → last_place fs ≡ last_place es
    → visited fs ≡ visited es → IsPlaced t es kept → IsPlaced t fs more
placed_still PreRunning es fs kept more few places visits h = has_place_still es fs kept more few places visits h
placed_still PreHeld es fs kept more few places visits h = has_place_still es fs kept more few places visits h
placed_still t es fs kept more few places visits h = tt

pub placed_at : (r : FlowRecord) (s : Stage) → r.stage ≡ s → IsSound r → IsPlaced s r.entries r.kept
placed_at r s st h = subst (λ t. IsPlaced t r.entries r.kept) st h.placed

-- a verdict leads on; only where a preoperation runs or holds is anything said
placed_led : (state : PreState) (es : List Entry) (kept : List Params) → HasPlace es kept → IsPlaced (pre_leads state) es kept
placed_led pre.Running es kept h = h
placed_led pre.Held es kept h = h
placed_led state es kept h = tt

-- a postoperation's verdict says nothing of it
pub unplaced : (state : PostState) (es : List Entry) (kept : List Params) → IsPlaced (post_leads state) es kept
unplaced post.Running es kept = tt
unplaced state es kept = tt

pub placed_settled : (state : PreState) (es fs : List Entry) (kept more : List Params) → length kept ≤ length more → last_place fs ≡ last_place es
    → visited fs ≡ visited es → HasPlace es kept → IsPlaced (pre_leads state) fs more
placed_settled state es fs kept more few places visits h = placed_led state fs more (has_place_still es fs kept more few places visits h)

-- a visit comes
pub placed_visit : (worker : WorkerId) (i : InstanceId) (state : PreState) (r : FlowRecord) → length r.kept ≤ length (visited r.entries)
    → HasPlace (r.entries ++ pre_entry worker i state r ∷ []) r.kept
placed_visit worker i state r few =
    let e = pre_entry worker i state r in
    let more = ap length (filter_map-push visit_of r.entries e) ∙ length-append (visited r.entries) (i.0 ∷ []) in
    subst (Lies r.kept (length (visited (r.entries ++ e ∷ [])))) (sym (place_push r.entries e)) (omega arith, omega (arith, more, few))

-- something else comes
pub placed_push : (t : Stage) (es : List Entry) (e : Entry) (kept : List Params) → place_of e ≡ None → visit_of e ≡ None → IsPlaced t es kept
    → IsPlaced t (es ++ e ∷ []) kept
placed_push t es e kept place visit h =
    placed_still t es (es ++ e ∷ []) kept kept (omega arith) (place_push es e ∙ ap (λ o. option_or o (last_place es)) place)
    (filter_map-push visit_of es e ∙ ap (λ o. visited es ++ option_to_list o) visit ∙ append-nil (visited es)) h

-- ---- the holder changes what goes down

held_fits : (P : Params → Type 0) (m : Option ℕ) (kept : List Params) (current : Params) → P current → All P kept → All P (kept_held m kept current)
held_fits P None kept current own all = all
held_fits P (Some place) kept current own all = elim (nat_lt place (length kept)) as (λ b. All P (cond b kept (kept ++ current ∷ []))) [
  | true ↦ all
  | false ↦ All-push P kept current all own
]

-- what is kept by then
pub record Keeps (kept after : List Params) (n : ℕ) (m : Option ℕ) : Type 0 where
  pub few : length after ≤ n
  pub lies : Lies after n m

held_few : (m : Option ℕ) (kept : List Params) (current : Params) (n : ℕ) → Lies kept n m → length kept ≤ n → Keeps kept (kept_held m kept current) n m
held_few None kept current n h few = record { few = few; lies = tt }
held_few (Some place) kept current n h few = elim (cases_Bool (nat_lt place (length kept))) [
  | inl is ↦ subst (λ b. Keeps kept (cond b kept (kept ++ current ∷ [])) n (Some place)) (sym is) (record { few = few; lies = h })
  | inr is ↦
      let long = length-append kept (current ∷ []) in
      let behind : length kept ≤ place = grind (arith, nat_tests, is) in
      subst (λ b. Keeps kept (cond b kept (kept ++ current ∷ [])) n (Some place)) (sym is)
      (record { few = omega (arith, long, behind, h.1); lies = (omega (arith, long, h.0), h.1) })
]

pub sound_changed : (params : Params) (r : FlowRecord) → r.stage ≡ PreHeld → fit r.operation r.path params ≡ true → IsSound r → IsSound (changed_held params r)
sound_changed params r st fits h = by_params r.params refl
  where
    by_params : (m : Option Params) → r.params ≡ m → IsSound (changed_from params r m)
    by_params None is = h
    by_params (Some current) is =
        let own = subst (λ (m : Option Params). IfSome m (λ p. fit r.operation r.path p ≡ true)) is h.params in
        let keeps = held_few (last_place r.entries) r.kept current (length (visited r.entries)) (placed_at r PreHeld st h) (omega (arith, h.places)) in
        record {
          course = h.course;
          here = ap is_some (sym is) ∙ h.here;
          params = fits;
          kept = held_fits (λ p. fit r.operation r.path p ≡ true) (last_place r.entries) r.kept current own h.kept;
          places =
              let none : keeps_more r.stage ≡ 0 = ap keeps_more st in
              omega (arith, keeps.few, none);
          placed = subst (λ t. IsPlaced t r.entries (kept_held (last_place r.entries) r.kept current)) (sym st) keeps.lies;
          bytes = h.bytes;
          collected = h.collected;
        }

-- as the code makes it
pub sound_held : (params : Params) (r : FlowRecord) (current : Params) (place : Option ℕ) → r.stage ≡ PreHeld → r.params ≡ Some current
    → place ≡ last_place r.entries → fit r.operation r.path params ≡ true → IsSound r
    → IsSound (record r { params = Some params; kept = kept_held place r.kept current })
sound_held params r current place st has last fits h =
    subst (λ (m : Option ℕ). IsSound (record r { params = Some params; kept = kept_held m r.kept current })) (sym last)
    (subst (λ (m : Option Params). IsSound (changed_from params r m)) has (sound_changed params r st fits h))

-- nothing else of it changes
pub changed_says : {A : Type 0} (f : FlowRecord → A) (params : Params) (r : FlowRecord)
    → ((m : Option Params) (kept : List Params) → f (record r { params = m; kept = kept }) ≡ f r) → f (changed_held params r) ≡ f r
changed_says f params r same = by_params r.params
  where
    by_params : (m : Option Params) → f (changed_from params r m) ≡ f r
    by_params None = refl
    by_params (Some current) = same (Some params) (kept_held (last_place r.entries) r.kept current)

pub changed_keeps : (P : FlowRecord → Type 0) (params : Params) (r : FlowRecord)
    → ((m : Option Params) (kept : List Params) → P (record r { params = m; kept = kept })) → P r → P (changed_held params r)
changed_keeps P params r same h = by_params r.params
  where
    by_params : (m : Option Params) → P (changed_from params r m)
    by_params None = h
    by_params (Some current) = same (Some params) (kept_held (last_place r.entries) r.kept current)

pub changed_stays : (params : Params) (r : FlowRecord) → Stays r (changed_held params r)
changed_stays params r =
    stays_so (changed_says (λ (s : FlowRecord). s.number.0) params r (λ m kept. refl)) (changed_says (λ (s : FlowRecord). s.collected) params r (λ m kept. refl))

-- there is room for it
pub place_fits : (r : FlowRecord) (place : Option ℕ) (room : ℕ) → r.stage ≡ PreHeld → IsSound r → place ≡ last_place r.entries → 32 ≤ room
    → IfSome place (λ p. p < room)
place_fits r place room st h last some =
    subst (λ (m : Option ℕ). IfSome m (λ p. p < room)) (sym last) (fits (last_place r.entries) (placed_at r PreHeld st h))
  where
    fits : (m : Option ℕ) → Lies r.kept (length (visited r.entries)) m → IfSome m (λ p. p < room)
    fits None lies = tt
    fits (Some p) lies = omega (arith, lies.1, h.course.few, some)
