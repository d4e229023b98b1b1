-- The empty World is sound, each event keeps a World sound, and a sound World keeps the Headline.
use Rattle.fm_world.proofs.Words.{lawful_alike, is_id-same, none_if_not_held, held, holds, is_id, references, is_open, context_at, context_in, link_count}
use Rattle.fm_world.proofs.Words.{carried_among, carried_by, carried_in, flight, times, total, count-cons, all_at, empty_files, DescendsIn, Headline, IsAscent}
use Rattle.fm_world.proofs.Words.{IsInOrder, IsSynchronized, RulesKeepHeadline, names_there, AskCarries, CarriesIn, HoldsIn, belongs, belongs_by, fits}
use Rattle.fm_world.proofs.Words.{AtRoutine, HasWorkers, routines_at, is_flown_by, is_left_by, keeps_links_by, link_fits, may_link, owner_fits, place_in, row_at, IsAmong, IsSound, Run, RunThrough}
use Rattle.fm_world.proofs.Words.{Steps, Ask, Context, CtxId, FlowRecord, Instance, InstanceId, Object, Owner, Slot, StackWorld, WorkerId, hand_of, instances}
use Rattle.fm_world.proofs.Words.{one, open_of, owed, owner_at, cleanup_in, worker_at, World, empty_stack, empty_world, reference_count, Step, StepReply}
use Rattle.fm_world.proofs.Words.{Place, All, Bool, List, None, Option, Some, [], ap, arith, cond, false, get_or, is_some, option_and_then, option_map, refl}
use Rattle.fm_world.proofs.Words.{slice_get, subst, suc, sym, true, ℕ, ◌++◌, ◌==◌, ◌∙◌, ◌∷◌, ◌≡◌, and_parts, eq-eqb, true≢false, length-replicate, All-head}
use Rattle.fm_world.proofs.Words.{All-nil, All-tail, All-weaker, sum_by-cons, none-some, same_Some}
use Rattle.std.proofs.Common.{replicate}
use Rattle.fm_ctx.proofs.Opening.{lawful_empty}
use Rattle.fm_ctx.specs.Kept.{carried_of, nothing_kept}
use Rattle.fm_world.proofs.Belonging.{AllCarry, AllPass, held_has}
use Rattle.fm_world.proofs.Callbacks.{bump_does, callback_left, read_body_does, reference_does, release_does, write_body_does}
use Rattle.fm_world.proofs.Cases.{by_bool, by_option, some_of}
use Rattle.fm_world.proofs.Changing.{change_held_does}
use Rattle.fm_world.proofs.Collected.{collected_few}
use Rattle.fm_world.proofs.Cleanups.{cleaned_does, finish_does, none_one, take_due_does}
use Rattle.fm_world.proofs.Detaching.{ask_detach_does, complete_returned_does, complete_teardown_does, query_does, start_returned_does, start_teardown_does}
use Rattle.fm_world.proofs.Dismounting.{drop_handle_does, empty_volume_does, finish_volume_does, start_dismount_does}
use Rattle.fm_world.proofs.Draining.{drain_done_does, drain_take_does}
use Rattle.fm_world.proofs.Filed.{file_empty}
use Rattle.fm_world.proofs.Linking.{allocate_does, delete_does, get_does, set_does}
use Rattle.fm_world.proofs.Owning.{attach_does, mount_does, register_does, setup_does}
use Rattle.fm_world.proofs.Initiators.{begin_from_does}
use Rattle.fm_world.proofs.Requests.{begin_does, collect_does}
use Rattle.fm_world.proofs.Resumes.{first_held_does, resume_post_does, resume_pre_does}
use Rattle.fm_world.proofs.Returns.{base_does, post_does, pre_does}
use Rattle.fm_world.proofs.Routines.{enter_routine_does, routine_returned_does}
use Rattle.fm_world.proofs.Staying.{Does}
use Rattle.fm_world.proofs.Turns.{next_does}
use Rattle.fm_world.proofs.Unloading.{ask_unload_does, empty_filter_does, finish_filter_does, force_unload_does, unload_does}
use Rattle.fm_operations.specs.Sound as flow

-- ---- whose it is

-- what the callbacks of an instance may hold belongs to it, or to its filter
same_instance : (m : Option Instance) (i j : InstanceId) (x : Context) → x.owner ≡ Owner.Instance i → belongs_by m j (Some x) ≡ true → j.0 ≡ i.0
same_instance m i j x h4 h5 = grind arith

callback_of_owner : (s : StackWorld) (slots : List Slot) (c : CtxId) (i j : InstanceId) (x : Context) → context_at slots c ≡ Some x → x.owner ≡ Owner.Instance i
    → belongs s slots j c ≡ true → j.0 ≡ i.0
callback_of_owner s slots c i j x there own h = same_instance (row_at s j) i j x own (sym (ap (belongs_by (row_at s j) j) there) ∙ h)

-- ---- linked

passes_at : (p : Option Context → Bool) (slots : List Slot) (c : CtxId) (x : Context) → context_at slots c ≡ Some x → AllPass p slots → p (Some x) ≡ true
unfolding context_at
passes_at p slots c x there all =
    by_option (λ m. option_and_then (context_in c) m ≡ Some x → p (Some x) ≡ true) (slice_get slots c.slot) (λ none h. absurd (none-some x h)) (λ y at h.
    by_bool (λ b. cond b y.context None ≡ Some x → p (Some x) ≡ true) (c.generation == y.generation)
    (λ _ is. sym (ap p is) ∙ all_at (λ (z : Slot). p z.context ≡ true) slots c.slot y all at) (λ _ is. absurd (none-some x is)) h) there

unlinked : (s : StackWorld) (x : Context) (l : Option Object) → may_link s x.owner ≡ false → link_fits s x l ≡ true → one (is_some l) ≡ 0
unlinked s x l gone fit = grind arith

not_linked : (s : StackWorld) (slots : List Slot) (c : CtxId) (i : InstanceId) (x : Context) → keeps_links_by (row_at s i) ≡ false
    → context_at slots c ≡ Some x → x.owner ≡ Owner.Instance i
    → AllPass (fits s) slots → link_count (context_at slots c) ≡ 0
not_linked s slots c i x gone there own all =
    let fit = passes_at (fits s) slots c x there all in
    ap link_count there ∙ unlinked s x x.link (ap (may_link s) own ∙ gone) (and_parts (owner_fits s x.kind x.owner) (link_fits s x x.link) fit).1

-- ---- held

held_none : (hands : List (List CtxId)) (c : CtxId) → ((n : ℕ) → references (hand_of hands n) c ≡ 0) → held hands c ≡ 0
unfolding held
held_none [] c none = refl
held_none (hand ∷ hands) c none = omega (arith, sum_by-cons (λ (h : List CtxId). references h c) hand hands, none 0, held_none hands c (λ n. none (suc n)))

-- a worker in a callback of the instance would be in one whose links are kept
not_held : (w : World) (i : InstanceId) (c : CtxId) (x : Context) (k : WorkerId) → IsSound w → keeps_links_by (row_at w.stack i) ≡ false
    → context_at w.contexts.slots c ≡ Some x → x.owner ≡ Owner.Instance i → HoldsIn w.stack w.contexts.slots (place_in (worker_at w.workers k)) c → ⊥
not_held w i c x k s gone there own h =
    by_option (λ m. HoldsIn w.stack w.contexts.slots m c → ⊥) (place_in (worker_at w.workers k)) (λ _ held. held) (λ j is held.
    let row = some_of (λ m. belongs_by m j (context_at w.contexts.slots c)) (row_at w.stack j) refl held in
    let same : row_at w.stack j ≡ row_at w.stack i = ap (slice_get w.stack.instances) (callback_of_owner w.stack w.contexts.slots c i j x there own held) in
    true≢false (sym (callback_left w k j row.0 s is row.1).1 ∙ ap keeps_links_by same ∙ gone)) h

none_held : (w : World) (i : InstanceId) (c : CtxId) (x : Context) → IsSound w → keeps_links_by (row_at w.stack i) ≡ false
    → context_at w.contexts.slots c ≡ Some x
    → x.owner ≡ Owner.Instance i → held w.contexts.hands c ≡ 0
none_held w i c x s gone there own = held_none w.contexts.hands c (λ n.
    let k : WorkerId = record { 0 = n } in
    let hand = hand_of w.contexts.hands n in
    by_bool (λ b. holds hand c ≡ b → references hand c ≡ 0) (holds hand c)
    (λ _ has. absurd (not_held w i c x k s gone there own
    (held_has (HoldsIn w.stack w.contexts.slots (place_in (worker_at w.workers k))) hand c (s.owned.holders k) has)))
    (λ _ lacks. none_if_not_held hand c lacks) refl)

-- ---- carried

uncarried : (s : StackWorld) (slots : List Slot) (c : CtxId) (i : InstanceId) (x : Context) (asks : List Ask)
    → context_at slots c ≡ Some x → x.owner ≡ Owner.Instance i
    → times i.0 (instances asks) ≡ 0 → All (AskCarries s slots) asks → carried_among c asks ≡ 0
uncarried s slots c i x [] there own none all = refl
uncarried s slots c i x (ask ∷ asks) there own none all =
    let apart = none_one (ask.instance.0 == i.0) (omega (arith, none)) in
    let other = λ (d : CtxId) (h : belongs s slots ask.instance d ≡ true). by_bool (λ b. is_id c d ≡ b → one b ≡ 0) (is_id c d)
    (λ _ e. absurd (true≢false (sym (eq-eqb ask.instance.0 i.0 (callback_of_owner s slots c i ask.instance x there own
    (subst (λ y. belongs s slots ask.instance y ≡ true) (is_id-same c d e) h))) ∙ apart))) (λ _ _. refl) refl in
    let here : carried_in c ask.completion ≡ 0 =
    (elim ask.completion.context as (λ o. CarriesIn s slots ask.instance o → carried_in c (record { number = 0; context = o }) ≡ 0)
    [ None ↦ λ h. refl | Some d ↦ other d ])
    (All-head (AskCarries s slots) ask asks all) in
    omega (arith, here, uncarried s slots c i x asks there own (omega (arith, none)) (All-tail (AskCarries s slots) ask asks all))

none_carried : (s : StackWorld) (slots : List Slot) (c : CtxId) (i : InstanceId) (x : Context) (rs : List FlowRecord)
    → context_at slots c ≡ Some x → x.owner ≡ Owner.Instance i
    → total (flight i.0) rs ≡ 0 → AllCarry s slots rs → total (carried_by c) rs ≡ 0
none_carried s slots c i x [] there own none all = refl
none_carried s slots c i x (r ∷ rs) there own none all =
    let here = uncarried s slots c i x (owed r.entries) there own (omega (arith, none))
    (All-head (λ (y : FlowRecord). All (AskCarries s slots) (owed y.entries)) r rs all) in
    omega (
      arith,
      here,
      none_carried s slots c i x rs there own (omega (arith, none))
          (All-tail (λ (y : FlowRecord). All (AskCarries s slots) (owed y.entries)) r rs all),
    )

-- ---- all three

unlinked_rests : (m : Option Instance) → keeps_links_by m ≡ false → is_flown_by m ≡ false
unlinked_rests m h = grind arith

emptied_counts : (w : World) (i : InstanceId) (c : CtxId) → IsSound w → keeps_links_by (row_at w.stack i) ≡ false
    → owner_at w.contexts.slots c ≡ Some (Owner.Instance i) → reference_count w c ≡ 0
emptied_counts w i c s gone owned =
    by_option (λ o. option_map (λ (x : Context). x.owner) o ≡ Some (Owner.Instance i) → reference_count w c ≡ 0) (context_at w.contexts.slots c)
    (λ none own. absurd (none-some (Owner.Instance i) own)) (λ x there own.
    let mine = same_Some x.owner (Owner.Instance i) own in
    omega (
      arith,
      not_linked w.stack w.contexts.slots c i x gone there mine s.owned.fits,
      none_carried w.stack w.contexts.slots c i x w.flow.operations there mine (s.owned.quiet i (unlinked_rests (row_at w.stack i) gone)) s.owned.completions,
      none_held w i c x s gone there mine,
    )) owned

no_cleanup : (n k : ℕ) → cleanup_in (slice_get (replicate n Place.Idle) k) ≡ None
no_cleanup (suc n) (suc k) = no_cleanup n k
no_cleanup _ _ = refl

same_in : {X : Type 0} (n k : ℕ) (x : X) → get_or (replicate n x) k x ≡ x
same_in (suc n) (suc k) x = same_in n k x
same_in _ _ x = refl

pub nothing_carried : (c : CtxId) → carried_of nothing_kept c ≡ 0
unfolding carried_of context_at
nothing_carried c = refl

pub empty_sound : IsSound empty_world
empty_sound = record {
  under_way = grind arith;
  owned = record {
    lawful = lawful_alike nothing_carried lawful_empty;
    cleaning = λ n. same_in 48 n None ∙ sym (no_cleanup 48 n);
    holders = λ k. subst (All (HoldsIn empty_stack [] (place_in (slice_get (replicate 48 Place.Idle) k.0)))) (sym (same_in 48 k.0 []))
        (All-nil (HoldsIn empty_stack [] (place_in (slice_get (replicate 48 Place.Idle) k.0))));
    completions = All-nil (λ (r : FlowRecord). All (AskCarries empty_stack []) (owed r.entries));
    fits = All-nil (λ (x : Slot). fits empty_stack x.context ≡ true);
    quiet = λ i rests. refl;
    totals = length-replicate {A = ℕ} 16 0;
  };
  begun = λ i gone. refl;
  filed = file_empty;
  links = All-nil (λ (x : Slot). names_there empty_files x.context ≡ true);
}

-- ---- the Headline

-- a detached instance owns no context, since the owner of each is there
not_owned : (s : StackWorld) (i : InstanceId) (o : Option Context) → is_left_by (row_at s i) ≡ false → fits s o ≡ true → is_open (Owner.Instance i) o ≡ false
not_owned s i o h3 h4 = grind arith

none_counted : (o : Owner) (slots : List Slot) → All (λ (x : Slot). is_open o x.context ≡ false) slots → open_of slots o ≡ 0
none_counted o [] h = refl
none_counted o (x ∷ slots) h =
    let none : ◌≡◌ {A = ℕ} (cond (is_open o x.context) 1 0) 0 = ap (λ b. cond b 1 0) (All-head (λ (y : Slot). is_open o y.context ≡ false) x slots h) in
    omega (
      arith,
      count-cons (λ (y : Slot). is_open o y.context) x slots,
      none,
      none_counted o slots (All-tail (λ (y : Slot). is_open o y.context ≡ false) x slots h),
    )

flown_is_left : (m : Option Instance) → is_left_by m ≡ false → is_flown_by m ≡ false
flown_is_left m h = grind arith

none_in_routines : (m : Option Instance) (n : ℕ) → is_flown_by m ≡ false → HasWorkers AtRoutine m n → n ≡ 0
none_in_routines m n rests h = grind arith

pub headline_from : (w : World) → IsSound w → Headline w
headline_from w s =
    let h = s.under_way in
    let k = s.owned in
    record {
      apart = h.stack.apart;
      descents = All-weaker (IsAmong w.stack) (DescendsIn w.stack) (λ r k. k.descent) w.flow.operations h.among;
      ascents = All-weaker flow.IsSound IsAscent (λ r k. k.course.ascent) w.flow.operations h.flow.sound;
      orders = All-weaker flow.IsSound IsInOrder (λ r k. k.course.order) w.flow.operations h.flow.sound;
      synchronized = All-weaker flow.IsSound IsSynchronized (λ r k. k.course.synchronized) w.flow.operations h.flow.sound;
      workers = h.workers;
      drains = h.drains;
      collected = collected_few w.workers w.flow h.flow h.hands h.drains;
      alive = k.lawful.alive;
      cleaned_once = k.lawful.waits;
      cleanups = λ n. k.cleaning n.0;
      one_per_owner = k.lawful.once;
      there = k.fits;
      links = s.links;
      files = s.filed.hold;
      holders = k.holders;
      completions = k.completions;
      emptied = λ i c gone owned. emptied_counts w i c s gone owned;
      detached = λ i gone. (
        none_counted (Owner.Instance i) w.contexts.slots
            (All-weaker (λ (x : Slot). fits w.stack x.context ≡ true) (λ (x : Slot). is_open (Owner.Instance i) x.context ≡ false)
            (λ x fit. not_owned w.stack i x.context gone fit) w.contexts.slots k.fits),
        k.quiet i (flown_is_left (row_at w.stack i) gone),
      );
      begun = s.begun;
      routines = λ i rests. none_in_routines (row_at w.stack i) (routines_at i w.workers) rests (h.instance_callbacks AtRoutine i.0);
    }

-- what each event does
pub step_does : (old : World) (s : Step) (r : StepReply) (new : World) → Steps old s r new → Does old new
step_does old (Step.Register name registration) (StepReply.Filter r) new h = register_does old name registration r new h
step_does old (Step.Mount name) (StepReply.Volume r) new h = mount_does old name r new h
step_does old (Step.Attach k f v name altitude) (StepReply.Instance r) new h = attach_does old k f v name altitude r new h
step_does old (Step.SetupDone k accept) (StepReply.Done r) new h = (setup_does old k accept r new h).0
step_does old (Step.Begin what) (StepReply.Operation r) new h = (begin_does old what r new h).0
step_does old (Step.BeginFrom from what) (StepReply.Operation r) new h = (begin_from_does old from what r new h).0
step_does old (Step.Next k o) (StepReply.Action r) new h = (next_does old k o r new h).0
step_does old (Step.PreReturned k verdict lent) (StepReply.Done r) new h = (pre_does old k verdict lent r new h).0
step_does old (Step.BaseReturned k call given) (StepReply.Done r) new h = base_does old k call given r new h
step_does old (Step.PostReturned k verdict lent) (StepReply.Done r) new h = (post_does old k verdict lent r new h).0
step_does old (Step.ResumePre k o verdict) (StepReply.Done r) new h = (resume_pre_does old k o verdict r new h).0
step_does old (Step.ResumePost k o) (StepReply.Done r) new h = resume_post_does old k o r new h
step_does old (Step.FirstHeld k kind) (StepReply.Held r) new h = first_held_does old k kind r new h
step_does old (Step.Collect o) (StepReply.Answer r) new h = collect_does old o r new h
step_does old (Step.Allocate k what body) (StepReply.Context r) new h = (allocate_does old k what body r new h).0
step_does old (Step.Set k c mode wants) (StepReply.Set r) new h = (set_does old k c mode wants r new h).0
step_does old (Step.Get k what) (StepReply.Context r) new h = (get_does old k what r new h).0
step_does old (Step.Delete k what wants) (StepReply.Old r) new h = (delete_does old k what wants r new h).0
step_does old (Step.Reference k c) (StepReply.Done r) new h = (reference_does old k c r new h).0
step_does old (Step.Release k c) (StepReply.Done r) new h = (release_does old k c r new h).0
step_does old (Step.ReadBody k c) (StepReply.Body r) new h = read_body_does old k c r new h
step_does old (Step.WriteBody k c bytes) (StepReply.Done r) new h = write_body_does old k c bytes r new h
step_does old (Step.Bump k c at by) (StepReply.Number r) new h = bump_does old k c at by r new h
step_does old (Step.TakeDue k) (StepReply.Due r) new h = take_due_does old k r new h
step_does old (Step.Cleaned k number) (StepReply.Done r) new h = cleaned_does old k number r new h
step_does old (Step.Finish i) (StepReply.Done r) new h = finish_does old i r new h
step_does old (Step.AskDetach k i) (StepReply.Done r) new h = ask_detach_does old k i r new h
step_does old (Step.QueryReturned k allow) (StepReply.Done r) new h = (query_does old k allow r new h).0
step_does old (Step.StartTeardown k i) (StepReply.Done r) new h = start_teardown_does old k i r new h
step_does old (Step.StartReturned k) (StepReply.Done r) new h = (start_returned_does old k r new h).0
step_does old (Step.DrainTake k i) (StepReply.Drained r) new h = (drain_take_does old k i r new h).0
step_does old (Step.DrainDone k) (StepReply.Done r) new h = (drain_done_does old k r new h).0
step_does old (Step.CompleteTeardown k i) (StepReply.Done r) new h = complete_teardown_does old k i r new h
step_does old (Step.CompleteReturned k) (StepReply.Done r) new h = (complete_returned_does old k r new h).0
step_does old (Step.EnterRoutine k i f) (StepReply.Done r) new h = enter_routine_does old k i f r new h
step_does old (Step.RoutineReturned k) (StepReply.Done r) new h = (routine_returned_does old k r new h).0
step_does old (Step.AskUnload k f) (StepReply.Done r) new h = ask_unload_does old k f r new h
step_does old (Step.UnloadReturned k allow) (StepReply.Done r) new h = unload_does old k allow r new h
step_does old (Step.ForceUnload f) (StepReply.Done r) new h = force_unload_does old f r new h
step_does old (Step.EmptyFilter f) (StepReply.Done r) new h = (empty_filter_does old f r new h).0
step_does old (Step.FinishFilter f) (StepReply.Done r) new h = finish_filter_does old f r new h
step_does old (Step.StartDismount v) (StepReply.Done r) new h = start_dismount_does old v r new h
step_does old (Step.DropHandle v) (StepReply.Dropped r) new h = drop_handle_does old v r new h
step_does old (Step.EmptyVolume v) (StepReply.Done r) new h = (empty_volume_does old v r new h).0
step_does old (Step.FinishVolume v) (StepReply.Done r) new h = finish_volume_does old v r new h
step_does old (Step.ChangeHeld k o params) (StepReply.Done r) new h = change_held_does old k o params r new h
step_does old _ _ new h = absurd h

pub step_keeps : (old : World) (s : Step) (r : StepReply) (new : World) → Steps old s r new → IsSound old → IsSound new
step_keeps old x r new h s = (step_does old x r new h).sound s

pub run_keeps : (old : World) (steps : List Step) (replies : List StepReply) (new : World) → Run old steps replies new → IsSound old → IsSound new
run_keeps old [] [] new h s = subst IsSound (sym h) s
run_keeps old (x ∷ steps) (r ∷ replies) new h s = run_keeps h.0 steps replies new h.2 (step_keeps old x r h.0 h.1 s)
run_keeps old _ _ new h s = absurd h

pub rules_keep : RulesKeepHeadline
rules_keep steps replies w h = headline_from w (run_keeps empty_world steps replies w h empty_sound)

-- one more event at the end of a list
pub run_more : (P : World → Type 0) (old : World) (steps : List Step) (replies : List StepReply) (mid : World) (s : Step) (r : StepReply) (new : World)
    → RunThrough P old steps replies mid → Steps mid s r new → P new → RunThrough P old (steps ++ s ∷ []) (replies ++ r ∷ []) new
run_more P old [] [] mid s r new h k p = (new, subst (λ w. Steps w s r new) h k, p, refl)
run_more P old (x ∷ steps) (y ∷ replies) mid s r new h k p = (h.0, h.1, h.2, run_more P h.0 steps replies mid s r new h.3 k p)
run_more P old _ _ mid s r new h k p = absurd h
