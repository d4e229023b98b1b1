-- The events on held operations, from what their parts did.
use Rattle.fm_core.proofs.Words.{IsState, IsTied, kept_sent, Sweeping, is_lost_of, decided, target_in, Target, ContextsKept, StandsAt, told_there, placed_below}
use Rattle.fm_core.proofs.Words.{sent_is_held, None, Ok, Option, Some, [], ap, arith, false, not, refl, subst, sym, true, ◌<◌, ◌∙◌, ◌∷◌, ◌≡◌, within_hands}
use Rattle.fm_core.proofs.Words.{hand_of, holds, IsLawful, ContextTable, PreVerdict, FlowRecord, pre_settled, FlowTable, IsFlow, changed, is_number}
use Rattle.fm_core.proofs.Words.{operation_at, PreState, found_holds, first_of, CtxId, InstanceId, OpId, WorkerId, Status, filed_pre, is_created_on, sent}
use Rattle.fm_core.proofs.Words.{sent_in, state_at, FileTable, after_pre, LosesLinks, place_in, worker_at, World, carries, length}
use Rattle.fm_world.proofs.Words.{post_settled, PostHeld, PreHeld, ResumesPre, ResumesPreAt, is_held_by, lets_go, pre_resumed}
use Rattle.fm_operations.specs.declared.hold.Hold.{Hold}
use Rattle.fm_operations.specs.Holds.{is_held}
use Rattle.fm_operations.proofs.Holds.{held_pre, held_post}
use Rattle.fm_callback_data.specs.declared.params.Params.{Params}
use Rattle.fm_operations.specs.Steps.{changed_held}
use Rattle.fm_world.proofs.Changing.{changed_balance}
use Rattle.fm_world.proofs.Resumes.{post_resumed_balance, resumed_balance}
use Rattle.fm_core.proofs.Holding.{sent_slots, tied_sent}
use Rattle.fm_core.proofs.Losing.{loses, verdict_gone}
use Rattle.fm_operations.specs.declared.hold.Hold.TheVariants as hold
use Rattle.fm_operations.specs.declared.entry.PostState.TheVariants as post
use Rattle.fm_operations.specs.Sound as flow

-- ---- the operation that is held

sound_at : (t : FlowTable) (o : OpId) (r : FlowRecord) → IsFlow t → operation_at o t ≡ Some r → flow.IsSound r
sound_at t o r s at = found_holds flow.IsSound (is_number o) t.operations r s.sound at

pub stands_pre_held : (t : FlowTable) (o : OpId) (i : InstanceId) (r : FlowRecord) → IsFlow t → (operation_at o t ≡ Some r)
    × (is_held hold.Pre i.0 r ≡ true) → StandsAt PreHeld (operation_at o t)
stands_pre_held t o i r s h = subst (StandsAt PreHeld) (sym h.0) (held_pre i.0 r (sound_at t o r s h.0) h.1).0

pub stands_post_held : (t : FlowTable) (o : OpId) (i : InstanceId) (r : FlowRecord) → IsFlow t → (operation_at o t ≡ Some r)
    × (is_held hold.Post i.0 r ≡ true) → StandsAt PostHeld (operation_at o t)
stands_post_held t o i r s h = subst (StandsAt PostHeld) (sym h.0) (held_post i.0 r (sound_at t o r s h.0) h.1).0

pub by_that : (w : World) (kind : Hold) (o : OpId) (i : InstanceId) (r : FlowRecord) → (operation_at o w.flow ≡ Some r)
    × (is_held kind i.0 r ≡ true) → is_held_by w kind o i ≡ true
by_that w kind o i r h = told_there (is_held kind i.0) false o w.flow r h.0 ∙ h.1

pub placed_so : {old now : World} (k : WorkerId) (i : InstanceId) (m : Option InstanceId) → old ≡ now → m ≡ place_in (worker_at now.workers k) → m ≡ Some i
    → place_in (worker_at old.workers k) ≡ Some i
placed_so {old} k i m now_is place is = subst (λ (w : World). place_in (worker_at w.workers k) ≡ Some i) (sym now_is) (sym place ∙ is)

-- ---- a preoperation

-- and completions carry it then
pub resume_tied : {old : World} {kept : ContextsKept} (k : WorkerId) (o : OpId) (i : InstanceId) (given : PreVerdict)
    (state : PreState) (m : Option CtxId) → IsState old kept
    → place_in (worker_at old.workers k) ≡ Some i → is_held_by old hold.Pre o i ≡ true → state ≡ state_at old k o i given
    → m ≡ sent_in state → old.contexts ≡ kept.table
    → length kept.carried ≡ length kept.table.slots → IsTied (kept_sent kept k.0 m) (changed o (pre_settled state) old.flow)
resume_tied {old} {kept} k o i given state m s place held same sends contexts matched =
    subst (λ x. IsTied (kept_sent kept k.0 x) (changed o (pre_settled state) old.flow)) (sym sends)
    (tied_sent kept k (sent_in state) old.flow (changed o (pre_settled state) old.flow) (subst (IsLawful (carries old)) contexts s.sound.owned.lawful) matched
    (subst (λ (t : ContextTable). k.0 < length t.hands) contexts (within_hands k.0 s.sound.owned.lawful (placed_below old k i place s.sound)))
    (λ d e. subst (λ (t : ContextTable). holds (hand_of t.hands k.0) d ≡ true) contexts (sent_is_held old k o i given d (sym (ap sent_in same) ∙ e)))
    (resumed_balance old o i state held s.sound.under_way) s.tied)

sent_table : (kept : ContextsKept) (k : WorkerId) (m : Option CtxId) → (kept_sent kept k.0 m).table ≡ sent kept.table k m
sent_table kept k None = refl
sent_table kept k (Some c) = refl

pub pre_resumes : {old now : World} {kept : ContextsKept} (k : WorkerId) (o : OpId) (i : InstanceId) (r : FlowRecord)
    (given : PreVerdict) (state : PreState) (m : Option CtxId)
    (t : FlowTable) (after : ContextsKept) (fs : FileTable) (x : Target) → IsState old kept → old ≡ now → place_in (worker_at old.workers k) ≡ Some i
    → (operation_at o old.flow ≡ Some r) × (is_held hold.Pre i.0 r ≡ true) → lets_go given ≡ true → state ≡ state_at old k o i given → m ≡ sent_in state
    → t ≡ changed o (pre_settled state) old.flow → old.contexts ≡ kept.table
    → IsTied (kept_sent kept k.0 m) (changed o (pre_settled state) old.flow) → x ≡ target_in r
    → fs ≡ decided t state x old.files → Sweeping (is_lost_of fs x) (kept_sent kept k.0 m) after
    → ResumesPre now k o given (Ok tt) (record old { flow = t; contexts = after.table; files = fs })
unfolding ResumesPre
pre_resumes {old} {now} {kept} k o i r given state m t after fs x s now_is place held goes same sends flow contexts tied is files sweeps =
    let step = pre_settled state in
    let left = kept_sent kept k.0 m in
    let mid : World = record old { flow = t; contexts = left.table; files = fs } in
    let new : World = record old { flow = t; contexts = after.table; files = fs } in
    let slots : left.table.slots ≡ old.contexts.slots = sent_slots kept k.0 m ∙ ap (λ (y : ContextTable). y.slots) (sym contexts) in
    let filed : fs ≡ filed_pre old o (changed o step old.flow) state =
    files ∙ ap (λ (y : Target). decided t state y old.files) is ∙ ap (λ (u : FlowTable). decided u state (target_in r) old.files) flow
    ∙ sym (told_there (λ (y : FlowRecord). after_pre state y.operation y.stream (is_created_on y.stream (changed o step old.flow))
    old.files) old.files o old.flow r held.0) in
    let table : left.table ≡ sent old.contexts k (sent_in state) =
    sent_table kept k m ∙ ap (λ (y : ContextTable). sent y k m) (sym contexts) ∙ ap (sent old.contexts k) sends in
    let whole : mid ≡ pre_resumed old k o state = cc in
    let lost : LosesLinks mid new = loses old mid left after x s.sound refl slots (subst (IsTied left) (sym flow) tied)
    (verdict_gone old.files fs t state x files) sweeps in
    let here = by_that old hold.Pre o i r held in
    let free : first_of ((not (lets_go given), Status.BadRequest) ∷ (not (is_held_by old hold.Pre o i), Status.NotPended) ∷ [])
    ≡ None = grind (arith, goes, here) in
    subst (λ (w : World). ResumesPre w k o given (Ok tt) new) now_is
    (subst (ResumesPreAt old k o given (Ok tt) new) (sym place)
    (free, subst (λ y. LosesLinks (pre_resumed old k o y) new) same (subst (λ (w : World). LosesLinks w new) whole lost)))

-- other parameters go down: completions carry what they did
pub change_tied : {old : World} {kept : ContextsKept} (o : OpId) (i : InstanceId) (params : Params) (t : FlowTable) → IsState old kept
    → is_held_by old hold.Pre o i ≡ true → t ≡ changed o (changed_held params) old.flow → IsTied kept t
change_tied {old} {kept} o i params t s held flow =
    subst (IsTied kept) (sym flow) (λ c. s.tied c ∙ sym (changed_balance old o i params held s.sound.under_way c))

-- ---- a postoperation

pub post_resume_tied : {old : World} {kept : ContextsKept} (o : OpId) (i : InstanceId) (t : FlowTable) → IsState old kept → is_held_by old hold.Post o i ≡ true
    → t ≡ changed o (post_settled post.Finished) old.flow → IsTied kept t
post_resume_tied {old} {kept} o i t s held flow =
    subst (IsTied kept) (sym flow) (λ c. s.tied c ∙ sym (post_resumed_balance old o i held s.sound.under_way c))
