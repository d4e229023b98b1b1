-- What the events by which a volume is dismounted do: its instances are stopped, its handles close, and it is emptied and finished.
use Rattle.fm_world.proofs.Words.{swept, goes_on_follows, goes_on_keeps, Volume, updated-other, updated-same, none_refuses, Drops, DropsHandle, EmptiesVolume}
use Rattle.fm_world.proofs.Words.{FinishesVolume, StartsDismount, dropped, is_handle_on, lowest_on, KeepsHands, OnlyHandOf, pairs_in, LosesLinks, fits}
use Rattle.fm_world.proofs.Words.{holds_links_by, IsOwned, IsSound, Context, ContextTable, CtxId, HandleId, Object, StackWorld, Status, Sweeps, VolumeId}
use Rattle.fm_world.proofs.Words.{hand_of, updated, World, carries, FileHandle, Err, List, Ok, Option, Result, Some, ap, arith, false, inl, inr, length, refl}
use Rattle.fm_world.proofs.Words.{slice_get, subst, sym, true, ℕ, ◌∙◌, ◌≡◌, cases_eq, false≢true}
use Rattle.fm_ctx.specs.Settling.{is_linked_to}
use Rattle.fm_stack.proofs.Dismounts.{dismounted_goes_on, dismounting_goes_on, volume_emptied_goes_on}
use Rattle.fm_stack.specs.declared.volume.VolumePhase.{VolumePhase}
use Rattle.fm_world.proofs.Belonging.{AllFit, passes_swept}
use Rattle.fm_world.proofs.Callbacks.{not_false}
use Rattle.fm_world.proofs.Cases.{by_option, some_of}
use Rattle.fm_world.proofs.Filed.{file_closed}
use Rattle.fm_world.proofs.Keeps.{stack_changes}
use Rattle.fm_world.proofs.Losing.{loses_sound, sweeps_named, sweeps_owned}
use Rattle.fm_world.proofs.Owning.{rows_same}
use Rattle.fm_world.proofs.Staying.{Does, SlotsStay, lasts, loses_lasts, slots_swept, still, unchanged}
use Rattle.fm_world.proofs.Unloading.{goes_does, stops_go, stops_workers}
use Rattle.fm_stack.specs.Dismounting as volumes

-- ---- its start

-- a volume changes, and its contexts' links are kept where they were
volumes_stay : (change : Volume → Volume) (s : StackWorld) (v : VolumeId)
    → ((x : Volume) → slice_get s.volumes v.0 ≡ Some x → holds_links_by (Some x) ≡ true → holds_links_by (Some (change x)) ≡ true) → (u : ℕ)
    → holds_links_by (slice_get s.volumes u) ≡ true → holds_links_by (slice_get (updated change s.volumes v.0) u) ≡ true
volumes_stay change s v keeps u h =
    let row = some_of holds_links_by (slice_get s.volumes u) refl h in
    elim (cases_eq u v.0) [
      | inl is ↦
          let there = ap (slice_get s.volumes) (sym is) ∙ row.1 in
          ap (λ n. holds_links_by (slice_get (updated change s.volumes v.0) n)) is ∙ ap holds_links_by (updated-same change s.volumes v.0 row.0 there)
          ∙ keeps row.0 there (sym (ap holds_links_by row.1) ∙ h)
      | inr apart ↦ ap holds_links_by (updated-other change s.volumes v.0 u apart) ∙ h
    ]

pub start_dismount_does : (old : World) (v : VolumeId) (result : Result (Unit {0}) Status) (new : World) → StartsDismount old v result new → Does old new
unfolding StartsDismount volumes.StartsDismount
start_dismount_does old v (Err why) new h = unchanged old new (h.1 ∙ ap (λ x. record old { stack = x }) h.0.1)
start_dismount_does old v (Ok done) new h =
    let t = volumes.dismounting old.stack v in
    goes_does old new t h.0.1 h.1 (dismounting_goes_on old.stack v) (stops_workers (volumes.is_on v) old.stack t refl)
    (stops_go (volumes.is_on v) old t refl) (omega arith)
    (volumes_stay (volumes.volume_in VolumePhase.Dismounting) old.stack v (λ x there h. refl))

-- ---- its handles

pub drop_handle_does : (old : World) (v : VolumeId) (result : Result (Option HandleId) Status) (new : World) → DropsHandle old v result new → Does old new
unfolding DropsHandle
drop_handle_does old v (Err why) new h = unchanged old new h.1
drop_handle_does old v (Ok answer) new h = by_option (λ m. Drops old answer new m → Does old new) (lowest_on v old.files)
    (λ none h. unchanged old new h.1) (λ x at h. closes x at h.1) h.1
  where
    closes : (x : FileHandle) → lowest_on v old.files ≡ Some x → LosesLinks (dropped old x) new → Does old new
    closes x at h = record {
      sound = λ s. loses_sound (dropped old x) new h s.under_way s.owned s.begun (file_closed old.files old.flow (is_handle_on v old.files) x at s.filed);
      lasts = λ s. loses_lasts old (dropped old x) new h (still old.contexts);
    }

-- ---- its end

-- the volume's contexts lost their links, so none is to it
emptied_fits : (s : StackWorld) (v : VolumeId) (x : Context) → fits s (Some x) ≡ true
    → fits (volumes.volume_emptied s v) (Some (swept (is_linked_to (Object.Volume v)) x)) ≡ true
emptied_fits s v x h = grind (arith, updated-other)

-- the contexts' links went before the volume that they are to
emptied_owned : (old : World) (v : VolumeId) (after : ContextTable) → Sweeps (carries old) (is_linked_to (Object.Volume v)) old.contexts after → IsOwned old
    → IsOwned (record old { stack = volumes.volume_emptied old.stack v; contexts = after })
emptied_owned old v after sweeps s =
    let test = is_linked_to (Object.Volume v) in
    let t = volumes.volume_emptied old.stack v in
    let swept = sweeps_owned old test after sweeps s in
    record {
      lawful = swept.lawful;
      cleaning = swept.cleaning;
      holders = swept.holders;
      completions = swept.completions;
      fits = subst (AllFit t) (sym sweeps.slots) (passes_swept (fits old.stack) (fits t) test old.contexts.slots refl (emptied_fits old.stack v) s.fits);
      quiet = swept.quiet;
      totals = swept.totals;
    }

pub empty_volume_does : (old : World) (v : VolumeId) (result : Result (Unit {0}) Status) (new : World) → EmptiesVolume old v result new
    → Does old new × KeepsHands old new
unfolding EmptiesVolume volumes.EmptiesVolume
empty_volume_does old v (Err why) new h =
    let same = h.2 ∙ ap (λ x. record old { stack = x; contexts = new.contexts }) h.0.1 ∙ ap (λ c. record old { contexts = c }) h.1 in
    (unchanged old new same, λ k. subst (λ w. OnlyHandOf k old w) (sym same) refl)
empty_volume_does old v (Ok done) new h =
    let t = volumes.volume_emptied old.stack v in
    let goes = volume_emptied_goes_on old.stack v in
    let test = is_linked_to (Object.Volume v) in
    let sweeps = h.1 in (
      record {
        sound = λ s. subst IsSound (sym (h.2 ∙ ap (λ x. record old { stack = x; contexts = new.contexts }) h.0.1)) (record {
          under_way = stack_changes old t (goes_on_keeps old.stack t goes s.under_way.stack) (goes_on_follows old.stack t goes) (λ d i n h. h) s.under_way;
          owned = emptied_owned old v new.contexts sweeps s.owned;
          begun = s.begun;
          filed = s.filed;
          links = sweeps_named old test new.contexts sweeps s.links;
        });
        lasts = λ s. lasts old new new.contexts refl (
          subst (SlotsStay old.contexts.slots) (sym sweeps.slots)
              (slots_swept _ old.contexts.slots),
          sweeps.cleaning,
        );
      },
      λ k. omega (arith, ap pairs_in sweeps.hands, ap (λ (hands : List (List CtxId)). length (hand_of hands k)) sweeps.hands),
    )

-- a volume that was emptied keeps no links
no_links : (x : Volume) → volumes.is_volume_emptied_phase x.phase ≡ true → holds_links_by (Some x) ≡ false
no_links x h = grind arith

pub finish_volume_does : (old : World) (v : VolumeId) (result : Result (Unit {0}) Status) (new : World) → FinishesVolume old v result new → Does old new
unfolding FinishesVolume volumes.FinishesVolume
finish_volume_does old v (Err why) new h = unchanged old new (h.1 ∙ ap (λ x. record old { stack = x }) h.0.1)
finish_volume_does old v (Ok done) new h =
    let t = volumes.dismounted old.stack v in
    let was = not_false (volumes.is_volume_emptied (slice_get old.stack.volumes v.0)) (none_refuses (volumes.finish_volume_refusals old.stack v _) h.0.0).1.0 in
    goes_does old new t h.0.1 h.1 (dismounted_goes_on old.stack v) (λ d i n h. h) (rows_same old t refl) (omega arith)
    (volumes_stay (volumes.volume_in VolumePhase.Finished) old.stack v (λ x there holds.
    absurd (false≢true (sym (no_links x (sym (ap volumes.is_volume_emptied there) ∙ was)) ∙ holds))))
