-- What a worker is lent and gives back in one event.
use Rattle.std.proofs.Common.{◌≡◌, ◌<◌, List, Ok, Some, length, ap, sym, subst, refl}
use Rattle.std.proofs.lemmas.List.{set-set, get_or-set_same}
use Rattle.fm_types.specs.declared.ids.InstanceId.{InstanceId}
use Rattle.fm_types.specs.declared.ids.OpId.{OpId}
use Rattle.fm_types.specs.declared.ids.WorkerId.{WorkerId}
use Rattle.fm_callback_data.specs.declared.verdict.Completion.{Completion}
use Rattle.fm_callback_data.specs.declared.verdict.PreVerdict.TheVariants.{WithCallback}
use Rattle.fm_callback_data.specs.declared.verdict.PostVerdict.TheVariants.{Finished}
use Rattle.fm_operations.specs.declared.action.FlowAction.TheVariants as action
use Rattle.fm_world.specs.World.{World}
use Rattle.fm_callback_data.specs.declared.verdict.PreVerdict.{PreVerdict}
use Rattle.fm_core.specs.Passing.{Passes, PassesDown, PassesUp, numbered}
use Rattle.fm_core.specs.declared.passing.Passed.{Passed}
use Rattle.fm_core.specs.declared.passing.Passed.TheVariants as passed
use Rattle.fm_session.specs.declared.lent.Lent.{Lent}
use Rattle.fm_session.specs.declared.lent.Lent.TheVariants as lent
use Rattle.fm_session.specs.Sessions.{Lending, LentPasses, LentPassesDown, LentPassesUp, ReturnsPost, ReturnsPre, lend, lent_to, post_in, pre_in}

-- what is lent is there
lent_there : (all : List Lent) (k : WorkerId) (what : Lent) → k.0 < length all → lent_to (lend all k what) k ≡ what
lent_there all k what within = get_or-set_same all k.0 what lent.Nothing within

passes_down : (old now new : Lending) (w : World) (k : WorkerId) (o : OpId) (i : InstanceId) (completion : Completion) → old ≡ now
    → new ≡ record { world = w; lent = lend old.lent k lent.Nothing } → k.0 < length old.lent → PassesDown old.world k o i completion w
    → LentPassesDown now k o i completion new
passes_down old now new w k o i completion now_is new_is within (own, mid, nexts, returns) =
    let between : Lending = record { world = mid; lent = lend old.lent k (lent.Pre own) } in
    let after : Lending = record { world = w; lent = lend old.lent k lent.Nothing } in
    subst (λ (x : Lending). LentPassesDown x k o i completion new) now_is
    (subst (LentPassesDown old k o i completion) (sym new_is) (
      between,
      (Ok (action.Pre i own), nexts, refl, refl),
      subst (ReturnsPre between k (WithCallback completion) (Ok tt) after) (sym (ap pre_in (lent_there old.lent k (lent.Pre own) within)))
          (returns, sym (set-set old.lent k.0 (lent.Pre own) lent.Nothing)),
    ))

passes_up : (old now new : Lending) (w : World) (k : WorkerId) (o : OpId) (i : InstanceId) → old ≡ now
    → new ≡ record { world = w; lent = lend old.lent k lent.Nothing } → k.0 < length old.lent → PassesUp old.world k o i w → LentPassesUp now k o i new
passes_up old now new w k o i now_is new_is within (own, completion, mid, nexts, returns) =
    let between : Lending = record { world = mid; lent = lend old.lent k (lent.Post own) } in
    let after : Lending = record { world = w; lent = lend old.lent k lent.Nothing } in
    subst (λ (x : Lending). LentPassesUp x k o i new) now_is
    (subst (LentPassesUp old k o i) (sym new_is) (
      completion,
      between,
      (Ok (action.Post i own completion), nexts, refl, refl),
      subst (ReturnsPost between k Finished (Ok tt) after) (sym (ap post_in (lent_there old.lent k (lent.Post own) within)))
          (returns, sym (set-set old.lent k.0 (lent.Post own) lent.Nothing)),
    ))

pub passes : (old now new : Lending) (w : World) (k : WorkerId) (o : OpId) (verdicts : List PreVerdict) (p : Passed) → old ≡ now
    → new ≡ record { world = w; lent = lend old.lent k lent.Nothing } → k.0 < length old.lent → Passes old.world k o verdicts (Some p) w
    → LentPasses now k o verdicts (Some p) new
passes old now new w k o verdicts (passed.Down i n) now_is new_is within (answer, event) =
    (answer, passes_down old now new w k o i (numbered n) now_is new_is within event)
passes old now new w k o verdicts (passed.Up i) now_is new_is within event = passes_up old now new w k o i now_is new_is within event
