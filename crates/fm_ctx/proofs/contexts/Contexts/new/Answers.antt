use Rattle.std.proofs.Common.{◌≡◌, ◌∙◌}
use Rattle.fm_ctx.proofs.Words.{List, length, [], Option, None, replicate, refl, sym, ap, arith, CtxId, Row, seats_of, lives_of, subst}
use Rattle.fm_ctx.specs.DueLists.{Waiting}
use Rattle.fm_ctx.specs.Generations.{IsAccount}
use Rattle.fm_ctx.specs.Kept.{nothing_kept}
use Rattle.fm_ctx.specs.Table.{empty_table}
use Rattle.fm_ctx.proofs.Sound.{sound_as}
use Rattle.fm_ctx.proofs.Shown.{shown}
use Rattle.fm_ctx.proofs.Accounts.{account_none}
use Rattle.fm_ctx.proofs.Opening.{sound_empty}
use Rattle.fm_ctx.proofs.contexts.Contexts.new.Goals as goal

pub invariant_of-result : goal.invariant_of-result
invariant_of-result c =
    let all : c.loop-worker._worker ≡ 48 = omega arith in
    let hands = c.loop-worker.invariant.hands ∙ ap (λ n. replicate {A = List CtxId} n []) all in
    let cleaning = c.loop-worker.invariant.cleaning ∙ ap (λ n. replicate {A = Option CtxId} n None) all in
    let left = c.loop-worker.invariant.left ∙ ap (λ n. replicate {A = List CtxId} n []) all in
    let shows = shown [] 0 c.new-2.ensures refl refl hands (ap (λ (w : Waiting). w.ids) c.in_ok-new-3.ensures) cleaning
    ∙ ap (λ (ids : List (List CtxId)). record nothing_kept { table = record empty_table { left = ids } }) left in
    record {
      sound = sound_as c.new-2.ensures shows sound_empty;
      seated = c.in_ok-new-2.ensures ∙ sym (ap seats_of c.new-2.ensures);
      placed = ap (λ (w : Waiting). w.slots) c.in_ok-new-3.ensures ∙ sym (ap length c.new-2.ensures);
      account = subst (λ (rows : List Row). IsAccount (lives_of rows) (record { born = 0; living = 0 })) (sym c.new-2.ensures) (account_none refl refl);
    }
