use Rattle.fm_ctx.proofs.Words.{length, refl, sym, ap, ap₂, subst, arith, hand_of, ContextsKept, carried_of}
use Rattle.std.proofs.Common.{◌+◌, ◌-◌, ◌^◌, ◌<◌, ◌∙◌, min}
use Rattle.fm_ctx.proofs.Bags.{first_held}
use Rattle.fm_ctx.proofs.Leaving.{LeavesSome, leave_none, leave_more, leave_all, no_first, hand_shorter}
use Rattle.fm_ctx.proofs.Sound.{sound_beside}
use Rattle.fm_ctx.proofs.contexts.Contexts.release_left.Goals as goal

pub loop-id-init : goal.loop-id-init
loop-id-init c = leave_none c.args.self.now c.args.worker.0 c.laws.ensures.lawful.workers

pub loop-id-smaller : goal.loop-id-smaller
loop-id-smaller c =
    let held = c.loop-id.self in
    let has = first_held (hand_of held.table.hands c.args.worker.0) c.in-Some.id (sym c.in-Some.ensures) in
    let shorter = hand_shorter (carried_of held) held.table c.args.worker.0 c.in-Some.id (omega (arith, c.loop-id.invariant.workers, c.requires.worker)) has in
    subst (λ (k : ContextsKept). length (hand_of k.table.hands c.args.worker.0) < length (hand_of held.table.hands c.args.worker.0))
    (sym c.let_go.ensures) shorter

pub loop-id-preserved : goal.loop-id-preserved
loop-id-preserved c =
    let has = first_held (hand_of c.loop-id.self.table.hands c.args.worker.0) c.in-Some.id (sym c.in-Some.ensures) in
    subst (λ (k : ContextsKept). LeavesSome c.args.self.now k c.args.worker.0) (sym c.let_go.ensures)
    (leave_more c.in-Some.id c.loop-id.invariant c.requires.worker has)

pub invariant_of-self : goal.invariant_of-self
invariant_of-self c = record {
  sound = sound_beside c.self.invariant.sound c.saturating_add-self-inside.result c.self.inside.left.items refl;
  seated = c.self.invariant.seated;
  placed = c.self.invariant.placed;
  account = c.self.invariant.account;
}

pub returns-clause-table : goal.returns-clause-table
returns-clause-table c =
    let so_far = subst (λ (k : ContextsKept). LeavesSome c.args.self.now k c.args.worker.0) (sym c.self.view_is) c.loop-id.invariant in
    let empty = ap (λ (k : ContextsKept). hand_of k.table.hands c.args.worker.0) c.self.view_is
    ∙ no_first (hand_of c.loop-id.self.table.hands c.args.worker.0) c.in_default.ensures in
    let counted = c.saturating_add-self-inside.ensures ∙ ap₂ (λ n k. min (n + k) (2 ^ 64 - 1))
    (ap (λ (k : ContextsKept). k.table.leaks) so_far.rest) c.hand_len-left.ensures in
    leave_all c.saturating_add-self-inside.result so_far c.requires.noted empty counted
