use Rattle.fm_ctx.proofs.Words.{ℕ, List, None, false, length, refl, ap, subst, arith, nat_tests, Row, hand_of, kept_allocated, ContextsKept}
use Rattle.fm_ctx.proofs.Words.{context_of, kept_in, slot_of, length-map, IsNew, IsFresh}
use Rattle.std.proofs.Common.{◌≡◌, ◌<◌, ◌∙◌, rules}
use Rattle.fm_ctx.specs.Births.{new_context}
use Rattle.fm_ctx.specs.DueLists.{Waiting}
use Rattle.fm_ctx.proofs.Sound.{sound_now, sound_as}
use Rattle.fm_ctx.proofs.Shown.{shown}
use Rattle.fm_ctx.proofs.Newborn.{sound_allocated, slots_put, carried_put}
use Rattle.fm_ctx.proofs.contexts.Contexts.allocate.Goals as goal

pub place-requires : goal.place-requires
place-requires c = record {
  few = omega (arith, c.self.invariant.sound.lawful.few, length-map c.self.inside.rows slot_of);
  account = c.self.invariant.account;
  seated = c.self.invariant.seated;
  placed = c.self.invariant.placed;
  fresh = record { count = refl; carried = refl; link = refl; open_yet = refl };
  opens = refl;
}

-- the new row
abbrev row_of : goal.After-put → Row
row_of c = record {
  generation = 0;
  kind = c.args.kind;
  owner = c.args.owner;
  volume = c.args.volume;
  body = c.into_vec.result.items;
  link = None;
  count = 1;
  carried = 0;
  is_cleaned = false;
}

fresh : (c : goal.After-put) → IsFresh (row_of c)
fresh c = record { count = refl; carried = refl; link = refl; open_yet = refl }

shows : (c : goal.After-put)
    → kept_in c.place.new.rows c.put.new.hands.items c.place.new.due.ids c.self.inside.cleaning.items c.self.inside.leaks c.self.inside.left.items
    ≡ kept_allocated c.args.self.now c.args.worker.0 c.in-Ok.id (context_of (row_of c))
shows c =
    let rows = c.self.inside.rows in
    let put = c.in-Ok.ensures.ok in
    shown _ c.self.inside.leaks put.1 (slots_put rows c.in-Ok.id (row_of c) put.0 (fresh c)) (carried_put rows c.in-Ok.id (row_of c) put.0 (fresh c))
    c.put.ensures (ap (λ (w : Waiting). w.ids) c.in-Ok.ensures.placed) refl
    ∙ ap (λ (k : ContextsKept). kept_allocated k c.args.worker.0 c.in-Ok.id (context_of (row_of c))) c.self.view_is

pub invariant_of-self-2 : goal.invariant_of-self-2
invariant_of-self-2 c =
    let rows = c.self.inside.rows in
    let put = c.in-Ok.ensures.ok in
    let room : length (hand_of c.args.self.now.table.hands c.args.worker.0) < 16 = grind (arith, nat_tests, c.if-is_hand_full.ensures) in
    record {
      sound = sound_as put.1 (shows c) (sound_allocated c.args.worker.0 (row_of c) c.in-Ok.id
          (sound_now c.self.invariant c.self.view_is) c.self.view_is c.requires put.0 (fresh c) room);
      seated = c.in-Ok.ensures.seated;
      placed = ap (λ (w : Waiting). w.slots) c.in-Ok.ensures.placed;
      account = c.in-Ok.ensures.account;
    }

pub returns : goal.returns
returns c =
    let now = c.args.self.now in
    let told = ap (λ (body : List ℕ). kept_allocated now c.args.worker.0 c.in-Ok.id
    (new_context c.args.kind c.args.owner c.args.volume body)) c.into_vec.ensures in
    (search rules, (subst (λ (k : ContextsKept). IsNew k.table.slots c.in-Ok.id) c.self.view_is c.in-Ok.ensures.ok.0, shows c ∙ told))
