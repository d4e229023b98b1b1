use Rattle.std.proofs.Common.{◌∙◌, ◌+◌}
use Rattle.fm_ctx.proofs.Words.{ℕ, ap, arith, lives_of, length-map, life_of, sym, subst}
use Rattle.fm_ctx.specs.DueLists.{Waiting}
use Rattle.fm_ctx.specs.Generations.{IsAccount}
use Rattle.fm_ctx.specs.Stored.{open_row}
use Rattle.fm_ctx.proofs.Accounts.{few_born}
use Rattle.fm_ctx.proofs.Newborn.{account_put, seats_put_first, seats_put_again, long_first, long_again}
use Rattle.fm_ctx.proofs.contexts.place.Goals.{then-id-slots, else-id-slots}
use Rattle.fm_ctx.proofs.contexts.place.Goals as goal

pub begin-requires-clause-born : goal.begin-requires-clause-born
begin-requires-clause-born c = omega (arith, few_born c.requires.account (omega (arith, c.requires.few, length-map c.args.rows.now life_of)))

pub returns-clause-account : goal.returns-clause-account
returns-clause-account c =
    subst (IsAccount (lives_of c.put.new.self)) (sym c.begin.ensures)
    (account_put c.args.rows.now c.put.new.self c.in_ok-id.id (open_row 0 c.args.entry) c.in_ok-id.ensures.ok c.requires.fresh c.requires.account)

pub returns-clause-seated : goal.returns-clause-seated
returns-clause-seated c =
    let rows = c.args.rows.now in
    let r = open_row 0 c.args.entry in
    elim c.if-id-slots.branch [
      | then-id-slots w ↦
          w.seats-is ∙ seats_put_first rows c.put.new.self c.in_ok-id.id r c.in_ok-id.ensures.ok c.requires.fresh
          (omega (arith, w.if-id-slots.true, c.len-slots.ensures)) c.requires.seated w.add.ensures
      | else-id-slots w ↦
          w.seats-is ∙ seats_put_again rows c.put.new.self c.in_ok-id.id r c.in_ok-id.ensures.ok c.requires.fresh
          (λ past. omega (arith, past, w.if-id-slots.false, c.len-slots.ensures)) c.requires.seated
    ]

pub returns-clause-placed : goal.returns-clause-placed
returns-clause-placed c =
    let rows = c.args.rows.now in
    let r = open_row 0 c.args.entry in
    let with_slots : ℕ → Waiting = λ n. record c.args.due.now { slots = n } in
    elim c.if-id-slots.branch [
      | then-id-slots w ↦
          let long = long_first rows c.put.new.self c.in_ok-id.id r c.in_ok-id.ensures.ok c.requires.fresh
          (omega (arith, w.if-id-slots.true, c.len-slots.ensures)) in
          w.due-is ∙ w.add-then-id-slots.ensures ∙ ap (λ n. with_slots (n + 1)) c.requires.placed ∙ ap with_slots (sym long)
      | else-id-slots w ↦
          let long = long_again rows c.put.new.self c.in_ok-id.id r c.in_ok-id.ensures.ok c.requires.fresh
          (λ past. omega (arith, past, w.if-id-slots.false, c.len-slots.ensures)) in
          w.due-is ∙ ap with_slots (c.requires.placed ∙ sym long)
    ]
