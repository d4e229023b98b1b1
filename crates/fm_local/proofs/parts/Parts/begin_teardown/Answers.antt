use Rattle.fm_local.proofs.Words.{Parts, ◌∙◌, ap, inl, inr, subst, sym}
use Rattle.fm_local.proofs.instances.Ready.{settled_after}
use Rattle.fm_local.specs.Between.{IsBetween}
use Rattle.fm_local.proofs.parts.Parts.begin_teardown.Goals as goal

pub returns-then-start_and_drain-clause-drains : goal.returns-then-start_and_drain-clause-drains
returns-then-start_and_drain-clause-drains g c =
    let told = c.start_and_drain.new.self in
    let drains = rw c.if-start_and_drain.true at c.start_and_drain.ensures.drains in
    inr (told, drains, c.start_and_drain.ensures.kept, c.settle.ensures.all)

pub returns-else-start_and_drain-clause-drains : goal.returns-else-start_and_drain-clause-drains
returns-else-start_and_drain-clause-drains g c =
    let not = c.if-start_and_drain.false in
    let refused = rw not at c.start_and_drain.ensures.drains in
    inl (refused.0, refused.1, c.start_and_drain.ensures.none not)

pub returns-then-start_and_drain-clause-quiet : goal.returns-then-start_and_drain-clause-quiet
returns-then-start_and_drain-clause-quiet g c plain rests settled =
    let alone = c.start_and_drain.ensures.quiet plain rests c.if-start_and_drain.true in
    let after =
    settled_after c.args.self.now c.start_and_drain.new.self c.settle.new.self alone.resumed alone.bases alone.filters settled
    c.settle.ensures.tidies c.settle.ensures.kept in
    (inr (alone.started, c.start_and_drain.new.self.work.state, alone.starts, alone.returns, after.0), after.1)

pub returns-else-start_and_drain-clause-quiet : goal.returns-else-start_and_drain-clause-quiet
returns-else-start_and_drain-clause-quiet g c plain rests settled =
    let not = c.if-start_and_drain.false in
    let same = c.start_and_drain.ensures.none not in
    let refused = rw not at c.start_and_drain.ensures.drains in
    (inl refused, record { bases = ap (λ m. m.bases) same; filters = ap (λ m. m.filters) same; settled = ap (λ m. m.work.resumed.items.items) same ∙ settled })

pub returns-then-start_and_drain-clause-between : goal.returns-then-start_and_drain-clause-between
returns-then-start_and_drain-clause-between g c before =
    record {
      waits = c.settle.ensures.waits (c.start_and_drain.ensures.waits before.waits);
      out = c.settle.ensures.out (c.start_and_drain.ensures.out before.out);
      none_due = c.settle.ensures.none_due;
    }

pub returns-else-start_and_drain-clause-between : goal.returns-else-start_and_drain-clause-between
returns-else-start_and_drain-clause-between g c before =
    subst (λ (m : Parts g.row.F.Denot g.row.B.Denot). IsBetween m) (sym (c.start_and_drain.ensures.none c.if-start_and_drain.false)) before
