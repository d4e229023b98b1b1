use Rattle.fm_local.proofs.Words.{◌∙◌, inl, refl, sym, WORKER, RESUMPTIONS, TURNS}
use Rattle.fm_local.proofs.operations.AnyTurns.{carries_all, carries_more, carries_most, ends_first, head, none_left}
use Rattle.fm_local.proofs.queues.ManagerWaits.{emptied_waits, take_waits}
use Rattle.fm_local.proofs.parts.Parts.carry_on_resumed.Goals as goal

pub returns-then-is_empty-clause-all : goal.returns-then-is_empty-clause-all
returns-then-is_empty-clause-all g c = (0, c.args.self.now, refl, (refl, refl), inl (c.is_empty.ensures.0 c.if-is_empty.true))

pub returns-in-None-clause-all : goal.returns-in-None-clause-all
returns-in-None-clause-all g c =
    let now = c.loop-made.self in
    let new = record now { work = record now.work { resumed = c.take.new.self } } in
    carries_all g.F.Minifilter g.B.Base WORKER TURNS c.args.self.now now c.loop-made._made c.loop-made.invariant.2 RESUMPTIONS new
    (sym c.take.ensures.first ∙ c.in-None.is) c.take.ensures.rest refl

pub loop-made-preserved : goal.loop-made-preserved
loop-made-preserved g c =
    let old = c.args.self.now in
    let now = c.loop-made.self in
    let taken = record now { work = record now.work { resumed = c.take.new.self } } in
    let first = sym c.take.ensures.first ∙ c.in-Some.is in (
      λ o waits.
          ends_first g.F.Minifilter g.B.Base WORKER old now taken c.carry_on.new.self c.loop-made._made o c.in-Some.operation waits
          (c.loop-made.invariant.0 o waits) first c.take.ensures.rest refl c.carry_on.ensures.at_end,
      λ out. c.carry_on.ensures.out (c.loop-made.invariant.1 out),
      carries_more g.F.Minifilter g.B.Base WORKER TURNS old now c.loop-made._made c.loop-made.invariant.2 c.in-Some.operation taken
          c.carry_on.new.self first c.take.ensures.rest refl c.carry_on.ensures.goes,
      c.carry_on.ensures.filters ∙ c.loop-made.invariant.3,
      λ waits.
          let here = take_waits now.work.state.flow c.in-Some.operation now.work.resumed.items.items c.take.new.self.items.items now.finished.items.items
          (head c.in-Some.operation now.work.resumed.items.items c.take.new.self.items.items first c.take.ensures.rest) (c.loop-made.invariant.4 waits) in
          c.carry_on.ensures.waits here.0 (here.1, here.2),
    )

pub returns-clause-all : goal.returns-clause-all
returns-clause-all g c =
    carries_most g.F.Minifilter g.B.Base WORKER TURNS c.args.self.now c.loop-made.self c.loop-made._made c.loop-made.invariant.2
    RESUMPTIONS c.loop-made-test.false

pub returns-in-None-clause-waits : goal.returns-in-None-clause-waits
returns-in-None-clause-waits g c waits =
    let now = c.loop-made.self in
    emptied_waits now.work.state.flow now.work.resumed.items.items c.take.new.self.items.items now.finished.items.items
    (none_left now.work.resumed.items.items c.take.new.self.items.items (sym c.take.ensures.first ∙ c.in-None.is) c.take.ensures.rest)
    (c.loop-made.invariant.4 waits)

pub returns-clause-waits : goal.returns-clause-waits
returns-clause-waits g c =
    c.loop-made.invariant.4
