use Rattle.fm_local.proofs.Words.{◌+◌, ◌∙◌, ap, sym, true≢false, numbered, WORKER}
use Rattle.fm_local.proofs.instances.Drains.{drains_end, drains_more}
use Rattle.fm_local.proofs.operations.AnyTurns.{calls_both}
use Rattle.fm_local.proofs.parts.Parts.drain_all.Goals as goal

pub loop-instance-preserved : goal.loop-instance-preserved
loop-instance-preserved g c =
    let old = c.args.self.now in
    let now = c.loop-instance.self in
    let told = c.loop-instance-test.true in
    let (n, many) = c.loop-instance.invariant.1 in (
      λ none.
          let still = ap (λ m. m.work.state.flow.operations) (c.loop-instance.invariant.0 none) ∙ none in
          absurd (true≢false (sym told ∙ (c.drain_first.ensures.none still).0)),
      (
        n + 1,
        drains_more g.F.Minifilter.drained (numbered c.args.self.now.filters) WORKER c.args.instance n old.work.state now.work.state
            c.drain_first.new.self.work.state many c.drain_first.result told
            (rw (ap (λ m. m.filters) c.loop-instance.invariant.2) at c.drain_first.ensures.drains),
      ),
      calls_both old now c.drain_first.new.self c.loop-instance.invariant.2 c.drain_first.ensures.kept,
      λ out. c.drain_first.ensures.out (c.loop-instance.invariant.3 out),
      λ waits. c.drain_first.ensures.waits (c.loop-instance.invariant.4 waits),
    )

pub loop-instance-smaller : goal.loop-instance-smaller
loop-instance-smaller g c = c.drain_first.ensures.less c.loop-instance-test.true

pub returns-clause-drains : goal.returns-clause-drains
returns-clause-drains g c =
    let (n, many) = c.loop-instance.invariant.1 in
    drains_end g.F.Minifilter.drained (numbered c.args.self.now.filters) WORKER c.args.instance n c.args.self.now.work.state
    c.loop-instance.self.work.state c.drain_first.new.self.work.state many c.drain_first.result
    c.loop-instance-test.false (rw (ap (λ m. m.filters) c.loop-instance.invariant.2) at c.drain_first.ensures.drains)

pub returns-clause-out : goal.returns-clause-out
returns-clause-out g c out = c.drain_first.ensures.out (c.loop-instance.invariant.3 out)

pub returns-clause-kept : goal.returns-clause-kept
returns-clause-kept g c = calls_both c.args.self.now c.loop-instance.self c.drain_first.new.self c.loop-instance.invariant.2 c.drain_first.ensures.kept

pub returns-clause-waits : goal.returns-clause-waits
returns-clause-waits g c waits =
    c.drain_first.ensures.waits (c.loop-instance.invariant.4 waits)
