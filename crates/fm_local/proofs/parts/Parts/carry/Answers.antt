use Rattle.fm_local.proofs.Words.{ap, refl, WORKER, TURNS}
use Rattle.fm_local.proofs.operations.AnyTurns.{goes_to_end, goes_too_far, turns_more}
use Rattle.fm_local.proofs.operations.ManagerTurns.{gone_none, gone_more, gone_to_end, gone_too_far, far_not_done, done_at_once, kept_both, calm_both}
use Rattle.fm_local.proofs.parts.Parts.carry.Goals as goal

pub loop-made-init : goal.loop-made-init
loop-made-init g c = (gone_none g.F.Minifilter g.B.Base WORKER c.args.operation c.args.self.now, λ out. out, (refl, refl), λ waits apart. (waits, apart))

pub returns-in_default : goal.returns-in_default
returns-in_default g c =
    let turned = c.turn.ensures in
    record {
      carried = gone_to_end g.F.Minifilter g.B.Base WORKER c.args.operation c.args.self.now c.loop-made.self
          c.turn.new.self c.loop-made._made c.loop-made.invariant.0 c.turn.result turned.turned turned.quiet turned.kept turned.at_once c.in_default.not-Goes;
      quiet = calm_both g.F.Minifilter g.B.Base WORKER c.args.operation c.args.self.now c.loop-made.self
          c.turn.new.self c.loop-made._made c.loop-made.invariant.0 c.turn.result turned.turned turned.quiet turned.kept turned.at_once;
      kept = kept_both g.F.Minifilter g.B.Base WORKER c.args.operation c.args.self.now c.loop-made.self
          c.turn.new.self c.loop-made._made c.loop-made.invariant.0 c.turn.result turned.turned turned.quiet turned.kept turned.at_once;
      at_once = done_at_once g.F.Minifilter g.B.Base WORKER c.args.operation c.args.self.now c.loop-made.self
          c.turn.new.self c.loop-made._made c.loop-made.invariant.0 c.turn.result turned.turned turned.quiet turned.kept turned.at_once;
      out = λ out. turned.out (c.loop-made.invariant.1 out);
      waits = λ waits apart. let far = c.loop-made.invariant.3 waits apart in turned.waits far.0 far.1;
      ended = turned.ended;
      goes = goes_to_end g.F.Minifilter g.B.Base WORKER c.args.operation c.args.self.now c.loop-made.self c.turn.new.self
          (ap (λ m. m.filters) c.loop-made.invariant.0.kept) c.loop-made._made c.loop-made.invariant.2
          c.turn.result turned.takes TURNS;
    }

pub loop-made-preserved : goal.loop-made-preserved
loop-made-preserved g c = (
  gone_more g.F.Minifilter g.B.Base WORKER c.args.operation c.args.self.now c.loop-made.self c.turn.new.self
      c.loop-made._made c.loop-made.invariant.0 c.turn.result c.turn.ensures.turned c.turn.ensures.quiet c.turn.ensures.kept
      c.turn.ensures.at_once c.in-Goes.is,
  λ out. c.turn.ensures.out (c.loop-made.invariant.1 out),
  turns_more g.F.Minifilter g.B.Base WORKER c.args.operation c.args.self.now c.loop-made.self c.turn.new.self
      (ap (λ m. m.filters) c.loop-made.invariant.0.kept) c.loop-made._made c.loop-made.invariant.2
      c.turn.result c.turn.ensures.takes c.in-Goes.is,
  λ waits apart. let far = c.loop-made.invariant.3 waits apart in c.turn.ensures.waits far.0 far.1,
)

pub returns-clause-carried : goal.returns-clause-carried
returns-clause-carried g c =
    gone_too_far g.F.Minifilter g.B.Base WORKER c.args.operation c.args.self.now c.loop-made.self
    c.loop-made._made c.loop-made.invariant.0 c.loop-made-test.false

pub returns-clause-quiet : goal.returns-clause-quiet
returns-clause-quiet g c = c.loop-made.invariant.0.calm

pub returns-clause-kept : goal.returns-clause-kept
returns-clause-kept g c = c.loop-made.invariant.0.kept

pub returns-clause-at_once : goal.returns-clause-at_once
returns-clause-at_once g c =
    far_not_done g.F.Minifilter g.B.Base WORKER c.args.operation c.args.self.now c.loop-made.self
    c.loop-made._made c.loop-made.invariant.0 c.loop-made-test.false

pub returns-clause-out : goal.returns-clause-out
returns-clause-out g c = c.loop-made.invariant.1

pub returns-clause-goes : goal.returns-clause-goes
returns-clause-goes g c = goes_too_far g.F.Minifilter g.B.Base WORKER c.args.operation c.args.self.now c.loop-made.self
    c.loop-made._made TURNS c.loop-made.invariant.2 c.loop-made-test.false

pub returns-clause-waits : goal.returns-clause-waits
returns-clause-waits g c =
    c.loop-made.invariant.3
