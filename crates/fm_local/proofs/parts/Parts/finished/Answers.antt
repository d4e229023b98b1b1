use Rattle.fm_local.proofs.Words.{None, Ok, World, ap, subst, sym, StaysOut, WORKER, Parts}
use Rattle.fm_local.specs.Cleanups.{LeavesNoneDue}
use Rattle.fm_local.proofs.instances.NoneDue.{none_collected}
use Rattle.fm_local.proofs.queues.Places.{collected_out}
use Rattle.fm_local.proofs.queues.FirstEnded.{hands_out, waits_without}
use Rattle.fm_local.specs.Waits.{Waiting}
use Rattle.fm_local.specs.Between.{IsBetween}
use Rattle.fm_local.proofs.parts.Parts.finished.Goals as goal

pub returns-clause-any : goal.returns-clause-any
returns-clause-any g c = rw c.hand_out.ensures.kept (c.in_ok-operation.answer, c.in_ok-operation.ensures.takes, c.hand_out.ensures.reply)

pub returns-clause-first : goal.returns-clause-first
returns-clause-first g c waits =
    hands_out c.args.self.now _ waits _ (returns-clause-any g c)

pub returns-in_err-operation-clause-first : goal.returns-in_err-operation-clause-first
returns-in_err-operation-clause-first g c waits =
    rw c.from_residual.ensures (hands_out c.args.self.now c.take_done.new.self waits None c.in_err-operation.ensures.takes)

pub returns-clause-between : goal.returns-clause-between
returns-clause-between g c before =
    let (passed, is, none, collects) = c.in_ok-operation.ensures.takes in
    let done = c.take_done.new.self in
    let taken : IsBetween (record done { trace = c.hand_out.new.self.trace }) = record {
      waits = waits_without c.args.self.now done before.waits c.in_ok-operation.operation c.in_ok-operation.answer
          c.in_ok-operation.ensures.takes (ap (λ m. m.work.resumed) c.in_ok-operation.ensures.kept);
      out = collected_out WORKER c.args.self.now.work.state c.in_ok-operation.operation (Ok c.in_ok-operation.answer) done.work.state collects before.out;
      none_due = none_collected WORKER c.args.self.now.work.state c.in_ok-operation.operation
          (Ok c.in_ok-operation.answer) done.work.state collects before.none_due;
    } in
    subst (λ (m : Parts g.row.F.Denot g.row.B.Denot). IsBetween m) (sym c.hand_out.ensures.kept) taken
