use Rattle.fm_local.specs.Waits.{Waiting}
use Rattle.fm_local.proofs.Words.{Parts, subst, sym, numbered, WORKER, Err, Ok}
use Rattle.fm_local.specs.Calls.{MayAgree}
use Rattle.fm_local.proofs.instances.Rest.{ask_unload_refused}
use Rattle.fm_local.proofs.queues.Places.{same_out, unload_out, unloading_in}
use Rattle.fm_local.proofs.instances.NoneDue.{none_agreed, none_refused}
use Rattle.fm_local.proofs.queues.SameOperations as unmoved
use Rattle.fm_local.proofs.queues.ManagerWaits.{same_flow}
use Rattle.fm_local.proofs.parts.Parts.ask_to_unload.Goals as goal

pub returns-in_err-ask_unload-clause-between : goal.returns-in_err-ask_unload-clause-between
returns-in_err-ask_unload-clause-between g c before =
    let event = c.in_err-ask_unload.ensures.event in
    let refused = c.ask_unload.new.self in
    let why = c.in_err-ask_unload.field-0.0 in
    record {
      waits = same_flow _ _ _ _ (unmoved.unload_asked c.args.self.now.work.state refused WORKER c.args.filter (Err why) event) before.waits;
      out = same_out WORKER c.args.self.now.work.state refused
          (ask_unload_refused c.args.self.now.work.state WORKER c.args.filter why refused event) before.out;
      none_due = none_refused WORKER c.args.self.now.work.state c.args.filter why refused event before.none_due;
    }

pub returns-clause-between : goal.returns-clause-between
returns-clause-between g c before =
    let old = c.args.self.now.work.state in
    let asked = c.ask_unload.new.self in
    let event = c.in_ok-ask_unload.ensures.event in
    let may = MayAgree g.F.Minifilter.unload_may (numbered c.args.self.now.filters c.args.filter.0) in
    let (allows, answer, returns) = c.unloading.ensures.event in
    let waited = same_flow _ _ _ _ (unmoved.unload_asked old asked WORKER c.args.filter (Ok tt) event) before.waits in
    record {
      waits = subst (λ (m : Parts g.row.F.Denot g.row.B.Denot). Waiting m) (sym c.unloading.ensures.kept)
          (same_flow _ _ _ _ (unmoved.unloaded asked c.unloading.new.self.work.state WORKER allows c.unloading.result returns) waited);
      out = unload_out WORKER asked c.unloading.new.self.work.state c.unloading.result may c.args.filter
          (unloading_in WORKER old c.args.filter asked event) c.unloading.ensures.event;
      none_due = none_agreed WORKER may old c.args.filter asked event c.unloading.result c.unloading.new.self.work.state
          c.unloading.ensures.event before.none_due;
    }
