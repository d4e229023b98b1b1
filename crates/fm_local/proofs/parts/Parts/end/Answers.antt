use Rattle.fm_local.proofs.Words.{Err, Parts, Ok, ap, inl, inr, refl, err_from_is_err_and, WORKER}
use Rattle.fm_local.proofs.queues.Places.{emptied_out, ended_out, still_out}
use Rattle.fm_local.proofs.instances.NoneDue.{none_emptied, none_ended}
use Rattle.fm_local.proofs.queues.SameOperations as unmoved
use Rattle.fm_local.proofs.queues.ManagerWaits.{same_flow}
use Rattle.fm_local.proofs.parts.Parts.end.Goals as goal

pub returns-in_err-tear_down_all-clause-settles : goal.returns-in_err-tear_down_all-clause-settles
returns-in_err-tear_down_all-clause-settles g c =
    let exit = err_from_is_err_and c.from_residual.result c.from_residual.ensures.1 in
    rw (exit.1, exit.2) (inl (refl, c.in_err-tear_down_all.ensures.tears))

pub returns-in_err-empty_filter-clause-settles : goal.returns-in_err-empty_filter-clause-settles
returns-in_err-empty_filter-clause-settles g c =
    let exit = err_from_is_err_and c.from_residual-in_err-empty_filter.result c.from_residual-in_err-empty_filter.ensures.1 in
    rw (exit.1, exit.2) (inr (c.tear_down_all.new.self, c.in_ok-tear_down_all.ensures.tears, inl (refl, c.in_err-empty_filter.ensures.event, refl)))

pub returns-clause-settles : goal.returns-clause-settles
returns-clause-settles g c =
    let ended = c.finish_filter.new.self in
    let kept = ap (λ (m : Parts g.row.F.Denot g.row.B.Denot). record m { work = record m.work { state = ended } }) c.clean_up.ensures.kept in
    inr (
      c.tear_down_all.new.self,
      c.in_ok-tear_down_all.ensures.tears,
      inr (
        c.empty_filter.new.self,
        c.clean_up.new.self.work.state,
        c.in_ok-empty_filter.ensures.event,
        c.clean_up.ensures.cleans,
        c.finish_filter.ensures.event,
        kept,
      ),
    )

pub returns-in_err-empty_filter-clause-between : goal.returns-in_err-empty_filter-clause-between
returns-in_err-empty_filter-clause-between g c before =
    let event = c.in_err-empty_filter.ensures.event in
    let refused = c.empty_filter.new.self in
    let why = c.in_err-empty_filter.field-0.0 in
    let torn = c.in_ok-tear_down_all.ensures.between before in
    record {
      waits = same_flow _ _ _ _ (unmoved.filter_emptied c.tear_down_all.new.self.work.state refused c.args.filter (Err why) event) torn.waits;
      out = emptied_out WORKER c.tear_down_all.new.self.work.state c.args.filter (Err why) refused event torn.out;
      none_due = none_emptied WORKER c.tear_down_all.new.self.work.state c.args.filter why refused event torn.none_due;
    }

pub returns-clause-between : goal.returns-clause-between
returns-clause-between g c before =
    let event = c.in_ok-empty_filter.ensures.event in
    let emptied = c.empty_filter.new.self in
    let torn = c.in_ok-tear_down_all.ensures.between before in
    let tidy = c.clean_up.new.self.work.state in
    let ended = c.finish_filter.ensures.event in
    let out = emptied_out WORKER c.tear_down_all.new.self.work.state c.args.filter (Ok tt) emptied event torn.out in
    let waits = same_flow _ _ _ _ (unmoved.filter_emptied c.tear_down_all.new.self.work.state emptied c.args.filter (Ok tt) event) torn.waits in
    record {
      waits = same_flow _ _ _ _ (unmoved.filter_finished tidy c.finish_filter.new.self c.args.filter c.finish_filter.result ended)
          (c.clean_up.ensures.waits waits);
      out = ended_out WORKER tidy c.args.filter c.finish_filter.result c.finish_filter.new.self ended
          (still_out WORKER emptied tidy c.clean_up.ensures.tidies.workers out);
      none_due = none_ended WORKER tidy c.args.filter c.finish_filter.result c.finish_filter.new.self ended c.clean_up.ensures.none;
    }
