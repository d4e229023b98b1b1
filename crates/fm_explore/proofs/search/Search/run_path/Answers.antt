use Rattle.std.proofs.Common.{subst}
use Rattle.std.proofs.lemmas.Result.{IfOk-weaker}
use Rattle.fm_explore.specs.Orders.{TookPath}
use Rattle.fm_explore.proofs.search.Search.run_path.Goals as goal

pub returns : goal.returns
returns g c = record {
  goes = IfOk-weaker c.take_run.result _ _
      (λ next went none.
      let made = went none in (
        made.0,
        subst (λ chooser. TookPath chooser made.0.choices) c.in_ok-run.ensures.order.0 made.1,
        made.2,
        made.3,
      ))
      (c.take_run.ensures.goes c.in_ok-run.ensures.order.2);
}
