use Rattle.fm_operations.proofs.Words.{sym, ap, is_creating, is_full, FlowRecord}
use Rattle.std.proofs.Common.{◌∙◌}
use Rattle.fm_operations.proofs.Requests.{flow_begins, tally_begun}
use Rattle.fm_operations.proofs.flow.Flow.begin.Goals as goal

pub invariant_of-self-2 : goal.invariant_of-self-2
invariant_of-self-2 c =
    let full = ap is_full c.self.view_is ∙ sym c.is_full.ensures ∙ c.if-is_full.false in
    let made = c.in_ok-record-2.ensures ∙ c.in_ok-record.ensures in
    let is = ap (λ (r : FlowRecord). r.collected) made in
    let fresh = ap (λ (r : FlowRecord). r.entries) made in
    let creates = c.is_creating-is_creating.ensures ∙ ap is_creating (sym c.in_ok-record-2.ensures) in (
      rw (c.in_ok-push.ensures.items, made) (flow_begins c.args.volume c.args.stream c.args.handle c.args.born c.args.path
          c.args.params _ c.requires.file c.requires.limits c.self.invariant.0 full),
      rw c.in_ok-push.ensures.items (tally_begun _ _ c.self.invariant.1 fresh is c.recounted-self-inside.ensures creates),
    )
