use Rattle.fm_local.proofs.Words.{◌∙◌, refl, sym, WORKER}
use Rattle.fm_local.proofs.instances.Ready.{goes_on_leaving, torn_ok}
use Rattle.fm_local.proofs.parts.Parts.tear_down_if.Goals as goal

pub returns-then-is_to_go-clause-quiet : goal.returns-then-is_to_go-clause-quiet
returns-then-is_to_go-clause-quiet g c plain rests settled =
    let old = c.args.self.now.work.state in
    let new = c.tear_down.new.self.work.state in
    let goes = sym c.is_to_go.ensures ∙ c.if-is_to_go.true in
    let ok = c.tear_down.ensures.goes plain rests settled (goes_on_leaving c.args.filter old c.args.instance goes) in
    let tears = c.tear_down.ensures.quiet plain rests settled in (
      ok,
      rw goes (torn_ok WORKER c.args.instance old c.tear_down.result new ok tears.0),
      tears.1,
    )

pub returns-then-is_to_go-clause-tears : goal.returns-then-is_to_go-clause-tears
returns-then-is_to_go-clause-tears g c =
    rw (sym c.is_to_go.ensures ∙ c.if-is_to_go.true) c.tear_down.ensures.tears

pub returns-clause-tears : goal.returns-clause-tears
returns-clause-tears g c =
    rw (sym c.is_to_go.ensures ∙ c.if-is_to_go.false) (refl, refl)
