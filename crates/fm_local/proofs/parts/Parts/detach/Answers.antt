use Rattle.fm_local.proofs.Words.{◌∙◌, inl, inr, refl, sym, err_from_is_err_and, AgreesAt, WORKER}
use Rattle.fm_local.proofs.instances.Detaches.{agreed_leaving}
use Rattle.fm_local.proofs.instances.Ready.{detached_leaves, kept_leaves, torn_leaves_ready, asked_still}
use Rattle.fm_local.proofs.parts.Parts.detach.Goals as goal

pub returns-then-is_leaving-clause-ready : goal.returns-then-is_leaving-clause-ready
returns-then-is_leaving-clause-ready g c ready =
    torn_leaves_ready c.args.instance c.args.self.now ready c.tear_down.result
    c.tear_down.new.self (c.tear_down.ensures.quiet ready.plain ready.rests ready.settled)

pub returns-then-is_leaving-clause-quiet : goal.returns-then-is_leaving-clause-quiet
returns-then-is_leaving-clause-quiet g c ready =
    let leaves = sym c.is_leaving.ensures ∙ c.if-is_leaving.true in
    rw leaves (c.tear_down.ensures.goes ready.plain ready.rests ready.settled leaves, (c.tear_down.ensures.quiet ready.plain ready.rests ready.settled).0)

pub returns-in_err-ask-clause-ready : goal.returns-in_err-ask-clause-ready
returns-in_err-ask-clause-ready g c ready =
    kept_leaves c.args.instance c.args.self.now ready
    (AgreesAt g.F.Minifilter.query_may c.args.self.now.filters) c.in_err-ask.field-0.0 c.ask.new.self (c.in_err-ask.ensures.quiet ready.plain ready.settled)

pub returns-clause-quiet : goal.returns-clause-quiet
returns-clause-quiet g c ready =
    let old = c.args.self.now in
    let may = AgreesAt g.F.Minifilter.query_may old.filters in
    let asks = c.in_ok-ask.ensures.quiet ready.plain ready.settled in
    let still = asked_still c.args.instance old ready may c.ask.new.self asks in
    let tears = c.tear_down-2.ensures.quiet still.plain still.rests still.settled in
    let leaves = agreed_leaving WORKER c.args.instance old.work.state ready.rests.idle may c.ask.new.self.work.state asks.0 in
    let ok = c.tear_down-2.ensures.goes still.plain still.rests still.settled leaves in
    rw (sym c.is_leaving.ensures ∙ c.if-is_leaving.false) (inr (c.ask.new.self.work.state, asks.0, ok, tears.0))

pub returns-clause-ready : goal.returns-clause-ready
returns-clause-ready g c ready =
    let old = c.args.self.now in
    let may = AgreesAt g.F.Minifilter.query_may old.filters in
    let asks = c.in_ok-ask.ensures.quiet ready.plain ready.settled in
    let still = asked_still c.args.instance old ready may c.ask.new.self asks in
    detached_leaves c.args.instance old ready may c.ask.new.self asks c.tear_down-2.result
    c.tear_down-2.new.self (c.tear_down-2.ensures.quiet still.plain still.rests still.settled)

pub returns-in_err-ask-clause-quiet : goal.returns-in_err-ask-clause-quiet
returns-in_err-ask-clause-quiet g c ready =
    let exit = err_from_is_err_and c.from_residual.result c.from_residual.ensures.1 in
    rw (exit.1, exit.2, sym c.is_leaving.ensures ∙ c.if-is_leaving.false) (inl (refl, (c.in_err-ask.ensures.quiet ready.plain ready.settled).0))

pub returns-then-is_leaving-clause-settles : goal.returns-then-is_leaving-clause-settles
returns-then-is_leaving-clause-settles g c =
    rw (sym c.is_leaving.ensures ∙ c.if-is_leaving.true) c.tear_down.ensures.tears

pub returns-in_err-ask-clause-settles : goal.returns-in_err-ask-clause-settles
returns-in_err-ask-clause-settles g c =
    let exit = err_from_is_err_and c.from_residual.result c.from_residual.ensures.1 in
    rw (exit.1, exit.2, sym c.is_leaving.ensures ∙ c.if-is_leaving.false) (inl (refl, c.in_err-ask.ensures.settles))

pub returns-clause-settles : goal.returns-clause-settles
returns-clause-settles g c =
    rw (sym c.is_leaving.ensures ∙ c.if-is_leaving.false) (inr (c.ask.new.self, c.in_ok-ask.ensures.settles, c.tear_down-2.ensures.tears))

pub returns-clause-between : goal.returns-clause-between
returns-clause-between g c before = c.tear_down-2.ensures.between (c.in_ok-ask.ensures.between before)
