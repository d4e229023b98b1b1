use Rattle.fm_local.proofs.Words.{◌∙◌, inl, inr, refl, sym, err_from_is_err_and, numbered}
use Rattle.fm_local.specs.Calls.{MayAgree}
use Rattle.fm_local.proofs.instances.Ready.{ends_ready, loaded_leaves, unloaded_leaves, agreed_still, settled_state}
use Rattle.fm_local.proofs.parts.Parts.unload.Goals as goal

pub returns-then-is_unloading-clause-ready : goal.returns-then-is_unloading-clause-ready
returns-then-is_unloading-clause-ready g c ready =
    ends_ready c.args.filter c.args.self.now ready c.end.result c.end.new.self
    (c.end.ensures.quiet ready.plain ready.rests ready.settled)

pub returns-in_err-ask_to_unload-clause-ready : goal.returns-in_err-ask_to_unload-clause-ready
returns-in_err-ask_to_unload-clause-ready g c ready =
    let old = c.args.self.now in
    loaded_leaves c.args.filter old ready
    (MayAgree g.F.Minifilter.unload_may (numbered old.filters c.args.filter.0)) c.in_err-ask_to_unload.field-0.0
    c.ask_to_unload.new.self c.in_err-ask_to_unload.ensures.asks
    (settled_state old c.ask_to_unload.new.self c.in_err-ask_to_unload.ensures.kept ready.settled)

pub returns-clause-quiet : goal.returns-clause-quiet
returns-clause-quiet g c ready =
    let old = c.args.self.now in
    let asked = c.ask_to_unload.new.self in
    let may = MayAgree g.F.Minifilter.unload_may (numbered old.filters c.args.filter.0) in
    let asks = c.in_ok-ask_to_unload.ensures.asks in
    let settles = settled_state old asked c.in_ok-ask_to_unload.ensures.kept ready.settled in
    let still = agreed_still c.args.filter old ready may asked asks settles in
    rw (sym c.is_unloading.ensures ∙ c.if-is_unloading.false) (inr (asked.work.state, asks, (c.end-2.ensures.quiet still.plain still.rests still.settled).0))

pub returns-clause-ready : goal.returns-clause-ready
returns-clause-ready g c ready =
    let old = c.args.self.now in
    let asked = c.ask_to_unload.new.self in
    let may = MayAgree g.F.Minifilter.unload_may (numbered old.filters c.args.filter.0) in
    let asks = c.in_ok-ask_to_unload.ensures.asks in
    let settles = settled_state old asked c.in_ok-ask_to_unload.ensures.kept ready.settled in
    let still = agreed_still c.args.filter old ready may asked asks settles in
    unloaded_leaves c.args.filter old ready may asked asks settles c.end-2.result c.end-2.new.self
    (c.end-2.ensures.quiet still.plain still.rests still.settled)

pub returns-then-is_unloading-clause-settles : goal.returns-then-is_unloading-clause-settles
returns-then-is_unloading-clause-settles g c =
    rw (sym c.is_unloading.ensures ∙ c.if-is_unloading.true) c.end.ensures.settles

pub returns-in_err-ask_to_unload-clause-settles : goal.returns-in_err-ask_to_unload-clause-settles
returns-in_err-ask_to_unload-clause-settles g c =
    let exit = err_from_is_err_and c.from_residual.result c.from_residual.ensures.1 in
    rw (exit.1, exit.2, sym c.is_unloading.ensures ∙ c.if-is_unloading.false)
    (inl (refl, c.in_err-ask_to_unload.ensures.asks, c.in_err-ask_to_unload.ensures.kept))

pub returns-clause-settles : goal.returns-clause-settles
returns-clause-settles g c =
    let ends = rw c.in_ok-ask_to_unload.ensures.kept at c.end-2.ensures.settles in
    rw (sym c.is_unloading.ensures ∙ c.if-is_unloading.false) (inr (c.ask_to_unload.new.self.work.state, c.in_ok-ask_to_unload.ensures.asks, ends))

pub returns-clause-between : goal.returns-clause-between
returns-clause-between g c before = c.end-2.ensures.between (c.in_ok-ask_to_unload.ensures.between before)
