use Rattle.fm_local.proofs.Words.{◌∙◌, sym, WORKER, RESUMPTIONS, TURNS}
use Rattle.fm_local.proofs.operations.Refusals.{refuses_in}
use Rattle.fm_local.proofs.operations.ReadyAnswers.{answers_one}
use Rattle.fm_local.proofs.operations.AnyTurns.{is_close, requests_close, requests_one}
use Rattle.fm_local.proofs.parts.Parts.answer.Goals as goal

pub returns-in-None-clause-fold : goal.returns-in-None-clause-fold
returns-in-None-clause-fold g c ready =
    answers_one g.F.Minifilter g.B.Base WORKER c.args.self.now ready c.laws.ensures c.args.request
    (sym c.closed_handle.ensures ∙ c.in-None.is) c.perform.result c.perform.new.self (c.perform.ensures.does ready)

pub returns-in-None-clause-refused : goal.returns-in-None-clause-refused
returns-in-None-clause-refused g c =
    refuses_in c.args.self.now c.args.request (sym c.closed_handle.ensures ∙ c.in-None.is) c.perform.result c.perform.new.self c.perform.ensures.refused

pub returns-in-Some-clause-requests : goal.returns-in-Some-clause-requests
returns-in-Some-clause-requests g c =
    requests_close g.F.Minifilter g.B.Base WORKER TURNS RESUMPTIONS c.args.self.now c.close.result
    c.close.new.self c.args.request c.in-Some.handle (sym c.closed_handle.ensures ∙ c.in-Some.is) c.close.ensures.requests

pub returns-in-None-clause-requests : goal.returns-in-None-clause-requests
returns-in-None-clause-requests g c =
    requests_one g.F.Minifilter g.B.Base WORKER TURNS RESUMPTIONS c.args.self.now c.perform.result
    c.perform.new.self c.args.request (sym c.closed_handle.ensures ∙ c.in-None.is) c.perform.ensures.requests

pub returns-in-Some-clause-fold : goal.returns-in-Some-clause-fold
returns-in-Some-clause-fold g c ready =
    rw (← is_close c.args.request c.in-Some.handle (sym c.closed_handle.ensures ∙ c.in-Some.is)) (c.close.ensures.fold ready)

pub returns-in-Some-clause-refused : goal.returns-in-Some-clause-refused
returns-in-Some-clause-refused g c =
    rw (← is_close c.args.request c.in-Some.handle (sym c.closed_handle.ensures ∙ c.in-Some.is)) c.close.ensures.refused
