use Rattle.fm_worker.proofs.worker.Worker.run_work.Goals as goal

pub returns-clause-works : goal.returns-clause-works
returns-clause-works g c = (c.work.new.own.port.resumed, c.work.ensures.works)
