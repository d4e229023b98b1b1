use Rattle.fm_operations.proofs.Words.{Bool, Data, Err, FlowRecord, Ok, ap, cond, data_fits, sym, ⊤}
use Rattle.std.proofs.Common.{Result, ◌∙◌}
use Rattle.fm_operations.proofs.operation_record.OperationRecord.pre_returned.Goals as goal

pub returns-then-not-fits-clause-reply : goal.returns-then-not-fits-clause-reply
returns-then-not-fits-clause-reply c =
    let fits = sym (ap (λ (r : FlowRecord). data_fits r.operation r.path c.args.lent) c.self.view_is) ∙ sym c.fits.ensures ∙ c.if-not-fits.true in
    let reply : Bool → Result ⊤ Data = λ b. cond b (Ok tt) (Err c.args.lent) in
    sym (ap reply fits)

pub take_pre-requires-clause-fits : goal.take_pre-requires-clause-fits
take_pre-requires-clause-fits c =
    sym (ap (λ (r : FlowRecord). data_fits r.operation r.path c.args.lent) c.self.view_is) ∙ sym c.fits.ensures ∙ c.if-not-fits.false
