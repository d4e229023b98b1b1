use Rattle.fm_core.proofs.Words.{sym, ◌%◌, ◌+◌, ◌^◌}
use Rattle.fm_types.proofs.Lists.{updated_there}
use Rattle.std.proofs.lemmas.Option.{slice_get-get_or}
use Rattle.fm_core.proofs.cleanups.add_at.Goals as goal

pub returns : goal.returns
returns c = sym (updated_there (λ n. (n + c.args.number) % 2 ^ 64) c.args.totals.now c.args.at _ (slice_get-get_or c.args.totals.now c.args.at 0 c.requires))
