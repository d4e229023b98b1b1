use Rattle.fm_operations.proofs.Words.{ap, sym, is_number, false≢true}
use Rattle.std.proofs.Common.{◌∙◌, is_some}
use Rattle.fm_types.proofs.Firsts.{absent}
use Rattle.fm_operations.proofs.flow.standing.Goals as goal

pub unreachable-requires : goal.unreachable-requires
unreachable-requires c = false≢true (sym (ap is_some (absent (is_number c.args.number) _ (sym c.place_of.ensures ∙ c.in_default.is))) ∙ c.requires.there)
