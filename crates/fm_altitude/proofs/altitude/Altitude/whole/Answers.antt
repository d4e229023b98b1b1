use Rattle.std.proofs.Common.{◌∙◌}
use Rattle.fm_altitude.proofs.Grammar.{take_whole}
use Rattle.fm_altitude.proofs.altitude.Altitude.whole.Goals as goal

pub returns : goal.returns
returns c = c.split_at.ensures.front ∙ rw (c.text.ensures.text, c.whole_len.ensures.value) (take_whole c.args.self.now c.text.ensures.canonical)
