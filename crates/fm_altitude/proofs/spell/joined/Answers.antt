use Rattle.fm_altitude.proofs.Padding.{put_three}
use Rattle.fm_altitude.proofs.spell.joined.Goals as goal

pub returns : goal.returns
returns g c =
    put_three g.row.N c.args.first.now c.args.second.now c.args.third.now c.put.new.buffer c.put-2.new.buffer c.put-3.new.buffer
    c.put.ensures c.put-2.ensures c.put-3.ensures
