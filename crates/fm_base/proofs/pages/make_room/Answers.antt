use Rattle.std.proofs.Common.{◌∙◌, arith}
use Rattle.fm_base.proofs.Paging.{room_more}
use Rattle.fm_base.proofs.pages.make_room.Goals as goal

pub loop-number-preserved : goal.loop-number-preserved
loop-number-preserved c = record {
  same = λ q place. c.make_page.ensures.same q place ∙ c.loop-number.invariant.same q place;
  room = room_more c.args.from c.args.end c.loop-number.number c.loop-number.pages c.make_page.new.pages c.loop-number.invariant.room
      c.make_page.ensures.longer
      (rw (← c.min-len.ensures) c.in_ok-make_page.ensures.ok);
}

pub returns-clause-ok : goal.returns-clause-ok
returns-clause-ok c = λ q place small past below. c.loop-number.invariant.room q place small past below (omega arith)
