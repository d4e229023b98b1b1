use Rattle.fm_script.proofs.reading.run_to_end.Goals as goal

pub returns : goal.returns
returns g c first read w =
    let ran = c.run_all-outcome.ensures first read w in record {
      input = ran.0;
      outcome = c.run_all-outcome.result;
      rested = c.pause-rested.result;
      mid = c.run_all-outcome.new.lines.listener;
      consumes = ran.1;
      ends = ran.2;
      rests = c.pause-rested.ensures;
      is_end = c.end_of.ensures;
    }
