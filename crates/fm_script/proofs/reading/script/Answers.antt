use Rattle.std.proofs.Common.{ap, inl, subst, sym}
use Rattle.fm_script.specs.Scripts.{IsFirst}
use Rattle.fm_script.proofs.reading.script.Goals as goal

pub returns : goal.returns
returns g c = inl (record {
  first = c.over-runner.result;
  last = c.read_lines-reader.result.listener;
  begins = subst (λ i. IsFirst i) (sym c.over-runner.ensures.same) c.in-Ok.ensures.first;
  nothing = c.over-runner.ensures.nothing;
  reads = c.read_lines-reader.ensures;
  is_given = ap g.W.Write.contents c.into_writer.ensures;
})
