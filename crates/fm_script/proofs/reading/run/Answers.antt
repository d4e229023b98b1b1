use Rattle.std.proofs.Common.{◌≡◌, Ok, false, rules, subst}
use Rattle.std.proofs.KnownBytes.{Keeps-refl}
use Rattle.fm_script.specs.Listening.{WaitsOr}
use Rattle.fm_script.specs.declared.script_end.ScriptEnd.TheVariants.{ReadFault}
use Rattle.fm_script.proofs.Handed.{ends_between}
use Rattle.fm_script.proofs.reading.run.Goals as goal

pub returns-in-Ok-false : goal.returns-in-Ok-false
returns-in-Ok-false g c first read w =
    let is : c.turn.result ≡ Ok false = search rules in
    subst (λ r. WaitsOr g.L.Listener.takes g.L.Listener.pauses r first read (g.R.Read.remaining c.turn.new.reader) c.turn.new.lines.line c.turn.new.lines.count
    c.turn.new.lines.listener) is (c.turn.ensures first read (c.loop.invariant.waits first read w))

pub returns : goal.returns
returns g c first read w =
    ends_between g.L.Listener.takes g.L.Listener.pauses ReadFault first c.loop.lines.listener read (g.R.Read.remaining c.loop.reader)
    (g.R.Read.remaining c.loop.reader) c.loop.lines.line c.loop.lines.count (c.loop.invariant.waits first read w) (Keeps-refl _) tt
