use Rattle.std.proofs.Common.{◌≡◌, ◌++◌, ◌∙◌, List, ℕ, ap, sym, subst, append_assoc}
use Rattle.fm_script.specs.Listening.{BreaksAt, Stands}
use Rattle.fm_script.proofs.reading.Lines.take.Goals as goal

pub loop-rest-preserved : goal.loop-rest-preserved
loop-rest-preserved g c =
    let taken = c.loop-rest.invariant.taken in
    let more = c.in-Ok.ensures.takes in record {
      taken = taken ++ more.0;
      parts = c.loop-rest.invariant.parts ∙ ap (λ (t : List ℕ). taken ++ t) more.1 ∙ sym (append_assoc taken more.0 c.in-Ok.left.now);
      stands = λ first input s.
          subst (λ t. Stands g.L.Listener.takes g.L.Listener.pauses first t c.take_front.new.self.line c.take_front.new.self.count c.take_front.new.self.listener)
          (append_assoc input taken more.0) (more.2 first (input ++ taken) (c.loop-rest.invariant.stands first input s));
    }

pub returns-in-Err : goal.returns-in-Err
returns-in-Err g c first input s =
    let taken = c.loop-rest.invariant.taken in
    subst (λ t. BreaksAt g.L.Listener.takes g.L.Listener.pauses c.in-Err.end first t c.take_front.new.self.listener)
    (append_assoc input taken c.loop-rest.rest.now ∙ ap (λ (t : List ℕ). input ++ t) (sym c.loop-rest.invariant.parts))
    (c.in-Err.ensures.breaks first (input ++ taken) (c.loop-rest.invariant.stands first input s))
