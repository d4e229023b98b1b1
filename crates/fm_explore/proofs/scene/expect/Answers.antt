use Rattle.std.proofs.Common.{◌≡◌, ◌∙◌, Bool, true, false, sym, subst, refl}
use Rattle.fm_explore.specs.Verdicts.{Expected, is_met_by}
use Rattle.fm_explore.proofs.scene.expect.Goals as goal

pub returns-then-is_met : goal.returns-then-is_met
returns-then-is_met c =
    let is : is_met_by c.args.expected.now c.args.last.now ≡ true = sym c.is_met.ensures ∙ c.if-is_met.true in
    subst (λ (b : Bool). Expected b c.args.found.now.items c.args.found.now.items) (sym is) refl

pub returns : goal.returns
returns c =
    let is : is_met_by c.args.expected.now c.args.last.now ≡ false = sym c.is_met.ensures ∙ c.if-is_met.false in
    subst (λ (b : Bool). Expected b c.args.found.now.items c.push.new.self.items) (sym is) (c.in_ok-words.words, c.in_ok-push.ensures.items)
