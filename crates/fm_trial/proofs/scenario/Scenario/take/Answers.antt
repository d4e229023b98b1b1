use Rattle.std.proofs.Common.{◌≡◌, Option, ap, refl, subst}
use Rattle.fm_callback_data.specs.declared.request.Reply.{Reply}
use Rattle.fm_mistakes.specs.declared.account.Account.{Account}
use Rattle.fm_trial.specs.declared.line.ScenarioLine.{ScenarioLine}
use Rattle.fm_trial.specs.declared.line.ScenarioLine.TheVariants as line
use Rattle.fm_trial.specs.declared.scenario.Scenario.{Scenario}
use Rattle.fm_trial.specs.Lines.{Says}
use Rattle.fm_trial.specs.Scenarios.{LineExpects}
use Rattle.fm_trial.proofs.Fields.{both, expects_nothing, goes, settles}
use Rattle.fm_trial.proofs.scenario.Scenario.take.Goals as goal

pub returns-in_ok-ask-in-Request : goal.returns-in_ok-ask-in-Request
returns-in_ok-ask-in-Request g c =
    let says : Says c.args.line.now (line.Request c.in-Request.body) =
    subst (λ (said : ScenarioLine). Says c.args.line.now said) c.in-Request.is c.in_ok-read.ensures in (
      line.Request c.in-Request.body,
      says,
      refl,
      (
        c.go_to-in-Request.new.self,
        settles _ c.settle.new.self _ c.in_ok-settle-in-Request.ensures c.go_to-in-Request.ensures,
        c.in_ok-ask-in-Request.ensures,
      ),
    )

pub returns-in_ok-expect-in-Expect : goal.returns-in_ok-expect-in-Expect
returns-in_ok-expect-in-Expect g c =
    let old = c.args.self.now in
    let at = c.go_to-in-Expect.new.self in
    let new = c.expect.new.self in
    let expected = c.in-Expect.expected in
    let says : Says c.args.line.now (line.Expect expected) =
    subst (λ (said : ScenarioLine). Says c.args.line.now said) c.in-Expect.is c.in_ok-read.ensures in
    let same = c.in_ok-expect-in-Expect.ensures.same in
    let last : at.last ≡ old.last = ap (λ (s : Scenario _). s.last) c.go_to-in-Expect.ensures in
    let account : at.account ≡ old.account = ap (λ (s : Scenario _). s.account) c.go_to-in-Expect.ensures in
    let expects : LineExpects expected old.last old.account new.account =
    subst (λ (said : Option Reply). LineExpects expected said old.account new.account) last
    (subst (λ (a : Account). LineExpects expected at.last a new.account) account c.in_ok-expect-in-Expect.ensures.expects) in (
      line.Expect expected,
      says,
      refl,
      (both old at new (goes old at c.go_to-in-Expect.ensures) (expects_nothing at new same), ap (λ (s : Scenario _). s.refused) same, ap (λ (s : Scenario _). s.is_heard) same, expects),
    )
