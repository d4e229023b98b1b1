use Rattle.std.proofs.Common.{◌≡◌, ◌∙◌, ◌||◌, Bool, List, Option, ap, is_some, nat_eq, not, subst}
use Rattle.fm_types.specs.declared.ids.OpId.{OpId}
use Rattle.fm_callback_data.specs.declared.request.Reply.{Reply}
use Rattle.fm_trial.specs.declared.scenario.Scenario.{Scenario}
use Rattle.fm_local.specs.Offered.{world}
use Rattle.fm_mistakes.specs.Accounts.{told_leaks}
use Rattle.fm_trial.specs.Scenarios.{CountsDropped, CountsUnmet, EndsAs}
use Rattle.fm_trial.proofs.scenario.Scenario.end.Goals as goal

pub returns-clause-ends : goal.returns-clause-ends
returns-clause-ends g c =
    let old = c.args.self.now in
    let settled = c.settle.new.self in
    let asked = c.check_asked.new.self in
    let heard = c.check_heard.new.self in
    let counted = c.check_leaks.new.self in
    let end = c.tell_held.new.self in
    let last : settled.last ≡ old.last = c.in_ok-settle.ensures.rest.last in
    let is_heard : asked.is_heard ≡ old.is_heard = ap (λ (s : Scenario _). s.is_heard) c.in_ok-check_asked.ensures.same ∙ c.in_ok-settle.ensures.heard in
    let operates : asked.operates ≡ old.operates =
    ap (λ (s : Scenario _). s.operates) c.in_ok-check_asked.ensures.same ∙ c.in_ok-settle.ensures.rest.operates in
    let manager : heard.exec.manager ≡ old.exec.manager =
    ap (λ (s : Scenario _). s.exec.manager) c.in_ok-check_heard.ensures.same
    ∙ ap (λ (s : Scenario _). s.exec.manager) c.in_ok-check_asked.ensures.same ∙ ap (λ e. e.manager) c.in_ok-settle.ensures.rest.manager in
    let held : counted.held.items ≡ old.held.items =
    ap (λ (s : Scenario _). s.held.items) c.check_leaks.ensures.same
    ∙ ap (λ (s : Scenario _). s.held.items) c.in_ok-check_heard.ensures.same
    ∙ ap (λ (s : Scenario _). s.held.items) c.in_ok-check_asked.ensures.same ∙ ap (λ os. os.items) c.in_ok-settle.ensures.rest.held in record {
      settled = settled.account;
      asked = asked.account;
      heard = heard.account;
      counted = counted.account;
      expected = c.in_ok-settle.ensures.unmet;
      requested = subst (λ (said : Option Reply). CountsUnmet (is_some said) settled.account asked.account) last c.in_ok-check_asked.ensures.asked;
      tested =
          subst (λ (b : Bool). CountsUnmet (b || not old.operates) asked.account heard.account) is_heard
          (subst (λ (b : Bool). CountsUnmet (asked.is_heard || not b) asked.account heard.account) operates c.in_ok-check_heard.ensures.tested);
      left = subst (λ m. CountsDropped (nat_eq (told_leaks heard.account) (world m).contexts.leaks) heard.account counted.account) manager c.check_leaks.ensures.left;
      holds = subst (λ (os : List OpId). EndsAs os counted.account end.account) held c.in_ok-tell_held.ensures;
    }
