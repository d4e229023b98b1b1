use Rattle.std.proofs.Common.{◌≡◌, ◌∙◌, ◌++◌, List, ap, rules, subst}
use Rattle.fm_types.specs.declared.ids.OpId.{OpId}
use Rattle.fm_mistakes.specs.declared.account.Account.{Account}
use Rattle.fm_trial.specs.declared.scenario.Scenario.{Scenario}
use Rattle.fm_trial.specs.Scenarios.{Finishes, Keeps, Reports, held_by}
use Rattle.fm_trial.proofs.Accounts.{begins, stays}
use Rattle.fm_trial.proofs.scenario.Scenario.ask.Goals as goal

pub returns : goal.returns
returns g c =
    let old = c.args.self.now in
    let replied = c.reply_to-reply.new.self in
    let reported = c.report.new.self in
    let kept = c.keep.new.self in
    let new = c.take_finished.new.self in
    let said = c.reply_to-reply.result in
    let began = c.begin_request.ensures in
    let account : replied.account ≡ c.begin_request.new.self = ap (λ (s : Scenario _). s.account) c.reply_to-reply.ensures.same in
    let held : replied.held ≡ old.held = ap (λ (s : Scenario _). s.held) c.reply_to-reply.ensures.same in
    let same : kept.account ≡ reported.account = ap (λ (s : Scenario _). s.account) c.in_ok-keep.ensures.same in
    let manager : kept.exec.manager ≡ reported.exec.manager = ap (λ (s : Scenario _). s.exec.manager) c.in_ok-keep.ensures.same in
    let items : kept.held.items ≡ old.held.items ++ held_by said =
    c.in_ok-keep.ensures.held ∙ ap (λ os. os.items ++ held_by said) (c.in_ok-report.ensures.held ∙ held) in
    let reports : Reports replied.exec.manager c.begin_request.new.self reported.account =
    subst (λ (a : Account). Reports replied.exec.manager a reported.account) account c.in_ok-report.ensures.reports in
    let keeps : Keeps reported.account new.account = subst (λ (a : Account). Keeps a new.account) same c.in_ok-take_finished.ensures.kept in
    let finishes : Finishes reported.exec.manager (old.held.items ++ held_by said) new.exec.manager new.held.items =
    subst (λ m. Finishes m (old.held.items ++ held_by said) new.exec.manager new.held.items) manager
    (subst (λ (os : List OpId). Finishes kept.exec.manager os new.exec.manager new.held.items) items c.in_ok-take_finished.ensures.finishes) in
    let number : new.account.request ≡ c.begin_request.new.self.request =
    keeps.request ∙ c.in_ok-report.ensures.request ∙ ap (λ (a : Account). a.request) account in record {
      said = said;
      answered = replied.exec.manager;
      replies = c.reply_to-reply.ensures.reply;
      reports = stays replied.exec.manager old.account reported.account new.account (begins replied.exec.manager old.account _ reported.account _ began reports) keeps;
      request = number ∙ ap (λ (a : Account). a.request) began;
      last = c.in_ok-take_finished.ensures.last ∙ c.in_ok-keep.ensures.last;
      refused = search rules;
      operates = search rules;
      heard = search rules;
      goes_on = (reported.exec.manager, c.in_ok-report.ensures.forgets, c.in_ok-report.ensures.none, finishes);
    }
