use Rattle.fm_operations.proofs.Words.{ap, sym, arith}
use Rattle.std.proofs.Common.{◌≡◌, ◌∙◌, nat_lt}
use Rattle.fm_operations.specs.Creates.{has_create_on, is_on_stream}
use Rattle.fm_operations.proofs.Tallied.{uncreated}
use Rattle.fm_operations.proofs.flow.Flow.has_create_on.Goals as goal

pub returns-else-self-gt0 : goal.returns-else-self-gt0
returns-else-self-gt0 c =
    let none : c.self.inside.creates ≡ 0 = omega arith in
    ap (nat_lt 0) none ∙ sym (uncreated (λ r. is_on_stream c.args.stream r.stream) c.self.inside.operations.items (sym c.self.invariant.1.creates ∙ none))
    ∙ ap (has_create_on c.args.stream) c.self.view_is
