use Rattle.fm_operations.proofs.Words.{ap, sym, arith, false≢true, option_map, owed, ask_at, Ask, FlowRecord}
use Rattle.std.proofs.Common.{◌∙◌, is_some, position}
use Rattle.fm_operations.specs.Drains.{is_of, owes, owed_to}
use Rattle.fm_operations.proofs.Depths.{any_placed, any_found, asked_early}
use Rattle.fm_operations.proofs.Drains.{sound_early}
use Rattle.fm_operations.proofs.Noted.{noted_early}
use Rattle.fm_operations.proofs.operation_record.OperationRecord.drain_early.Goals as goal

pub unreachable-requires : goal.unreachable-requires
unreachable-requires c =
    false≢true (sym (ap is_some (sym c.depth_of.ensures ∙ c.in_default.is)) ∙ any_placed (is_of c.args.instance.0) (owed c.args.self.now.entries) ∙ c.requires)

pub unreachable-requires-in_default-ask_at : goal.unreachable-requires-in_default-ask_at
unreachable-requires-in_default-ask_at c =
    let deep = ap (λ (r : FlowRecord). position (is_of c.args.instance.0) (owed r.entries)) c.self.view_is ∙ sym c.depth_of.ensures ∙ c.in-Some.is in
    let read = c.ask_at.ensures ∙ ap (λ es. ask_at es c.remove.result) c.deref.ensures.value ∙ asked_early c.args.instance.0 c.self.inside.entries.items
    c.self.inside.owed _ c.in-Some.depth c.remove.result c.self.invariant.1.1.1.1.1.asks deep c.remove.ensures.place in
    false≢true (sym (ap is_some (sym read ∙ c.in_default-ask_at.is))
    ∙ any_found (is_of c.args.instance.0) (owed c.self.inside.entries.items) ∙ ap (owes c.args.instance.0) c.self.view_is ∙ c.requires)

pub invariant_of-self : goal.invariant_of-self
invariant_of-self c =
    let deep = ap (λ (r : FlowRecord). position (is_of c.args.instance.0) (owed r.entries)) c.self.view_is ∙ sym c.depth_of.ensures ∙ c.in-Some.is in
    let some = ap (owes c.args.instance.0) c.self.view_is ∙ c.requires in (
      rw (c.push_reserved.ensures.items) (sound_early c.args.instance _ some c.self.invariant.0),
      (
        omega arith,
        (
          omega arith,
          (
            c.self.invariant.1.1.1.0,
            (
              c.self.invariant.1.1.1.1.0,
              rw (c.push_reserved.ensures.items, c.remove.ensures.others)
                  (noted_early c.self.inside.stage _ c.args.instance c.in-Some.depth c.self.invariant.0.course deep
                  c.self.invariant.1.1.1.1.1),
            ),
          ),
        ),
      ),
    )

pub returns-clause-completion : goal.returns-clause-completion
returns-clause-completion c =
    let deep = ap (λ (r : FlowRecord). position (is_of c.args.instance.0) (owed r.entries)) c.self.view_is ∙ sym c.depth_of.ensures ∙ c.in-Some.is in
    let read = c.ask_at.ensures ∙ ap (λ es. ask_at es c.remove.result) c.deref.ensures.value ∙ asked_early c.args.instance.0 c.self.inside.entries.items
    c.self.inside.owed _ c.in-Some.depth c.remove.result c.self.invariant.1.1.1.1.1.asks deep c.remove.ensures.place in
    ap (owed_to c.args.instance.0) (sym c.self.view_is) ∙ ap (option_map (λ (ask : Ask). ask.completion)) (sym read ∙ c.in-Some-ask_at.is)
