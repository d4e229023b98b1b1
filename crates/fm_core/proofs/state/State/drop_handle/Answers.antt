use Rattle.fm_core.proofs.Words.{answered, the_view, ap, refl, subst, sym, ◌∙◌, Status, FileTable, LosesLinks, IsSound}
use Rattle.fm_world.proofs.Words.{DropsHandle}
use Rattle.fm_world.proofs.Dismounting.{drop_handle_does}
use Rattle.fm_core.proofs.Losing.{sweeping_tied, loses, answer_gone}
use Rattle.fm_core.proofs.state.State.drop_handle.Goals as goal

pub returns-clause-event : goal.returns-clause-event
unfolding DropsHandle
returns-clause-event c =
    let old = the_view c.self.inside in
    let x = c.in-Some-copied.handle in
    let files = c.note_answer.ensures.files in
    let lost = loses old (record old { files = c.note_answer.new.files.table }) c.self.inside.contexts c.note_answer.new.contexts
    c.close_on.result c.self.invariant.sound
    refl refl c.self.invariant.tied (answer_gone old.files c.note_answer.new.files.table old.flow Status.Success c.close_on.result
    files) c.note_answer.ensures.links in
    let from = subst (λ (f : FileTable). LosesLinks (record old { files = f })
    (record old { contexts = c.note_answer.new.contexts.table; files = c.note_answer.new.files.table }))
    (files ∙ ap (λ t. answered old.flow Status.Success t old.files) c.close_on.ensures) lost in
    rw (sym c.self.view_is, sym c.lowest_on.ensures ∙ sym c.copied.ensures ∙ c.in-Some-copied.is) (
      sym c.unless_dismounting.ensures
          ∙ c.in_default.is,
      (refl, from),
    )

pub invariant_of-self : goal.invariant_of-self
invariant_of-self c = record {
  sound = (drop_handle_does _ _ _ _ (returns-clause-event c)).sound (subst IsSound c.self.view_is c.self.invariant.sound);
  tied = sweeping_tied _ c.self.inside.contexts c.note_answer.new.contexts c.self.inside.flow c.note_answer.ensures.links c.self.invariant.tied;
}
