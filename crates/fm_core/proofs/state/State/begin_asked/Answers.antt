use Rattle.fm_core.proofs.Words.{IsAsked, FileStream, Some, ap, subst, sym, ◌∙◌, IsSound, World, option_map}
use Rattle.fm_core.proofs.Operated.{asks, asks_sound, begin_tied}
use Rattle.fm_core.proofs.state.State.begin_asked.Goals as goal

pub returns : goal.returns
returns c =
    let asked = subst (λ (w : World). IsAsked c.args.is_lower w c.args.handle c.args.params c.args.row c.args.volume) (sym c.self.view_is) c.requires.asked in
    let path = c.in-Ok.ensures ∙ ap (option_map (λ (y : FileStream). y.path)) asked.there in
    let event = rw (c.births-born.ensures, path) at c.begin-begun.ensures in
    let files = rw (c.is_ok.ensures.value, c.operation-operation.ensures, c.next_number-number.ensures.result) at c.note_begin.ensures in
    asks c.args.is_lower c.args.handle c.args.params c.args.row c.args.volume c.begin-begun.result c.begin-begun.new.self c.note_begin.new.files.table c.self.view_is asked
    event files

pub invariant_of-self : goal.invariant_of-self
invariant_of-self c = record {
  sound = asks_sound _ _ _ _ _ _ (returns c) c.requires.none (subst IsSound c.self.view_is c.self.invariant.sound);
  tied = begin_tied c.self.inside.contexts c.args.volume (Some c.args.row.stream) (Some c.args.handle) c.in-Ok.path c.args.params c.begin-begun.result
      c.self.inside.flow c.begin-begun.new.self
      c.births-born.result c.begin-begun.ensures c.self.invariant.tied;
}
