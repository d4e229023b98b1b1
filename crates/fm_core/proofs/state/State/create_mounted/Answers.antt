use Rattle.fm_core.proofs.Words.{stream_or, the_view, begin_does, volume_refusals, None, Some, ap, refl, subst, sym, ℕ, ◌||◌, ◌∙◌, ◌≡◌, Params, Request}
use Rattle.fm_core.proofs.Words.{is_full, first_of, has_no_handle_left, stream_for, IsSound, World}
use Rattle.fm_core.proofs.Named.{found_number}
use Rattle.fm_core.specs.declared.files.CreatePaths.{CreatePaths}
use Rattle.fm_core.proofs.Counted.{unused_number}
use Rattle.fm_core.proofs.Operated.{creates, begin_tied, begin_wants}
use Rattle.fm_world.specs.Files.{stream_of_path}
use Rattle.fm_core.proofs.state.State.create_mounted.Goals as goal

pub returns : goal.returns
returns c =
    let old = the_view c.self.inside in
    let stream : c.stream_for-stream.result ≡ stream_for c.args.volume c.args.path old.flow.next old.files = c.stream_for-stream.ensures
    ∙ ap (λ (q : CreatePaths). stream_or c.next_number-number.result q.found) c.in-Ok.ensures.paths
    ∙ found_number c.next_number-number.result (stream_of_path c.args.volume c.args.path old.files)
    ∙ ap (λ (n : ℕ). stream_for c.args.volume c.args.path n old.files) c.next_number-number.ensures.result in
    let begins = rw (c.births-born.ensures, c.in-Ok.ensures.paths, stream) at c.begin-begun.ensures in
    let files = rw (c.in-Ok.ensures.paths, c.is_ok.ensures.value, c.prepare.ensures.table, c.next_number-number.ensures.result) at c.note_create.ensures in
    creates c.args.volume c.args.path c.args.mode c.begin-begun.result c.begin-begun.new.self c.note_create.new.files.table
    c.self.view_is c.requires begins files

pub invariant_of-self-2 : goal.invariant_of-self-2
invariant_of-self-2 c = record {
  sound = (begin_does _ _ _ _ (returns c)).0.sound (subst IsSound c.self.view_is c.self.invariant.sound);
  tied = begin_tied c.self.inside.contexts c.args.volume (Some c.stream_for-stream.result) None (Some c.in-Ok.paths.operation)
      (Params.Create c.in-Ok.paths.params c.args.mode) c.begin-begun.result c.self.inside.flow c.begin-begun.new.self c.births-born.result c.begin-begun.ensures
      c.self.invariant.tied;
}

pub returns-in_default : goal.returns-in_default
returns-in_default c =
    rw (sym c.self.view_is, c.prepare.ensures.table) (begin_wants (the_view c.self.inside) (Request.Create c.args.volume c.args.path c.args.mode)
    (subst (λ (w : World). first_of (volume_refusals w c.args.volume (is_full w.flow || has_no_handle_left w)) ≡ None) (sym c.self.view_is) c.requires))

pub note_create-requires-clause-unused : goal.note_create-requires-clause-unused
note_create-requires-clause-unused c =
    rw (c.next_number-number.ensures.result, c.prepare.ensures.table)
    (unused_number c.self.inside.flow.next c.self.inside.files.table c.self.invariant.sound.filed.born c.self.invariant.sound.filed.hold.handles_on)

pub note_create-requires-clause-path : goal.note_create-requires-clause-path
note_create-requires-clause-path c = rw c.in-Ok.ensures.paths refl

pub note_create-requires-clause-found : goal.note_create-requires-clause-found
note_create-requires-clause-found c = rw (c.prepare.ensures.table, c.in-Ok.ensures.paths) refl
