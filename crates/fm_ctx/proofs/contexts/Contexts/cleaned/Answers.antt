use Rattle.std.proofs.Common.{◌∙◌}
use Rattle.fm_ctx.proofs.Words.{None, refl, sym, ap, arith, Row, ContextsKept, cleaned, cleaned_row}
use Rattle.fm_ctx.proofs.Lives.{count_cleaning}
use Rattle.fm_ctx.proofs.Changing.{opens_at, row_carried, row_read, row_named, row_count, sound_now, sound_cleaned, shown, slots_changed, carried_kept, unseated, one_living, indexed_ended}
use Rattle.fm_ctx.proofs.contexts.Contexts.cleaned.Goals as goal

pub clean-requires : goal.clean-requires
clean-requires c =
    let s = sound_now c.self.invariant c.self.view_is in
    let was = count_cleaning c.args.worker.0 c.args.id s.lawful c.requires.within c.requires.cleaning in
    opens_at (row_named c.self.inside.rows c.args.id c.self.view_is was.0)

pub returns : goal.returns
returns c =
    let s = sound_now c.self.invariant c.self.view_is in
    let was = count_cleaning c.args.worker.0 c.args.id s.lawful c.requires.within c.requires.cleaning in
    let i = row_named c.self.inside.rows c.args.id c.self.view_is was.0 in
    shown _ c.self.inside.leaks c.clean.ensures (slots_changed i cleaned_row (λ o. None) refl refl)
    (carried_kept i cleaned_row (omega (
      arith,
      was.1,
      row_carried i c.self.view_is i.row,
      ap (λ (r : Row). r.carried) (row_read i i.row),
    ))) refl refl refl
    ∙ ap (λ (k : ContextsKept). record k { table = cleaned k.table c.args.worker.0 c.args.id }) c.self.view_is

pub end-requires : goal.end-requires
end-requires c =
    let s = sound_now c.self.invariant c.self.view_is in
    let was = count_cleaning c.args.worker.0 c.args.id s.lawful c.requires.within c.requires.cleaning in
    let i = row_named c.self.inside.rows c.args.id c.self.view_is was.0 in
    one_living c.self.invariant i

pub invariant_of-self : goal.invariant_of-self
invariant_of-self c =
    let s = sound_now c.self.invariant c.self.view_is in
    let was = count_cleaning c.args.worker.0 c.args.id s.lawful c.requires.within c.requires.cleaning in
    let i = row_named c.self.inside.rows c.args.id c.self.view_is was.0 in
    indexed_ended c.self.invariant i c.clean.ensures (returns c) refl (sound_cleaned s c.args.worker.0 i c.requires.within c.requires.cleaning)
    (sym (unseated i (omega (arith, was.1, row_count s i, row_count c.self.invariant.sound i)))) c.end.ensures
