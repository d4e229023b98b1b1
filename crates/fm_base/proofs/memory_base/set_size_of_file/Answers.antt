use Rattle.fm_base.proofs.Words.{get_by, insert, nat_cmp, slice_cmp, resized, folder_of, sym, refl, ap, IsSome, Ok}
use Rattle.std.proofs.Common.{◌∙◌}
use Rattle.fm_base.proofs.Files.{changed_at, one_made}
use Rattle.fm_base.proofs.memory_base.set_size_of_file.Goals as goal

pub returns-in_default-clause-makes : goal.returns-in_default-clause-makes
returns-in_default-clause-makes c = (
  changed_at (resized c.args.size) _ _ _ (sym c.in_default.ensures.value),
  ap
      (λ files. folder_of files.entries) c.get_mut.follows.holds-at-none,
)

pub returns-clause-makes : goal.returns-clause-makes
returns-clause-makes c =
    let there : IsSome (get_by (slice_cmp nat_cmp c.args.path.now) c.args.files.now) = rw (← c.in-Some.ensures.value) refl in
    changed_at (resized c.args.size) _ _ _ (sym c.in-Some.ensures.value)
    ∙ ap Ok (ap (insert (folder_of c.args.files.now.entries) c.args.path.now) (sym c.set_size.ensures)
    ∙ sym (one_made _ _ c.args.path.now c.set_size.new.self ((c.get_mut.follows.holds c.set_size.new.self).3 there).0))
