use Rattle.fm_base.proofs.Words.{get_by, insert, nat_cmp, slice_cmp, written, folder_of, sym, refl, ap, IsSome, Ok}
use Rattle.std.proofs.Common.{◌∙◌}
use Rattle.std.proofs.lemmas.Result.{err_from_is_err_and}
use Rattle.fm_base.proofs.Files.{changed_at, one_made, kept_entries}
use Rattle.fm_base.proofs.memory_base.write_file.Goals as goal

pub returns-in_default-clause-makes : goal.returns-in_default-clause-makes
returns-in_default-clause-makes c = (
  changed_at (written c.args.offset c.args.bytes.now) _ _ _ (sym c.in_default.ensures.value),
  ap
      (λ files. folder_of files.entries) c.get_mut.follows.holds-at-none,
)

pub returns-in_err-write-clause-makes : goal.returns-in_err-write-clause-makes
returns-in_err-write-clause-makes c =
    let exit = err_from_is_err_and c.from_residual.result c.from_residual.ensures.1 in
    rw (exit.1, exit.2) (
      ap folder_of (kept_entries _ _ c.args.path.now c.in-Some.file.now c.write.new.self
          (c.get_mut.follows.holds c.write.new.self).0 (sym c.in-Some.ensures.value) c.in_err-write.ensures.err),
      rw (changed_at (written c.args.offset c.args.bytes.now) c.args.path.now _ _ (sym c.in-Some.ensures.value)) refl,
    )

pub returns-clause-makes : goal.returns-clause-makes
returns-clause-makes c =
    let there : IsSome (get_by (slice_cmp nat_cmp c.args.path.now) c.args.files.now) = rw (← c.in-Some.ensures.value) refl in
    changed_at (written c.args.offset c.args.bytes.now) _ _ _ (sym c.in-Some.ensures.value)
    ∙ ap Ok (ap (insert (folder_of c.args.files.now.entries) c.args.path.now) (sym c.in_ok-write.ensures.ok)
    ∙ sym (one_made _ _ c.args.path.now c.write.new.self ((c.get_mut.follows.holds c.write.new.self).3 there).0))
