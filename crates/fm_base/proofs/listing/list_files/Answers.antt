use Rattle.std.specs.Prelude.{◌≡◌, true, false, Ok}
use Rattle.std.proofs.Common.{refl, ap, sym, ◌∙◌}
use Rattle.std.proofs.lemmas.Result.{err_from_is_err_and}
use Rattle.fm_base.proofs.Listings.{too_long, short_enough, not_within}
use Rattle.fm_base.proofs.listing.list_files.Goals as goal

pub returns-then-not-is_listing_short-clause-tells :
    goal.returns-then-not-is_listing_short-clause-tells
returns-then-not-is_listing_short-clause-tells c =
    too_long _ c.if-not-is_listing_short.ensures.ordered (not_within _ _
    (λ le. let h : false ≡ true = c.if-not-is_listing_short.ensures.short.1 le in cc))

pub returns-in_err-lines-clause-tells : goal.returns-in_err-lines-clause-tells
returns-in_err-lines-clause-tells c =
    let exit = err_from_is_err_and c.from_residual.result c.from_residual.ensures.1 in
    rw (exit.1, exit.2) (rw (short_enough c.args.files.now.entries c.if-not-is_listing_short.ensures.ordered
    (c.if-not-is_listing_short.ensures.short.0 refl)) refl)

pub returns-clause-tells : goal.returns-clause-tells
returns-clause-tells c =
    short_enough _ c.if-not-is_listing_short.ensures.ordered (c.if-not-is_listing_short.ensures.short.0 refl)
    ∙ ap Ok (sym c.in_ok-lines.ensures.value ∙ sym c.from_vec.ensures)
