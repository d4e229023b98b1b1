use Rattle.fm_wire.proofs.Words.{arith, refl, length, fields_of}
use Rattle.std.proofs.Common.{◌≤◌, ◌<◌}
use Rattle.std.proofs.lemmas.Result.{err_from_is_err_and}
use Rattle.fm_wire.proofs.Spellings.{is_spelled, no_bytes, length-body, spelled_frame, too_long}
use Rattle.fm_wire.proofs.encoding.encode.Goals as goal

pub returns-then-len-clause-refused : goal.returns-then-len-clause-refused
returns-then-len-clause-refused c =
    let long : 32995 < length (fields_of c.args.frame.now.body) = omega arith in
    (λ e. too_long c.args.frame.now long, λ none. refl)

pub put_frame-requires : goal.put_frame-requires
put_frame-requires c =
    let len = length-body c.args.frame.now in
    omega arith

pub returns-in_err-text-clause-refused : goal.returns-in_err-text-clause-refused
returns-in_err-text-clause-refused c =
    let exit = err_from_is_err_and c.from_residual.result c.from_residual.ensures.1 in
    let short : length (fields_of c.args.frame.now.body) ≤ 32995 = omega arith in
    (λ e. absurd (cc (exit.1, exit.2)), λ none. absurd (none (is_spelled c.args.frame.now (c.if-not-keeps_limits.ensures.0 refl) short)))

pub returns-clause-refused : goal.returns-clause-refused
returns-clause-refused c =
    let short : length (fields_of c.args.frame.now.body) ≤ 32995 = omega arith in
    (λ e. absurd cc, λ none. absurd (none (is_spelled c.args.frame.now (c.if-not-keeps_limits.ensures.0 refl) short)))

pub returns-clause-frame : goal.returns-clause-frame
returns-clause-frame c =
    let put = c.in_ok-text.ensures in
    let short : length (fields_of c.args.frame.now.body) ≤ 32995 = omega arith in
    rw c.from_vec.ensures
    (spelled_frame c.in_ok-text.text.items c.args.frame.now put.text
    (is_spelled c.args.frame.now (c.if-not-keeps_limits.ensures.0 refl) short) put.fits.0 put.fits.1 put.texts.0 put.texts.1)

pub returns-then-len-clause-none : goal.returns-then-len-clause-none
returns-then-len-clause-none c =
    let long : 32995 < length (fields_of c.args.frame.now.body) = omega arith in
    λ e. no_bytes c.args.frame.now (too_long c.args.frame.now long)
