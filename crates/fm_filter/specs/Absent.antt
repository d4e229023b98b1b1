-- What is answered for a callback where there is no filter: the operation goes on, as it is.
use Rattle.std.specs.Prelude.{◌≡◌}
use Rattle.fm_callback_data.specs.declared.verdict.PreVerdict.{PreVerdict}
use Rattle.fm_callback_data.specs.declared.verdict.PreVerdict.TheVariants as pre
use Rattle.fm_callback_data.specs.declared.verdict.PostVerdict.{PostVerdict}
use Rattle.fm_callback_data.specs.declared.verdict.PostVerdict.TheVariants as post

-- on its way down
abbrev pub SkipsPre : {D : Type 0} → D → PreVerdict → D → Type 0
SkipsPre old verdict new = (verdict ≡ pre.NoCallback) × (new ≡ old)

-- on its way up
abbrev pub SkipsPost : {D : Type 0} → D → PostVerdict → D → Type 0
SkipsPost old verdict new = (verdict ≡ post.Finished) × (new ≡ old)
