-- What contexts are set on, and to whom they belong.
use Rattle.std.specs.Prelude.{◌==◌, Bool, false, Option, Some, None}
use Rattle.fm_ctx.specs.declared.object.Object.{Object}
use Rattle.fm_ctx.specs.declared.object.Object.TheVariants.{Volume, Instance, Stream, File, Handle}
use Rattle.fm_ctx.specs.declared.owner.Owner.{Owner}
use Rattle.fm_ctx.specs.declared.owner.Owner.TheVariants as owner

abbrev pub same_object : Object → Object → Bool
same_object (Volume v) (Volume u) = v.0 == u.0
same_object (Instance i) (Instance j) = i.0 == j.0
same_object (Stream s) (Stream r) = s.0 == r.0
same_object (File s) (File r) = s.0 == r.0
same_object (Handle h) (Handle g) = h.0 == g.0
same_object _ _ = false

abbrev pub same_owner : Owner → Owner → Bool
same_owner (owner.Filter f) (owner.Filter g) = f.0 == g.0
same_owner (owner.Instance i) (owner.Instance j) = i.0 == j.0
same_owner _ _ = false

-- whether a link, where there is one, is to that object
abbrev pub is_to : Object → Option Object → Bool
is_to object None = false
is_to object (Some other) = same_object object other
