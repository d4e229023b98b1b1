-- Objects and owners that a test finds the same are the same.
use Rattle.std.proofs.Common.{◌≡◌}
use Rattle.fm_ctx.proofs.Words.{true, sym, eqb-true, true≢false, Object, Owner, same_object, same_owner}
use Rattle.fm_ctx.specs.declared.object.Object.TheVariants.{Volume, Instance, Stream, File, Handle}
use Rattle.fm_ctx.specs.declared.owner.Owner.TheVariants as owner

pub same_object-same : (a b : Object) → same_object a b ≡ true → a ≡ b
same_object-same (Volume v) (Volume u) is = let e = eqb-true v.0 u.0 is in λ i. Volume (record { 0 = e i })
same_object-same (Instance v) (Instance u) is = let e = eqb-true v.0 u.0 is in λ i. Instance (record { 0 = e i })
same_object-same (Stream v) (Stream u) is = let e = eqb-true v.0 u.0 is in λ i. Stream (record { 0 = e i })
same_object-same (File v) (File u) is = let e = eqb-true v.0 u.0 is in λ i. File (record { 0 = e i })
same_object-same (Handle v) (Handle u) is = let e = eqb-true v.0 u.0 is in λ i. Handle (record { 0 = e i })
same_object-same _ _ is = absurd (true≢false (sym is))

pub same_owner-same : (a b : Owner) → same_owner a b ≡ true → a ≡ b
same_owner-same (owner.Filter f) (owner.Filter g) is = let e = eqb-true f.0 g.0 is in λ i. owner.Filter (record { 0 = e i })
same_owner-same (owner.Instance f) (owner.Instance g) is = let e = eqb-true f.0 g.0 is in λ i. owner.Instance (record { 0 = e i })
same_owner-same _ _ is = absurd (true≢false (sym is))
