-- Two ways of telling what completions carry that agree on each id say the same of the table.
use Rattle.std.proofs.Common.{◌≡◌}
use Rattle.fm_ctx.proofs.Words.{ℕ, Bool, Option, ap, subst, CtxId, Object, Context, ContextTable, IsLawful, released, Settles, Sweeps, SetMode}
use Rattle.fm_ctx.proofs.Words.{set_after, delete_after, Leaves}

pub alike : {carried carried' : CtxId → ℕ} → ((c : CtxId) → carried c ≡ carried' c) → carried ≡ carried'
alike same = λ i c. same c i

pub lawful_alike : {carried carried' : CtxId → ℕ} {t : ContextTable} → ((c : CtxId) → carried c ≡ carried' c) → IsLawful carried t → IsLawful carried' t
lawful_alike {carried} {carried'} {t} same = subst (λ f. IsLawful f t) (alike same)

pub released_alike : (carried carried' : CtxId → ℕ) (t : ContextTable) (w : ℕ) (c : CtxId) → carried c ≡ carried' c
    → released carried t w c ≡ released carried' t w c
released_alike carried carried' t w c same = ap (λ n. released (λ d. n) t w c) same

pub delete_alike : (carried carried' : CtxId → ℕ) (t : ContextTable) (w : ℕ) (wants : Bool) (there : Option CtxId) → ((c : CtxId) → carried c ≡ carried' c)
    → delete_after carried t w wants there ≡ delete_after carried' t w wants there
delete_alike carried carried' t w wants there same = ap (λ f. delete_after f t w wants there) (alike same)

pub set_alike : (carried carried' : CtxId → ℕ) (t : ContextTable) (w : ℕ) (c : CtxId) (object : Object) (mode : SetMode) (wants : Bool)
    (there : Option CtxId) → ((d : CtxId) → carried d ≡ carried' d)
    → set_after carried t w c object mode wants there ≡ set_after carried' t w c object mode wants there
set_alike carried carried' t w c object mode wants there same = ap (λ f. set_after f t w c object mode wants there) (alike same)

pub settles_alike : {carried carried' : CtxId → ℕ} {old : ContextTable} {after after' : CtxId → ℕ} {new : ContextTable}
    → ((c : CtxId) → carried c ≡ carried' c) → ((c : CtxId) → after c ≡ after' c)
    → Settles carried old after new → Settles carried' old after' new
settles_alike {carried} {carried'} {old} {after} {after'} {new} same same_after s =
    subst (λ f. Settles f old after' new) (alike same) (subst (λ f. Settles carried old f new) (alike same_after) s)

pub leaves_alike : {carried carried' : CtxId → ℕ} {old new : ContextTable} {w : ℕ} → ((c : CtxId) → carried c ≡ carried' c)
    → Leaves carried old new w → Leaves carried' old new w
leaves_alike {carried} {carried'} {old} {new} {w} same = subst (λ f. Leaves f old new w) (alike same)

pub sweeps_alike : {carried carried' : CtxId → ℕ} {test : Context → Bool} {old new : ContextTable}
    → ((c : CtxId) → carried c ≡ carried' c) → Sweeps carried test old new → Sweeps carried' test old new
sweeps_alike {carried} {carried'} {test} {old} {new} same = subst (λ f. Sweeps f test old new) (alike same)
