use Rattle.fm_core.proofs.Words.{FilesKept, IsOlder, is_own, FileHandle, Option, ap, cond, nat_lt, subst, ℕ, ◌∙◌, ◌≡◌, handle_at, is_on, AllPairs, count_by}
use Rattle.fm_core.proofs.Counted.{others_counted}
use Rattle.fm_core.proofs.files.Files.has_other_handle.Goals as goal

pub returns : goal.returns
returns c =
    let t = c.args.self.now.table in
    let handles : c.deref-3.result.now ≡ t.handles = c.deref-3.ensures.value ∙ ap (λ (f : FilesKept). f.table.handles) c.self.view_is in
    let own = c.own_on-own.ensures ∙ ap (λ (h : Option FileHandle). cond {A = ℕ} (is_own c.args.stream h) 1 0) c.handle.ensures in
    ap (λ n. nat_lt n c.opens_on.result) own
    ∙ ap (nat_lt (cond (is_own c.args.stream (handle_at c.args.handle t)) 1 0)) (c.opens_on.ensures ∙ ap (count_by (is_on c.args.stream)) handles)
    ∙ others_counted c.args.stream c.args.handle t.handles
    (subst (λ (f : FilesKept). AllPairs IsOlder f.table.handles) c.self.view_is c.self.invariant.rising.handles)
