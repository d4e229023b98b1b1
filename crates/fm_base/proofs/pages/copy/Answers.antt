use Rattle.fm_base.proofs.Words.{range_with_len, resized, page_of, byte_at}
use Rattle.std.specs.Prelude.{◌≡◌, ℕ, ◌+◌, ◌/◌, ◌%◌, ◌++◌, length, drop, map}
use Rattle.std.proofs.Common.{arith, ◌∙◌, ap, sym, length-append}
use Rattle.fm_base.proofs.Writes.{length-resized}
use Rattle.fm_base.proofs.Paging.{page_run, run_more}
use Rattle.fm_base.proofs.pages.copy.Goals as goal

pub loop-out-preserved : goal.loop-out-preserved
loop-out-preserved c =
    let n = c.len-in-loop-out.result in
    let at = c.args.offset + n in
    let count = c.min-count.result in
    let part = resized count (drop (at % 4096) (page_of c.args.pages.now (at / 4096))) in
    let new : c.append_page.new.out.items ≡ c.loop-out.out.items ++ part = c.in_ok-append_page.ensures in
    let so_far : length c.loop-out.out.items ≡ n = omega arith in
    let long : length c.append_page.new.out.items ≡ n + count = ap length new ∙ length-append c.loop-out.out.items part
    ∙ ap (λ m. m + length part) so_far ∙ ap (λ m. n + m) (length-resized count _) in
    let run = λ (m : ℕ). map (byte_at c.args.pages.now) (range_with_len c.args.offset m) in
    record {
      within = omega arith;
      copied = new ∙ ap (λ front. front ++ part) (c.loop-out.invariant.copied ∙ ap run so_far)
          ∙ ap (λ back. run n ++ back) (page_run c.args.pages.now at count (omega arith))
          ∙ run_more (byte_at c.args.pages.now) c.args.offset n count ∙ ap run (sym long);
    }
