use Rattle.std.specs.Prelude.{◌≡◌, ◌+◌, ◌*◌, ◌/◌, ◌%◌, ◌-◌, ◌≤◌, length, take, drop}
use Rattle.std.proofs.Common.{arith, ◌∙◌}
use Rattle.fm_base.proofs.Paging.{chunk_fits, chunk_long, chunk_is, long_more, over_more}
use Rattle.fm_base.proofs.pages.overwrite.Goals as goal

pub overwrite_page-requires : goal.overwrite_page-requires
overwrite_page-requires c =
    chunk_fits c.args.offset c.loop-done.done c.min-count.result c.args.bytes.now c.args.pages.now c.loop-done.pages c.requires.room
    c.loop-done.invariant.long c.loop-done-test.true c.min-count.ensures

pub loop-done-preserved : goal.loop-done-preserved
loop-done-preserved c =
    let offset = c.args.offset in
    let done = c.loop-done.done in
    let count = c.min-count.result in
    let bytes = c.args.bytes.now in
    let chunk = take (done + count - done) (drop done bytes) in
    let at = offset + done in
    let is : at ≡ 4096 * (at / 4096) + at % 4096 = omega arith in
    let on_page : at % 4096 + count ≤ 4096 = omega arith in
    let within : done + count ≤ length bytes = omega arith in
    let fits = chunk_fits offset done count bytes c.args.pages.now c.loop-done.pages c.requires.room c.loop-done.invariant.long
    c.loop-done-test.true c.min-count.ensures in
    record {
      within = within;
      over = over_more offset done count bytes chunk c.args.pages.now c.loop-done.pages c.overwrite_page.new.pages (at / 4096) (at % 4096) is
          on_page within (chunk_long done count bytes within) (chunk_is done count bytes) fits c.overwrite_page.ensures c.loop-done.invariant.over;
      long = λ q. long_more offset done count bytes chunk c.args.pages.now c.loop-done.pages c.overwrite_page.new.pages (at / 4096) (at % 4096) is
          on_page within (chunk_long done count bytes within) (chunk_is done count bytes) fits c.overwrite_page.ensures q
          ∙ c.loop-done.invariant.long q;
    }
