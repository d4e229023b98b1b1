use Rattle.std.proofs.Common.{◌≡◌, Some, sym}
use Rattle.std.specs.List.{slice_get}
use Rattle.fm_script.proofs.Newest.{found_at, newest_is}
use Rattle.fm_script.proofs.context_list.ContextList.newest_number.Goals as goal

pub returns-then-is_same : goal.returns-then-is_same
returns-then-is_same c =
    let ids = c.self.inside.ids.items in
    let newest = c.self.inside.newest.items in
    let number = c.in_ok-number.field-0.now in
    let last = c.in_ok-last.last.now in
    let kept : slice_get newest c.args.context.slot ≡ Some number =
    found_at newest c.deref.result.now c.args.context.slot number c.deref.ensures.value c.in_ok-number.ensures.lookup.0
    c.in_ok-number.ensures.lookup.1 in
    let there : slice_get ids number ≡ Some last = found_at ids c.deref-2.result.now number last c.deref-2.ensures.value
    c.in_ok-last.ensures.lookup.0 c.in_ok-last.ensures.lookup.1 in
    rw (← c.self.view_is) (newest_is c.args.context last ids newest number c.self.invariant kept there (sym c.if-is_same.ensures))
