use Rattle.fm_core.proofs.Words.{AreCounted, FilesKept, changed_at, fresh_handle, FileHandle, FileStream, List, [], ap, position, refl, subst, sym, ◌++◌, ◌+◌}
use Rattle.fm_core.proofs.Words.{◌<◌, ◌∙◌, ◌∷◌, ◌≡◌, ◌≤◌, is_stream, length}
use Rattle.fm_core.proofs.Counted.{few_counted, opened_counted}
use Rattle.fm_core.proofs.Rising.{opened_rising}
use Rattle.fm_core.proofs.files.Files.open.Goals as goal

pub add_open-requires-clause-few : goal.add_open-requires-clause-few
add_open-requires-clause-few c =
    few_counted c.self.inside.streams.items c.self.inside.handles.items c.self.inside.opens.items
    (subst (λ (f : FilesKept). length f.table.handles < 4096) (sym c.self.view_is) c.requires.room) c.self.invariant.counted

pub invariant_of-self : goal.invariant_of-self
invariant_of-self c =
    let h : FileHandle = fresh_handle c.args.stream c.self.inside.next in
    let handles : c.push_reserved.new.self.items ≡ c.self.inside.handles.items ++ h ∷ [] = c.push_reserved.ensures.items in
    let at = c.add_open.ensures.items
    ∙ ap (λ (xs : List FileStream). changed_at (λ n. n + 1) (position (is_stream c.args.stream) xs) c.self.inside.opens.items) c.deref.ensures.value in
    let counted = opened_counted h c.self.inside.streams.items c.self.inside.handles.items c.self.inside.opens.items c.add_open.new.opens.items
    c.self.invariant.rising.streams at c.self.invariant.counted in record {
      room = subst (λ n. 4096 ≤ n) (sym c.push_reserved.ensures.capacity) c.self.invariant.room;
      rising = opened_rising h c.self.inside.streams.items c.self.inside.handles.items c.push_reserved.new.self.items
          c.self.inside.next handles refl c.self.invariant.rising;
      counted = subst (λ (hs : List FileHandle). AreCounted c.self.inside.streams.items hs c.add_open.new.opens.items) (sym handles) counted;
      named = c.self.invariant.named;
    }
