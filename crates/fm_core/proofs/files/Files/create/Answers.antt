use Rattle.fm_core.proofs.Words.{FilesKept, FileStream, List, ap, false, subst, sym, ℕ, ◌<◌, ◌≡◌, has_handle_on, All}
use Rattle.fm_core.proofs.Counted.{created_counted}
use Rattle.fm_core.proofs.Named.{created_named}
use Rattle.fm_core.proofs.Rising.{created_rising}
use Rattle.fm_core.specs.FilesKept.{found_at}
use Rattle.fm_core.specs.declared.file_name.FileName.{FileName}
use Rattle.fm_core.proofs.files.Files.create.Goals as goal

pub invariant_of-self : goal.invariant_of-self
invariant_of-self c = record {
  room = c.self.invariant.room;
  rising = created_rising _ c.self.inside.streams.items c.push_reserved.new.self.items c.self.inside.handles.items c.self.inside.next
      c.push_reserved.ensures.items
      (subst (λ (f : FilesKept). All (λ (x : FileStream). x.number.0 < c.args.number) f.table.streams)
      (sym c.self.view_is) c.requires.fresh) c.self.invariant.rising;
  counted = created_counted _ c.self.inside.streams.items c.push_reserved.new.self.items c.self.inside.handles.items c.self.inside.opens.items
      c.push_reserved-then-is_none.new.self.items c.push_reserved.ensures.items c.push_reserved-then-is_none.ensures.items
      (subst (λ (f : FilesKept). has_handle_on (record { 0 = c.args.number }) f.table ≡ false) (sym c.self.view_is) c.requires.unused) c.self.invariant.counted;
  named = created_named c.args.name _ c.self.inside.streams.items c.push_reserved.new.self.items c.self.inside.numbers c.note.new.numbers c.args.found
      (ap {B = FileName} (λ (path : List ℕ). record { volume = c.args.name.volume; path = path }) c.requires.path) c.push_reserved.ensures.items
      (subst (λ (f : FilesKept). c.args.found ≡ found_at c.args.name.volume c.args.name.path f.table) (sym c.self.view_is) c.requires.found)
      c.if-is_none.ensures c.note.ensures c.self.invariant.named;
}
