use Rattle.fm_core.proofs.Words.{AreCounted, changed_at, without_none, FileHandle, FileStream, IfSome, List, ap, position, subst, sym, ◌-◌, ◌∙◌, ◌≤◌, is_handle}
use Rattle.fm_core.proofs.Words.{is_stream}
use Rattle.std.proofs.Common.{slice_index_or}
use Rattle.fm_core.proofs.Counted.{closed_counted, closing_counts}
use Rattle.fm_core.proofs.Rising.{closed_rising}
use Rattle.fm_core.proofs.files.Files.close.Goals as goal

pub take_open-requires-clause-some : goal.take_open-requires-clause-some
take_open-requires-clause-some c =
    subst (λ (xs : List FileStream). IfSome (position (is_stream c.in-Some.row.stream) xs) (λ k. 1 ≤ slice_index_or c.self.inside.opens.items k 0))
    (sym c.deref.ensures.value)
    (closing_counts c.args.handle c.in-Some.row c.self.inside.streams.items c.self.inside.handles.items c.self.inside.opens.items
    (sym c.close_in.ensures.found ∙ c.in-Some.is) c.self.invariant.counted)

pub invariant_of-self : goal.invariant_of-self
invariant_of-self c = record {
  room = subst (λ n. 4096 ≤ n) (sym c.close_in.ensures.capacity) c.self.invariant.room;
  rising = closed_rising c.args.handle c.self.inside.streams.items c.self.inside.handles.items c.close_in.new.handles.items c.self.inside.next
      c.close_in.ensures.items c.self.invariant.rising;
  counted = closed_counted c.args.handle c.in-Some.row c.self.inside.streams.items c.self.inside.handles.items c.close_in.new.handles.items
      c.self.inside.opens.items c.take_open.new.opens.items c.self.invariant.rising.streams (sym c.close_in.ensures.found ∙ c.in-Some.is)
      c.close_in.ensures.items
      (c.take_open.ensures.items ∙ ap (λ (xs : List FileStream). changed_at (λ n. n - 1) (position (is_stream c.in-Some.row.stream) xs)
      c.self.inside.opens.items)
      c.deref.ensures.value)
      c.self.invariant.counted;
  named = c.self.invariant.named;
}

pub invariant_of-self-in_default : goal.invariant_of-self-in_default
invariant_of-self-in_default c = record {
  room = subst (λ n. 4096 ≤ n) (sym c.close_in.ensures.capacity) c.self.invariant.room;
  rising = closed_rising c.args.handle c.self.inside.streams.items c.self.inside.handles.items c.close_in.new.handles.items c.self.inside.next
      c.close_in.ensures.items c.self.invariant.rising;
  counted = subst (λ (hs : List FileHandle). AreCounted c.self.inside.streams.items hs c.self.inside.opens.items)
      (sym (c.close_in.ensures.items ∙ without_none (is_handle c.args.handle) c.self.inside.handles.items (sym c.close_in.ensures.found ∙ c.in_default.is)))
      c.self.invariant.counted;
  named = c.self.invariant.named;
}
