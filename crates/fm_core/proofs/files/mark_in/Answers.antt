use Rattle.fm_core.proofs.Words.{absent, stands_there, FileStream, ap, position, sym, ◌∙◌, change_none, is_stream, with_mark, slice_set}
use Rattle.fm_core.proofs.files.mark_in.Goals as goal

pub returns-in-Some : goal.returns-in-Some
returns-in-Some c =
    ap (λ (x : FileStream). slice_set c.args.streams.now.items c.in-Some.at (with_mark c.args.is_marked x)) c.index_mut.ensures.value
    ∙ (stands_there (is_stream c.args.stream) c.args.streams.now.items c.in-Some.at c.index_mut.result.now
    (ap (position (is_stream c.args.stream)) (sym c.deref.ensures.value) ∙ sym c.index_of_stream.ensures ∙ c.in-Some.is)).writes (with_mark c.args.is_marked)

pub returns-in_default : goal.returns-in_default
returns-in_default c =
    sym (change_none (is_stream c.args.stream) (with_mark c.args.is_marked) c.args.streams.now.items (absent (is_stream c.args.stream) c.args.streams.now.items
    (ap (position (is_stream c.args.stream)) (sym c.deref.ensures.value) ∙ sym c.index_of_stream.ensures ∙ c.in_default.is)))
