use Rattle.fm_core.proofs.Words.{absent, found_read, stands_there, without_none, None, ap, position, subst, sym, ◌∙◌, is_stream}
use Rattle.fm_core.proofs.Named.{torn_named}
use Rattle.fm_core.specs.FileNames.{Notes}
use Rattle.fm_core.specs.declared.file_name.FileName.{FileName}
use Rattle.fm_core.proofs.files.tear_in.Goals as goal

pub returns-in-Some-clause-streams : goal.returns-in-Some-clause-streams
returns-in-Some-clause-streams c =
    c.remove-row.ensures.items ∙ (stands_there (is_stream c.args.stream) c.args.streams.now.items c.in-Some.at c.remove-row.result
    (ap (position (is_stream c.args.stream)) (sym c.deref.ensures.value) ∙ sym c.index_of_stream.ensures ∙ c.in-Some.is)).goes

pub returns-in-Some-clause-named : goal.returns-in-Some-clause-named
returns-in-Some-clause-named c =
    torn_named c.args.stream c.remove-row.result c.args.streams.now.items c.remove-row.new.self.items c.args.numbers.now c.forget.new.numbers
    (returns-in-Some-clause-streams c)
    (sym (found_read (is_stream c.args.stream) c.args.streams.now.items c.in-Some.at c.remove-row.result
    (ap (position (is_stream c.args.stream)) (sym c.deref.ensures.value) ∙ sym c.index_of_stream.ensures ∙ c.in-Some.is) c.remove-row.ensures.value))
    (subst (λ (f : FileName). Notes c.args.numbers.now c.forget.new.numbers f None) c.file_of.ensures c.forget.ensures) c.requires.named

pub returns-in_default-clause-streams : goal.returns-in_default-clause-streams
returns-in_default-clause-streams c =
    sym (without_none (is_stream c.args.stream) c.args.streams.now.items (absent (is_stream c.args.stream) c.args.streams.now.items
    (ap (position (is_stream c.args.stream)) (sym c.deref.ensures.value) ∙ sym c.index_of_stream.ensures ∙ c.in_default.is)))
