use Rattle.std.proofs.Common.{◌≡◌, ◌∙◌, ap, sym}
use Rattle.fm_explore.specs.Verdicts.{with_found}
use Rattle.fm_explore.proofs.Wholes.{is_over}
use Rattle.fm_explore.proofs.search.Search.take_run.Goals as goal

pub returns : goal.returns
returns g c = record {
  goes = λ begun none.
      let noted : c.note_run.new.self.stopped ≡ c.stopped_by-self.result = c.in_ok-note_run.ensures.same ∙ c.count_run.ensures.1 in
      let whole = sym c.stopped_by-self.ensures ∙ sym noted ∙ none in (
        record {
          choices = c.play.new.self.order.schedule.choices.items;
          found = c.take_found-found.result.items;
          end = c.in_ok-end.end;
          dropped = c.dropped.result;
        },
        c.in_ok-end.ensures.takes begun (is_over _ c.in_ok-end.end c.dropped.result whole),
        (c.in_ok-note_run.ensures.verdict ∙ ap (λ v. with_found v c.take_found-found.result.items) c.count_run.ensures.0, noted ∙ c.stopped_by-self.ensures),
        c.in_ok-next.ensures,
      );
}
