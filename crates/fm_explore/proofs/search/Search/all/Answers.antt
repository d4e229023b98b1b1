use Rattle.std.proofs.Common.{◌∙◌, ◌∷◌, sym, subst}
use Rattle.fm_explore.specs.Searches.{GoesOn}
use Rattle.fm_explore.proofs.Wholes.{searched_more, searched_whole, was_whole}
use Rattle.fm_explore.proofs.search.Search.all.Goals as goal

pub returns-in-None : goal.returns-in-None
returns-in-None g c = record {
  whole = λ none.
      let run = c.in_ok-next.ensures.goes none in
      let before = c.loop.invariant (was_whole c.loop.search.stopped run.0.end run.0.dropped (sym run.2.1 ∙ none)) in (
        run.0 ∷ before.0,
        searched_whole c.whole_searches_run_all.ensures before.0 c.loop.path.items c.loop.search c.run_path.new.self run.0 before.1 run.1 run.2
            (subst (λ next. GoesOn run.0 next) c.in-None.is run.3),
      );
}

pub loop-preserved : goal.loop-preserved
loop-preserved g c = λ none.
    let run = c.in_ok-next.ensures.goes none in
    let before = c.loop.invariant (was_whole c.loop.search.stopped run.0.end run.0.dropped (sym run.2.1 ∙ none)) in (
      run.0 ∷ before.0,
      searched_more before.0 c.loop.path.items c.in-Some.next.items c.loop.search c.run_path.new.self run.0 before.1 run.1 run.2
          (subst (λ next. GoesOn run.0 next) c.in-Some.is run.3),
    )
