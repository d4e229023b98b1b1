-- The exit status of a script that was shown.
use Rattle.std.specs.Prelude.{◌≡◌, ℕ, Option, Some, None, nat_eq, nat_lt, ◌||◌, cond}
use Rattle.fm_report.specs.Counted.{held_in}
use Rattle.fm_report.specs.declared.tally.Summary.{Summary}
use Rattle.fm_script.specs.Ends.{exit_status}
use Rattle.fm_script.specs.declared.script_end.ScriptEnd.{ScriptEnd}
use Rattle.fm_script.specs.declared.script_end.ScriptEnd.TheVariants.{Ended}
use Rattle.fm_view.specs.declared.expect.Expectations.{Expectations}
use Rattle.fm_world.specs.World.{World}

-- that of its end; of one that ended well 2 if a line expects what can't be read, else 6 if an expectation wasn't met, and else 5 if it left a reference behind
-- or an operation that is held, or a line gave back or resumed what it didn't have
abbrev pub status_of : ScriptEnd → ℕ → ℕ → ℕ → ℕ → ℕ → ℕ
status_of Ended wrong unmet leaks held misuses = cond (nat_lt 0 wrong) 2
    (cond (nat_lt 0 unmet) 6 (cond (nat_lt 0 leaks || nat_lt 0 held || nat_lt 0 misuses) 5 0))
status_of end wrong unmet leaks held misuses = exit_status end

-- 0 where a status is expected and it is that one, 6 where it is another one; but 2, of a line that can't be read, stays
abbrev pub status_met : Option ℕ → ℕ → ℕ
status_met (Some expected) status = cond (nat_eq status 2) 2 (cond (nat_eq expected status) 0 6)
status_met None status = status

-- the figures of a run that ended so and left that World: the references that were left behind and the operations that are held are the World's, and by them
-- comes the status
pub record IsCounted (end : ScriptEnd) (x : Expectations) (w : World) (figures : Summary) : Type 0 where
  pub leaks : figures.leaks ≡ w.contexts.leaks
  pub held : figures.held ≡ held_in w.flow
  pub misuses : figures.misuses ≡ x.misuses
  pub status : figures.status ≡ status_met x.status (status_of end x.wrong figures.unmet w.contexts.leaks (held_in w.flow) x.misuses)
