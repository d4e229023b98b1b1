-- What is said of schedules.
use Rattle.std.specs.Prelude.{◌==◌, ◌&&◌, Bool, not}
use Rattle.test_schedule.specs.declared.choice.Schedule.{Schedule}

-- choices alone made the order, and all of them are in the list
abbrev pub is_repeatable : Schedule → Bool
is_repeatable schedule = schedule.passed_over == 0 && schedule.lost == 0 && not schedule.has_strayed
