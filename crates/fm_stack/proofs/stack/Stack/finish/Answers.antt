use Rattle.fm_stack.proofs.Finishing.{finished_follows}
use Rattle.fm_stack.proofs.Kept.{emptying_read, finished_kept, found_at, has_order, sits_there}
use Rattle.fm_stack.proofs.stack.Stack.finish.Goals as goal
use Rattle.std.proofs.Common.{Some, None}

pub unreachable-requires : goal.unreachable-requires
unreachable-requires c =
    let row = emptying_read c.args.instance c.index.result.now c.self.view_is c.requires c.index.ensures in
    sits_there _ _ c.args.instance c.index.result.now c.self.invariant row.1 row.2
    (found_at _ _ _ c.args.instance c.index.result.now.volume None _ c.seats_at-seats.ensures c.deref.ensures.value c.place_of.ensures c.in_default.is)

pub set_phase-requires : goal.set_phase-requires
set_phase-requires c = (emptying_read c.args.instance c.index.result.now c.self.view_is c.requires c.index.ensures).0

pub remove_at-requires-clause-there : goal.remove_at-requires-clause-there
remove_at-requires-clause-there c =
    let row = emptying_read c.args.instance c.index.result.now c.self.view_is c.requires c.index.ensures in
    has_order _ _ c.args.instance.0 c.index.result.now c.self.invariant row.1

pub invariant_of-self : goal.invariant_of-self
invariant_of-self c =
    let row = emptying_read c.args.instance c.index.result.now c.self.view_is c.requires c.index.ensures in
    let at =
    found_at _ _ _ c.args.instance c.index.result.now.volume (Some c.in-Some.place) _ c.seats_at-seats.ensures c.deref.ensures.value
    c.place_of.ensures c.in-Some.is in
    rw (c.set_phase.ensures, c.remove_at.ensures) (finished_kept _ _ c.args.instance c.index.result.now c.in-Some.place c.self.invariant row.1 row.2 at)

pub returns-clause-follows : goal.returns-clause-follows
returns-clause-follows c = rw (← c.self.view_is, c.set_phase.ensures) (finished_follows _ c.args.instance)
