use Rattle.std.proofs.Common.{slice_set}
use Rattle.fm_ctx.proofs.Words.{length-set}
use Rattle.fm_ctx.proofs.Sound.{sound_beside}
use Rattle.fm_ctx.proofs.contexts.Contexts.note_left.Goals as goal

pub invariant_of-self : goal.invariant_of-self
invariant_of-self c =
    let left = c.self.inside.left.items in
    record {
      sound = sound_beside c.self.invariant.sound c.self.inside.leaks (slice_set left c.args.worker.0 c.note.new.self)
          (length-set left c.args.worker.0 c.note.new.self);
      seated = c.self.invariant.seated;
      placed = c.self.invariant.placed;
      account = c.self.invariant.account;
    }
