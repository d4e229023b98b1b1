use Rattle.std.proofs.Common.{◌≡◌, ◌<◌}
use Rattle.fm_ctx.proofs.Words.{length}
use Rattle.fm_ctx.specs.declared.seat.Links.TheVariants.{Of}
use Rattle.fm_ctx.proofs.Sweeping.{SweptWhere}
use Rattle.fm_ctx.proofs.contexts.Contexts.unlink_owner.Given as goal

abbrev pub invariant-loop-slot : goal.invariant-loop-slot
invariant-loop-slot l = record { swept : SweptWhere (Of l.owner) l.initial.self l.self (λ k. k < l.slot); all : l.slot-end ≡ length l.initial.self.table.slots }
