use Rattle.std.proofs.Common.{◌∙◌, ap, refl}
use Rattle.fm_ctx.specs.Counting.{count_reply}
use Rattle.fm_world.specs.World.{World, carries}
use Rattle.fm_script.specs.Sayings.{said_count}
use Rattle.fm_script.specs.declared.said.Said.{Said}
use Rattle.std.specs.Prelude.{Some}
use Rattle.fm_script.proofs.interpreter.Interpreter.told_count.Goals as goal

pub returns : goal.returns
returns c =
    let counted = c.count-count.ensures ∙ ap (λ (w : World). count_reply (carries w) w.contexts c.args.context) c.state.ensures in
    (refl, ap (λ (s : Said). Some s) (c.said_count.ensures ∙ ap said_count counted))
