use Rattle.fm_host.proofs.Texts.{path_is_text}
use Rattle.fm_host.proofs.paths.joined.Goals as goal

pub unwrap-text-requires : goal.unwrap-text-requires
unwrap-text-requires c = path_is_text c.text.result.now c.from_utf8.result _ _ (rw c.text.ensures.value c.text.ensures.path) c.from_utf8.ensures.cases
