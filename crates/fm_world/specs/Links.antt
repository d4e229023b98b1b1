-- Links go with what they name: with a stream that is torn down, and its file, and with a handle that closes.
use Rattle.std.specs.Prelude.{◌≡◌, Bool, true, not, Option, Some, None, is_some}
use Rattle.fm_world.specs.Words.{Object, Sweeps, Context}
use Rattle.fm_ctx.specs.declared.object.Object.TheVariants as object
use Rattle.fm_world.specs.Files.{FileTable, stream_at, handle_at}
use Rattle.fm_world.specs.World.{World, carries}

-- what a link names is there: a stream that wasn't torn down, a handle that is open, a file whose stream is there. (Volumes and instances stay.)
abbrev pub is_there : FileTable → Option Object → Bool
is_there f None = true
is_there f (Some (object.Volume v)) = true
is_there f (Some (object.Instance i)) = true
is_there f (Some (object.Stream s)) = is_some (stream_at s f)
is_there f (Some (object.Handle h)) = is_some (handle_at h f)
is_there f (Some (object.File s)) = is_some (stream_at s f)

abbrev pub names_there : FileTable → Option Context → Bool
names_there f None = true
names_there f (Some x) = is_there f x.link

-- a context that is set on what is gone
abbrev pub is_on_gone : FileTable → Context → Bool
is_on_gone f x = not (is_there f x.link)

-- the contexts that are set on what is gone lose their links
abbrev pub LosesLinks : World → World → Type 0
LosesLinks old new = Sweeps (carries old) (is_on_gone old.files) old.contexts new.contexts × (new ≡ record old { contexts = new.contexts })
