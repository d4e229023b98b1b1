-- Links that go with what they name, as the code finds them.
use Rattle.std.specs.Prelude.{◌≡◌, Bool, true, false, ◌&&◌, ◌||◌, Option, Some, None, option_map}
use Rattle.fm_types.specs.declared.ids.StreamId.{StreamId}
use Rattle.fm_types.specs.declared.operation.Operation.{Operation}
use Rattle.fm_types.specs.declared.operation.Operation.TheVariants as kind
use Rattle.fm_ctx.specs.declared.object.Object.{Object}
use Rattle.fm_ctx.specs.declared.object.Object.TheVariants as object
use Rattle.fm_ctx.specs.Kept.{ContextsKept, carried_of}
use Rattle.fm_ctx.specs.Objects.{is_to}
use Rattle.fm_ctx.specs.Settling.{Sweeps}
use Rattle.fm_ctx.specs.Table.{Context}
use Rattle.fm_world.specs.Files.{FileTable}
use Rattle.fm_world.specs.Links.{is_on_gone, names_there}
use Rattle.fm_core.specs.declared.target.Target.{Target}

-- the links of all contexts that pass a test go, and completions carry what they did
pub record Sweeping (test : Context → Bool) (old new : ContextsKept) : Type 0 where
  pub sweeps : Sweeps (carried_of old) test old.table new.table
  pub carried : new.carried ≡ old.carried

-- what an answer to an operation may take away: a close its handle, a close and a create their stream, and with it the file
abbrev pub handle_lost_by : Operation → Target → Option Object
handle_lost_by kind.Close x = option_map object.Handle x.handle
handle_lost_by _ x = None

abbrev pub handle_lost : Target → Option Object
handle_lost x = handle_lost_by x.operation x

abbrev pub torn_by : Operation → Target → Option StreamId
torn_by kind.Create x = x.stream
torn_by kind.Close x = x.stream
torn_by _ x = None

abbrev pub torn : Target → Option StreamId
torn x = torn_by x.operation x

abbrev pub stream_lost : Target → Option Object
stream_lost x = option_map object.Stream (torn x)

abbrev pub file_lost : Target → Option Object
file_lost x = option_map object.File (torn x)

-- whether a link is to an object
abbrev pub is_named : Option Object → Option Object → Bool
is_named None link = false
is_named (Some o) link = is_to o link

-- whether it is set on an object that is gone
abbrev pub is_lost : FileTable → Option Object → Context → Bool
is_lost f o x = is_named o x.link && is_on_gone f x

abbrev pub is_lost_of : FileTable → Target → Context → Bool
is_lost_of f target x =
    ((is_named (handle_lost target) x.link || is_named (stream_lost target) x.link) || is_named (file_lost target) x.link) && is_on_gone f x

-- nothing else is gone
abbrev pub GoneAlone : FileTable → FileTable → Target → Type 0
GoneAlone f g target = (x : Context) → names_there f (Some x) ≡ true → is_on_gone g x ≡ is_lost_of g target x
