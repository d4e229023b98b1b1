-- What a handle owns, and the session of a handle before and after a call.
use Rattle.std.specs.Prelude.{◌≡◌, ℕ, Option, Some, None, IsSome}
use base.Fml.{Fml, ftrue}
use denote.RawPtr.{Ptr}
use Rattle.std.specs.Box.Ownership.{box_owns}
use Rattle.libc.specs.Heap.{chunk}
use Rattle.kazdrin_c.specs.declared.host.SessionHost.{SessionHost}
use Rattle.kazdrin_c.specs.contracts.host.SessionHost.{the_row as host_row}

-- the session at a pointer with the right to free its block, if there is one
abbrev pub held_at : Ptr → Option SessionHost → Fml
held_at p None = ftrue
held_at p (Some x) = box_owns chunk host_row p x

-- a handle that says that it is open has a session
abbrev pub HasSession : ℕ → Option SessionHost → Type 0
HasSession is_open host = is_open ≡ 1 → IsSome host
