-- Sets of operations and of kinds of contexts, as bits.
use Rattle.std.specs.Prelude.{◌≡◌, ℕ, Bool, true, false, ◌==◌}
use Rattle.std.specs.Int.RustNames.{bit_and}
use Rattle.fm_types.specs.Majors.{major_bit}
use Rattle.fm_types.specs.declared.operation.Operation.{Operation}
use Rattle.fm_types.specs.declared.operation.Operation.TheVariants.{Create, Read, Write, QuerySize, SetSize, Flush, List, SetDelete, Restore, Cleanup, Close, Other}
use Rattle.fm_types.specs.declared.context_kind.ContextKind.{ContextKind}
use Rattle.fm_types.specs.declared.context_kind.ContextKind.TheVariants.{Volume, Instance, Stream, Handle, File}

-- the bit of an operation in a set of operations
abbrev pub operation_bit : Operation → ℕ
operation_bit Create = 1
operation_bit Read = 2
operation_bit Write = 4
operation_bit QuerySize = 8
operation_bit SetSize = 16
operation_bit Flush = 32
operation_bit List = 64
operation_bit SetDelete = 128
operation_bit Restore = 1024
operation_bit Cleanup = 256
operation_bit Close = 512
operation_bit (Other m) = major_bit m

-- whether a set of operations has that one
abbrev pub has_operation : ℕ → Operation → Bool
has_operation mask operation = bit_and mask (operation_bit operation) == operation_bit operation

-- every operation is in the set
abbrev pub HasEveryOperation : ℕ → Type 0
HasEveryOperation mask = (operation : Operation) → has_operation mask operation ≡ true

-- no operation is in the set
abbrev pub HasNoOperation : ℕ → Type 0
HasNoOperation mask = (operation : Operation) → has_operation mask operation ≡ false

-- the bit of a kind of context in a set of kinds
abbrev pub context_bit : ContextKind → ℕ
context_bit Volume = 1
context_bit Instance = 2
context_bit Stream = 4
context_bit Handle = 8
context_bit File = 16

-- whether a set of kinds has that one
abbrev pub has_context : ℕ → ContextKind → Bool
has_context mask kind = bit_and mask (context_bit kind) == context_bit kind

-- every kind of context is in the set
abbrev pub HasEveryContext : ℕ → Type 0
HasEveryContext mask = (kind : ContextKind) → has_context mask kind ≡ true

-- no kind of context is in the set
abbrev pub HasNoContext : ℕ → Type 0
HasNoContext mask = (kind : ContextKind) → has_context mask kind ≡ false
