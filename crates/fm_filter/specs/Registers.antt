-- What a filter registers for, by names: each operation and each kind of context is named once.
use Rattle.std.specs.Prelude.{ℕ, ◌+◌, List, [], ◌∷◌}
use Rattle.fm_types.specs.Masks.{operation_bit, context_bit}
use Rattle.fm_types.specs.declared.context_kind.ContextKind.{ContextKind}
use Rattle.fm_types.specs.declared.context_kind.ContextMask.{ContextMask}
use Rattle.fm_types.specs.declared.operation.Operation.{Operation}
use Rattle.fm_types.specs.declared.operation.OpMask.{OpMask}

abbrev pub bits_of : List Operation → ℕ
bits_of [] = 0
bits_of (operation ∷ others) = operation_bit operation + bits_of others

-- the set of those operations
abbrev pub mask_of : List Operation → OpMask
mask_of operations = record { 0 = bits_of operations }

abbrev pub context_bits_of : List ContextKind → ℕ
context_bits_of [] = 0
context_bits_of (kind ∷ others) = context_bit kind + context_bits_of others

-- the set of those kinds of contexts
abbrev pub kinds_of : List ContextKind → ContextMask
kinds_of kinds = record { 0 = context_bits_of kinds }
