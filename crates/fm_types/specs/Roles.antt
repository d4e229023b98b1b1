-- What an operation does with the file that it is on.
use Rattle.fm_types.specs.declared.operation.Operation.{Operation}
use Rattle.fm_types.specs.declared.operation.Operation.TheVariants.{Create, SetDelete, Restore, Cleanup, Close}
use Rattle.fm_types.specs.declared.operation.Role.{Role}
use Rattle.fm_types.specs.declared.operation.Role.TheVariants.{Opens, Uses, Marks, Unmarks, CleansUp, Closes}

abbrev pub role_of : Operation → Role
role_of Create = Opens
role_of SetDelete = Marks
role_of Restore = Unmarks
role_of Cleanup = CleansUp
role_of Close = Closes
role_of _ = Uses
