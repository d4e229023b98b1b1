-- What clients ask of handles.
use Rattle.fm_callback_data.specs.declared.params.Params.{Params}
use Rattle.fm_callback_data.specs.declared.params.Params.TheVariants as params
use Rattle.fm_callback_data.specs.declared.request.FileRequest.{FileRequest}
use Rattle.fm_callback_data.specs.declared.request.FileRequest.TheVariants as request

-- the parameters of the operation that is asked for
abbrev pub params_of : FileRequest → Params
params_of (request.Read offset len) = params.Read offset len
params_of (request.Write offset bytes) = params.Write offset bytes
params_of request.QuerySize = params.QuerySize
params_of (request.SetSize size) = params.SetSize size
params_of request.Flush = params.Flush
params_of request.SetDelete = params.SetDelete
params_of request.Restore = params.Restore
params_of request.Cleanup = params.Cleanup
params_of request.Close = params.Close
params_of (request.Other major number) = params.Other major number
