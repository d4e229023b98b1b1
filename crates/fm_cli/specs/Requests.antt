-- Which words name which request.
use Rattle.std.specs.Prelude.{◌≡◌, ℕ, cond, nat_lt, List, [], ◌∷◌, length, Option, Some, None, codes, bytes_eq, find}
use Rattle.fm_callback_data.specs.declared.request.FileRequest.{FileRequest}
use Rattle.fm_callback_data.specs.declared.request.FileRequest.TheVariants as file
use Rattle.fm_callback_data.specs.declared.request.Request.TheVariants as request
use Rattle.fm_wire.specs.declared.frame.Control.TheVariants as control
use Rattle.fm_wire.specs.declared.frame.Body.{Body}
use Rattle.fm_wire.specs.declared.frame.Body.TheVariants as body
use Rattle.fm_words.specs.Numbers.{number_read}
use Rattle.fm_cli.specs.Values.{◌>>=◌, ReadsAltitude, ReadsBytes, ReadsName, ReadsPath, mode_read, number_below}
use Rattle.fm_cli.specs.declared.verb.Verb.{Verb}
use Rattle.fm_cli.specs.declared.verb.Verb.TheVariants as verb

abbrev pub spelling : Verb → List ℕ
spelling verb.Create = codes "create"
spelling verb.Read = codes "read"
spelling verb.Write = codes "write"
spelling verb.QuerySize = codes "querysize"
spelling verb.SetSize = codes "setsize"
spelling verb.Flush = codes "flush"
spelling verb.List = codes "list"
spelling verb.SetDelete = codes "setdelete"
spelling verb.Restore = codes "restore"
spelling verb.Close = codes "close"
spelling verb.Load = codes "load"
spelling verb.Attach = codes "attach"
spelling verb.Detach = codes "detach"
spelling verb.Unload = codes "unload"
spelling verb.Dismount = codes "dismount"
spelling verb.Stop = codes "stop"

abbrev pub all_verbs : List Verb
all_verbs =
    verb.Create ∷ verb.Read ∷ verb.Write ∷ verb.QuerySize ∷ verb.SetSize ∷ verb.Flush ∷ verb.List ∷ verb.SetDelete ∷ verb.Restore ∷ verb.Close ∷ verb.Load ∷ verb.Attach
    ∷ verb.Detach ∷ verb.Unload ∷ verb.Dismount ∷ verb.Stop ∷ []

-- what the first word asks for
unfoldable pub verb_read : List ℕ → Option Verb
verb_read word = find (λ v. bytes_eq (spelling v) word) all_verbs

-- an operation on a handle
abbrev pub on_handle : ℕ → FileRequest → Body
on_handle handle asked = body.Operation (request.OnHandle (record { 0 = handle }) asked)

-- ---- numbers alone

-- read H OFFSET LEN
abbrev pub read_read : List (List ℕ) → Option Body
read_read (handle ∷ offset ∷ len ∷ []) =
    number_read handle >>= λ h. number_read offset >>= λ o. number_below 32769 len >>= λ n. Some (on_handle h (file.Read o n))
read_read _ = None

-- setsize H N
abbrev pub set_size_read : List (List ℕ) → Option Body
set_size_read (handle ∷ size ∷ []) = number_read handle >>= λ h. number_read size >>= λ n. Some (on_handle h (file.SetSize n))
set_size_read _ = None

-- querysize H, flush H, setdelete H, close H
abbrev pub only_handle : List (List ℕ) → FileRequest → Option Body
only_handle (handle ∷ []) asked = number_read handle >>= λ h. Some (on_handle h asked)
only_handle _ asked = None

-- list V
abbrev pub list_read : List (List ℕ) → Option Body
list_read (volume ∷ []) = number_below 256 volume >>= λ v. Some (body.Operation (request.List (record { 0 = v })))
list_read _ = None

-- detach I
abbrev pub detach_read : List (List ℕ) → Option Body
detach_read (instance ∷ []) = number_below 65536 instance >>= λ i. Some (body.Control (control.Detach (record { 0 = i })))
detach_read _ = None

-- unload F
abbrev pub unload_read : List (List ℕ) → Option Body
unload_read (filter ∷ []) = number_below 256 filter >>= λ f. Some (body.Control (control.Unload (record { 0 = f })))
unload_read _ = None

-- dismount V
abbrev pub dismount_read : List (List ℕ) → Option Body
dismount_read (volume ∷ []) = number_below 256 volume >>= λ v. Some (body.Control (control.Dismount (record { 0 = v })))
dismount_read _ = None

-- stop
abbrev pub stop_read : List (List ℕ) → Option Body
stop_read [] = Some (body.Control control.Stop)
stop_read _ = None

abbrev pub plain_read : Verb → List (List ℕ) → Option Body
plain_read verb.Read words = read_read words
plain_read verb.QuerySize words = only_handle words file.QuerySize
plain_read verb.SetSize words = set_size_read words
plain_read verb.Flush words = only_handle words file.Flush
plain_read verb.List words = list_read words
plain_read verb.SetDelete words = only_handle words file.SetDelete
plain_read verb.Restore words = only_handle words file.Restore
plain_read verb.Close words = only_handle words file.Close
plain_read verb.Detach words = detach_read words
plain_read verb.Unload words = unload_read words
plain_read verb.Dismount words = dismount_read words
plain_read verb.Stop words = stop_read words
plain_read _ words = None

-- ---- with texts or bytes

abbrev pub create_read : List ℕ → List ℕ → Option (List ℕ) → Option Body
create_read volume mode path =
    number_below 256 volume >>= λ v. mode_read mode >>= λ m. path >>= λ p. Some (body.Operation (request.Create (record { 0 = v }) p m))

-- create V MODE PATH
abbrev pub Creates : List (List ℕ) → Option Body → Type 0
Creates (volume ∷ mode ∷ path ∷ []) r = (read : Option (List ℕ)) × ReadsPath path read × (r ≡ create_read volume mode read)
Creates _ r = r ≡ None

abbrev pub write_read : List ℕ → List ℕ → Option (List ℕ) → Option Body
write_read handle offset bytes =
    number_read handle >>= λ h. number_read offset >>= λ o. bytes >>= λ b. cond (nat_lt 32768 (length b)) None (Some (on_handle h (file.Write o b)))

-- write H OFFSET HEX
abbrev pub Writes : List (List ℕ) → Option Body → Type 0
Writes (handle ∷ offset ∷ bytes ∷ []) r = (read : Option (List ℕ)) × ReadsBytes bytes read × (r ≡ write_read handle offset read)
Writes _ r = r ≡ None

abbrev pub load_read : Option (List ℕ) → Option Body
load_read name = name >>= λ n. Some (body.Control (control.Load n))

-- load NAME
abbrev pub Loads : List (List ℕ) → Option Body → Type 0
Loads (name ∷ []) r = (read : Option (List ℕ)) × ReadsName name read × (r ≡ load_read read)
Loads _ r = r ≡ None

abbrev pub attach_read : List ℕ → List ℕ → Option (List ℕ) → Option (List ℕ) → Option Body
attach_read filter volume name altitude =
    number_below 256 filter >>= λ f. number_below 256 volume >>= λ v. name >>= λ n. altitude >>= λ a.
    Some (body.Control (control.Attach (record { 0 = f }) (record { 0 = v }) n a))

-- attach F V NAME ALT
abbrev pub Attaches : List (List ℕ) → Option Body → Type 0
Attaches (filter ∷ volume ∷ name ∷ altitude ∷ []) r =
    (own : Option (List ℕ)) × (high : Option (List ℕ)) × ReadsName name own × ReadsAltitude altitude high × (r ≡ attach_read filter volume own high)
Attaches _ r = r ≡ None

-- ---- all words

-- the words after the first one
abbrev pub ReadsAfter : Verb → List (List ℕ) → Option Body → Type 0
ReadsAfter verb.Create words r = Creates words r
ReadsAfter verb.Write words r = Writes words r
ReadsAfter verb.Load words r = Loads words r
ReadsAfter verb.Attach words r = Attaches words r
ReadsAfter v words r = r ≡ plain_read v words

abbrev pub ReadsVerb : Option Verb → List (List ℕ) → Option Body → Type 0
ReadsVerb (Some v) words r = ReadsAfter v words r
ReadsVerb None words r = r ≡ None

-- the request that the words name, or that they name none
abbrev pub Names : List (List ℕ) → Option Body → Type 0
Names [] r = r ≡ None
Names (first ∷ words) r = ReadsVerb (verb_read first) words r
