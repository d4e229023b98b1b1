-- The folder of a map's entries, against the look-ups and the changes of the map.
use Rattle.fm_base.proofs.Words.{nat_cmp, eq_by_cmp_equiv, slice_cmp, nat_list_cmp_total, lookup, set_value, is_at, get, insert, remove}
use Rattle.fm_base.proofs.Words.{find, get-from_entries, get-insert, get-remove, same_map, slice_cmp-IsAntisymmetric}
use Rattle.fm_base.proofs.Words.{nat_cmp-IsAntisymmetric, Status, NoMemory, DeviceFault, FileNotFound, AlreadyExists, Folder}
use Rattle.fm_base.proofs.Words.{created, change_at, changed, unlink_at, unlinked, tell_at, told, Makes, Entries, folder_of}
use Rattle.std.specs.Prelude.{◌≡◌, ◌≢◌, ◌⊎◌, ℕ, true, false, cond, is_some, List, [], ◌∷◌, Option, Some, None, Result, Ok, Err, IsOk, OnOk}
use Rattle.std.specs.Prelude.{OnErr, IfErr, refl}
use Rattle.std.proofs.Common.{sym, ap, ◌∙◌, arith}
use Rattle.std.proofs.lemmas.Map.Steps.{set_value_same}
use Rattle.fm_types.specs.declared.operation.CreateMode.{CreateMode}
use Rattle.fm_types.specs.declared.operation.CreateMode.TheVariants.{Existing, New, Always}

-- what entries have at a path
abbrev pub file_at : Entries → List ℕ → Option (List ℕ)
file_at es path = lookup (is_at (slice_cmp nat_cmp path)) es

find_file : (es : Entries) (path : List ℕ) → find (slice_cmp nat_cmp) path es ≡ file_at es path
find_file [] path = refl
find_file (e ∷ es) path = ap (cond (is_at (slice_cmp nat_cmp path) e.0) (Some e.1)) (find_file es path)

pub get_file : (es : Entries) (path : List ℕ) → get (folder_of es) path ≡ file_at es path
get_file es path = get-from_entries nat_list_cmp_total es path ∙ find_file es path

-- entries that differ at one path make folders that differ there
pub one_made : (es fs : Entries) (path file : List ℕ)
    → ((q : List ℕ) → file_at fs q ≡ cond (is_at (slice_cmp nat_cmp path) q) (Some file) (file_at es q))
    → folder_of fs ≡ insert (folder_of es) path file
one_made es fs path file h = same_map nat_list_cmp_total (slice_cmp-IsAntisymmetric nat_cmp-IsAntisymmetric) _ _ (λ q.
    get_file fs q ∙ h q ∙ ap (λ b. cond b (Some file) (file_at es q)) ((eq_by_cmp_equiv nat_list_cmp_total).symm path q)
    ∙ sym (get-insert nat_list_cmp_total (folder_of es) path file q ∙ ap (cond (is_at (slice_cmp nat_cmp q) path) (Some file)) (get_file es q)))

pub one_gone : (es fs : Entries) (path : List ℕ) → ((q : List ℕ) → file_at fs q ≡ cond (is_at (slice_cmp nat_cmp path) q) None (file_at es q))
    → folder_of fs ≡ remove (folder_of es) path
one_gone es fs path h = same_map nat_list_cmp_total (slice_cmp-IsAntisymmetric nat_cmp-IsAntisymmetric) _ _ (λ q.
    get_file fs q ∙ h q ∙ ap (λ b. cond b None (file_at es q)) ((eq_by_cmp_equiv nat_list_cmp_total).symm path q)
    ∙ sym (get-remove nat_list_cmp_total (folder_of es) path q ∙ ap (cond (is_at (slice_cmp nat_cmp q) path) None) (get_file es q)))

-- what the calls make and tell, where the entries have that at the path
pub changed_at : (change : List ℕ → List ℕ) (path : List ℕ) (es : Entries) (found : Option (List ℕ)) → file_at es path ≡ found
    → changed change path (folder_of es) ≡ change_at change path (folder_of es) found
changed_at change path es found h = ap (change_at change path (folder_of es)) (get_file es path ∙ h)

pub unlinked_at : (path : List ℕ) (es : Entries) (found : Option (List ℕ)) → file_at es path ≡ found
    → unlinked path (folder_of es) ≡ unlink_at path (folder_of es) found
unlinked_at path es found h = ap (unlink_at path (folder_of es)) (get_file es path ∙ h)

pub told_at : {T : Type 0} (tell : List ℕ → Result T Status) (path : List ℕ) (es : Entries) (found : Option (List ℕ)) → file_at es path ≡ found
    → told tell path (folder_of es) ≡ tell_at tell found
told_at tell path es found h = ap (tell_at tell) (get_file es path ∙ h)

-- the same entries, after what was found at a path was written back
pub kept_entries : (es fs : Entries) (path file w : List ℕ) → fs ≡ set_value (is_at (slice_cmp nat_cmp path)) es w → file_at es path ≡ Some file
    → w ≡ file → fs ≡ es
kept_entries es fs path file w wrote found same = wrote
    ∙ set_value_same (is_at (slice_cmp nat_cmp path)) es w (found ∙ ap (λ (x : List ℕ). Some x) (sym same))

-- a create by its mode, where the test of the path said that the file is there, and where it said that it isn't
pub taken : (path : List ℕ) (es : Entries) → true ≡ is_some (file_at es path) → created New path (folder_of es) ≡ Err AlreadyExists
taken path es h = grind (arith, get_file es path)

pub opened : (mode : CreateMode) (path : List ℕ) (es : Entries) → (mode ≡ Existing) ⊎ (mode ≡ Always) → true ≡ is_some (file_at es path)
    → created mode path (folder_of es) ≡ Ok (folder_of es)
opened mode path es is h = grind (arith, get_file es path)

pub missing : (path : List ℕ) (es : Entries) → false ≡ is_some (file_at es path) → created Existing path (folder_of es) ≡ Err FileNotFound
missing path es h = grind (arith, get_file es path)

pub fresh : (mode : CreateMode) (path : List ℕ) (es : Entries) → (mode ≡ New) ⊎ (mode ≡ Always) → false ≡ is_some (file_at es path)
    → created mode path (folder_of es) ≡ Ok (insert (folder_of es) path [])
fresh mode path es is h = grind (arith, get_file es path)

-- what makes all that is wanted, or is refused for want of memory alone and changes nothing, answers as it is to
pub makes_or_memory : (path : List ℕ) (wanted : Folder → Result Folder Status) (made old new : Folder) (result : Result (Unit {0}) Status)
    → wanted old ≡ Ok made → OnOk result (new ≡ made) → OnErr result (new ≡ old) → IfErr result (λ status. status ≡ NoMemory)
    → Makes path wanted old new result × (result ≢ Err DeviceFault)
makes_or_memory path wanted made old new (Ok done) is ok err memory = (is ∙ ap Ok (sym ok), λ e. cc)
makes_or_memory path wanted made old new (Err status) is ok err memory = rw memory ((err, rw is refl), λ e. cc)
