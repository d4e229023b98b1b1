-- A table with one operation alone.
use Rattle.fm_local.proofs.Words.{[], ◌∷◌, ◌≡◌, Bool, FlowRecord, None, OpId, Operation, Option, Some, Status, false, true, ◌&&◌, ◌||◌, ◌∙◌, ap, cond}
use Rattle.fm_local.proofs.Words.{find, not, option_map, refl, unwrap_or, list_any, is_number, FileTable, handle_at, FlowTable, HandleId, StreamId}
use Rattle.fm_local.proofs.Words.{changed, is_create, operation_at, told, known_answer, subject_of}
use Rattle.std.specs.Prelude.{is_none}
use Rattle.fm_operations.specs.Creates.{is_creating, is_unanswered, is_on_stream, has_create_on}
use Rattle.fm_operations.specs.Table.{empty_table, change_first}
use Rattle.fm_world.specs.Events.{base_known, known_at, known_on, known_create, is_created_on}
use Rattle.fm_world.specs.Files.{is_marked, has_other_handle}

-- the operation of that number is there, and no other
pub record Alone (o : OpId) (r : FlowRecord) (t : FlowTable) : Type 0 where
  pub operations : t.operations ≡ r ∷ []
  pub number : is_number o r ≡ true

module _ (o : OpId) (r : FlowRecord) (t : FlowTable) (alone : Alone o r t) where
  pub found_alone : operation_at o t ≡ Some r
  found_alone = ap (find (is_number o)) alone.operations ∙ ap (λ b. cond b (Some r) None) alone.number

  pub told_alone : {A : Type 0} (f : FlowRecord → A) (otherwise : A) → told f otherwise o t ≡ f r
  told_alone f otherwise = ap (λ (m : Option FlowRecord). unwrap_or (option_map f m) otherwise) found_alone

  pub changed_alone : (f : FlowRecord → FlowRecord) → is_number o (f r) ≡ is_number o r → Alone o (f r) (changed o f t)
  changed_alone f same = record {
    operations = ap (change_first (is_number o) f) alone.operations ∙ ap (λ b. cond b (f r ∷ []) (r ∷ [])) alone.number;
    number = same ∙ alone.number;
  }

  -- no create is under way
  pub none_creating : is_creating r ≡ false → (s : StreamId) → has_create_on s t ≡ false
  none_creating answered s =
      ap (list_any (λ x. is_creating x && is_on_stream s x.stream)) alone.operations ∙ ap (λ b. (b && is_on_stream s r.stream) || false) answered

  pub none_created : is_creating r ≡ false → (m : Option StreamId) → is_created_on m t ≡ false
  none_created answered None = refl
  none_created answered (Some s) = none_creating answered s

  known_same : (files : FileTable) (operation : Operation) (s : StreamId) (h : HandleId) → has_create_on s t ≡ false
      → known_on files t operation s h ≡ known_on files empty_table operation s h
  known_same files Operation.Close s h none = ap (λ b. cond (is_marked s files && not (has_other_handle s h files || b)) None (Some Status.Success)) none
  known_same files _ s h none = refl

  known_there : (files : FileTable) (operation : Operation) (s : Option StreamId) (h : Option HandleId) → ((x : StreamId) → has_create_on x t ≡ false)
      → known_at files t operation s h ≡ known_at files empty_table operation s h
  known_there files operation (Some s) (Some h) none = ap (λ m. cond (is_none (handle_at h files)) (Some Status.NoHandle) m)
      (known_same files operation s h (none s))
  known_there files operation (Some s) None none = refl
  known_there files operation None h none = refl

  -- what the base answers at once is what it would without the table
  pub known_alone : (files : FileTable) → base_known files t r ≡ known_answer files (subject_of r)
  known_alone files = by_create (is_create r.operation) refl
    where
      by_create : (b : Bool) → is_create r.operation ≡ b
          → cond b (known_create files r.stream) (known_at files t r.operation r.stream r.handle)
          ≡ cond b (known_create files r.stream) (known_at files empty_table r.operation r.stream r.handle)
      by_create true is = refl
      by_create false is = known_there files r.operation r.stream r.handle (none_creating (ap (λ b. b && is_unanswered r.stage) is))
