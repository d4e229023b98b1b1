-- Streams and handles stay in the order of their numbers.
use Rattle.fm_core.proofs.Words.{IsBefore, IsOlder, FileHandle, FileStream, HandlePhase, List, [], arith, subst, sym, ℕ, ◌++◌, ◌+◌, ◌<◌, ◌∷◌, ◌≡◌, change_first}
use Rattle.fm_core.proofs.Words.{without_first, Bool, HandleId, StreamId, is_handle, is_stream, with_mark, with_phase, All, AllPairs}
use Rattle.fm_world.proofs.Words.{all_without, All-push, all_pairs_push}
use Rattle.fm_world.proofs.Streams.{all_kept, pairs_change, pairs_without}
use Rattle.fm_core.specs.FilesKept.{AreRising}

-- where the streams alone change
with_streams : {xs ys : List FileStream} (hs : List FileHandle) (n : ℕ) → AllPairs IsBefore ys → AreRising (record { streams = xs; handles = hs; next = n })
    → AreRising (record { streams = ys; handles = hs; next = n })
with_streams hs n pairs rises = record { streams = pairs; handles = rises.handles; given = rises.given }

pub created_rising : (x : FileStream) (xs ys : List FileStream) (hs : List FileHandle) (n : ℕ) → ys ≡ xs ++ x ∷ []
    → All (λ (y : FileStream). y.number.0 < x.number.0) xs
    → AreRising (record { streams = xs; handles = hs; next = n }) → AreRising (record { streams = ys; handles = hs; next = n })
created_rising x xs ys hs n is fresh rises =
    with_streams hs n (subst (AllPairs IsBefore) (sym is) (all_pairs_push IsBefore xs x rises.streams fresh)) rises

pub opened_rising : (h : FileHandle) (xs : List FileStream) (hs gs : List FileHandle) (n : ℕ) → gs ≡ hs ++ h ∷ [] → h.number.0 ≡ n
    → AreRising (record { streams = xs; handles = hs; next = n }) → AreRising (record { streams = xs; handles = gs; next = n + 1 })
opened_rising h xs hs gs n is last rises =
    record {
      streams = rises.streams;
      handles = subst (AllPairs IsOlder) (sym is) (all_pairs_push IsOlder hs h rises.handles (λ k d within. omega (arith, last, rises.given k d within)));
      given = subst (All (λ (x : FileHandle). x.number.0 < n + 1)) (sym is) (All-push (λ (x : FileHandle). x.number.0 < n + 1) hs h
          (λ k d within. omega (arith, rises.given k d within)) (omega (arith, last)));
    }

pub marked_rising : (b : Bool) (s : StreamId) (xs ys : List FileStream) (hs : List FileHandle) (n : ℕ) → ys ≡ change_first (is_stream s) (with_mark b) xs
    → AreRising (record { streams = xs; handles = hs; next = n }) → AreRising (record { streams = ys; handles = hs; next = n })
marked_rising b s xs ys hs n is rises =
    with_streams hs n (subst (AllPairs IsBefore) (sym is) (pairs_change IsBefore (is_stream s) (with_mark b) xs (λ x y h. h) (λ x y h. h) rises.streams)) rises

pub torn_rising : (s : StreamId) (xs ys : List FileStream) (hs : List FileHandle) (n : ℕ) → ys ≡ without_first (is_stream s) xs
    → AreRising (record { streams = xs; handles = hs; next = n }) → AreRising (record { streams = ys; handles = hs; next = n })
torn_rising s xs ys hs n is rises =
    with_streams hs n (subst (AllPairs IsBefore) (sym is) (pairs_without IsBefore (is_stream s) xs rises.streams)) rises

pub phased_rising : (h : HandleId) (to : HandlePhase) (xs : List FileStream) (hs gs : List FileHandle) (n : ℕ)
    → gs ≡ change_first (is_handle h) (with_phase to) hs
    → AreRising (record { streams = xs; handles = hs; next = n }) → AreRising (record { streams = xs; handles = gs; next = n })
phased_rising h to xs hs gs n is rises =
    record {
      streams = rises.streams;
      handles = subst (AllPairs IsOlder) (sym is) (pairs_change IsOlder (is_handle h) (with_phase to) hs (λ x y k. k) (λ x y k. k) rises.handles);
      given = subst (All (λ (x : FileHandle). x.number.0 < n)) (sym is) (all_kept (λ (x : FileHandle). x.number.0 < n) (is_handle h)
          (with_phase to) hs (λ x k. k) rises.given);
    }

pub closed_rising : (h : HandleId) (xs : List FileStream) (hs gs : List FileHandle) (n : ℕ) → gs ≡ without_first (is_handle h) hs
    → AreRising (record { streams = xs; handles = hs; next = n }) → AreRising (record { streams = xs; handles = gs; next = n })
closed_rising h xs hs gs n is rises =
    record {
      streams = rises.streams;
      handles = subst (AllPairs IsOlder) (sym is) (pairs_without IsOlder (is_handle h) hs rises.handles);
      given = subst (All (λ (x : FileHandle). x.number.0 < n)) (sym is) (all_without (λ (x : FileHandle). x.number.0 < n) (is_handle h) hs rises.given);
    }
