-- Operations that become jobs, one after the other.
use Rattle.std.proofs.Common.{◌≡◌, ◌∙◌, ◌++◌, ◌∷◌, [], Bool, true, List, Option, Some, None, cond, map, drop, slice_get, refl, sym, ap}
use Rattle.std.proofs.lemmas.List.{append-nil, append_assoc, map-append}
use Rattle.std.proofs.lemmas.Option.{none-some, same_Some}
use Rattle.fm_queue.specs.declared.job.Job.{Job}
use Rattle.fm_queue.specs.declared.job.Job.TheVariants.{Run}
use Rattle.fm_queue.specs.declared.tally.PassTally.{PassTally}
use Rattle.fm_queue.specs.Tallies.{after_put}
use Rattle.fm_types.specs.declared.ids.OpId.{OpId}
use Rattle.fm_worker.specs.Jobs.{HandsOn}

pub hands_none : (puts : List Job) (waiting : List OpId) → HandsOn puts waiting puts waiting
hands_none puts waiting = record { moved = []; taken = refl; put = sym (append-nil puts) }

-- the first of those that are left becomes a job too
hands_more : (puts after : List Job) (waiting left : List OpId) (o : OpId) → HandsOn puts waiting after left → slice_get left 0 ≡ Some o
    → HandsOn puts waiting (after ++ Run o ∷ []) (drop 1 left)
hands_more puts after waiting [] o on first = absurd (none-some o first)
hands_more puts after waiting (x ∷ left) o on first =
    let moved = on.moved in
    let same : x ≡ o = same_Some x o first in
    record {
      moved = moved ++ o ∷ [];
      taken = on.taken ∙ ap (λ (y : OpId). moved ++ y ∷ left) same ∙ sym (append_assoc moved (o ∷ []) left);
      put = ap (λ (js : List Job). js ++ Run o ∷ []) on.put ∙ append_assoc puts (map Run moved) (Run o ∷ [])
          ∙ ap (λ (js : List Job). puts ++ js) (sym (map-append Run moved (o ∷ [])));
    }

-- the same of a pass that put it, and of those that it was taken from
pub put_on : (puts : List Job) (waiting left now next : List OpId) (o : OpId) (found : Option OpId) (was is : PassTally) (is_put : Bool)
    → HandsOn puts waiting was.puts left → found ≡ slice_get left 0 → found ≡ Some o → is ≡ cond is_put (after_put was (Run o)) was → is_put ≡ true
    → now ≡ left → next ≡ drop 1 now → HandsOn puts waiting is.puts next
put_on puts waiting left now next o found was is is_put on first some put done same rest =
    rw rest rw same rw put rw done (hands_more puts was.puts waiting left o on (sym first ∙ some))

-- if none is first, none is left
pub none_left : (waiting : List OpId) → slice_get waiting 0 ≡ None → drop 1 waiting ≡ []
none_left [] none = refl
none_left (x ∷ waiting) none = absurd (none-some x (sym none))
