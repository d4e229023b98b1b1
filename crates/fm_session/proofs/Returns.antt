-- What is taken from a worker and given back to it.
use Rattle.std.proofs.Common.{◌≡◌, List, Option, Some, None, Result, Ok, Err, ap, sym, ◌∙◌, refl}
use Rattle.std.proofs.lemmas.List.{set-set, set-get_or}
use Rattle.fm_types.specs.declared.ids.WorkerId.{WorkerId}
use Rattle.fm_types.specs.declared.status.Status.{Status}
use Rattle.fm_callback_data.specs.Data.{Data}
use Rattle.fm_callback_data.specs.Calls.{BaseCall}
use Rattle.fm_session.specs.declared.lent.Lent.{Lent}
use Rattle.fm_session.specs.declared.lent.Lent.TheVariants as lent
use Rattle.fm_session.specs.Sessions.{lent_to, lend, lent_back, lent_after_return, pre_in, post_in, base_in, post_lent}

given_back : (all : List Lent) (k : WorkerId) (what : Lent) → lent_to all k ≡ what → lend (lend all k lent.Nothing) k what ≡ all
given_back all k what was =
    set-set all k.0 lent.Nothing what ∙ ap (λ (own : Lent). lend all k own) (sym was) ∙ set-get_or all k.0 lent.Nothing

pub nothing_again : (all : List Lent) (k : WorkerId) → lent_to all k ≡ lent.Nothing → lend all k lent.Nothing ≡ all
nothing_again all k was = ap (λ (own : Lent). lend all k own) (sym was) ∙ set-get_or all k.0 lent.Nothing

is_pre : (what : Lent) (given : Data) → pre_in what ≡ Some given → what ≡ lent.Pre given
is_pre (lent.Pre own) given same = cc
is_pre what given same = absurd (cc)

is_base : (what : Lent) (call : BaseCall) → base_in what ≡ Some call → what ≡ lent.Base call
is_base (lent.Base own) call same = cc
is_base what call same = absurd (cc)

is_post : (what : Lent) (given : Option Data) → post_in what ≡ Some given → what ≡ post_lent given
is_post (lent.Post own) (Some given) same = cc
is_post (lent.Post own) None same = absurd (cc)
is_post lent.Drain None same = refl
is_post lent.Drain (Some given) same = absurd (cc)
is_post what given same = absurd (cc)

pub pre_back : (all : List Lent) (k : WorkerId) (given : Data) → pre_in (lent_to all k) ≡ Some given → lend (lend all k lent.Nothing) k (lent.Pre given) ≡ all
pre_back all k given was = given_back all k (lent.Pre given) (is_pre (lent_to all k) given was)

pub base_back : (all : List Lent) (k : WorkerId) (call : BaseCall) (r : Result (Unit {0}) Status) → base_in (lent_to all k) ≡ Some call
    → lent_back (lend all k lent.Nothing) k (lent.Base call) r ≡ lent_after_return all k r
base_back all k call (Ok done) was = refl
base_back all k call (Err status) was = given_back all k (lent.Base call) (is_base (lent_to all k) call was)

pub post_back : (all : List Lent) (k : WorkerId) (given : Option Data) → post_in (lent_to all k) ≡ Some given
    → lend (lend all k lent.Nothing) k (post_lent given) ≡ all
post_back all k given was = given_back all k (post_lent given) (is_post (lent_to all k) given was)
