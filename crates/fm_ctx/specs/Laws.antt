-- The laws of contexts. Each is said of every id, also of those that name nothing.
use Rattle.std.specs.Prelude.{◌≡◌, ℕ, ◌≤◌, ◌==◌, ◌&&◌, Bool, false, List, length, All, count_by, Option, Some, None, is_some}
use Rattle.fm_types.specs.declared.ids.CtxId.{CtxId}
use Rattle.fm_ctx.specs.declared.object.Object.{Object}
use Rattle.fm_ctx.specs.declared.owner.Owner.{Owner}
use Rattle.fm_ctx.specs.Bags.{one, places}
use Rattle.fm_ctx.specs.Objects.{is_to, same_owner}
use Rattle.fm_ctx.specs.Table.{Context, Slot, ContextTable, context_at, count_in}

-- a context of that owner that is linked to that object
abbrev pub links : Owner → Object → Option Context → Bool
links owner object None = false
links owner object (Some x) = is_to object x.link && same_owner owner x.owner

abbrev pub has_link : Owner → Object → Slot → Bool
has_link owner object s = links owner object s.context

-- a context that isn't cleaned and has no reference
abbrev pub is_waiting : (CtxId → ℕ) → ContextTable → CtxId → Bool
is_waiting carried t c = is_some (context_at t.slots c) && (count_in carried t c == 0)

pub record IsLawful (carried : CtxId → ℕ) (t : ContextTable) : Type 0 where
  -- what has a reference isn't cleaned
  pub alive : (c : CtxId) → context_at t.slots c ≡ None → count_in carried t c ≡ 0
  -- what has none is due, or some worker cleans it up: in one place, once; what has one is in none
  pub waits : (c : CtxId) → places t.due t.cleaning c ≡ one (is_waiting carried t c)
  -- no object has two contexts of one owner
  pub once : (owner : Owner) (object : Object) → count_by (has_link owner object) t.slots ≤ 1
  pub workers : length t.hands ≡ 48
  pub cleaners : length t.cleaning ≡ 48
  pub leavers : length t.left ≡ 48
  pub small : All (λ (hand : List CtxId). length hand ≤ 16) t.hands
  pub few : length t.slots ≤ 65536
