-- Structs of a pointer and an allocator that own what lies at the pointer: taken apart, and put together.
use Rattle.std.proofs.Common.{◌≡◌, ℕ, List, [], ◌∷◌, ◌++◌, Option, Some, None, IsSome, refl, ap, ◌∙◌, lit<}
use mathlib.Core.Bool.{◌&&◌, true}
use lib.Dec.{T}
use seplogic.Ra.Ura.{Ura}
use mir.Syntax.{impl, tnil, dnil, ty_ptr}
use mir.Raw.{raw as bare}
use mir.Val.{Val, vstruct, vcons, vnil, of_list, has_ty, WT}
use base.Logic.{never, fst∗}
use types.Logic.{Logic, sem}
use types.Kit.{Item, Goal, Seq, Step, step, ‵, ◌$◌, move, drop, fsplit, fjoin, fpick, fpack, rewrite, feq_i, feq_l}
use denote.RattleType.{RattleType, Valss}
use denote.Builtin.{RawPtr}
use denote.Memory.{lone}
use denote.RawPtr.{Ptr, block_ptr, null_ptr, ptr_val, in_a_block}
use denote.Steps.{nothing}
use denote.Param.{layout}
use denote.Param.Laws.{Laws}
use denote.Struct.Struct.{within}
use denote.Struct.Owning.{shape}
use Rattle.core.specs.declared.alloc.Allocator.{Ghosts}
use Rattle.core.proofs.alloc.Calls.{Al, handle_tells}
use Rattle.core.proofs.cell.Inside.{Good}
use Rattle.libc.specs.Heap.{chunk}
use Rattle.std_alloc.specs.Box.Ownership.{box_owns}
use Rattle.std_alloc.proofs.ResultValues.{and_tt}
use Rattle.std_heap.specs.contracts.Global as heap
use Rattle.std_heap.proofs.Global.TheLaws as heap_laws
use Rattle.std_heap.specs.contracts.GlobalAllocator.TheImpl.{ghosts}
use Rattle.kazdrin_c.specs.declared.host.SessionHost.{SessionHost}
use Rattle.kazdrin_c.specs.contracts.host.SessionHost as host
use Rattle.kazdrin_c.specs.contracts.handle.SessionPointer as kept
use Rattle.kazdrin_c.specs.contracts.raw_box.RawBox as raw_box
use Rattle.kazdrin_c.specs.Handles.{held_at}

-- the machine value of such a struct, and its type's
abbrev pub pair : Ptr → Val → Val
pair p h = vstruct (vcons (ptr_val p) (vcons h vnil))

pub pointer_good : (p : Ptr) → Good ty_ptr (ptr_val p)
pointer_good (block_ptr b o) = (tt, tt)
pointer_good null_ptr = (tt, record { fits = lit< tt })

pub pair_good : (Z : RattleType) (p : Ptr) (h : Val) → Good (layout Z) h → T (has_ty ty_ptr (ptr_val p) && (has_ty (layout Z) h && true)) × WT (pair p h)
pair_good Z (block_ptr b o) h fits = (and_tt (has_ty (layout Z) h) fits.0, (tt, (fits.1, tt)))
pair_good Z null_ptr h fits = (and_tt (has_ty (layout Z) h) fits.0, (record { fits = lit< tt }, (fits.1, tt)))

-- what the fields are, the struct is
pub pair_is : (vs ps hs : List Val) (p q : Ptr) (h : Val) → vs ≡ vstruct (of_list (ps ++ (hs ++ []))) ∷ [] → ps ≡ ptr_val p ∷ []
    → hs ≡ h ∷ [] → p ≡ q → vs ≡ pair q h ∷ []
pair_is vs ps hs p q h whole pointer handle same =
    whole ∙ (λ j. vstruct (of_list (pointer j ++ (handle j ++ []))) ∷ []) ∙ ap (λ (r : Ptr). pair r h ∷ []) same

pub some_of : (held : Option SessionHost) → IsSome held → (x : SessionHost) × (held ≡ Some x)
some_of (Some x) is = (x, refl)
some_of None is = absurd (cc)

-- a box that was taken apart
module _ (R Z : RattleType) (L : Laws Z) (g : Ghosts Z.Denot) where
  abbrev pub Row : RattleType
  Row = raw_box.the_row R Z g

  abbrev its : Al
  its = record { row = Z; laws = L; g = g; d = impl [] tnil dnil; drops = impl [] tnil dnil }

  module _ {M : Type 1} {𝓤 : Ura M} {𝓛 : Logic 𝓤} {K : Type 0} {Γ : List (Item 𝓤)} {G : Goal 𝓤 𝓛.H} where
    pub raw_box_apart : K → (d : Row.Denot) (vs : List Val)
        → ((b o : ℕ) (h : Val) → vs ≡ pair (block_ptr b o) h ∷ [] → Good (layout Z) h
        → Seq K 𝓛 (‵ (box_owns (g.dealloc_token d.alloc) R (block_ptr b o) d.value) ∷ ‵ (Z.own_val d.alloc (h ∷ [])) ∷ Γ) G)
        → Seq K 𝓛 (‵ (Row.own_val d vs) ∷ Γ) G
    raw_box_apart t d vs next =
        let Owned = λ (p : Ptr). box_owns (g.dealloc_token d.alloc) R p d.value in
        fsplit t $ fpick t (λ fields. fsplit t $ feq_l t (λ whole. fsplit t $ feq_l t (λ pointer. fsplit t $
        handle_tells its t d.alloc fields.1.0 (λ h handle fits. move t (1 ∷ []) $ drop t $ move t (1 ∷ []) $
        in_a_block t d.at Owned (fst∗ 𝓤 (never 𝓤) (sem 𝓛 (g.dealloc_token d.alloc (bare (lone R.mir)) null_ptr))) (λ b o same.
        next b o h (pair_is vs fields.0 fields.1.0 d.at (block_ptr b o) h whole pointer handle same) fits)))))

    pub raw_box_whole : K → (p : Ptr) (h : Val) (a : Z.Denot) (x : R.Denot)
        → Step K 𝓛 (‵ (Row.own_val (record { at = p; alloc = a; value = x }) (pair p h ∷ [])) ∷ Γ) G
        (‵ (box_owns (g.dealloc_token a) R p x) ∷ ‵ (Z.own_val a (h ∷ [])) ∷ Γ) G
    raw_box_whole t p h a x = step (λ rest.
        nothing t $ move t (2 ∷ 0 ∷ []) $ fjoin t $ feq_i t (List Val) (ptr_val p ∷ []) _ refl $ fjoin t $ feq_i t (List Val) (pair p h ∷ []) _ refl $ fjoin t $
        fpack t (Valss (RawPtr ∷ Z ∷ [])) (within (shape (raw_box.the_type R Z g)) (p, (a, tt)) (pair p h ∷ [])) (
          ptr_val p ∷ [],
          (h ∷ [], tt),
        ) $ fjoin t $ rest)

-- what a handle keeps
abbrev pub Boxed : RattleType
Boxed = host.the_row

abbrev pub Heap : RattleType
Heap = heap.the_row

abbrev pub SessionPointer : RattleType
SessionPointer = kept.the_row

abbrev pub handles : Al
handles = record { row = Heap; laws = heap_laws.the_row_laws; g = ghosts; d = impl [] tnil dnil; drops = impl [] tnil dnil }

module _ {M : Type 1} {𝓤 : Ura M} {𝓛 : Logic 𝓤} {K : Type 0} {Γ : List (Item 𝓤)} {G : Goal 𝓤 𝓛.H} where
  pub kept_apart : K → (d : SessionPointer.Denot) (x : SessionHost) → d.host ≡ Some x → (vs : List Val)
      → ((b o : ℕ) (h : Val) → vs ≡ pair (block_ptr b o) h ∷ [] → Good (layout Heap) h
      → Seq K 𝓛 (‵ (box_owns chunk Boxed (block_ptr b o) x) ∷ ‵ (Heap.own_val d.alloc (h ∷ [])) ∷ Γ) G)
      → Seq K 𝓛 (‵ (SessionPointer.own_val d vs) ∷ Γ) G
  kept_apart t d x is vs next =
      fsplit t $ fpick t (λ fields. fsplit t $ feq_l t (λ whole. fsplit t $ feq_l t (λ pointer. fsplit t $
      handle_tells handles t d.alloc fields.1.0 (λ h handle fits. move t (1 ∷ []) $ drop t $ move t (1 ∷ []) $
      rewrite t 0 (λ (held : Option SessionHost). ‵ (held_at d.at held)) is refl $
      in_a_block t d.at (λ p. box_owns chunk Boxed p x) (fst∗ 𝓤 (never 𝓤) (sem 𝓛 (chunk (bare (lone Boxed.mir)) null_ptr))) (λ b o same.
      next b o h (pair_is vs fields.0 fields.1.0 d.at (block_ptr b o) h whole pointer handle same) fits)))))

  pub kept_whole : K → (p : Ptr) (h : Val) (a : Heap.Denot) (held : Option SessionHost)
      → Step K 𝓛 (‵ (SessionPointer.own_val (record { at = p; alloc = a; host = held }) (pair p h ∷ [])) ∷ Γ) G
      (‵ (held_at p held) ∷ ‵ (Heap.own_val a (h ∷ [])) ∷ Γ) G
  kept_whole t p h a held = step (λ rest.
      nothing t $ move t (2 ∷ 0 ∷ []) $ fjoin t $ feq_i t (List Val) (ptr_val p ∷ []) _ refl $ fjoin t $ feq_i t (List Val) (pair p h ∷ []) _ refl $ fjoin t $
      fpack t (Valss (RawPtr ∷ Heap ∷ [])) (within (shape kept.the_type) (p, (((tt, tt), tt), tt)) (pair p h ∷ [])) (
        ptr_val p ∷ [],
        (h ∷ [], tt),
      ) $ fjoin t $ rest)
