-- What a `BoxSlot` owns, at its machine value. Assumes `Logic`.
--     slot_out, slot_in      by value it is [the box or nothing; the handle], and back
--     slot_good              that value is well formed, whatever the pointer
--     slot_cases             no box, at null; or a box, at a pointer that may be compared with null
use Rattle.std.proofs.Common.{◌≡◌, ℕ, List, [], ◌∷◌, ◌++◌, refl, subst}
use seplogic.Ra.Ura.{Ura}
use mir.Syntax.{impl, tnil, dnil}
use mir.Raw.{raw as bare}
use mir.Syntax.{ty_ptr}
use mir.Val.{Val, vstruct, of_list, has_ty, WT}
use lib.Dec.{T}
use mathlib.Core.Bool.{true, ◌&&◌}
use base.Logic.{via, never, fst∗, snd∗, guard_i}
use types.Logic.{Logic, sem}
use types.Kit.{Item, Goal, Seq, Step, step, ‵, given, ◌$◌, move, drop, fsplit, fjoin, fpick, fpack, feq_i, feq_l, use1, learn}
use contract.Monad.{fact_use}
use denote.RattleType.{RattleType, Valss}
use denote.Memory.{lone}
use denote.Param.{layout}
use denote.RawPtr.{Ptr, block_ptr, null_ptr, ptr_val, in_a_block, lies_at, Testable}
use denote.Steps.{nothing}
use denote.Struct.Struct.{within}
use denote.Struct.Owning.{shape, to}
use base.Fraction.{full_share}
use Rattle.core.proofs.alloc.Calls.{Al, handle_tells}
use Rattle.core.proofs.atomic.Steps.{Ptr-Good}
use Rattle.core.proofs.cell.Inside.{Good}
use Rattle.std.proofs.GlobalToken.{dealloc_token-Testable}
use Rattle.std.specs.contracts.alloc.Global as heap
use Rattle.std.proofs.alloc.Global.TheLaws as heap_laws
use Rattle.std.specs.contracts.impls.GlobalAllocator.TheImpl.{ghosts}
use Rattle.std.specs.declared.option.Option.{Option}
use Rattle.std.specs.declared.option.Option.TheVariants.{None, Some}
use Rattle.std_alloc.specs.Box.Ownership.{box_owns}
use Rattle.vm_handle.specs.Slots.{slot_owns}
use Rattle.vm_handle.specs.contracts.slot.BoxSlot as slot
use Rattle.vm_handle.proofs.Values.{both, both_tt}

abbrev pub Z : RattleType
Z = heap.the_row

abbrev al : Al
al = record { row = Z; laws = heap_laws.the_row_laws; g = ghosts; d = impl [] tnil dnil; drops = impl [] tnil dnil }

abbrev pub BoxSlot : RattleType → RattleType
BoxSlot = slot.the_row

pub slot_good : (p : Ptr) (h : Val) → Good (layout Z) h → T (has_ty ty_ptr (ptr_val p) && (has_ty (layout Z) h && true)) × WT (both (ptr_val p) h)
slot_good p h fits = (both_tt (has_ty ty_ptr (ptr_val p)) (has_ty (layout Z) h) (Ptr-Good p).0 fits.0, ((Ptr-Good p).1, (fits.1, tt)))

module _ (R : RattleType) {M : Type 1} {𝓤 : Ura M} {𝓛 : Logic 𝓤} {K : Type 0} {Γ : List (Item 𝓤)} {G : Goal 𝓤 𝓛.H} where
  pub slot_out : K → (d : (BoxSlot R).Denot) (vs : List Val)
      → ((h : Val) → vs ≡ both (ptr_val d.at) h ∷ [] → Good (layout Z) h → Seq K 𝓛 (‵ (slot_owns (ghosts.dealloc_token d.alloc) R d.at d.value) ∷ ‵ (Z.own_val d.alloc (h ∷ [])) ∷ Γ) G)
      → Seq K 𝓛 (‵ ((BoxSlot R).own_val d vs) ∷ Γ) G
  slot_out t d vs k =
      fsplit t $ fpick t (λ vss. fsplit t $ feq_l t (λ ev. fsplit t $ feq_l t (λ ep. fsplit t $ handle_tells al t d.alloc vss.1.0 (λ h ea fits. move t (1 ∷ []) $ drop t $ move t (1 ∷ []) $ k h
      (subst (λ (ws : List Val). vs ≡ vstruct (of_list (ptr_val d.at ∷ (ws ++ []))) ∷ []) ea (subst (λ (ps : List Val). vs ≡ vstruct (of_list (ps ++ (vss.1.0 ++ []))) ∷ []) ep ev)) fits))))

  pub slot_in : K → (p : Ptr) (h : Val) (a : Z.Denot) (x : Option R.Denot)
      → Step K 𝓛 (‵ ((BoxSlot R).own_val (record { at = p; alloc = a; value = x }) (both (ptr_val p) h ∷ [])) ∷ Γ) G (‵ (slot_owns (ghosts.dealloc_token a) R p x) ∷ ‵ (Z.own_val a (h ∷ [])) ∷ Γ) G
  slot_in t p h a x = step (λ s. let v : Val = both (ptr_val p) h in
      nothing t $ move t (2 ∷ 0 ∷ []) $ fjoin t $ feq_i t (List Val) (ptr_val p ∷ []) (ptr_val p ∷ []) refl $ fjoin t $ feq_i t (List Val) (v ∷ []) (v ∷ []) refl $ fjoin t $
      fpack t (Valss (shape (slot.the_type R)).fields)
      (within (shape (slot.the_type R)) (to (slot.the_type R) (record { at = p; alloc = a; value = x })) (v ∷ [])) (ptr_val p ∷ [], (h ∷ [], tt)) $ fjoin t $ s)

  pub slot_cases : K → (a : Z.Denot) (p : Ptr) (x : Option R.Denot) → (p ≡ null_ptr → x ≡ None → Seq K 𝓛 Γ G)
      → ((b o : ℕ) (y : R.Denot) → p ≡ block_ptr b o → x ≡ Some y → Testable (block_ptr b o) → Seq K 𝓛 (‵ (box_owns (ghosts.dealloc_token a) R (block_ptr b o) y) ∷ Γ) G)
      → Seq K 𝓛 (‵ (slot_owns (ghosts.dealloc_token a) R p x) ∷ Γ) G
  slot_cases t a p None none one = feq_l t (λ e. none e refl)
  slot_cases t a p (Some y) none one =
      in_a_block t p (λ q. box_owns (ghosts.dealloc_token a) R q y) (fst∗ 𝓤 (never 𝓤) (sem 𝓛 (ghosts.dealloc_token a (bare (lone R.mir)) null_ptr))) (λ b o e.
      let q : Ptr = block_ptr b o in let F = box_owns (ghosts.dealloc_token a) R q y in
      use1 𝓛 (given (Testable q) (‵ F)) (fact_use 𝓤 (Testable q) (via 𝓤 _ (snd∗ 𝓤 (sem 𝓛 (lies_at R full_share q y)) (sem 𝓛 (ghosts.dealloc_token a (bare (lone R.mir)) q)))
      (dealloc_token-Testable 𝓛 a (bare (lone R.mir)) q)) (guard_i 𝓤 (Testable q) (sem 𝓛 F))) $ learn t (λ u. one b o y e refl u))
