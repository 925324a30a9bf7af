-- The start meets the invariant.
use Rattle.vm_event.specs.Prelude.{GroupsFit}
use Rattle.vm_event.proofs.Groups.{start-heads}
use Rattle.vm_rule.proofs.Prelude.{[], ap, arith, begin, bit_at, bit_at_ones, bit_at_ones_above, Bool, cases_Bool}
use Rattle.vm_rule.proofs.Prelude.{cases_lt, cond, core_block, core_start, CoreShape, CoreStart, eq-eqb, evicted_page}
use Rattle.vm_rule.proofs.Prelude.{FrameIsAt, Free, full_bundle, has_free_bit, Inv, IsStart, le-ltb, length}
use Rattle.vm_rule.proofs.Prelude.{length-map-range_with_len, length-replicate, List, locks-none, lt-ltb, ltb}
use Rattle.vm_rule.proofs.Prelude.{MAX_VERSION, min, ne_eqb, none-some, Nowhere, PageInv, refl, replicate, start}
use Rattle.vm_rule.proofs.Prelude.{true, ℕ, ⊎_elim, ◌%◌, ◌*◌, ◌+◌, ◌-◌, ◌/◌, ◌^◌, ◌∙◌, ◌≡◌, ◌≤◌}

pub start-frames : (s : CoreStart) (f : ℕ) → FrameIsAt (start s) f (cond (ltb f s.shape.frames) Free Nowhere)
unfolding has_free_bit full_bundle
start-frames s f =
    record {
      inside = λ lt. rw (lt-ltb f s.shape.frames lt) tt;
      outside = λ le. rw (le-ltb f s.shape.frames le) refl;
      free = ⊎_elim
          (λ lt. rw (lt-ltb f s.shape.frames lt)
          (eq-eqb _ _ (bit_at_ones (min 64 (s.shape.frames - 64 * (f / 64))) (f % 64) (omega arith))))
          (λ le. rw (le-ltb f s.shape.frames le)
          (ne_eqb (bit_at (2 ^ min 64 (s.shape.frames - 64 * (f / 64)) - 1) (f % 64)) 1
          (λ q. let z : bit_at (2 ^ min 64 (s.shape.frames - 64 * (f / 64)) - 1) (f % 64) ≡ 0 =
          bit_at_ones_above (min 64 (s.shape.frames - 64 * (f / 64))) (f % 64) (omega arith) in omega arith)))
          (cases_lt f s.shape.frames);
      holds = λ a. ⊎_elim (λ e. rw e refl) (λ e. rw e refl) (cases_Bool (ltb f s.shape.frames));
      mapped = λ p. ⊎_elim (λ e. rw e refl) (λ e. rw e refl) (cases_Bool (ltb f s.shape.frames));
    }

-- an evicted page with one version, which its block has, and no lock
pub evicted-inv : (actors size : ℕ) (tells : Bool) (words : ℕ → List ℕ) (version : ℕ) (block w : List ℕ) (count : ℕ)
    → version ≤ MAX_VERSION → length w ≡ size → (tells ≡ true → block ≡ w)
    → PageInv actors size tells words (evicted_page version block count) (record {
      older = [];
      last = record { version = version; words = w };
      draft = [];
    }) (λ a. [])
evicted-inv actors size tells words version block w count le long same =
    record {
      locks = locks-none actors version le;
      stands = record { last = refl; resident = λ _ ne. absurd (ne refl); evicted = λ _. refl };
      sizes = record { older = tt; last = long; draft = λ q. absurd (omega arith) };
      contents = λ t. record {
        clean = λ m e. cc;
        logical = λ _ m e. cc;
        draft = λ q. absurd (omega arith);
        unwritten = λ q. absurd (omega arith);
        device = λ _. same t;
        size = ap length (same t) ∙ long;
      };
      faults = λ _ _. refl;
      reads = λ a. record { old = λ o e. cc; evicted = λ _ o e. cc; current = λ _ ne. absurd (ne refl) };
    }

pub start_law : (s : CoreStart) → IsStart s → Inv (begin s)
start_law s ok =
    record {
      place = λ f. cond (ltb f s.shape.frames) Free Nowhere;
      frames = start-frames s;
      words = λ f. length-replicate {A = ℕ} s.size 0;
      next = ok.next;
      pages = λ p. evicted-inv s.shape.actors s.size s.tells (λ f. replicate s.size 0) s.first (s.blocks p)
          (s.blocks p) (s.counts p) ok.first (ok.blocks p) (λ _. refl);
      owners = record { named = λ f p e. absurd (omega (arith, e)); owned = λ p free m at. absurd (none-some m at) };
      heads = start-heads s ok;
    }

pub core-start : (shape : CoreShape) (groups : List (ℕ × ℕ)) → shape.next ≤ shape.pages → GroupsFit shape.pages groups
    → IsStart (core_start shape groups)
unfolding core_block
core-start shape groups le fit = record {
  next = le;
  groups = fit;
  first = omega arith;
  blocks = λ p. ⊎_elim
      (λ lt. rw (lt-ltb p shape.next lt) (length-map-range_with_len (λ i. 64 * p + i) 0 64))
      (λ past. rw (le-ltb p shape.next past) (length-replicate {A = ℕ} 64 0))
      (cases_lt p shape.next);
}
