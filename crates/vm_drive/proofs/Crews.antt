-- Lists of workers, and of what is taken for them, place by place.
use Rattle.std.specs.declared.alloc.Global.{Global}
use Rattle.std.proofs.Common.{[], ◌++◌, ◌<◌, ◌∷◌, ◌≡◌, ap, arith, Bool, drop, get_or, length, List, refl, Result}
use Rattle.std.proofs.Common.{subst, suc, sym, take, Vec, zero, ℕ}
use Rattle.vm_rule.specs.Prelude.{TableId}
use Rattle.vm_step.specs.Prelude.{TableShape}
use Rattle.vm_calls.specs.from_vm_tree_rule.declared_fault_TreeFault.{TreeFault}
use Rattle.std.specs.List.{AllByRecursion}
use Rattle.vm_map.specs.declared.call.Reply.{Reply}
use Rattle.vm_calls.specs.{Compact.all_replies, Compact.HasContents, Compact.KeepsAnswers, declared.compact.Replies.Replies}
use Rattle.vm_calls.specs.{Calling.Calling, declared.worker.Worker.Worker}
use Rattle.vm_drive.specs.Crews.{AllWorked, AreIdle, HasWorked, IsIdle}
use Rattle.vm_drive.specs.Lists.{AreKept, HaveMemory, HaveRoom}
use Rattle.vm_drive.specs.{Drives.items_of, Holds.list_at}

module _ {A C R : Type 0} (keeps : A → List (Result R TreeFault) → Type 0) (space : A → List C → Type 0) where
  pub room-snoc : (rooms : List A) (lists : List (List C)) (room : A) (calls : List C)
      → HaveRoom keeps space rooms lists → keeps room [] → space room calls
      → HaveRoom keeps space (rooms ++ room ∷ []) (lists ++ calls ∷ [])
  room-snoc [] [] room calls h e l = (e, l, tt)
  room-snoc [] (c ∷ cs) room calls h e l = absurd h
  room-snoc (r ∷ rs) [] room calls h e l = absurd h
  room-snoc (r ∷ rs) (c ∷ cs) room calls h e l = (h.0, h.1, room-snoc rs cs room calls h.2 e l)

  pub room-long : (rooms : List A) (lists : List (List C)) → HaveRoom keeps space rooms lists → length rooms ≡ length lists
  room-long [] [] h = refl
  room-long [] (c ∷ cs) h = absurd h
  room-long (r ∷ rs) [] h = absurd h
  room-long (r ∷ rs) (c ∷ cs) h = ap suc (room-long rs cs h.2)

module _ {C M : Type 0} (suffices : List C → M → Type 0) where
  pub memories-snoc : (lists : List (List C)) (memories : List M) (calls : List C) (own : M)
      → HaveMemory suffices lists memories → suffices calls own → HaveMemory suffices (lists ++ calls ∷ []) (memories ++ own ∷ [])
  memories-snoc [] [] calls own h o = (o, tt)
  memories-snoc [] (s ∷ ss) calls own h o = absurd h
  memories-snoc (c ∷ cs) [] calls own h o = absurd h
  memories-snoc (c ∷ cs) (s ∷ ss) calls own h o = (h.0, memories-snoc cs ss calls own h.1 o)

  pub memories-long : (lists : List (List C)) (memories : List M) → HaveMemory suffices lists memories
      → length memories ≡ length lists
  memories-long [] [] h = refl
  memories-long [] (s ∷ ss) h = absurd h
  memories-long (c ∷ cs) [] h = absurd h
  memories-long (c ∷ cs) (s ∷ ss) h = ap suc (memories-long cs ss h.1)

-- lists that stand for answers hold them, and have their windows and spans
pub kept-replies : (kept : List Replies) (told : List (List (Result Reply TreeFault)))
    → AreKept KeepsAnswers kept told → all_replies kept ≡ told
kept-replies [] [] k = refl
kept-replies [] (t ∷ ts) k = absurd k
kept-replies (r ∷ rs) [] k = absurd k
kept-replies (r ∷ rs) (t ∷ ts) k = let first = k.0.stands in let rest : all_replies rs ≡ ts = kept-replies rs ts k.1 in cc

pub kept-contents : (kept : List Replies) (told : List (List (Result Reply TreeFault)))
    → AreKept KeepsAnswers kept told → AllByRecursion HasContents kept
kept-contents [] [] k = tt
kept-contents [] (t ∷ ts) k = absurd k
kept-contents (r ∷ rs) [] k = absurd k
kept-contents (r ∷ rs) (t ∷ ts) k =
    (record { windows = omega (arith, k.0.shown); spans = omega (arith, k.0.paired) }, kept-contents rs ts k.1)

pub items-long : {X : Type 0} (vectors : List (Vec X Global)) → length (items_of vectors) ≡ length vectors
items-long [] = refl
items-long (v ∷ vs) = ap suc (items-long vs)

-- a vector whose whole slice was changed
pub whole-back : {A : Type 0} (news olds : List A) (n : ℕ) → length news ≡ length olds → n ≡ length olds
    → take n (news ++ drop (length news) olds) ≡ news
whole-back [] [] zero e f = refl
whole-back [] [] (suc n) e f = refl
whole-back [] (y ∷ ys) n e f = absurd (omega arith)
whole-back (x ∷ xs) [] n e f = absurd (omega arith)
whole-back (x ∷ xs) (y ∷ ys) zero e f = absurd (omega arith)
whole-back (x ∷ xs) (y ∷ ys) (suc n) e f = ap (λ (l : List _). x ∷ l) (whole-back xs ys n (omega arith) (omega arith))

module _ {U X A M C R : Type 0} {owner : _} (keeps : A → List (Result R TreeFault) → Type 0)
    (space : A → List C → Type 0) (suffices : List C → M → Type 0) (shape : TableShape) (tells : Bool) (t : TableId) where
  pub idle-long : (lists : List (List C)) (workers : List (Worker U A M X owner))
      → AreIdle keeps space suffices shape tells t lists workers → length lists ≡ length workers
  idle-long [] [] a = refl
  idle-long [] (w ∷ ws) a = absurd a
  idle-long (c ∷ cs) [] a = absurd a
  idle-long (c ∷ cs) (w ∷ ws) a = ap suc (idle-long cs ws a.1)

  pub idle-at : (lists : List (List C)) (workers : List (Worker U A M X owner)) (i : ℕ) (w : Worker U A M X owner)
      → AreIdle keeps space suffices shape tells t lists workers → i < length workers → w ≡ get_or workers i w
      → IsIdle keeps space suffices shape tells t (list_at lists i) w
  idle-at [] [] i w a l e = absurd (omega arith)
  idle-at [] (x ∷ xs) i w a l e = absurd a
  idle-at (c ∷ cs) [] i w a l e = absurd a
  idle-at (c ∷ cs) (x ∷ xs) zero w a l e = subst (λ (y : Worker U A M X owner). IsIdle keeps space suffices shape tells t c y) (sym e) a.0
  idle-at (c ∷ cs) (x ∷ xs) (suc i) w a l e = idle-at cs xs i w a.1 (omega arith) e

module _ {U X A M C R P : Type 0} {owner : _} (kind : Calling X C R P) (keeps : A → List (Result R TreeFault) → Type 0)
    (shape : TableShape) (tells : Bool) (t : TableId) where
  pub worked-all : (lists : List (List C)) (olds news : List (Worker U A M X owner)) → length lists ≡ length olds
      → length news ≡ length olds
      → ((i : ℕ) (d : Worker U A M X owner) → i < length olds → HasWorked kind keeps shape tells t (list_at lists i)
      (get_or olds i d) (get_or news i d)) → AllWorked kind keeps shape tells t lists olds news
  worked-all [] [] [] e f each = tt
  worked-all [] [] (n ∷ ns) e f each = absurd (omega arith)
  worked-all [] (o ∷ os) ns e f each = absurd (omega arith)
  worked-all (c ∷ cs) [] ns e f each = absurd (omega arith)
  worked-all (c ∷ cs) (o ∷ os) [] e f each = absurd (omega arith)
  worked-all (c ∷ cs) (o ∷ os) (n ∷ ns) e f each = (
    each 0 o (omega arith),
    worked-all cs os ns (omega arith) (omega arith)
        (λ i d l. each (suc i) d (omega arith)),
  )

  pub worked-long : (lists : List (List C)) (olds news : List (Worker U A M X owner))
      → AllWorked kind keeps shape tells t lists olds news → length news ≡ length olds
  worked-long [] [] [] a = refl
  worked-long [] [] (n ∷ ns) a = absurd a
  worked-long [] (o ∷ os) ns a = absurd a
  worked-long (c ∷ cs) [] ns a = absurd a
  worked-long (c ∷ cs) (o ∷ os) [] a = absurd a
  worked-long (c ∷ cs) (o ∷ os) (n ∷ ns) a = ap suc (worked-long cs os ns a.1)
