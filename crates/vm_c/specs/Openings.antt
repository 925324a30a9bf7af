-- What opening a store answers.
use Rattle.std.specs.Prelude.{[], ◌≡◌, List, None, Option, Some, true, ℕ}
use Rattle.vm_image.specs.File.{pages_of_bytes}
use Rattle.vm_tree_model.specs.{Fixed.fixed, Tree.IsTree}
use Rattle.vm_step.specs.Prelude.{view}
use Rattle.vm_face.specs.{Closed.IsStoreOpened, declared.image.Opening.Opening, Opened.IsNotOpened}
use Rattle.vm_c.specs.{Answers.page_telling, Answers.refusal_for}
use Rattle.vm_c.specs.{declared.answers.CallTold.CallTold, declared.opened.OpenStore.OpenStore}

-- the bytes are those of a tree's pages, the store began with them, and no hand is out or ever was
pub record IsOpenedOn (bytes : List ℕ) (s : OpenStore) : Type 0 where
  pub tree : IsTree (fixed 64) (pages_of_bytes 64 bytes)
  pub opened : IsStoreOpened true (pages_of_bytes 64 bytes) (view s.store.pass)
  pub fresh : (s.store.homes.items ≡ []) × (s.store.ever ≡ 0)

-- there is a reason why there is no store, and the number and what is told are those of the reason
pub record IsRefusedOpening (bytes : List ℕ) (frames number : ℕ) (told : CallTold) : Type 0 where
  pub why : Opening
  pub is : (number, told) ≡ refusal_for why
  pub reason : IsNotOpened 64 bytes frames why

-- the number is 0 where there is a store afterwards, and else that of a reason
abbrev pub OpensOn : List ℕ → (frames : ℕ) → Option OpenStore → (number : ℕ) → CallTold → Type 0
OpensOn bytes frames None number told = IsRefusedOpening bytes frames number told
OpensOn bytes frames (Some s) number told = (number ≡ 0) × (told ≡ page_telling 0) × IsOpenedOn bytes s
