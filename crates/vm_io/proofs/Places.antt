-- What the place of the first file with a name tells of the bytes by name.
use Rattle.std.proofs.Common.{◌≡◌, ℕ, zero, suc, ◌<◌, List, [], ◌∷◌, length, Bool, true, false, cond, Some, None}
use Rattle.std.proofs.Common.{refl, sym, ap, ◌∙◌, string_bytes, slice_index_or, slice_set, arith}
use Rattle.std.specs.Prelude.{◌≢◌}
use Rattle.std.specs.Str.{bytes_eq}
use Rattle.std.proofs.lemmas.Slice.Eq.{bytes_eq-Decides}
use Rattle.vm_io.specs.Shown.{HoldsJust}
use Rattle.vm_io.specs.InMemory.{bytes_at, shown_in, IsPlace}
use Rattle.vm_io.specs.declared.store.MemFile.{MemFile}

pub none_named : (files : List MemFile) (name : List ℕ)
    → ((k : ℕ) (d : MemFile) → k < length files → bytes_eq (string_bytes (slice_index_or files k d).name)
    name ≡ false) → bytes_at files name ≡ None
none_named [] name h = refl
none_named (file ∷ files) name h =
    ap (λ same. cond same (Some file.bytes.items) (bytes_at files name)) (h 0 file (omega arith))
    ∙ none_named files name (λ k d low. h (suc k) d (omega arith))

behind : (file : MemFile) (files : List MemFile) (name : List ℕ) (i : ℕ) → IsPlace (file ∷ files) name (suc i) → IsPlace files name i
behind file files name i p = record {
  within = omega (arith, p.within);
  here = p.here;
  first = λ k d low. p.first (suc k) d (omega arith);
}

nowhere : {P : Type 0} (name : List ℕ) (i : ℕ) → IsPlace [] name i → P
nowhere name i p = let never : ⊥ = omega (arith, p.within) in absurd never

there : (files : List MemFile) (name : List ℕ) (i : ℕ) (d : MemFile) → IsPlace files name i
    → bytes_at files name ≡ Some (slice_index_or files i d).bytes.items
there [] name i d p = nowhere name i p
there (file ∷ files) name zero d p = ap (λ same. cond same (Some file.bytes.items) (bytes_at files name)) (p.here d)
there (file ∷ files) name (suc i) d p =
    ap (λ same. cond same (Some file.bytes.items) (bytes_at files name)) (p.first 0 d (omega arith))
    ∙ there files name i d (behind file files name i p)

set_there : (files : List MemFile) (name : List ℕ) (i : ℕ) (d new : MemFile) → IsPlace files name i
    → string_bytes new.name ≡ string_bytes (slice_index_or files i d).name
    → bytes_at (slice_set files i new) name ≡ Some new.bytes.items
set_there [] name i d new p same = nowhere name i p
set_there (file ∷ files) name zero d new p same =
    ap (λ same. cond same (Some new.bytes.items) (bytes_at files name)) (ap (λ n. bytes_eq n name) same ∙ p.here d)
set_there (file ∷ files) name (suc i) d new p same =
    ap (λ same. cond same (Some file.bytes.items) (bytes_at (slice_set files i new) name)) (p.first 0 d (omega arith))
    ∙ set_there files name i d new (behind file files name i p) same

is_false : (b : Bool) → (b ≡ true → ⊥) → b ≡ false
is_false true never = absurd (never refl)
is_false false _ = refl

differs : (here name other : List ℕ) → bytes_eq here name ≡ true → other ≢ name → bytes_eq here other ≡ false
differs here name other e apart =
    is_false (bytes_eq here other) (λ same. apart (sym ((bytes_eq-Decides here other).0 same) ∙ (bytes_eq-Decides here name).0 e))

set_elsewhere : (files : List MemFile) (name other : List ℕ) (i : ℕ) (d new : MemFile) → IsPlace files name i
    → string_bytes new.name ≡ string_bytes (slice_index_or files i d).name → other ≢ name
    → bytes_at (slice_set files i new) other ≡ bytes_at files other
set_elsewhere [] name other i d new p same apart = refl
set_elsewhere (file ∷ files) name other zero d new p same apart =
    let not : bytes_eq (string_bytes file.name) other ≡ false = differs (string_bytes file.name) name other (p.here d) apart in
    ap (λ same. cond same (Some new.bytes.items) (bytes_at files other)) (ap (λ n. bytes_eq n other) same ∙ not)
    ∙ sym (ap (λ same. cond same (Some file.bytes.items) (bytes_at files other)) not)
set_elsewhere (file ∷ files) name other (suc i) d new p same apart =
    ap (λ rest. cond (bytes_eq (string_bytes file.name) other) (Some file.bytes.items) rest)
    (set_elsewhere files name other i d new (behind file files name i p) same apart)

-- the bytes of the file that was found
pub found_bytes : (files : List MemFile) (name : List ℕ) (i : ℕ) (file : MemFile) → IsPlace files name i
    → file ≡ slice_index_or files i file → bytes_at files name ≡ Some file.bytes.items
found_bytes files name i file p e = there files name i file p ∙ ap (λ f. Some f.bytes.items) (sym e)

-- other bytes of the file that was found
pub found_put : (files : List MemFile) (said name : List ℕ) (i : ℕ) (bytes : List ℕ) (file new : MemFile)
    → IsPlace files name i → file ≡ slice_index_or files i file → string_bytes new.name ≡ string_bytes file.name
    → new.bytes.items ≡ bytes → HoldsJust (shown_in files said) (shown_in (slice_set files i new) said) name bytes
found_put files said name i bytes file new p e same written =
    let named : string_bytes new.name ≡ string_bytes (slice_index_or files i file).name = same ∙ ap (λ f. string_bytes f.name) e in
    record {
      file = set_there files name i file new p named ∙ ap (λ b. Some b) written;
      others = λ other apart. set_elsewhere files name other i file new p named apart;
      said = refl;
    }
