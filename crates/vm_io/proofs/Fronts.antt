-- Steps of the loops over a host.
use Rattle.std.proofs.Common.{◌≡◌, ℕ, ◌+◌, ◌-◌, ◌≤◌, ◌<◌, ◌⊎◌, inl, inr, List, ◌++◌, length, take, drop, Option, Some}
use Rattle.std.proofs.Common.{None, refl, sym, ap, subst, ◌∙◌, arith, length-take, append_assoc}
use Rattle.std.proofs.lemmas.List.{take_all, length-take-le, append-nil}
use Rattle.std.proofs.Math.Seq.{take-add}
use Rattle.vm_io.specs.Shown.{Shown, say_more, SaidFront}
use Rattle.vm_io.specs.Loops.{ReadsMore, ReadsWhole, IsFront}

-- a front and the bytes behind it are a front
join_front : (bytes old : List ℕ) (n : ℕ) → old ≡ take (length old) bytes → n ≤ length bytes - length old
    → old ++ take n (drop (length old) bytes) ≡ take (length (old ++ take n (drop (length old) bytes))) bytes
join_front bytes old n e enough =
    let whole : old ++ take n (drop (length old) bytes) ≡ take (length old + n) bytes =
    ap (λ l. l ++ take n (drop (length old) bytes)) e ∙ sym (take-add (length old) n bytes) in
    let short : length old ≤ length bytes = omega (arith, ap length e, length-take (length old) bytes) in
    let len : length (take (length old + n) bytes) ≡ length old + n = length-take-le (length old + n) bytes (omega arith) in
    whole ∙ ap (λ k. take k bytes) (sym len ∙ ap length (sym whole))

pub front_more : (shown : Option Shown) (name old new : List ℕ) (n : ℕ) → IsFront shown name old
    → ReadsMore shown name old new n → IsFront shown name new
front_more None name old new n f m = tt
front_more (Some s) name old new n f m = λ bytes file.
    let same : m.bytes ≡ bytes = cc (m.file, file) in
    let h : n ≤ length bytes - length old = subst (λ b. n ≤ length b - length old) same m.enough in
    let e : new ≡ old ++ take n (drop (length old) bytes) = subst (λ b. new ≡ old ++ take n (drop (length old) b)) same m.more in
    subst (λ v. v ≡ take (length v) bytes) (sym e) (join_front bytes old n (f bytes file) h)

pub whole_end : (shown : Option Shown) (name : List ℕ) (limit : ℕ) (old new : List ℕ) (n : ℕ) → IsFront shown name old
    → ReadsMore shown name old new n → length old ≤ limit → length new ≤ limit + 1 → (n ≡ 0) ⊎ (limit < length new)
    → ReadsWhole shown name limit new
whole_end None name limit old new n f m low high done = (new, sym (take_all (limit + 1) new (omega arith)))
whole_end (Some s) name limit old new n f m low high done = record {
  bytes = m.bytes;
  file = m.file;
  front = elim done [
    | inl none ↦
        let end : length m.bytes ≤ length old = m.end none in
        let same : new ≡ old = m.more ∙ ap (λ k. old ++ take k (drop (length old) m.bytes)) none ∙ append-nil old in
        let a : take (length old) m.bytes ≡ m.bytes = take_all _ _ end in
        let b : take (limit + 1) m.bytes ≡ m.bytes = take_all _ _ (omega arith) in
        same ∙ f m.bytes m.file ∙ a ∙ sym b
    | inr full ↦
        let len : length new ≡ limit + 1 = omega arith in
        front_more (Some s) name old new n f m m.bytes m.file ∙ ap (λ k. take k m.bytes) len
  ];
}

said_on : (old mid new : Shown) (bytes : List ℕ) (at n : ℕ) → mid ≡ say_more old (take at bytes)
    → new ≡ say_more mid (take n (drop at bytes)) → new ≡ say_more old (take (at + n) bytes)
said_on old mid new bytes at n e h =
    h ∙ ap (λ s. say_more s (take n (drop at bytes))) e
    ∙ ap (λ l. record old { said = l }) (append_assoc old.said (take at bytes) (take n (drop at bytes))
    ∙ ap (λ l. old.said ++ l) (sym (take-add at n bytes)))

pub said_more : (old mid new : Option Shown) (bytes : List ℕ) (at n : ℕ) → SaidFront old mid bytes at
    → SaidFront mid new (drop at bytes) n → SaidFront old new bytes (at + n)
said_more None mid new bytes at n f s =
    let h : SaidFront None new (drop at bytes) n = subst (λ m. SaidFront m new (drop at bytes) n) f s in h
said_more (Some old) mid new bytes at n f s =
    let h : SaidFront (Some (say_more old (take at bytes))) new (drop at bytes) n = subst (λ m. SaidFront m new (drop at bytes) n) f s in
    h ∙ ap (λ x. Some x) (said_on old (say_more old (take at bytes))
    (say_more (say_more old (take at bytes)) (take n (drop at bytes))) bytes at n refl refl)
