-- What the first pass of a pool over a tree of one leaf knows once both its pages were brought: the pages below the
-- next one are resident, and each
-- page's last words are those of its block. So a get is answered at once, with what the map of the pages has.
use Rattle.std.proofs.Common.{[], ⊎_elim, ◌*◌, ◌+◌, ◌<◌, ◌∙◌, ◌≡◌, ◌≢◌, ◌≤◌, ap, arith, inl, inr, length, List, refl, subst, sym, true, ℕ}
use Rattle.std.proofs.lemmas.Bool.{cases_eq}
use Rattle.vm_map.specs.{declared.call.Reply.Reply, declared.call.Said.Said, Map.lookup_at}
use Rattle.vm_map.specs.declared.call.Call.TheVariants.{Get}
use Rattle.vm_map.specs.declared.call.Reply.TheVariants.{Gone, Got, Many, Swapped, Was, Wide, Win}
use Rattle.vm_tree_model.specs.{Layout.IsLayout, Layout.Layout, Node.Covers, Page.node_of, Page.pairs_of, Tree.IsLeafAt, Tree.map_of}
use Rattle.vm_tree_model.proofs.Laws.{lookup-map_of}
use Rattle.vm_event.specs.Prelude.{MAX_VERSION, page_at, state_of, UNLOCKED}
use Rattle.vm_event.proofs.At.{at-get}
use Rattle.vm_rule.specs.Prelude.{block_words, bundles_of, counts_of, IsStarted, MayBegin, started_shape, started_words, Stored, unborn}
use Rattle.vm_rule.specs.Begun.{begun}
use Rattle.vm_rule.specs.declared.view.WordPlace.TheVariants as places
use Rattle.vm_rule.proofs.{ListFacts.length-mapped, StartedWords.started-next, WordFacts.word-state}
use Rattle.vm_step.specs.Prelude.{IsAlone, Origin, StaysAlone, View}
use Rattle.vm_step.proofs.Asides.{alone-then}
use Rattle.vm_guard.specs.Sure.{IsKnownFree, IsUnlockedWord, known_next}
use Rattle.vm_exmap.specs.Frames.{HasFree}
use Rattle.vm_pool_callers.specs.from_vm_fault.Fetches.{IsKnownOut, IsOfBoth}
use Rattle.vm_pool_callers.specs.from_vm_pool.{Brings.KeepsLocks, declared_bring_Bring.Bring, Known.known_version, Known.KnowsAsked}
use Rattle.vm_pool_callers.specs.from_vm_pool.{Known.KnowsBring, Known.KnowsBrought}
use Rattle.vm_pool_callers.specs.from_vm_pool.Known.{KnowsBrought as brought}
use Rattle.vm_pool_callers.specs.from_vm_pool.declared_bring_Bring_TheVariants as brings
use Rattle.vm_pool_callers.proofs.from_vm_pool.{FirstPass.first-alone, FirstPass.first-out, FirstPass.first-words, Keeping.keeps-alone}
use Rattle.vm_pool_callers.proofs.from_vm_pool.{Knowing.brought-word, Knowing.when-free}
use Rattle.vm_pool_callers.specs.Known.{HasAskedFirst}
use Rattle.vm_pool_callers.proofs.FirstPage.{again, other-page}
use Rattle.vm_tree_laws.specs.{May.IsProved, Plain.KeepsPlain, Plain.plain_kept}
use Rattle.vm_tree_laws.proofs.Nodes.{leaf_by_tag}
use Rattle.vm_tree_retry.specs.from_vm_tree_rule.Resident.{KnowsResident}
use Rattle.vm_tree_retry.specs.from_vm_tree_read.Reads.{IsAnswered, IsDone, IsTried}
use Rattle.vm_tree_retry.specs.from_vm_tree_read.declared_read_TryRead.{TryRead}
use Rattle.vm_tree_retry.specs.from_vm_tree_read.declared_read_TryRead_TheVariants as tries

-- ---- the next word

-- it is no place of a page or of a frame
not-of-next : (size p f : ℕ) → IsOfBoth size p f places.Next → ⊥
not-of-next size p f (inl page-is) = page-is
not-of-next size p f (inr (inl e)) = absurd (cc)
not-of-next size p f (inr (inr c)) = let e = c.2 in absurd (cc)

-- it stays where a page is brought
next-same : {X : Type 0} (cap p : ℕ) (old new : List ℕ) (v w : View X) → KnowsBrought cap p old new v w → known_next w ≡ known_next v
next-same cap p old new v w (brought.own f is k) = k.others.words places.Next tt (not-of-next _ p f)
next-same cap p old new v w (brought.taken f g mask none are inside low left k) =
    k.others.words places.Next tt
    (λ t. ⊎_elim (not-of-next _ p f) (λ (e : places.Next ≡ places.Bundle g). absurd (cc)) t)

-- a page that was brought is free
free-word : {X : Type 0} (cap p : ℕ) (old new : List ℕ) (v w : View X) → IsKnownOut p v → KnowsBrought cap p old new v w → IsKnownFree p w
free-word cap p old new v w out k =
    let below : known_version v p < MAX_VERSION = out.1 in
    inl (ap state_of (brought-word k) ∙ word-state UNLOCKED (known_version v p + 1) (omega (arith, below)))

-- what a leaf proves of a get
got-is : (L : Layout) (leaf : List ℕ) (key : ℕ) (reply : Reply) → IsProved L leaf (Get key) reply
    → Covers (node_of L leaf) key × (reply ≡ Got (lookup_at (pairs_of L leaf) key))
got-is L leaf key (Got found) p = (p.0, ap Got p.1)
got-is L leaf key (Was was) p = absurd p
got-is L leaf key (Gone was) p = absurd p
got-is L leaf key (Win window) p = absurd p
got-is L leaf key (Swapped outcome) p = absurd p
got-is L leaf key (Many span) p = absurd p
got-is L leaf key (Wide reach) p = absurd p

-- ---- how the pool began

module _ {S : Type 0} (plain : S → Said) (L : Layout) (laws : IsLayout L) (size version next frames : ℕ) (blocks : List Stored) where
  abbrev first : View S
  first = begun (unborn (started_shape size true version next [] [] frames blocks))

  first-next : known_next first ≡ next
  first-next = sym (at-get 0 (started_words size (length blocks) frames version next [] (counts_of blocks))
      (3 * length blocks + size * frames + bundles_of frames)) ∙ started-next size true version next [] [] frames blocks

  -- ---- once both pages were brought

  module _ (pages : ℕ) (long : length blocks ≡ pages) (fits : IsStarted version next frames pages)
      (below : version < MAX_VERSION) (two : 2 ≤ frames) (leaf : next ≡ 2)
      (new : List ℕ) (w : View S) (meta : Bring) (asked : HasAskedFirst 0 first new w meta) (here : meta ≡ brings.Brought)
      (cap : ℕ) (last : List ℕ) (z : View S) (root : Bring) (keeps : KeepsLocks w z)
      (table : IsAlone w → KnowsAsked cap 1 new last w z root) (there : root ≡ brings.Brought) where
    many : 2 ≤ pages
    many = let l : next ≤ pages = fits.claimed in omega (arith, l, leaf)

    before : IsAlone w × IsKnownOut 1 w × HasFree new w
    before = again size true version next frames blocks pages long fits below two 0 1 (omega arith)
        (omega (arith, many)) (omega (arith, many)) new w meta asked

    first-brought : KnowsBrought 1 0 [] new first w
    first-brought = subst (KnowsBring 1 0 [] new first w) here asked.knows

    then-knows : KnowsBring cap 1 new last w z root
    then-knows = when-free cap 1 new last w z root before.2 (table before.0)

    then-brought : KnowsBrought cap 1 new last w z
    then-brought = subst (KnowsBring cap 1 new last w z) there then-knows

    known-two : known_next z ≡ 2
    known-two = next-same cap 1 new last w z then-brought ∙ next-same 1 0 [] new first w first-brought ∙ first-next ∙ leaf

    meta-free : IsKnownFree 0 z
    meta-free =
        let inside : 0 < w.start.pages = subst (λ (o : Origin). 0 < o.pages) (sym asked.keeps.start) (omega (arith, many, long)) in
        subst IsUnlockedWord (sym (other-page cap 1 0 new last w z root (omega arith) inside then-knows))
        (free-word 1 0 [] new first w (first-out size true version next [] frames blocks first refl pages long fits 0
        (omega (arith, many)) below) first-brought)

    both-free : (q : ℕ) → q < 2 → IsKnownFree q z
    both-free q l =
        ⊎_elim (λ (e : q ≡ 0). subst (λ n. IsKnownFree n z) (sym e) meta-free)
        (λ (ne : q ≢ 0). subst (λ n. IsKnownFree n z) (let one : 1 ≡ q = omega (arith, ne, l) in one)
        (free-word cap 1 new last w z before.1 then-brought))
        (cases_eq q 0)

    resident : KnowsResident z
    resident = record { alone = keeps-alone keeps before.0; each = λ q l _. both-free q (subst (λ n. q < n) known-two l) }

    module _ (key : ℕ) (y : View S) (may : MayBegin (KeepsPlain plain L) next [] (block_words blocks)) where
      answered : (reply : Reply) → IsAnswered plain L (record {
        call = Get key;
        reply = reply;
      }) z y → reply ≡ Got (lookup_at (map_of L (block_words blocks)) key)
      answered reply a =
          let start : z.start ≡ first.start = keeps.start ∙ asked.keeps.start in
          let b = a.told (ap (λ (o : Origin). o.tells) start) in
          let leaf-there : IsLeafAt L b.kept.pages a.page = leaf_by_tag L laws _ (plain_kept plain b.kept) b.keeps
          a.page (a.proves _ b.has).leaf in
          let count : length b.kept.pages ≡ length blocks =
          b.keeps.same_count ∙ ap (λ (o : Origin). length o.contents) start
          ∙ length-mapped (λ (s : Stored). s.words) blocks in
          let inside : a.page < length blocks = (let l : a.page < length b.kept.pages = leaf-there.1 in omega (arith, l, count)) in
          let stays : StaysAlone first z = alone-then first w z asked.keeps.parts asked.keeps.alone keeps.alone in
          let whole = first-alone size true version next [] frames blocks first refl in
          let same : page_at b.kept.pages a.page ≡ page_at (block_words blocks) a.page =
          b.last ∙ a.reads.alone.words resident.alone.0 resident.alone.1 a.page ∙ stays.words whole.0 whole.1 a.page
          ∙ first-words size true version next [] frames blocks first refl refl a.page inside in
          let got = got-is L (page_at b.kept.pages a.page) key reply b.proved in
          let leaf-first : IsLeafAt L (block_words blocks) a.page =
          leaf_by_tag L laws _ _ may.kept a.page
          (ap (λ (l : List ℕ). (node_of L l).tag) (sym same) ∙ (a.proves _ b.has).leaf) in
          got.1 ∙ ap (λ (l : List ℕ). Got (lookup_at (pairs_of L l) key)) same
          ∙ ap Got (sym (lookup-map_of L laws (block_words blocks) may.kept.tree a.page key leaf-first
          (subst (λ (l : List ℕ). Covers (node_of L l) key) same got.0)))

      pub answers : (t : TryRead) → (KnowsResident z → IsDone t) → IsTried plain L (Get key) key t z y
          → t ≡ tries.Done (Got (lookup_at (map_of L (block_words blocks)) key))
      answers (tries.Done reply) sure tried = ap tries.Done (answered reply tried)
      answers (tries.Again saw) sure tried = absurd (sure resident)
      answers (tries.Need p) sure tried = absurd (sure resident)
      answers (tries.Damaged p) sure tried = absurd (sure resident)
