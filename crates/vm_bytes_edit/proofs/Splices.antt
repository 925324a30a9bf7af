-- A draft that gets the first pairs of a page, others, and the last pairs of the page.
use Rattle.std.proofs.Common.{◌≡◌, ℕ, ◌≤◌, List, [], ◌++◌, length, get_or, take, drop, Option, None, Some, IfSome}
use Rattle.std.proofs.Common.{refl, sym, ap, subst, ◌∙◌, arith}
use Rattle.std.proofs.lemmas.List.{take_all}
use Rattle.vm_tree_model.specs.Layout.{IsClean}
use Rattle.vm_bytes_form.specs.Bytes.{bytes}
use Rattle.vm_bytes_form.specs.Forms.{ByteNode, KeyEntry, IsFitting, node_in}
use Rattle.vm_bytes_form.proofs.EditLaws.{clean_fitting}
use Rattle.vm_bytes_edit.specs.Drafts.{empty_node, entries_between, HasNoEmptyHigh, IsDraft, spliced, with_more}
use Rattle.vm_bytes_edit.proofs.Entries.{fits_first, with_both}
use Rattle.vm_bytes_node.proofs.HeaderLemmas.{level_is, tag_is}

-- a draft with the header of a page
pub begun_of : (words : List ℕ) (page : List ℕ) (count end tag level : ℕ) (low : List ℕ) (high : Option (List ℕ)) → tag ≡ get_or words 0 0
    → level ≡ get_or words 2 0
    → low ≡ (node_in words).low → high ≡ (node_in words).high → IsDraft page count end (empty_node tag level low high)
    → IsDraft page count end (record (node_in words) { entries = [] })
begun_of words page count end tag level low high tag_read level_read low_read high_read draft =
    let tagged = tag_read ∙ sym (tag_is words) in
    let levelled = level_read ∙ sym (level_is words) in
    let same : empty_node tag level low high ≡ record (node_in words) { entries = [] } = λ i. empty_node (tagged i) (levelled i)
    (low_read i) (high_read i) in
    subst (IsDraft page count end) same draft

-- a high fence is not empty
pub high_long : (n : ByteNode) (high : List ℕ) → HasNoEmptyHigh n → Some high ≡ n.high → 1 ≤ length high
high_long n high long is = subst (λ (h : Option (List ℕ)). IfSome h (λ s. 1 ≤ length s)) (sym is) long

pub no_empty_high : (n : ByteNode) → IsFitting 512 n → HasNoEmptyHigh n
no_empty_high n fits = go n.high (λ s is. (fits.high s is).1)
  where
    go : (high : Option (List ℕ)) → ((s : List ℕ) → high ≡ Some s → 1 ≤ length s) → IfSome high (λ s. 1 ≤ length s)
    go None each = tt
    go (Some s) each = each s refl

pub clean_high : (words : List ℕ) → IsClean bytes words → HasNoEmptyHigh (node_in words)
clean_high words clean = no_empty_high (node_in words) (clean_fitting words clean)

module _ (n : ByteNode) (before behind count : ℕ) (between : List KeyEntry) (all : count ≡ length n.entries) where
  abbrev bare : ByteNode
  bare = record n { entries = [] }

  abbrev first : List KeyEntry
  first = entries_between 0 before n.entries

  abbrev last : List KeyEntry
  last = entries_between behind count n.entries

  pub joined : with_more (with_more bare first) (between ++ last) ≡ spliced n before behind between
  joined = with_both bare first (between ++ last)
      ∙ ap (λ (l : List KeyEntry). record n { entries = take before n.entries ++ (between ++ drop behind l) })
      (take_all count n.entries (omega (arith, all)))

  pub spliced_is : with_more (with_more (with_more bare first) between) last ≡ spliced n before behind between
  spliced_is = with_both (with_more bare first) between last ∙ joined

  module _ (fits : IsFitting 512 (spliced n before behind between)) where
    pub first_fits : IsFitting 512 (with_more bare first)
    first_fits = fits_first bare first (between ++ last) (subst (IsFitting 512) (sym joined ∙ with_both bare first (between ++ last)) fits)

    pub between_fits : IsFitting 512 (with_more (with_more bare first) between)
    between_fits = fits_first (with_more bare first) between last (subst (IsFitting 512) (sym joined) fits)

    pub whole_fits : IsFitting 512 (with_more (with_more (with_more bare first) between) last)
    whole_fits = subst (IsFitting 512) (sym spliced_is) fits

-- the halves of a page: its header with another fence, and a part of its pairs
module _ (words : List ℕ) (page : List ℕ) (count end tag level : ℕ) (tag_read : tag ≡ get_or words 0 0)
    (level_read : level ≡ get_or words 2 0) where
  tagged : tag ≡ (node_in words).tag
  tagged = tag_read ∙ sym (tag_is words)

  levelled : level ≡ (node_in words).level
  levelled = level_read ∙ sym (level_is words)

  pub lower_begun : (low high : List ℕ) → low ≡ (node_in words).low → IsDraft page count end (empty_node tag level low (Some high))
      → IsDraft page count end (record (node_in words) { high = Some high; entries = [] })
  lower_begun low high low_read draft =
      let same : empty_node tag level low (Some high) ≡ record (node_in words) { high = Some high; entries = [] } =
      λ i. empty_node (tagged i) (levelled i) (low_read i) (Some high) in
      subst (IsDraft page count end) same draft

  pub upper_begun : (low : List ℕ) (high : Option (List ℕ)) → high ≡ (node_in words).high
      → IsDraft page count end (empty_node tag level low high)
      → IsDraft page count end (record (node_in words) { low = low; entries = [] })
  upper_begun low high high_read draft =
      let same : empty_node tag level low high ≡ record (node_in words) { low = low; entries = [] } =
      λ i. empty_node (tagged i) (levelled i) low (high_read i) in
      subst (IsDraft page count end) same draft

pub last_entries : (from count : ℕ) (es : List KeyEntry) → count ≡ length es → entries_between from count es ≡ drop from es
last_entries from count es all = ap (drop from) (take_all count es (omega (arith, all)))
