-- What a churn gives, from what its parts tell.
use Rattle.std.specs.declared.alloc.Global.{Global}
use Rattle.std.specs.List.{AllByRecursion}
use Rattle.std.proofs.Common.{[], ⊎_elim, ◌&&◌, ◌*◌, ◌+◌, ◌<◌, ◌∙◌, ◌∷◌, ◌≡◌, ◌≤◌, ap, arith, false, le-leb, leb}
use Rattle.std.proofs.Common.{length, List, None, Ok, refl, Result, subst, suc, sym, true, Vec, zero, ℕ}
use Rattle.std.proofs.lemmas.Bool.{and_parts, cases_lt, leb-true, lt-leb}
use Rattle.vm_map.specs.{declared.call.Call.Call, declared.call.Reply.Reply, declared.call.Said.Said}
use Rattle.vm_map.specs.{History.after_all, Map.gather, Map.Pairs}
use Rattle.vm_page.specs.Sizes.{IsSize}
use Rattle.vm_block.specs.declared.memory.MemBlock.{MemBlock}
use Rattle.vm_tree_model.specs.{Fixed.fixed, Tree.IsTree, Tree.map_of}
use Rattle.vm_tree_model.proofs.FixedLaws.{size_is}
use Rattle.vm_image.specs.{Blocks.pages_of_blocks, File.most_pages}
use Rattle.vm_build.specs.{Build.nodes_from, Levels.nodes_for, Numbers.numbered}
use Rattle.vm_owner.specs.declared.Entry.{Entry}
use Rattle.vm_reading.specs.from_vm_pool.{Closing.view_at_end, declared_ended_Ended.Ended}
use Rattle.vm_tree_laws.specs.History.{saids}
use Rattle.vm_reading.specs.from_vm_tree_rule.declared_fault_TreeFault.{TreeFault}
use Rattle.vm_reading.specs.from_vm_drive.{Drives.AreFew, Lists.AreKept}
use Rattle.vm_reading.specs.from_vm_serve.{declared_serving_ServedOn.ServedOn, Serving.word_serving}
use Rattle.vm_reading.proofs.from_vm_serve.{Planned.as-many, Planned.saved, Unplanned.all_flushed, Unplanned.no_faults}
use Rattle.vm_reading.specs.from_vm_churn.{Calls.churn_count, Calls.churn_lists, declared_tally_Tally.Tally}
use Rattle.vm_reading.specs.from_vm_churn.Tallies.{IsSmall, StandsFor, sum_values, tally_of, total_of}
use Rattle.vm_reading.proofs.from_vm_churn.{Counting.kept_small, Counting.kept_total, Lists.count_lists}
use Rattle.vm_reading.proofs.from_vm_churn.{Lists.few_lists, Sums.sum_fits, Tallying.tallied}
use Rattle.vm_script.specs.Texts.{churn_line}
use Rattle.vm_words.specs.declared.Churn.{Churn}
use Rattle.vm_words.specs.declared.Command.TheVariants as commands
use Rattle.vm_reading.specs.from_vm_endings.{declared_delivery_Delivery.Delivery, declared_ends_Ends.Ends}
use Rattle.vm_reading.specs.from_vm_endings.{Deliveries.Content, Deliveries.content_of}
use Rattle.vm_reading.specs.from_vm_endings.{Endings.AnswersCommand, Endings.told, Made.last_map, Outside.Outside}
use Rattle.vm_reading.specs.from_vm_endings.{Outside.Remains, Replies.AreMatched}
use Rattle.vm_reading.specs.from_vm_endings.Churns.{churn_pages, churn_text, DoesChurn, IsChurned, ToldChurn}
use Rattle.vm_reading.specs.from_vm_endings.Limits.{are_frames, are_pairs_to_churn, are_words, are_workers}
use Rattle.vm_reading.proofs.from_vm_endings.Telling.{matched}
use Rattle.vm_runs.specs.{declared.churn.Load.Load, declared.outcome.Outcome.Outcome}
use Rattle.vm_runs.specs.Loads.{asked, IsLoaded, IsWithinLimits, spelt, TellsLoad}

-- ---- the numbers

pub within_limits : (load : Load) → are_pairs_to_churn load.pairs ≡ true → are_workers load.workers ≡ true
    → are_frames load.workers load.frames ≡ true → are_words load.words ≡ true → IsWithinLimits load
within_limits load pairs workers frames words =
    let p = and_parts (leb 1 load.pairs) (leb load.pairs 100000) pairs in
    let w = and_parts (leb 1 load.workers) (leb load.workers 64) workers in
    let f = and_parts (leb 64 load.frames) (leb load.frames 65536 && leb (8 * load.workers) load.frames) frames in
    let g = and_parts (leb load.frames 65536) (leb (8 * load.workers) load.frames) f.1 in
    record {
      pairs = leb-true load.pairs 100000 p.1;
      workers = (leb-true 1 load.workers w.0, leb-true load.workers 64 w.1);
      frames = (leb-true 64 load.frames f.0, leb-true load.frames 65536 g.0, leb-true (8 * load.workers) load.frames g.1);
      words = words;
    }

-- a level of nodes of 20 entries and more, and those above it, have at most twice the level's nodes
few-nodes : (z levels nodes : ℕ) → IsSize z → 1 ≤ nodes → nodes_from z levels nodes ≤ 2 * nodes
few-nodes z zero nodes size some = omega arith
few-nodes z (suc levels) nodes size some =
    ⊎_elim
    (λ (l : 1 < nodes).
    let up : 1 ≤ nodes_for z nodes = size_is (λ k. 1 ≤ nodes_for k nodes) z size (omega arith) (omega arith) in
    let next : nodes_from z levels (nodes_for z nodes) ≤ 2 * nodes_for z nodes = few-nodes z levels (nodes_for z nodes) size up in
    let half : 2 * nodes_for z nodes ≤ nodes = size_is (λ k. 2 * nodes_for k nodes ≤ nodes) z size (omega (arith, l)) (omega (arith, l)) in
    let more : leb nodes 1 ≡ false = lt-leb nodes 1 l in
    rw more (omega (arith, next, half)))
    (λ (le : nodes ≤ 1). let last : leb nodes 1 ≡ true = le-leb nodes 1 le in rw last (omega arith))
    (cases_lt 1 nodes)

pub pages_fit : (z n : ℕ) → IsSize z → n ≤ 100000 → churn_pages z n ≤ most_pages z
pages_fit z n size few =
    let above : nodes_from z n (nodes_for z n) ≤ 2 * nodes_for z n =
    few-nodes z n (nodes_for z n) size (size_is (λ k. 1 ≤ nodes_for k n) z size (omega arith) (omega arith)) in
    let enough : 4 * (1 + 2 * nodes_for z n) + 64 ≤ most_pages z =
    size_is (λ k. 4 * (1 + 2 * nodes_for k n) + 64 ≤ most_pages k) z size (omega (arith, few))
    (omega (arith, few)) in
    omega (arith, above, enough)

-- no more than fit into 32 bits
pub few_pages : (z n : ℕ) → IsSize z → n ≤ 100000 → churn_pages z n ≤ 65536
few_pages z n size few = omega (arith, pages_fit z n size few, size_is (λ k. most_pages k ≤ 65536) z size (omega arith) (omega arith))

-- ---- what was served

kept_long : (tallies : List Tally) (replies : List (List (Result Reply TreeFault)))
    → AreKept StandsFor tallies replies → length tallies ≡ length replies
kept_long [] [] kept = refl
kept_long [] (answers ∷ replies) kept = absurd kept
kept_long (tally ∷ tallies) [] kept = absurd kept
kept_long (tally ∷ tallies) (answers ∷ replies) kept = ap suc (kept_long tallies replies kept.1)

few_matched : (lists : List (List Call)) (replies : List (List (Result Reply TreeFault))) → AreMatched lists replies
    → AreFew lists → AreFew replies
few_matched [] [] same few = tt
few_matched [] (answers ∷ replies) same few = absurd same
few_matched (calls ∷ lists) [] same few = tt
few_matched (calls ∷ lists) (answers ∷ replies) same few =
    (subst (λ n. n ≤ 1000000) (sym same.0) few.0, few_matched lists replies same.1 few.1)

module _ (n : ℕ) {U : Type 0} (load : Load) (within : IsWithinLimits load) (words : load.words ≡ n)
    (s : ServedOn U Tally (MemBlock n) Said) (is : IsLoaded n load s) where
  abbrev lists : List (List Call)
  lists = churn_lists load.pairs load.seed load.workers

  abbrev replies : List (List (Result Reply TreeFault))
  replies = is.made.told

  abbrev history : List (Entry Said)
  history = (view_at_end s.ended).seen

  few-replies : AreFew replies
  few-replies = few_matched lists replies (matched history lists replies is.made.served.on.calls)
      (few_lists load.pairs load.seed load.workers within.pairs)

  pub few_workers : length s.kept.items ≤ 64
  few_workers = omega (
    arith,
    kept_long s.kept.items replies is.made.stand,
    is.made.served.on.calls.lists_long,
    count_lists load.pairs load.seed load.workers,
    within.workers.1,
  )

  pub small_tallies : AllByRecursion IsSmall s.kept.items
  small_tallies = kept_small s.kept.items replies is.made.stand few-replies

  pub flushed : s.report.first ≡ None
  flushed = all_flushed (word_serving n) is.pages lists replies s.report s.blocks.items s.ended is.made.served

  abbrev was_saved : IsTree (fixed n) (pages_of_blocks s.blocks.items)
      × (map_of (fixed n) (pages_of_blocks s.blocks.items) ≡ last_map n is.pages s.ended)
  was_saved = saved is.pages [] lists replies s.report s.blocks.items s.ended is.made.served (is.made.served.on.flushed flushed)

  many_blocks : length s.blocks.items ≡ length is.pages
  many_blocks = as-many is.pages [] lists replies s.report s.blocks.items s.ended is.made.served

  pub saved_tree : IsTree (fixed n) (pages_of_blocks s.blocks.items)
  saved_tree = was_saved.0

  saved_map : map_of (fixed n) (pages_of_blocks s.blocks.items) ≡ last_map n is.pages s.ended
  saved_map = was_saved.1

  pub some_blocks : 2 ≤ length s.blocks.items
  some_blocks = omega (arith, many_blocks, is.some)

  pub most_blocks : length s.blocks.items ≤ most_pages n
  most_blocks = omega (arith, many_blocks, is.most)

  pub values_fit : (rows : Pairs) → rows ≡ map_of (fixed n) (pages_of_blocks s.blocks.items) → sum_values rows < 18446744073709551616
  values_fit rows are =
      let same : rows ≡ after_all (gather (numbered load.seed load.pairs)) (saids history) =
      are ∙ saved_map ∙ ap (λ (m : Pairs). after_all m (saids history)) is.built.map in
      subst (λ (m : Pairs). sum_values m < 18446744073709551616) (sym same)
      (sum_fits load.pairs load.seed load.workers history replies within.pairs within.workers.1
      is.made.served.on.calls)

  pub churned : (rows : Pairs) (tally : Tally) (text : Vec ℕ Global) (o : Outcome U Said)
      → rows ≡ map_of (fixed n) (pages_of_blocks s.blocks.items) → tally ≡ total_of s.kept.items
      → text.items ≡ churn_line load.pairs (churn_count load.pairs) tally.some tally.new tally.gone (length rows)
      (sum_values rows) → o ≡ record {
        delivery = record { file = None; text = text; status = 0 };
        ended = s.ended;
      } → DoesChurn n (asked load) (content_of o.delivery) o.ended × (o.delivery.status ≡ 0)
  churned rows tally text o are counted says out =
      let given : Outcome U Said = record { delivery = record { file = None; text = text; status = 0 }; ended = s.ended } in
      let counts : tally ≡ tally_of history = counted ∙ kept_total s.kept.items replies is.made.stand few-replies
      ∙ tallied (map_of (fixed n) is.pages) history lists replies (is.made.served.on.legal refl).replies
      is.made.served.on.calls in
      let whole : text.items ≡ churn_text load.pairs history (last_map n is.pages s.ended) = says
      ∙ ap (λ (t : Tally). churn_line load.pairs (churn_count load.pairs) t.some t.new t.gone (length rows) (sum_values rows)) counts
      ∙ ap (λ (m : Pairs). churn_text load.pairs history m) (are ∙ saved_map) in
      let done : IsChurned n (asked load) text.items s.ended = record {
        pages = is.pages;
        built = is.built;
        made = record {
          replies = replies;
          report = s.report;
          blocks = s.blocks.items;
          served = is.made.served;
          version = is.version;
          frames = is.frames;
        };
        faultless = no_faults (word_serving n) is.pages lists replies s.report s.blocks.items s.ended is.made.served;
        flushed = flushed;
        text = whole;
      } in
      subst (λ (v : Outcome U Said). DoesChurn n (asked load) (content_of v.delivery) v.ended
      × (v.delivery.status ≡ 0)) {x = given} (sym out) ((sym words, done, refl), refl)

-- what is said of a churn that says how many words a page has is said of one that does not
spelt_churn : (n : ℕ) {U : Type 0} (churn : Churn) (content : Content) (end : Ended U Said)
    → DoesChurn n (spelt churn) content end → DoesChurn n churn content end
spelt_churn n churn content end d =
    let c = d.1 in
    (d.0, record { pages = c.pages; built = c.built; made = c.made; faultless = c.faultless; flushed = c.flushed; text = c.text }, d.2)

-- what was made of the calls is what the command does
pub churn-does : (n : ℕ) {U : Type 0} (churn : Churn) (load : Load) (delivery : Delivery) (end : Ended U Said)
    → TellsLoad churn (Ok load) → DoesChurn n (asked load) (content_of delivery) end
    → DoesChurn n churn (content_of delivery) end
churn-does n churn load delivery end t m = spelt_churn n churn (content_of delivery) end
    (subst (λ (c : Churn). DoesChurn n c (content_of delivery) end) t.0 m)

pub churn-gives : (churn : Churn) (load : Load) (delivery : Delivery) (after : Ends) → TellsLoad churn (Ok load)
    → ToldChurn churn (content_of delivery) after → delivery.status ≡ 0 → (outside : Outside) (left : Remains)
    (before : Ends) → AnswersCommand content_of (commands.Churn churn) outside left before after (Ok delivery)
churn-gives churn load delivery after t m done outside left before = ((t.2.0, (t.2.1.0, (t.2.1.1.0, (t.2.1.1.1.0, tt)))), told m done)
