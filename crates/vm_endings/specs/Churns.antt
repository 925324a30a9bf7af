-- What the command `churn` does: it has workers make many calls on the tree of numbered pairs, and tells what they came to.
use Rattle.std.specs.Prelude.{[], ◌*◌, ◌+◌, ◌≡◌, length, List, None, ℕ}
use Rattle.vm_map.specs.{declared.call.Said.Said, Map.Pairs}
use Rattle.vm_build.specs.{Build.IsBuilt, Build.needed, Numbers.numbered}
use Rattle.vm_owner.specs.declared.Entry.{Entry}
use Rattle.vm_serve.specs.from_vm_pool.{Closing.view_at_end, declared_ended_Ended.Ended}
use Rattle.vm_tree_laws.specs.History.{gones, news}
use Rattle.vm_serve.specs.from_vm_drive.Lists.{all_faults_of}
use Rattle.vm_churn.specs.Calls.{churn_count, churn_lists}
use Rattle.vm_churn.specs.Tallies.{founds, sum_values}
use Rattle.vm_script.specs.Texts.{churn_line}
use Rattle.vm_words.specs.declared.Churn.{Churn}
use Rattle.vm_endings.specs.{declared.ends.Ends.Ends, Deliveries.Content, Ends.OfEnd, Limits.words_or, Made.IsMade, Made.last_map}

-- how many pages of z words a churn of n pairs begins with: four times those that its pairs need, and 64 more
abbrev pub churn_pages : (z n : ℕ) → ℕ
churn_pages z n = 4 * needed z n + 64

-- the line that tells a churn of n pairs with this history, which leaves this map
abbrev pub churn_text : ℕ → List (Entry Said) → Pairs → List ℕ
churn_text n h m = churn_line n (churn_count n) (founds h) (news h) (gones h) (length m) (sum_values m)

-- The calls of the places were made on a tree that was built, on pages of z words, of the pairs that the seed gives,
-- over blocks that fail in nothing: so no call is answered
-- by a fault of a device, and every page was flushed. What is told are the counts of the history that `end` keeps, and how many pairs
-- its last map has, and the sum of their values
pub record IsChurned (z : ℕ) {U : Type 0} (churn : Churn) (told : List ℕ) (end : Ended U Said) : Type 0 where
  pub pages : List (List ℕ)
  pub built : IsBuilt z (churn_pages z churn.pairs) (numbered churn.seed churn.pairs) pages
  pub made : IsMade z [] 0 churn.frames end pages (churn_lists churn.pairs churn.seed churn.workers)
  pub faultless : (p : ℕ) → all_faults_of p made.replies ≡ 0
  pub flushed : made.report.first ≡ None
  pub text : told ≡ churn_text churn.pairs (view_at_end end).seen (last_map z pages end)

-- it was made on pages of as many words as are asked for, and no file is written
abbrev pub DoesChurn : (n : ℕ) {U : Type 0} → Churn → Content → Ended U Said → Type 0
DoesChurn n churn content end = (n ≡ words_or churn.words) × IsChurned n churn content.text end × (content.file ≡ None)

-- what status 0 says of a churn, whose one history is kept in `after`
abbrev pub ToldChurn : Churn → Content → Ends → Type 0
ToldChurn churn content after = OfEnd after (λ n end. DoesChurn n churn content end)
