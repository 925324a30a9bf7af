-- What a reply shows of leaves: a window what the leaf that covers its start does, with the words that the table's page
-- had at the step of the history; a range what leaves do that stood together at its step.
use Rattle.std.specs.Prelude.{[], ◌++◌, ◌∷◌, ◌≡◌, List, true, ℕ}
use Rattle.vm_map.specs.{declared.call.Call.Call, declared.call.Reply.Reply, declared.call.Said.Said}
use Rattle.vm_map.specs.declared.call.Call.TheVariants.{Del, Get, Put, Range, Swap, Window}
use Rattle.vm_tree_model.specs.{Fixed.fixed, Layout.Layout, Page.node_of}
use Rattle.vm_event.specs.Prelude.{page_at}
use Rattle.vm_owner.specs.Kept.{PagesHave}
use Rattle.vm_rule.specs.Prelude.{began_of, Entry, Kept, last_in, StartsWith}
use Rattle.vm_step.specs.Prelude.{Release, View}
use Rattle.vm_tree_laws.specs.{May.IsProved, May.IsProvedByAll, Plain.KeepsPlain}
use Rattle.vm_calls.specs.Calls.{as_said}

-- The reply is what a leaf shows: one of the tree's pages at the step that made the call with this reply an entry of
-- the history, which the pass
-- knows. This page of the tree is the table's page as it stood then: its words are the last ones after a beginning of
-- the releases, which the pass
-- knows too
pub record IsOfLeaf {S : Type 0} (plain : S → Said) (L : Layout) (said : Said) (v : View S) : Type 0 where
  pub kept : Kept S
  pub keeps : KeepsPlain plain L (began_of v.start) kept
  pub history : StartsWith v.seen kept.history
  pub earlier : List (Entry S)
  pub entry : Entry S
  pub step : kept.history ≡ earlier ++ entry ∷ []
  pub says : plain entry.said ≡ said
  pub page : ℕ
  pub front : List Release
  pub past : StartsWith v.releases front
  pub words : page_at kept.pages page ≡ (last_in v.start front page).words
  pub leaf : (node_of L (page_at kept.pages page)).tag ≡ 2
  pub proved : IsProved L (page_at kept.pages page) said.call said.reply

-- The reply is what leaves prove that were held together: at the step that made the call with this reply an entry of
-- the history, which the pass
-- knows, these pages of the tree had these words. So where it is too wide there are as many such leaves as can be held
pub record IsOfLeaves {S : Type 0} (plain : S → Said) (L : Layout) (said : Said) (v : View S) : Type 0 where
  pub kept : Kept S
  pub keeps : KeepsPlain plain L (began_of v.start) kept
  pub history : StartsWith v.seen kept.history
  pub earlier : List (Entry S)
  pub entry : Entry S
  pub step : kept.history ≡ earlier ++ entry ∷ []
  pub says : plain entry.said ≡ said
  pub leaves : List (ℕ × List ℕ)
  pub there : PagesHave kept.pages leaves
  pub proved : IsProvedByAll L leaves said.call said.reply

-- where blocks tell their words, a window shows what the leaf that covers its start does, and a range what leaves
-- that cover it do, as far as they reach
abbrev pub IsReplyShown : ℕ → View Said → Call → Reply → Type 0
IsReplyShown n v (Get key) reply = Unit {0}
IsReplyShown n v (Put key value) reply = Unit {0}
IsReplyShown n v (Del key) reply = Unit {0}
IsReplyShown n v (Swap key want value) reply = Unit {0}
IsReplyShown n v (Window start most) reply = v.start.tells ≡ true → IsOfLeaf as_said (fixed n) (record { call = Window start most; reply = reply }) v
IsReplyShown n v (Range low bound) reply = v.start.tells ≡ true → IsOfLeaves as_said (fixed n) (record { call = Range low bound; reply = reply }) v
