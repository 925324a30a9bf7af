-- What the tree keeps of a history that grows by an entry.
use Rattle.std.proofs.Common.{◌≡◌, ◌+◌, List, [], ◌∷◌, ◌++◌, refl, sym, ap, ◌∙◌, arith}
use Rattle.vm_tree_model.specs.Layout.{Layout}
use Rattle.vm_map.specs.Map.{Pairs}
use Rattle.vm_map.specs.History.{IsReply, after, AreReplies, after_all}
use Rattle.vm_map.specs.declared.call.Said.{Said}
use Rattle.vm_map.specs.declared.call.Call.{Call}
use Rattle.vm_map.specs.declared.call.Reply.{Reply}
use Rattle.vm_tree_model.specs.Tree.{map_of}
use Rattle.vm_owner.specs.declared.Entry.{Entry}
use Rattle.vm_owner.specs.Kept.{Start, Kept, entries_under}
use Rattle.vm_owner.proofs.Counts.{counted-more}
use Rattle.vm_tree_laws.specs.History.{gones, saids, is_gone, IsLegal, is_new, news}
use Rattle.vm_tree_laws.specs.Keeps.{KeepsTree}

after_all-push : (m : Pairs) (h : List (Entry Said)) (e : Entry Said) → after_all m (saids (h ++ e ∷ [])) ≡ after
    (after_all m (saids h)) e.said.call
after_all-push m [] e = refl
after_all-push m (f ∷ h) e = after_all-push (after m f.said.call) h e

AreReplies-push : (m : Pairs) (h : List (Entry Said)) (e : Entry Said) → AreReplies m (saids h)
    → IsReply (after_all m (saids h)) e.said.call e.said.reply → AreReplies m (saids (h ++ e ∷ []))
AreReplies-push m [] e all now = (now, tt)
AreReplies-push m (f ∷ h) e all now = (all.0, AreReplies-push (after m f.said.call) h e all.1 now)

legal_push : (m : Pairs) (h : List (Entry Said)) (e : Entry Said) → IsLegal m h
    → IsReply (after_all m (saids h)) e.said.call e.said.reply → e.count ≡ entries_under e.number h + 1
    → IsLegal m (h ++ e ∷ [])
legal_push m h e legal reply count = record {
  replies = AreReplies-push m h e legal.replies reply;
  counted = counted-more (λ _. 0) h e legal.counted (omega arith);
}

news-push : (h : List (Entry Said)) (e : Entry Said) → news (h ++ e ∷ []) ≡ news h + is_new e.said.call e.said.reply
news-push [] e = omega arith
news-push (f ∷ h) e = omega (arith, news-push h e)

gones-push : (h : List (Entry Said)) (e : Entry Said) → gones (h ++ e ∷ []) ≡ gones h + is_gone e.said.call e.said.reply
gones-push [] e = omega arith
gones-push (f ∷ h) e = omega (arith, gones-push h e)

module _ (L : Layout) (start : Start) (kept : Kept Said) (keeps : KeepsTree L start kept) (e : Entry Said)
    (call : Call) (reply : Reply) (is : e.said ≡ record { call = call; reply = reply }) where
  pub legal_after : e.count ≡ entries_under e.number kept.history + 1 → IsReply (map_of L kept.pages) call reply
      → IsLegal (map_of L start.pages) (kept.history ++ e ∷ [])
  legal_after turn right = legal_push _ kept.history e keeps.legal (rw is (rw keeps.contents at right)) turn

  pub map_after : (m : Pairs) → m ≡ after (map_of L kept.pages) call → m ≡ after_all (map_of L start.pages) (saids (kept.history ++ e ∷ []))
  map_after m to = to ∙ ap (λ (x : Pairs). after x call) keeps.contents
      ∙ ap (λ (s : Said). after (after_all (map_of L start.pages) (saids kept.history)) s.call) (sym is)
      ∙ sym (after_all-push (map_of L start.pages) kept.history e)

  pub news_after : news (kept.history ++ e ∷ []) ≡ news kept.history + is_new call reply
  news_after = news-push kept.history e ∙ ap (λ (s : Said). news kept.history + is_new s.call s.reply) is

  pub gones_after : gones (kept.history ++ e ∷ []) ≡ gones kept.history + is_gone call reply
  gones_after = gones-push kept.history e ∙ ap (λ (s : Said). gones kept.history + is_gone s.call s.reply) is
