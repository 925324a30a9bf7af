-- From one page, or the pages under one state word, to the whole core.
use Rattle.std.proofs.Common.{◌+◌, ◌∙◌, ◌≡◌, ◌≢◌, ap, Bool, List, refl, subst, sym, ℕ}
use Rattle.std.proofs.lemmas.Bool.{eq-eqb}
use Rattle.vm_event.specs.Prelude.{acted_over, FrameInv, HeadsInv, History, Inv, IsMirror, IsOwned, LOCKED, on_page}
use Rattle.vm_event.specs.Prelude.{OwnersInv, Page, page_after, PageInv, stands_in, State, StandsUnder, upd, upd_over, World}
use Rattle.vm_event.specs.{declared.event.PageAct.PageAct, Inv.FramePlace}
use Rattle.vm_event.proofs.Mirrors.{mirror-act, mirror-refl, mirror-sym, mirror-trans}
use Rattle.vm_event.proofs.PageFacts.{stood}
use Rattle.vm_event.proofs.Upd.{each-upd, each-upd_over, each-upd_over2, upd-keeps}
use Rattle.vm_event.proofs.Upd.{upd_over-here, upd_over-keeps, upd_over-other, upd_over-self}

-- what holds of this page of the core
abbrev pub PageHolds : State → Page → History → (ℕ → List (ℕ × ℕ)) → Type 0
PageHolds c r h l = PageInv c.shape.actors c.size c.tells c.words r h l

-- what holds of each page, after a change of one
pub pages-page : (c : State) (hs : ℕ → History) (ls : ℕ → ℕ → List (ℕ × ℕ)) (p : ℕ) (r : Page)
    → ((q : ℕ) → PageHolds c (c.pages q) (hs q) (ls q)) → PageHolds c r (hs p) (ls p) → (q : ℕ)
    → PageHolds c (upd c.pages p r q) (hs q) (ls q)
pages-page c hs ls p r i here = each-upd (λ q y. PageHolds c y (hs q) (ls q)) c.pages p r here (λ q _. i q)

-- a frame whose bit, holders and pages stay
pub frame-same : {actors pages frames f : ℕ} → {b b' : Bool} → {hs hs' ss ss' : ℕ → Bool} → {x : FramePlace} → b' ≡ b
    → ((a : ℕ) → hs' a ≡ hs a) → ((p : ℕ) → ss' p ≡ ss p) → FrameInv actors pages frames f b hs ss x
    → FrameInv actors pages frames f b' hs' ss' x
frame-same {actors} {pages} {frames} {f} {b} {b'} {hs} {hs'} {ss} {ss'} {x} eb eh es i =
    record {
      inside = i.inside;
      outside = i.outside;
      free = eb ∙ i.free;
      holds = λ a. eh a ∙ i.holds a;
      mapped = λ p. es p ∙ i.mapped p;
    }

-- pages change and stay where they stand; where one is not locked afterwards, its frame's owner word named its head
pub owners-moved : (c : State) (ps : ℕ → Page) → OwnersInv c
    → ((p f : ℕ) → stands_in (ps p).trans f ≡ stands_in (c.pages p).trans f)
    → ((p : ℕ) → (ps p).state ≢ LOCKED → IsOwned c p (c.head p + 1)) → OwnersInv (record c { pages = ps })
owners-moved c ps o st owned =
    record {
      named = λ f h e. let s : StandsUnder c h f = o.named f h e in
          record { page = s.page; under = s.under; stands = st s.page f ∙ s.stands };
      owned = λ p free m at. let n = stood (c.pages p).trans m.frame
          (sym (st p m.frame) ∙ ap (λ t. stands_in t m.frame) at ∙ eq-eqb m.frame m.frame refl) in
          ap c.owners (sym n.2) ∙ owned p free n.0 n.1;
    }

-- heads, pages and owner words stay
pub owners-beside : (c c' : State) → c'.head ≡ c.head → c'.pages ≡ c.pages → c'.owners ≡ c.owners → OwnersInv c
    → OwnersInv c'
owners-beside c c' eh ep eo o =
    record {
      named = λ f h e. let s : StandsUnder c h f = o.named f h (sym (ap (λ g. g f) eo) ∙ e) in
          record {
            page = s.page;
            under = ap (λ g. g s.page) eh ∙ s.under;
            stands = ap (λ ps. stands_in (ps s.page).trans f) ep ∙ s.stands;
          };
      owned = λ p free m at. ap (λ g. g m.frame) eo
          ∙ o.owned p (λ e. free (ap (λ ps. (ps p).state) ep ∙ e)) m (sym (ap (λ ps. (ps p).trans) ep) ∙ at)
          ∙ sym (ap (λ g. g p + 1) eh);
    }

-- ---- groups

-- heads and pages stay
pub heads-beside : (c c' : State) → c'.head ≡ c.head → c'.pages ≡ c.pages → HeadsInv c → HeadsInv c'
heads-beside c c' eh ep i =
    record {
      heads = λ p. subst (λ g. g (g p) ≡ g p) (sym eh) (i.heads p);
      mirrors = λ p. subst (λ ps. IsMirror (ps p) (ps (c'.head p))) (sym ep)
          (subst (λ g. IsMirror (c.pages p) (c.pages (g p))) (sym eh) (i.mirrors p));
    }

-- pages change beside their locks
pub heads-still : (c : State) (ps : ℕ → Page) → HeadsInv c → ((p : ℕ) → IsMirror (ps p) (c.pages p))
    → HeadsInv (record c { pages = ps })
heads-still c ps i same =
    record {
      heads = i.heads;
      mirrors = λ p. mirror-trans (same p) (mirror-trans (i.mirrors p) (mirror-sym (same (c.head p))));
    }

-- one page changes beside its locks
pub heads-page : (c : State) (p : ℕ) (r : Page) → HeadsInv c → IsMirror r (c.pages p) → HeadsInv (on_page c p r)
heads-page c p r i same =
    heads-still c (upd c.pages p r) i
    (each-upd (λ q y. IsMirror y (c.pages q)) c.pages p r same (λ q _. mirror-refl (c.pages q)))

-- an act on a state word, on each page that stands under it
pub heads-over : (c : State) (a h : ℕ) (act : PageAct) → HeadsInv c → HeadsInv (acted_over c a h act)
heads-over c a h act i =
    record {
      heads = i.heads;
      mirrors = each-upd_over (λ p y. IsMirror y (upd_over c.head h c.pages after (c.head p))) c.head h c.pages after
          (λ p e. subst (IsMirror (after p)) (sym (upd_over-here c.head h c.pages after (c.head p) (i.heads p ∙ e)))
          (mirror-act c.words (c.pages p) (c.pages (c.head p)) a act (i.mirrors p)))
          (λ p ne. subst (IsMirror (c.pages p)) (sym (upd_over-other c.head h c.pages after (c.head p)
          (λ e. ne (sym (i.heads p) ∙ e)))) (i.mirrors p));
    }
  where
    after : ℕ → Page
    after q = page_after c.words (c.pages q) a act

-- ---- the invariant, where pages change

-- pages change, with their histories and loads, and stay where they stand
pub inv-pages : (w : World) (ps : ℕ → Page) (hs : ℕ → History) (ls : ℕ → ℕ → List (ℕ × ℕ)) → Inv w
    → ((p f : ℕ) → stands_in (ps p).trans f ≡ stands_in (w.core.pages p).trans f)
    → ((p : ℕ) → (ps p).state ≢ LOCKED → IsOwned w.core p (w.core.head p + 1))
    → ((p : ℕ) → PageHolds w.core (ps p) (hs p) (ls p)) → HeadsInv (record w.core { pages = ps }) → Inv (record {
      core = record w.core { pages = ps };
      histories = hs;
      loads = ls;
    })
inv-pages w ps hs ls i st owned here heads =
    record {
      place = i.place;
      frames = λ f. frame-same refl (λ _. refl) (λ p. st p f) (i.frames f);
      words = i.words;
      next = i.next;
      pages = here;
      owners = owners-moved w.core ps i.owners st owned;
      heads = heads;
    }

-- one page changes beside its locks, and stays where it stands
pub page-alone : (w : World) (p : ℕ) (r : Page) → Inv w
    → ((f : ℕ) → stands_in r.trans f ≡ stands_in (w.core.pages p).trans f) → IsMirror r (w.core.pages p)
    → PageHolds w.core r (w.histories p) (w.loads p)
    → Inv (record { core = on_page w.core p r; histories = w.histories; loads = w.loads })
page-alone w p r i st same here =
    inv-pages w (upd w.core.pages p r) w.histories w.loads i
    (λ q f. upd-keeps (λ (y : Page). stands_in y.trans f) w.core.pages p r (st f) q)
    (each-upd (λ q (y : Page). y.state ≢ LOCKED → IsOwned w.core q (w.core.head q + 1)) w.core.pages p r
    (λ free. i.owners.owned p (λ e. free (same.state ∙ e))) (λ q _. i.owners.owned q))
    (pages-page w.core w.histories w.loads p r i.pages here)
    (heads-page w.core p r i.heads same)

-- what is asked of each page under the state word of an act: it stays where it stands, its frame's owner word named its
-- head where it is not locked afterwards, and it is in order with its history and loads
pub record StaysUnder (c : State) (q : ℕ) (r : Page) (h : History) (l : ℕ → List (ℕ × ℕ)) : Type 0 where
  pub stands : (f : ℕ) → stands_in r.trans f ≡ stands_in (c.pages q).trans f
  pub owned : r.state ≢ LOCKED → IsOwned c q (c.head q + 1)
  pub holds : PageHolds c r h l

-- an act on a state word: each page under it changes, with its history and loads
pub group-both : (w : World) (a h : ℕ) (act : PageAct) (hs : ℕ → History) (ls : ℕ → ℕ → List (ℕ × ℕ)) → Inv w
    → ((q : ℕ) → w.core.head q ≡ h
    → StaysUnder w.core q (page_after w.core.words (w.core.pages q) a act) (hs q) (ls q)) → Inv (record {
      core = acted_over w.core a h act;
      histories = upd_over w.core.head h w.histories hs;
      loads = upd_over w.core.head h w.loads ls;
    })
group-both w a h act hs ls i here =
    inv-pages w (upd_over w.core.head h w.core.pages after) _ _ i
    (λ q f. upd_over-keeps (λ (y : Page). stands_in y.trans f) w.core.head h w.core.pages after
    (λ p e. (here p e).stands f) q)
    (each-upd_over (λ q (y : Page). y.state ≢ LOCKED → IsOwned w.core q (w.core.head q + 1)) w.core.head h
    w.core.pages after
    (λ q e. (here q e).owned) (λ q _. i.owners.owned q))
    (each-upd_over2 (λ q r x. PageHolds w.core r x (upd_over w.core.head h w.loads ls q)) w.core.head h
    w.core.pages after w.histories hs
    (λ q e. subst (PageHolds w.core (after q) (hs q)) (sym (upd_over-here w.core.head h w.loads ls q e))
    (here q e).holds)
    (λ q ne. subst (PageHolds w.core (w.core.pages q) (w.histories q))
    (sym (upd_over-other w.core.head h w.loads ls q ne)) (i.pages q)))
    (heads-over w.core a h act i.heads)
  where
    after : ℕ → Page
    after q = page_after w.core.words (w.core.pages q) a act

-- the same, where the histories stay
pub group-loads : (w : World) (a h : ℕ) (act : PageAct) (ls : ℕ → ℕ → List (ℕ × ℕ)) → Inv w
    → ((q : ℕ) → w.core.head q ≡ h
    → StaysUnder w.core q (page_after w.core.words (w.core.pages q) a act) (w.histories q) (ls q)) → Inv (record {
      core = acted_over w.core a h act;
      histories = w.histories;
      loads = upd_over w.core.head h w.loads ls;
    })
group-loads w a h act ls i here =
    subst (λ hs. Inv (record {
      core = acted_over w.core a h act;
      histories = hs;
      loads = upd_over w.core.head h w.loads ls;
    })) (upd_over-self w.core.head h w.histories) (group-both w a h act w.histories ls i here)

-- the same, where the loads stay
pub group-history : (w : World) (a h : ℕ) (act : PageAct) (hs : ℕ → History) → Inv w
    → ((q : ℕ) → w.core.head q ≡ h
    → StaysUnder w.core q (page_after w.core.words (w.core.pages q) a act) (hs q) (w.loads q)) → Inv (record {
      core = acted_over w.core a h act;
      histories = upd_over w.core.head h w.histories hs;
      loads = w.loads;
    })
group-history w a h act hs i here =
    subst (λ ls. Inv (record {
      core = acted_over w.core a h act;
      histories = upd_over w.core.head h w.histories hs;
      loads = ls;
    })) (upd_over-self w.core.head h w.loads) (group-both w a h act hs w.loads i here)

-- the same, where both stay
pub group-alone : (w : World) (a h : ℕ) (act : PageAct) → Inv w
    → ((q : ℕ) → w.core.head q ≡ h
    → StaysUnder w.core q (page_after w.core.words (w.core.pages q) a act) (w.histories q) (w.loads q)) → Inv (record {
      core = acted_over w.core a h act;
      histories = w.histories;
      loads = w.loads;
    })
group-alone w a h act i here =
    subst (λ ls. Inv (record { core = acted_over w.core a h act; histories = w.histories; loads = ls }))
    (upd_over-self w.core.head h w.loads) (group-loads w a h act w.loads i here)
