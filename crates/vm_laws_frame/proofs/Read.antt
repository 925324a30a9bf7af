-- A translation load and a page load keep what holds of a page.
use Rattle.std.proofs.Common.{[], ⊎_elim, ◌++◌, ◌<◌, ◌∙◌, ◌∷◌, ◌≡◌, ◌≤◌, ◌⊎◌, ap, Bool, inl, inr, List, None, Option}
use Rattle.std.proofs.Common.{refl, slice_index, Some, subst, sym, ℕ}
use Rattle.std.proofs.lemmas.Bool.{cases_Bool, cond-false, cond-true}
use Rattle.vm_event.specs.Prelude.{frame_of, frame_read, framed, History, load_frame, loads_more, LoadsAre, open_frame}
use Rattle.vm_event.specs.Prelude.{Page, PageInv, ReadInv, ReadsPage, upd, word_at}
use Rattle.vm_event.specs.{declared.event.Mapping.Mapping, declared.event.Open.Open, FrameActs.frame_or, FrameActs.reads_locked}
use Rattle.vm_event.proofs.{Locks.locks-seat, Upd.each-upd, Upd.upd-self}
use Rattle.vm_event.proofs.PageFacts.{faults-seat, reads-seat, some-same}

frame-cases : (q : Option ℕ) (n f : ℕ) → frame_or q n ≡ Some f → (q ≡ Some f) ⊎ (n ≡ f)
frame-cases None n f e = inr (some-same n f e)
frame-cases (Some g) n f e = inl e

framed-some : (words : ℕ → List ℕ) (state version : ℕ) (m : Mapping) (o : Open) (l : List (ℕ × ℕ))
    → ReadInv words state version (Some m) (Some o) l
    → ReadInv words state version (Some m) (Some (record o { frame = frame_or o.frame m.frame })) l
framed-some words state version m o l i =
    record {
      old = λ o' e. subst (λ (y : Open). y.version ≤ version) (some-same _ o' e) (i.old o refl);
      evicted = λ q o' e. subst (λ (y : Open). y.version < version) (some-same _ o' e) (i.evicted q o refl);
      current = λ ne ne' o' e v. let s : record o { frame = frame_or o.frame m.frame } ≡ o' = some-same _ o' e in
          let rp : ReadsPage words (Some m) o l = i.current ne ne' o refl (ap (λ (y : Open). y.version) s ∙ v) in
          subst (λ (y : Open). ReadsPage words (Some m) y l) s
          (record {
            at_frame = λ f e' m' q. ⊎_elim (λ t. rp.at_frame f t m' q)
                (λ t. sym t ∙ ap (λ (y : Mapping). y.frame) (some-same m m' q)) (frame-cases o.frame m.frame f e');
            loaded = rp.loaded;
          });
    }

framed-read : (words : ℕ → List ℕ) (state version : ℕ) (trans : Option Mapping) (o : Option Open) (l : List (ℕ × ℕ))
    → ReadInv words state version trans o l → ReadInv words state version trans (framed o trans) l
framed-read words state version trans None l i = i
framed-read words state version None (Some o) l i = i
framed-read words state version (Some m) (Some o) l i = framed-some words state version m o l i

pub frame_read-keeps : {actors : ℕ} → {size : ℕ} → {tells : Bool} → {words : ℕ → List ℕ} → {r : Page} → {h : History}
    → {l : ℕ → List (ℕ × ℕ)} → (a : ℕ) → PageInv actors size tells words r h l
    → PageInv actors size tells words (frame_read r a) h l
frame_read-keeps {actors} {size} {tells} {words} {r} {h} {l} a i =
    subst (PageInv actors size tells words (frame_read r a) h) (upd-self l a)
    (record {
      locks = locks-seat actors r.state r.version r.seats a _ i.locks refl refl refl;
      stands = i.stands;
      sizes = i.sizes;
      contents = i.contents;
      faults = faults-seat r.state r.fault r.count r.seats a _ refl i.faults;
      reads = reads-seat words r.state r.version r.trans r.seats l a _ _
          (framed-read words r.state r.version r.trans (r.seats a).reading (l a) (i.reads a)) i.reads;
    })

-- one load more
one-more : (ws : List ℕ) (l : List (ℕ × ℕ)) (n x : ℕ) → LoadsAre ws l → slice_index ws n ≡ x → LoadsAre ws (l ++ (n, x) ∷ [])
one-more ws [] n x a e = (e, tt)
one-more ws (y ∷ ys) n x a e = (a.0, one-more ws ys n x a.1 e)

-- a load is added where the open read has a frame
more-where : (ws : List ℕ) (l : List (ℕ × ℕ)) (n x : ℕ) (q : Option ℕ) → LoadsAre ws l
    → ((f : ℕ) → q ≡ Some f → slice_index ws n ≡ x) → LoadsAre ws (loads_more q l n x)
more-where ws l n x None a e = a
more-where ws l n x (Some f) a e = one-more ws l n x a (e f refl)

-- an open read whose frame is the page's reads the page's frame, with or without a lock of its own
reads-frame : (words : ℕ → List ℕ) (r : Page) (a n f : ℕ) (m : Mapping) → r.trans ≡ Some m
    → open_frame (r.seats a).reading ≡ Some f → f ≡ m.frame → slice_index (words m.frame) n ≡ word_at words
    (load_frame r a) n
reads-frame words r a n f m t e s =
    ⊎_elim
    (λ b. sym (ap (λ q. word_at words q n) (cond-true (reads_locked r a) _ _ b ∙ ap frame_of t)))
    (λ b. sym (ap (λ q. word_at words q n) (cond-false (reads_locked r a) _ _ b ∙ e ∙ ap (λ g. Some g) s)))
    (cases_Bool (reads_locked r a))

pub loaded-keeps : {actors : ℕ} → {size : ℕ} → {tells : Bool} → {words : ℕ → List ℕ} → {r : Page} → {h : History}
    → {l : ℕ → List (ℕ × ℕ)} → (a n : ℕ) → PageInv actors size tells words r h l
    → PageInv actors size tells words r h
    (upd l a (loads_more (open_frame (r.seats a).reading) (l a) n (word_at words (load_frame r a) n)))
loaded-keeps {actors} {size} {tells} {words} {r} {h} {l} a n i =
    record {
      locks = i.locks;
      stands = i.stands;
      sizes = i.sizes;
      contents = i.contents;
      faults = i.faults;
      reads = each-upd (λ b y. ReadInv words r.state r.version r.trans (r.seats b).reading y) l a _
          (record {
            old = (i.reads a).old;
            evicted = (i.reads a).evicted;
            current = λ ne ne' o e v. let rp : ReadsPage words r.trans o (l a) = (i.reads a).current ne ne' o e v in
                record {
                  at_frame = rp.at_frame;
                  loaded = λ m t. more-where (words m.frame) (l a) n _ (open_frame (r.seats a).reading) (rp.loaded m t)
                      (λ f k. reads-frame words r a n f m t k (rp.at_frame f (sym (ap open_frame e) ∙ k) m t));
                };
          })
          (λ b _. i.reads b);
    }
