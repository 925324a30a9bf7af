-- A call for fresh pages that ends without them: a page that was locked and given up again leaves nothing, and the
-- evidence of the call is that of
-- its steps.
use Rattle.vm_step.specs.{Evidence.guarded, Prelude.KeepsNumbers}
use Rattle.vm_step.proofs.{Asides.numbers-then}
use Rattle.vm_guard.proofs.Amid.{amid-reads, amid-then, amid-within, nload-amid, other}
use Rattle.vm_guard.proofs.FreshTouches.{give-places, give-states, seize-places, seize-states, unmoved-at}
use Rattle.vm_guard.proofs.Prelude.{[], ap, append_assoc, arith, asked, At, Begins, Bool, cases_eq, Did, did_load}
use Rattle.vm_guard.proofs.Prelude.{Each, each-both, each-map, expected, false, GivesBack, has, HasGiven, Held}
use Rattle.vm_guard.proofs.Prelude.{holds-still, holds-then, HoldsPage, inl, IsAmid, IsLocking, IsNil, IsQuiet, IsSaw}
use Rattle.vm_guard.proofs.Prelude.{IsSeized, IsWorn, keeps-then, knows-then, KnowsAsBefore, LeavesNone, length, List}
use Rattle.vm_guard.proofs.Prelude.{Mapping, ne_eqb, NextTold, nload-others, None, NoWord, Option, Origin, place_at}
use Rattle.vm_guard.proofs.Prelude.{read, refl, rules, same, Saw, Seat, seat_of, Seizes, Some, still-locking, subst}
use Rattle.vm_guard.proofs.Prelude.{sym, true, WordPlace, true≢false, UnlockedExpected, Version, View, ℕ, ⊎_elim}
use Rattle.vm_guard.proofs.Prelude.{◌++◌, ◌<◌, ◌||◌, ◌∙◌, ◌∷◌, ◌≡◌, ◌≢◌, ◌⊎◌}

-- ---- evidence in a longer list of steps

between-cut : {A : Type 0} (pre earlier later post : List A) (d : A) (done : List A) → done ≡ earlier ++ d ∷ later
    → pre ++ (done ++ post) ≡ (pre ++ earlier) ++ d ∷ (later ++ post)
between-cut pre earlier later post d done e =
    ap (λ (t : List _). pre ++ (t ++ post)) e
    ∙ ap (λ (t : List _). pre ++ t) (append_assoc earlier (d ∷ later) post)
    ∙ sym (append_assoc pre earlier (d ∷ (later ++ post)))

begins-behind : (instead : ℕ → ℕ → Type 0) (at : WordPlace) (first seen : ℕ) (last : Did)
    (pre earlier since : List Did) → Begins NoWord instead at first seen last earlier since
    → Begins NoWord instead at first seen last (pre ++ earlier) since
begins-behind instead at first seen last pre earlier since (guarded k e) = absurd k
begins-behind instead at first seen last pre earlier since (read before d e g l) =
    read (pre ++ before) d (ap (λ (t : List Did). pre ++ t) e ∙ sym (append_assoc pre before (d ∷ since))) g l
begins-behind instead at first seen last pre earlier since (expected before d word e g l i x) =
    expected (pre ++ before) d word (ap (λ (t : List Did). pre ++ t) e ∙ sym (append_assoc pre before (d ∷ since))) g
    l i x
begins-behind instead at first seen last pre earlier since (asked word k e i x) = absurd k
begins-behind instead at first seen last pre earlier since (same e n) = same e n

-- behind steps on other places, and before any others
pub saw-within : (p : ℕ) (saw : Saw) (pre done post : List Did) → saw.at ≡ At.Page p
    → Each (λ (d : Did). d.at ≢ WordPlace.State p) pre → IsSaw NoWord UnlockedExpected done saw
    → IsSaw NoWord UnlockedExpected (pre ++ (done ++ post)) saw
saw-within p saw pre done post at none s =
    let foreign = each-both _ pre s.earlier
    (each-map _ (λ (d : Did). d.at ≡ place_at saw.at → d.wrote ≢ Some saw.seen)
    (λ d ne here. absurd (ne (here ∙ ap place_at at))) pre none) s.foreign in
    search (
      rules,
      between-cut pre s.earlier s.later post s.last done s.cut,
      begins-behind UnlockedExpected _
          saw.first saw.seen s.last pre s.earlier s.since s.begins,
      s,
      foreign,
    )

pub worn-within : (p : ℕ) (pre done post : List Did) → Each (λ (d : Did). d.at ≢ WordPlace.State p) pre
    → IsWorn done p → IsWorn (pre ++ (done ++ post)) p
worn-within p pre done post none s =
    let given : HasGiven (pre ++ (done ++ post)) (WordPlace.State p) s.word = record {
      earlier = pre ++ s.given.earlier;
      step = s.given.step;
      later = s.given.later ++ post;
      cut = between-cut pre s.given.earlier s.given.later post s.given.step done s.given.cut;
      gives = s.given.gives;
    } in
    record {
      word = s.word;
      given = given;
      load = s.load;
      last = s.last;
      foreign = each-both _ pre s.given.earlier (each-map _ _ (λ d ne here. absurd (ne here)) pre none) s.foreign;
    }

-- ---- calls that leave nothing

module _ {X : Type 0} where
  pub nil-then : (pages : List ℕ) (a b : List Did) (u v w : View X) → IsNil pages a u v → IsNil pages b v w → IsNil pages (a ++ b) u w
  nil-then pages a b u v w f g =
      let knows = λ (q : ℕ) (l : IsLocking (seat_of u q)). knows-then u v w q (f.knows q l)
      (g.knows q (still-locking u v q (f.holds q) l)) in
      search (
        rules,
        amid-then pages a b u v w f.amid g.amid,
        keeps-then u v w f.keeps g.keeps,
        numbers-then u v w f.amid.start f.numbers g.numbers,
        (λ (q : ℕ). holds-then u v w q (f.holds q) (g.holds q)),
        knows,
        each-both (λ (d : Did). d.at ≡ WordPlace.Next → d.wrote ≡ None) a b f.unmoved g.unmoved,
        each-both _ a b f.states g.states,
      )

  -- a load of the next word
  pub nload-numbers : (found : ℕ) (v w : View X) → NextTold found v w → KeepsNumbers v w
  nload-numbers found v w t tells = (ap (λ (y : View X). y.numbers) t.brings.view, ap (λ (y : View X). y.freed) t.brings.view)

  pub nload-nil : (pages : List ℕ) (found : ℕ) (v w : View X) → NextTold found v w → IsNil pages (did_load WordPlace.Next found ∷ []) v w
  nload-nil pages found v w t =
      let f = nload-amid [] found v w t in
      let holds : (q : ℕ) → HoldsPage v w q = λ q. holds-still q (f.seats q refl) in
      let states : Each (λ (d : Did). (d.wrote ≡ None) ⊎ ((q : ℕ) × (d.at ≡ WordPlace.State q)))
      (did_load WordPlace.Next found ∷ []) = (inl refl, tt) in
      search (
        rules,
        nload-amid pages found v w t,
        nload-numbers found v w t,
        (nload-others t (λ q. ⊥)).keeps,
        t.brings.view,
        holds,
        (λ (q : ℕ) (l : IsLocking (seat_of v q)). f.knows q refl l),
        states,
      )

  -- a page that could not be locked
  pub denied-nil : (pages : List ℕ) (p : ℕ) (done : List Did) (v w : View X) → has p pages ≡ true → p < v.start.pages
      → Each (λ (d : Did). d.at ≡ WordPlace.State p) done → LeavesNone done → IsQuiet p done v w
      → IsNil pages done v w
  denied-nil pages p done v w e l at bare f =
      search (
        rules,
        amid-reads pages p done v w e l at f,
        f,
        f.numbers,
        unmoved-at p done (each-map _ _ (λ (d : Did) is. inl is) done at),
        each-map (λ (d : Did). d.wrote ≡ None)
            (λ (d : Did). (d.wrote ≡ None) ⊎ ((q : ℕ) × (d.at ≡ WordPlace.State q))) (λ (d : Did) none. inl none) done
            bare,
      )

  -- a page that was locked, and given up after steps on other pages
  pub bracket : (pages less : List ℕ) (p version : ℕ) (stands : Option Mapping) (done : List Did) (v u z w : View X)
      → has p pages ≡ true → has p less ≡ false → ((q : ℕ) → has q pages ≡ false → has q less ≡ false)
      → (s : Seizes p version stands v u) → IsNil less done u z → (g : GivesBack p version z w)
      → IsNil pages (s.done ++ (done ++ g.done)) v w
  bracket pages less p version stands done v u z w e apart within s f g =
      let one : (q : ℕ) → has q pages ≡ false → has q (p ∷ []) ≡ false = λ q none. ap (λ (b : Bool). b || false)
      (ne_eqb q p (other p q pages e none)) in
      let seat : seat_of z p ≡ record (seat_of v p) { exclusive = true; reading = None } = f.amid.seats p apart ∙ s.seat in
      let last : seat_of w p ≡ record (seat_of v p) {
        exclusive = false;
        reading = None;
      } = g.seat ∙ ap (λ (k : Seat). record k { exclusive = false }) seat in
      let amid = amid-then pages s.done (done ++ g.done) v u w (amid-within pages (p ∷ []) s.done v u one s.amid)
      (amid-then pages done g.done u z w (amid-within pages less done u z within f.amid)
      (amid-within pages (p ∷ []) g.done z w one g.amid)) in
      let holds : (q : ℕ) → HoldsPage v w q = λ q.
      ⊎_elim
      (λ (h : q ≡ p). subst (λ n. HoldsPage v w n) (sym h) (record {
        shares = ap (λ (k : Seat). k.shares) last;
        exclusive = ap (λ (k : Seat). k.exclusive) last ∙ sym s.unheld.exclusive;
        writing = ap (λ (k : Seat). k.writing) last;
      }))
      (λ (ne : q ≢ p). holds-then v u w q (holds-still q (s.amid.seats q (alone q ne)))
      (holds-then u z w q (f.holds q) (holds-still q (g.amid.seats q (alone q ne)))))
      (cases_eq q p) in
      let knows : (q : ℕ) → IsLocking (seat_of v q) → KnowsAsBefore v w q = λ q l.
      ⊎_elim
      (λ (h : q ≡ p). absurd (held-by (subst (λ n. IsLocking (seat_of v n)) h l)))
      (λ (ne : q ≢ p).
      let l1 : IsLocking (seat_of u q) = subst (λ (k : Seat). IsLocking k) (sym (s.amid.seats q (alone q ne))) l in
      let l2 : IsLocking (seat_of z q) = still-locking u z q (f.holds q) l1 in
      knows-then v u w q (s.amid.knows q (alone q ne) l) (knows-then u z w q (f.knows q l1) (g.amid.knows q (alone q ne) l2)))
      (cases_eq q p) in
      let unmoved = each-both _ s.done (done ++ g.done) (unmoved-at p s.done (seize-places s))
      (each-both _ done g.done f.unmoved (unmoved-at p g.done (give-places g))) in
      let states = each-both _ s.done (done ++ g.done) (seize-states s) (each-both _ done g.done f.states (give-states g)) in
      search (
        rules,
        amid,
        numbers-then v u w s.amid.start s.numbers
            (numbers-then u z w f.amid.start f.numbers g.numbers),
        keeps-then v u w s.keeps
            (keeps-then u z w f.keeps g.keeps),
        g.group.0 ∙ f.owed ∙ s.group.0,
        holds,
        knows,
        unmoved,
        states,
      )
    where
      alone : (q : ℕ) → q ≢ p → has q (p ∷ []) ≡ false
      alone q ne = ap (λ (b : Bool). b || false) (ne_eqb q p ne)

      held-by : IsLocking (seat_of v p) → ⊥
      held-by l = ⊎_elim (λ e. true≢false (sym e ∙ s.unheld.exclusive))
          (λ x. let none = s.unheld.shares in absurd (omega (arith, x, none))) l

  -- a page that was locked stays so while the call works on others
  pub seized-on : {p version : ℕ} {stands : Option Mapping} {pages : List ℕ} {done : List Did} {v w : View X}
      → IsSeized p version stands v → IsAmid pages done v w → has p pages ≡ false → w.owed ≡ v.owed
      → IsSeized p version stands w
  seized-on {p = p} {stands = stands} {v = v} {w = w} s f none owed =
      let k = f.knows p none (inl s.owns) in
      let inside = λ (m : Mapping) (e : stands ≡ Some m). subst (λ (o : Origin). m.frame < o.frames) (sym f.start) (s.inside m e) in
      let owned = λ (m : Mapping) (e : stands ≡ Some m). ap (λ (h : Held). h.owner) k.held ∙ s.owned m e in
      let told = ap (λ (h : Held). h.fault) k.held ∙ s.told ∙ ap (λ (h : Held). h.block.count) (sym k.held) in
      let draft = k.draft ∙ s.draft ∙ ap (λ (x : Version). x.words) (sym k.last) in
      let size = ap (λ (x : Version). length x.words) k.last ∙ s.size ∙ ap (λ (o : Origin). o.size) (sym f.start) in
      let device = λ (t : w.start.tells ≡ true) (e : stands ≡ None). ap (λ (h : Held). h.block.words) k.held
      ∙ s.device (ap (λ (o : Origin). o.tells) (sym f.start) ∙ t) e ∙ ap (λ (x : Version). x.words)
      (sym k.last) in
      search (
        rules,
        ap,
        subst (λ (o : Origin). p < o.pages) (sym f.start) s.page,
        ap (λ (x : Seat). x.exclusive)
            (f.seats p none),
        k,
        inside,
        owned,
        told,
        draft,
        size,
        device,
        ap (has p) f.pending,
        ap (has p) owed,
      )
