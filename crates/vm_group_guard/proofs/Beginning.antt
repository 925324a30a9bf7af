-- A read of a group begins: its word was readable twice, at one version, and each page's translation word names its
-- frame.
use Rattle.std.proofs.Math.ListN.{get_or}
use Rattle.std.proofs.lemmas.List.{get_or-map, length-map}
use Rattle.vm_guard.proofs.OpenReads.{readable-state}
use Rattle.vm_guard.proofs.Starting.{each-at}
use Rattle.vm_group_guard.proofs.Denials.{begins, chain-quiet, front-quiet, Looked, looks-current, rest}
use Rattle.vm_group_guard.proofs.Prelude.{ap, AreTranslated, at_state, BeginsGroup, Bool, Did, did_load, Each, EVICTED}
use Rattle.vm_group_guard.proofs.Prelude.{frame_of}
use Rattle.vm_group_guard.proofs.Prelude.{InTurn, is_readable, IsGroupUnmarked, IsReading, IsSince, Kept, length, List}
use Rattle.vm_group_guard.proofs.Prelude.{LOCKED, looks}
use Rattle.vm_group_guard.proofs.Prelude.{LookTells, map, mapping_of, None, none-some, numbers, Option, Origin, refl}
use Rattle.vm_group_guard.proofs.Prelude.{slice_index, Some, some-same, Start, state_of, subst, sym, translation_loads}
use Rattle.vm_group_guard.proofs.Prelude.{true}
use Rattle.vm_group_guard.proofs.Prelude.{version_of, View, WordPlace, ℕ, ◌++◌, ◌+◌, ◌<◌, ◌∙◌, ◌∷◌, ◌≡◌, ◌≢◌, ◌≤◌}
use Rattle.vm_group_guard.proofs.Prelude.{arith}
use Rattle.vm_group_guard.proofs.Reading.{Named, named-reads, started}

-- the frame at a place, by the list of all
named-at : (ts frames : List ℕ) → map (λ t. frame_of (mapping_of t)) ts ≡ map (λ f. Some f) frames → (k : ℕ)
    → k < length ts
    → k < length frames → frame_of (mapping_of (slice_index ts k)) ≡ Some (slice_index frames k)
named-at ts frames all k low low' =
    sym (get_or-map (λ t. frame_of (mapping_of t)) ts k 0 None low)
    ∙ ap (λ (l : List (Option ℕ)). get_or l k None) all
    ∙ get_or-map (λ f. Some f) frames k 0 None low'

-- the word seen agrees with those that the step found and left
abbrev Agrees : ℕ → ℕ → Did → Type 0
Agrees p seen d = at_state d.at (λ q. q ≡ p → IsSince seen d.found × IsSince seen d.wrote)

module _ {X : Type 0} (keeps : Start → Kept X → Type 0) (tied : Start → ℕ → List ℕ → ℕ → List ℕ → Type 0) (tells : Bool)
    (h size : ℕ) (some : 1 ≤ size) (first seen : ℕ) (ts : List ℕ) (v0 v1 v2 v3 w : View X)
    (one : Looked keeps tied tells h size some first v0 v1) (clear : IsGroupUnmarked h size first v1 v2)
    (loads : AreTranslated h ts v2 v3) (count : length ts ≡ size) (two : Looked keeps tied tells h size some seen v3 w)
    (small : state_of first < 256) (unlocked : state_of first ≢ LOCKED) (resident : state_of first ≢ EVICTED)
    (small-seen : state_of seen < 256) (unlocked-seen : state_of seen ≢ LOCKED)
    (at : version_of seen ≡ version_of first) where
  -- a group that was not Evicted is not at the same version later
  still-resident : state_of seen ≢ EVICTED
  still-resident gone =
      let others : List ℕ = rest keeps tied tells h size some in
      let same : numbers h size ≡ h ∷ others = begins keeps tied tells h size some in
      let behind : List Did = looks first others ++ (clear.done ++ translation_loads h ts) in
      let log : v3.log ≡ v0.log ++ did_load (WordPlace.State h) first ∷ behind =
      (front-quiet keeps tied tells h size some first ts v0 v1 v2 v3 one clear loads count).aside.log
      ∙ ap (λ (qs : List ℕ). v0.log ++ (looks first qs ++ (clear.done ++ translation_loads h ts))) same in
      let told = subst (λ qs. InTurn (λ q. LookTells keeps tied tells q None) qs seen v3 w) same two in
      let all = subst (Each (Agrees h seen)) log told.1.0.since in
      let since = each-at (Agrees h seen) v0.log (did_load (WordPlace.State h) first) behind all in
      resident ((since refl).0.2 gone (sym at))

  still : is_readable (state_of seen) ≡ true
  still = readable-state (state_of seen) small-seen unlocked-seen still-resident

  page-named : (k : ℕ) → k < size → Named (h + k) seen (slice_index ts k) w
  page-named =
      started keeps tied tells h size first seen ts v0 v1 v2 v3 w one clear loads two count
      (readable-state (state_of first) small unlocked resident) still at

  -- each translation word names a frame
  pub names-each : (k : ℕ) → k < length ts → frame_of (mapping_of (slice_index ts k)) ≢ None
  names-each k l e =
      let n = page-named k (subst (λ m. k < m) count l) in
      none-some n.frame (sym e ∙ n.names)

  pub begun : (frames : List ℕ) → h + size ≤ v0.start.pages
      → map (λ t. frame_of (mapping_of t)) ts ≡ map (λ f. Some f) frames → BeginsGroup h size seen frames v0 w
  begun frames inside names =
      let many : length frames ≡ size =
      sym (length-map frames (λ f. Some f)) ∙ ap (λ (l : List (Option ℕ)). length l) (sym names)
      ∙ length-map ts (λ t. frame_of (mapping_of t)) ∙ count in
      let quiet = chain-quiet keeps tied tells h size some first seen ts v0 v1 v2 v3 w one clear loads count two in
      let read-at : (k : ℕ) → k < length frames → IsReading (h + k) seen (slice_index frames k) w = λ k l.
      let low : k < size = subst (λ m. k < m) many l in
      let n = page-named k low in
      let page : h + k < w.start.pages = subst (λ (o : Origin). h + k < o.pages) (sym quiet.aside.start) (omega
      (arith, inside, low)) in
      subst (λ f. IsReading (h + k) seen f w)
      (some-same n.frame (slice_index frames k) (sym n.names ∙ named-at ts frames names k (subst (λ m. k < m)
      (sym count) low) l))
      (named-reads (h + k) seen (slice_index ts k) w page still n) in
      record {
        done = looks first (numbers h size) ++ (clear.done ++ (translation_loads h ts ++ looks seen (numbers h size)));
        quiet = quiet;
        count = many;
        reads = read-at;
        first = first;
        translations = ts;
        clearing = clear.done;
        cut = refl;
        clears = clear.clears;
        version = sym at;
        names = names;
        current = looks-current keeps tied tells h size some seen v3 w two;
      }
