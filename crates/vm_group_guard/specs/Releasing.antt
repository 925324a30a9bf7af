-- A group that is released: all its drafts are logical at one point, by one step on its word.
use Rattle.std.specs.Prelude.{false, if◌then◌else◌, List, map, None, Option, true, ℕ, ◌&&◌, ◌++◌, ◌+◌, ◌≡◌, ◌⊎◌}
use Rattle.vm_page.specs.Pages.{all_zero}
use Rattle.vm_rule.specs.Prelude.{AreUnchanged, began_of, Change, changes_of, did_store, draft_of, entries_of, Entry}
use Rattle.vm_rule.specs.Prelude.{has, last_of, loads_at, numbers, seat_of, Start, StartsWith, without_all}
use Rattle.vm_rule.specs.Releases.{freed_by}
use Rattle.vm_rule.specs.declared.view.WordPlace.{WordPlace}
use Rattle.vm_step.specs.Prelude.{Did, IsClaimed, IsNotOut, Release, View}
use Rattle.vm_guard.specs.Groups.{IsBeside, next_after_all}
use Rattle.vm_group_guard.specs.Group.{IsUnder}

-- the steps that release these pages, which were locked at this version
abbrev pub release_stores : ℕ → List ℕ → List Did
release_stores version qs = map (λ q. did_store (WordPlace.State q) (version + 1)) qs

module _ {X : Type 0} where
  -- their versions afterwards: each page's draft, at the next version
  abbrev pub releases_at : ℕ → View X → List ℕ → List Release
  releases_at version v qs = map (λ q. record { page = q; version = version + 1; words = draft_of v q }) qs

  -- the pass may release the group, as far as its pages are concerned: each block is at home, and each page claimed as
  -- far as it can know
  pub record MayBeGivenUp (h size : ℕ) (v : View X) : Type 0 where
    pub home : (q : ℕ) → IsUnder h size q → IsNotOut v q
    pub claimed : v.start.tells ≡ true → (q : ℕ) → IsUnder h size q → IsClaimed v q

  -- nothing is said, no word changes and no page is owed; or the layer above lets all the changes be made at once
  abbrev pub LetsRelease : (Start → List ℕ → List Change → List (Entry X) → Type 0) → List ℕ → Option X → View X
      → Type 0
  LetsRelease may_release qs said v =
      v.start.tells ≡ true → ((said ≡ None) × AreUnchanged v.owed (changes_of v qs))
      ⊎ may_release (began_of v.start) v.owed (changes_of v qs) (entries_of v said)

  -- the page's version was this one, when the pass released it
  pub record WasReleased (q version : ℕ) (words : List ℕ) (w : View X) : Type 0 where
    pub point : View X
    pub later : StartsWith w.releases point.releases
    pub last : last_of point q ≡ record { version = version; words = words }

  -- The group was released: each page's draft is its next version, and what is said is an entry there.
  pub record IsGivenUp (h size version : ℕ) (said : Option X) (v w : View X) : Type 0 where
    pub beside : IsBeside (numbers h size) (release_stores version (numbers h size))
        (releases_at version v (numbers h size)) v w
    pub mine : w.mine ≡ v.mine ++ entries_of v said
    pub entry : (others more : List (Entry X)) × (w.seen ≡ ((v.seen ++ others) ++ entries_of v said) ++ more)
    pub group : (w.pending ≡ v.pending) × (w.owed ≡ without_all (numbers h size) v.owed)
        × (w.next ≡ next_after_all (numbers h size) v.next)
    -- the pass has still to give the numbers of the pages that the group frees: their words were not all 0, and are now
    pub freed : w.freed ≡ freed_by v (numbers h size) ++ v.freed
    pub seats : (q : ℕ) → IsUnder h size q → seat_of w q ≡ record (seat_of v q) { exclusive = false }
    pub released : (q : ℕ) → IsUnder h size q → WasReleased q (version + 1) (draft_of v q) w
    pub loads : (q : ℕ) → loads_at w q ≡ loads_at v q
    pub current : w.current ≡ true
    -- it holds the numbers that it held, but those of these pages whose words are not all 0; where the blocks do not
    -- tell their words, of none of these pages
    pub numbers : (q : ℕ) → has q w.numbers
        ≡ (if has q (numbers h size) then (v.start.tells && all_zero (draft_of v q)) && has q v.numbers
        else has q v.numbers)
