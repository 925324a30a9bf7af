-- A history that holds workers' calls with their answers: what its entries come to is what the answers do.
use Rattle.std.specs.List.{count_by, sum_by}
use Rattle.std.proofs.Common.{[], ⊎_elim, ◌+◌, ◌<◌, ◌==◌, ◌||◌, ◌∙◌, ◌∷◌, ◌≡◌, ◌≢◌, ap, arith, Bool, cond, Err, false}
use Rattle.std.proofs.Common.{length, List, None, Ok, refl, Result, Some, subst, suc, sym, true, zero, ℕ}
use Rattle.std.proofs.lemmas.Bool.{cases_eq, eq-eqb, ne_eqb}
use Rattle.std.proofs.lemmas.List.Sums.{sum_by-cons}
use Rattle.vm_map.specs.{declared.call.Call.Call, declared.call.Reply.Reply, declared.call.Said.Said, Map.Pairs}
use Rattle.vm_map.specs.declared.call.Call.TheVariants.{Del, Get, Put, Range, Swap, Window}
use Rattle.vm_map.specs.declared.call.Reply.TheVariants.{Gone, Got, Many, Swapped, Was, Wide, Win}
use Rattle.vm_map.specs.History.{after, AreReplies, IsReply}
use Rattle.vm_rule.specs.Prelude.{Each, entries_by, Entry}
use Rattle.vm_tree_laws.specs.History.{gones, is_gone, is_new, news, saids}
use Rattle.vm_drive.specs.from_vm_tree_rule.declared_fault_TreeFault.{TreeFault}
use Rattle.vm_drive.specs.Prelude.{answered, as_said, word_said}
use Rattle.vm_drive.specs.Holds.{HoldsCalls, list_at, said_by}
use Rattle.vm_churn.specs.Tallies.{count_in, founds, is_found, tally_of, tells_found, tells_gone, tells_new, told_tally}

abbrev Answer : Type 0
Answer = Result Reply TreeFault

-- the sum of f below n
abbrev pub sum_to : (ℕ → ℕ) → ℕ → ℕ
sum_to f zero = 0
sum_to f (suc n) = sum_to f n + f n

sum_to-same : (f g : ℕ → ℕ) (n : ℕ) → ((k : ℕ) → k < n → f k ≡ g k) → sum_to f n ≡ sum_to g n
sum_to-same f g zero same = refl
sum_to-same f g (suc n) same = omega (arith, sum_to-same f g n (λ k l. same k (omega arith)), same n (omega arith))

pub sum_to-both : (f g h : ℕ → ℕ) (n : ℕ) → ((k : ℕ) → k < n → h k ≡ f k + g k) → sum_to h n ≡ sum_to f n + sum_to g n
sum_to-both f g h zero both = omega arith
sum_to-both f g h (suc n) both = omega (arith, sum_to-both f g h n (λ k l. both k (omega arith)), both n (omega arith))

pub sum_to-none : (f : ℕ → ℕ) (n : ℕ) → ((k : ℕ) → k < n → f k ≡ 0) → sum_to f n ≡ 0
sum_to-none f zero none = refl
sum_to-none f (suc n) none = omega (arith, sum_to-none f n (λ k l. none k (omega arith)), none n (omega arith))

-- all but one are 0
pub sum_to-one : (f : ℕ → ℕ) (n w : ℕ) → w < n → ((k : ℕ) → k < n → k ≢ w → f k ≡ 0) → sum_to f n ≡ f w
sum_to-one f zero w l none = absurd (omega arith)
sum_to-one f (suc n) w l none =
    ⊎_elim
    (λ (is : n ≡ w). let rest : sum_to f n ≡ 0 =
    sum_to-none f n (λ k m. none k (omega arith) (λ e. absurd (omega (arith, e, is, m)))) in
    ap (λ k. sum_to f n + f k) is ∙ omega (arith, rest))
    (λ (not : n ≢ w). let rest : sum_to f n ≡ f w = sum_to-one f n w (omega (arith, not, l))
    (λ k m. none k (omega arith)) in let last : f n ≡ 0 = none n (omega arith) not in omega (arith, rest, last))
    (cases_eq n w)

sum_to-first : (f : ℕ → ℕ) (n : ℕ) → sum_to f (suc n) ≡ f 0 + sum_to (λ k. f (suc k)) n
sum_to-first f zero = omega arith
sum_to-first f (suc n) = omega (arith, sum_to-first f n)

-- ---- what calls with their replies weigh

module _ (weigh : Said → ℕ) where
  abbrev pub weight : List Said → ℕ
  weight [] = 0
  weight (s ∷ ss) = weigh s + weight ss

  module _ (numbers : ℕ → ℕ) (n : ℕ) (apart : (v w : ℕ) → v < n → w < n → numbers v ≡ numbers w → v ≡ w) where
    abbrev hit : Entry Said → ℕ → ℕ
    hit e w = cond (e.number == numbers w) (weigh e.said) 0

    own : (e : Entry Said) (h : List (Entry Said)) (w : ℕ) → weight (said_by as_said (numbers w) (e ∷ h)) ≡ hit e w + weight (said_by as_said (numbers w) h)
    own e h w =
        ⊎_elim
        (λ (is : e.number ≡ numbers w). let t : (e.number == numbers w) ≡ true = eq-eqb e.number (numbers w) is in rw t (omega arith))
        (λ (not : e.number ≢ numbers w). let t : (e.number == numbers w) ≡ false = ne_eqb e.number (numbers w) not in rw t (omega arith))
        (cases_eq e.number (numbers w))

    one : (e : Entry Said) (w : ℕ) → w < n → e.number ≡ numbers w → sum_to (hit e) n ≡ weigh e.said
    one e w l is =
        sum_to-one (hit e) n w l (λ k m not. let t : (e.number == numbers k) ≡ false =
        ne_eqb e.number (numbers k) (λ same. not (apart k w m l (sym same ∙ is))) in rw t refl)
        ∙ rw (eq-eqb e.number (numbers w) is) refl

    -- the weight of a history is that of its numbers' entries
    parted : (h : List (Entry Said)) → Each (λ e. (w : ℕ) × (w < n) × (e.number ≡ numbers w)) h
        → sum_to (λ w. weight (said_by as_said (numbers w) h)) n ≡ weight (saids h)
    parted [] only = sum_to-none (λ w. 0) n (λ k l. refl)
    parted (e ∷ h) only =
        let both = sum_to-both (hit e) (λ w. weight (said_by as_said (numbers w) h))
        (λ w. weight (said_by as_said (numbers w) (e ∷ h))) n (λ w l. own e h w) in
        let first : sum_to (hit e) n ≡ weigh e.said = one e only.0.0 only.0.1 only.0.2 in
        let rest : sum_to (λ w. weight (said_by as_said (numbers w) h)) n ≡ weight (saids h) = parted h only.1 in
        omega (arith, both, first, rest)

  -- so it is that of the calls with their answers, list by list
  pub weight_held : (h : List (Entry Said)) (lists : List (List Call)) (answers : List (List Answer))
      → HoldsCalls as_said word_said h lists answers
      → weight (saids h) ≡ sum_to (λ w. weight (answered word_said (list_at lists w) (list_at answers w))) (length lists)
  weight_held h lists answers holds =
      sym (parted holds.numbers (length lists) holds.apart h holds.only)
      ∙ sum_to-same (λ w. weight (said_by as_said (holds.numbers w) h))
      (λ w. weight (answered word_said (list_at lists w) (list_at answers w))) (length lists)
      (λ w l. ap weight (holds.each w l))

-- ---- what answers weigh

-- the reply is one to the call, on some map
abbrev IsAnswered : Said → Type 0
IsAnswered s = (m : Pairs) × IsReply m s.call s.reply

all-answered : (m : Pairs) (ss : List Said) → AreReplies m ss → Each IsAnswered ss
all-answered m [] are = tt
all-answered m (s ∷ ss) are = ((m, are.0), all-answered (after m s.call) ss are.1)

-- the sum over the lists, by their numbers
listed : (g : List Call → List Answer → ℕ) (count : List Answer → ℕ) (lists : List (List Call))
    (answers : List (List Answer)) → length answers ≡ length lists
    → ((w : ℕ) → w < length lists → g (list_at lists w) (list_at answers w) ≡ count (list_at answers w))
    → sum_to (λ w. g (list_at lists w) (list_at answers w)) (length lists) ≡ sum_by count answers
listed g count [] [] long same = refl
listed g count [] (rs ∷ answers) long same = absurd (omega arith)
listed g count (cs ∷ lists) [] long same = absurd (omega arith)
listed g count (cs ∷ lists) (rs ∷ answers) long same =
    let rest : sum_to (λ w. g (list_at lists w) (list_at answers w)) (length lists) ≡ sum_by count answers =
    listed g count lists answers (omega arith) (λ w l. same (suc w) (omega arith)) in
    let first : g cs rs ≡ count rs = same 0 (omega arith) in
    sum_to-first (λ w. g (list_at (cs ∷ lists) w) (list_at (rs ∷ answers) w)) (length lists)
    ∙ omega (arith, rest, first, sum_by-cons count rs answers)

each-by : (k : ℕ) (h : List (Entry Said)) → Each IsAnswered (saids h) → Each IsAnswered (said_by as_said k h)
each-by k [] all = tt
each-by k (e ∷ h) all =
    let rest : Each IsAnswered (said_by as_said k h) = each-by k h all.1 in
    elim (e.number == k || false) as (λ b.
    Each IsAnswered (saids (cond b (e ∷ entries_by (k ∷ []) h) (entries_by (k ∷ []) h)))) [
      | true ↦
          (all.0, rest)
      | false ↦ rest
    ]

module _ (weigh : Said → ℕ) (tells : Answer → Bool)
    (right : (s : Said) → IsAnswered s → weigh s ≡ cond (tells (Ok s.reply)) 1 0)
    (wrong : (f : TreeFault) → tells (Err f) ≡ false) where
  count_first : (r : Answer) (rs : List Answer) → count_by tells (r ∷ rs) ≡ cond (tells r) 1 0 + count_by tells rs
  count_first r rs = sum_by-cons (λ (x : Answer). cond (tells x) 1 0) r rs

  weight_told : (cs : List Call) (rs : List Answer) → length rs ≡ length cs → Each IsAnswered (answered word_said cs rs)
      → weight weigh (answered word_said cs rs) ≡ count_by tells rs
  weight_told [] [] long all = refl
  weight_told [] (r ∷ rs) long all = absurd (omega arith)
  weight_told (c ∷ cs) [] long all = absurd (omega arith)
  weight_told (c ∷ cs) (Ok r ∷ rs) long all =
      let first : weigh (record { call = c; reply = r }) ≡ cond (tells (Ok r)) 1 0 = right (record { call = c; reply = r }) all.0 in
      omega (arith, first, count_first (Ok r) rs, weight_told cs rs (omega arith) all.1)
  weight_told (c ∷ cs) (Err f ∷ rs) long all =
      let number : Bool → ℕ = λ b. cond b 1 0 in
      let none : number (tells (Err f)) ≡ 0 = ap number (wrong f) in
      omega (arith, none, count_first (Err f) rs, weight_told cs rs (omega arith) all)

  -- what a legal history weighs is how many of the answers are told so
  pub counted : (m : Pairs) (h : List (Entry Said)) (lists : List (List Call)) (answers : List (List Answer))
      → AreReplies m (saids h) → HoldsCalls as_said word_said h lists answers → count_in tells answers ≡ weight weigh (saids h)
  counted m h lists answers are holds =
      let all : Each IsAnswered (saids h) = all-answered m (saids h) are in
      let each : (w : ℕ) → w < length lists → Each IsAnswered (answered word_said (list_at lists w) (list_at answers w)) =
      λ w l. subst (λ (ss : List Said). Each IsAnswered ss) (holds.each w l) (each-by (holds.numbers w) h all) in
      let lists_told = listed (λ cs rs. weight weigh (answered word_said cs rs)) (count_by tells) lists answers holds.lists_long
      (λ w l. weight_told (list_at lists w) (list_at answers w) (holds.each_long w l) (each w l)) in
      sym (weight_held weigh h lists answers holds ∙ lists_told)

-- ---- the three counts

right-found : (call : Call) (reply : Reply) (m : Pairs) → IsReply m call reply → is_found call reply ≡ cond (tells_found (Ok reply)) 1 0
right-found (Get key) (Got None) m is = refl
right-found (Get key) (Got (Some value)) m is = refl
right-found (Put key value) (Was old) m is = refl
right-found (Del key) (Gone old) m is = refl
right-found (Window start most) (Win window) m is = refl
right-found (Swap key want value) (Swapped outcome) m is = refl
right-found (Range low bound) (Many span) m is = refl
right-found (Range low bound) (Wide reach) m is = refl
right-found call reply m is = absurd is

right-new : (call : Call) (reply : Reply) (m : Pairs) → IsReply m call reply → is_new call reply ≡ cond (tells_new (Ok reply)) 1 0
right-new (Get key) (Got found) m is = refl
right-new (Put key value) (Was None) m is = refl
right-new (Put key value) (Was (Some old)) m is = refl
right-new (Del key) (Gone old) m is = refl
right-new (Window start most) (Win window) m is = refl
right-new (Swap key want value) (Swapped outcome) m is = refl
right-new (Range low bound) (Many span) m is = refl
right-new (Range low bound) (Wide reach) m is = refl
right-new call reply m is = absurd is

right-gone : (call : Call) (reply : Reply) (m : Pairs) → IsReply m call reply → is_gone call reply ≡ cond (tells_gone (Ok reply)) 1 0
right-gone (Get key) (Got found) m is = refl
right-gone (Put key value) (Was old) m is = refl
right-gone (Del key) (Gone None) m is = refl
right-gone (Del key) (Gone (Some old)) m is = refl
right-gone (Window start most) (Win window) m is = refl
right-gone (Swap key want value) (Swapped outcome) m is = refl
right-gone (Range low bound) (Many span) m is = refl
right-gone (Range low bound) (Wide reach) m is = refl
right-gone call reply m is = absurd is

founds-weigh : (h : List (Entry Said)) → weight (λ s. is_found s.call s.reply) (saids h) ≡ founds h
founds-weigh [] = refl
founds-weigh (e ∷ h) = ap (λ n. is_found e.said.call e.said.reply + n) (founds-weigh h)

news-weigh : (h : List (Entry Said)) → weight (λ s. is_new s.call s.reply) (saids h) ≡ news h
news-weigh [] = refl
news-weigh (e ∷ h) = ap (λ n. is_new e.said.call e.said.reply + n) (news-weigh h)

gones-weigh : (h : List (Entry Said)) → weight (λ s. is_gone s.call s.reply) (saids h) ≡ gones h
gones-weigh [] = refl
gones-weigh (e ∷ h) = ap (λ n. is_gone e.said.call e.said.reply + n) (gones-weigh h)

-- the answers' tally is the history's
pub tallied : (m : Pairs) (h : List (Entry Said)) (lists : List (List Call)) (answers : List (List Answer))
    → AreReplies m (saids h) → HoldsCalls as_said word_said h lists answers → told_tally answers ≡ tally_of h
tallied m h lists answers are holds =
    let some : count_in tells_found answers ≡ founds h = counted (λ s. is_found s.call s.reply) tells_found
    (λ s a. right-found s.call s.reply a.0 a.1) (λ f. refl) m h lists answers are holds ∙ founds-weigh h in
    let new : count_in tells_new answers ≡ news h = counted (λ s. is_new s.call s.reply) tells_new
    (λ s a. right-new s.call s.reply a.0 a.1) (λ f. refl) m h lists answers are holds ∙ news-weigh h in
    let gone : count_in tells_gone answers ≡ gones h = counted (λ s. is_gone s.call s.reply) tells_gone
    (λ s a. right-gone s.call s.reply a.0 a.1) (λ f. refl) m h lists answers are holds ∙ gones-weigh h in
    cc
