-- A parse that passes leaves a value in the row of each argument that was given.
use Rattle.std.proofs.Common.{◌≡◌, ◌&&◌, ◌||◌, ℕ, Bool, cond, true, false, not, zero, suc, refl, sym, subst, arith}
use Rattle.std.proofs.Common.{List, [], ◌∷◌, ◌++◌, Option, Some, None, is_some, true≢false, length, find, drop, fold}
use Rattle.std.specs.Prelude.{encode_utf8, option_and_then, slice_get, nat_le, nat_lt}
use Rattle.std.specs.List.{list_all, list_any}
use Rattle.std.specs.Option.{option_map_or}
use Rattle.std.specs.Str.{bytes_eq, chars}
use Rattle.std.proofs.lemmas.Bool.Decides.{nat_tests}
use Rattle.clap.specs.Lexer.{long_of, short_of}
use Rattle.clap.specs.Facts.{explicit_source, unwrap_or_range}
use Rattle.clap.specs.Walk.{Held, Names, Outcome, Row, Rule, Step, Text, Waiting, Walk, action_of, after_flag}
use Rattle.clap.specs.Walk.{after_step, arg_by_id, arg_by_index, arg_by_long, arg_by_short, at_row, attached_value}
use Rattle.clap.specs.Walk.{bundle_met, bundle_step, default_rows, done, first_of, flag_met, has_row, idle}
use Rattle.clap.specs.Walk.{is_pending, long_met, long_or_other, more_values, next, nothing_held, option, option_met}
use Rattle.clap.specs.Walk.{option_word, plain, plain_word, positional, positional_held, reacted, reading_by, refused}
use Rattle.clap.specs.Walk.{rows_after, settled, settled_rows, short_met, short_or_plain, subcommand, subcommand_met}
use Rattle.clap.specs.Walk.{subcommand_or_other, takes_several, takes_values, to_positional, trailing, used, used_as}
use Rattle.clap.specs.Walk.{value, values_or_missing, waits, walk, walk_from, walked, walked_from, with_default}
use Rattle.clap.specs.Walk.{with_values, without, word_met, bundle, used_by_id}
use Rattle.clap.specs.Simple.{Shape}
use Rattle.clap.specs.Takes.{bundle_passes, bundle_step_passes, default_passes, flag_word_passes, flags_pass}
use Rattle.clap.specs.Takes.{is_given, is_valid, level_passes, long_passes, option_passes, other_passes}
use Rattle.clap.specs.Takes.{positional_passes, react_passes, settle_passes, short_passes, step_passes, turn_passes}
use Rattle.clap.specs.Takes.{use_passes, walk_passes, word_passes}
use Rattle.clap.specs.declared.builder.action.ArgAction.{ArgAction}
use Rattle.clap.specs.declared.builder.action.ArgAction.TheVariants as action
use Rattle.clap.specs.declared.parser.matches.ValueSource.{ValueSource}
use Rattle.clap.specs.declared.builder.value_parser.Reading.{Reading}
use Rattle.clap.proofs.WalkLemmas.{both}
use Rattle.vm_words.proofs.Passing.{each_passes, joined}

-- ---- rows with values

abbrev is_any : List Text → Bool
is_any [] = false
is_any (v ∷ vs) = true

abbrev pub has_value : Row → Bool
has_value r = is_any r.values

abbrev pub is_filled : List Row → Bool
is_filled rows = list_all has_value rows

-- a use of the argument gives values, or makes no row
abbrev fills_as : ArgAction → ℕ → Bool
fills_as action.Set n = nat_lt 0 n
fills_as action.Append n = nat_lt 0 n
fills_as action.Help n = true
fills_as _ n = false

abbrev pub fills : Rule → Bool
fills a = fills_as (action_of a) (unwrap_or_range a.range).start_inclusive

one_more : (values : List Text) (v : Text) (vs : List Text) → is_any (values ++ v ∷ vs) ≡ true
one_more [] v vs = refl
one_more (x ∷ xs) v vs = refl

module _ (id : Text) where
  here : (change : Row → List Row) (missing : List Row)
      → ((r : Row) (rest : List Row) → is_filled rest ≡ true → is_filled (change r ++ rest) ≡ true)
      → (r : Row) (rs : List Row) → has_value r ≡ true → is_filled rs ≡ true
      → is_filled (at_row id change missing rs) ≡ true → is_filled (at_row id change missing (r ∷ rs)) ≡ true
  here change missing changed r rs own rest later = go (bytes_eq r.id id)
    where
      go : (b : Bool) → is_filled (cond b (change r ++ rs) (r ∷ at_row id change missing rs)) ≡ true
      go true = changed r rs rest
      go false = joined _ _ own later

  at_filled : (change : Row → List Row) (missing : List Row)
      → ((r : Row) (rest : List Row) → is_filled rest ≡ true → is_filled (change r ++ rest) ≡ true)
      → is_filled missing ≡ true
      → (rows : List Row) → is_filled rows ≡ true → is_filled (at_row id change missing rows) ≡ true
  at_filled change missing changed last [] all = last
  at_filled change missing changed last (r ∷ rs) all =
      here change missing changed r rs (both (has_value r) _ all).0 (both (has_value r) _ all).1
      (at_filled change missing changed last rs (both (has_value r) _ all).1)

  without_filled : (rows : List Row) → is_filled rows ≡ true → is_filled (without id rows) ≡ true
  without_filled rows all = at_filled (λ _. []) [] (λ r rest h. h) refl rows all

  with_filled : (how : Reading) (s : ValueSource) (v : Text) (vs : List Text) (rows : List Row)
      → is_filled rows ≡ true → is_filled (with_values id how s (v ∷ vs) rows) ≡ true
  with_filled how s v vs rows all = at_filled (more_values s (v ∷ vs)) _ (λ r rest h. joined _ _ (one_more r.values v vs) h) refl rows all

-- ---- one use of an argument

impossible : {A : Type 0} (n : ℕ) → nat_lt 0 n ≡ true → nat_le n 0 ≡ true → A
impossible n e f = absurd (grind (arith, nat_tests))

used_filled_as : (x : ArgAction) (n : ℕ) (a : Rule) (vs : List Text) (rows : List Row) → fills_as x n ≡ true
    → nat_le n (length vs) ≡ true → is_filled rows ≡ true
    → is_filled (used_as x a.id (reading_by a) (values_or_missing a vs) rows) ≡ true
used_filled_as action.Set n a [] rows f e all = impossible n f e
used_filled_as action.Set n a (v ∷ vs) rows f e all = with_filled a.id _ _ v vs (without a.id rows) (without_filled a.id rows all)
used_filled_as action.Append n a [] rows f e all = impossible n f e
used_filled_as action.Append n a (v ∷ vs) rows f e all = with_filled a.id _ _ v vs rows all
used_filled_as action.Help n a vs rows f e all = all
used_filled_as action.SetTrue n a vs rows f e all = absurd (true≢false (sym f))
used_filled_as action.SetFalse n a vs rows f e all = absurd (true≢false (sym f))
used_filled_as action.Count n a vs rows f e all = absurd (true≢false (sym f))
used_filled_as action.HelpShort n a vs rows f e all = absurd (true≢false (sym f))
used_filled_as action.HelpLong n a vs rows f e all = absurd (true≢false (sym f))
used_filled_as action.Version n a vs rows f e all = absurd (true≢false (sym f))

used_filled : (again : Bool) (a : Rule) (vs : List Text) (rows : List Row) → fills a ≡ true
    → use_passes again a vs rows ≡ true → is_filled rows ≡ true → is_filled (used a vs rows) ≡ true
used_filled again a vs rows f e all =
    let n = (unwrap_or_range a.range).start_inclusive in
    used_filled_as (action_of a) n a vs rows f (both (nat_le n (length vs)) _ e).0 all

-- ---- the walk

abbrev IsFilled : Held → Type 0
IsFilled h = is_filled h.rows ≡ true

module _ (c : List Rule) (again : Bool) (each : list_all fills c ≡ true) where
  settle_by : (p : Text × List Text) (o : Option Rule) (rows : List Row) → arg_by_id c p.0 ≡ o
      → option_map_or (λ a. use_passes again a p.1 rows) o true ≡ true → is_filled rows ≡ true
      → is_filled (used_by_id o p.1 rows) ≡ true
  settle_by p None rows found e all = all
  settle_by p (Some a) rows found e all = used_filled again a p.1 rows (each_passes (λ a. bytes_eq a.id p.0) fills c a found each) e all

  settle_filled : (h : Held) → settle_passes c again h ≡ true → IsFilled h → IsFilled (settled c h)
  settle_filled h e all = go h.pending e
    where
      go : (pending : Option (Text × List Text))
          → option_map_or (λ p. option_map_or (λ a. use_passes again a p.1 h.rows) (arg_by_id c p.0) true) pending
          true ≡ true
          → is_filled (settled_rows c pending h.rows) ≡ true
      go None e = all
      go (Some p) e = settle_by p (arg_by_id c p.0) h.rows refl e all

  react_filled : (a : Rule) (vs : List Text) (h : Held) → fills a ≡ true → react_passes c again a vs h ≡ true
      → IsFilled h → IsFilled (reacted c a vs h)
  react_filled a vs h f e all =
      let parts = both (settle_passes c again h) _ e in
      used_filled again a vs (settled c h).rows f parts.1 (settle_filled h parts.0 all)

  option_filled : (a : Rule) (v : Option Text) (h : Held) → fills a ≡ true → option_passes c again a v h ≡ true
      → IsFilled h → IsFilled (option_met c a v h).0
  option_filled a (Some v) h f e all = react_filled a (v ∷ []) h f e all
  option_filled a None h f e all = settle_filled h e all

  flag_filled : (a : Rule) (v : Option Text) (h : Held) → fills a ≡ true
      → (not (is_some v) && react_passes c again a [] h) ≡ true → IsFilled h → IsFilled (flag_met c a v h).0
  flag_filled a (Some v) h f e all = all
  flag_filled a None h f e all = react_filled a [] h f e all

  long_filled : (o : Option Rule) (v : Option Text) (h : Held) → option_map_or fills o true ≡ true
      → long_passes c again o v h ≡ true → IsFilled h → IsFilled (long_met c o v h).0
  long_filled None v h f e all = all
  long_filled (Some a) v h f e all = go (takes_values a) e
    where
      go : (b : Bool) → cond b (option_passes c again a v h) (not (is_some v) && react_passes c again a [] h) ≡ true
          → IsFilled (cond b (option_met c a v h) (flag_met c a v h)).0
      go true e = option_filled a v h f e all
      go false e = flag_filled a v h f e all

  short_filled : (o : Option Rule) (rest : Text) (h : Held) (then : Held → Held × Outcome) (passes : Held → Bool)
      → ((k : Held) → passes k ≡ true → IsFilled k → IsFilled (then k).0)
      → option_map_or fills o true ≡ true → short_passes c again o rest h passes ≡ true → IsFilled h
      → IsFilled (short_met c o rest h then).0
  short_filled None rest h then passes kept f e all = all
  short_filled (Some a) rest h then passes kept f e all = go (takes_values a) e
    where
      go : (b : Bool) → cond b (option_passes c again a (attached_value rest) h)
          (react_passes c again a [] h && passes (reacted c a [] h)) ≡ true
          → IsFilled (cond b (option_met c a (attached_value rest) h) (then (reacted c a [] h))).0
      go true e = option_filled a (attached_value rest) h f e all
      go false e =
          let parts = both (react_passes c again a [] h) _ e in
          kept _ parts.1 (react_filled a [] h f parts.0 all)

  -- an argument of the command fills its row
  found_fills : (test : Rule → Bool) → option_map_or fills (find test c) true ≡ true
  found_fills test = go (find test c) refl
    where
      go : (o : Option Rule) → find test c ≡ o → option_map_or fills o true ≡ true
      go None found = refl
      go (Some a) found = each_passes test fills c a found each

  bundle_step_filled : (o : Option ℕ) (flags : Text) (skip : ℕ) (so_far : Outcome) (h : Held)
      (then : Text → ℕ → Outcome → Held → Held × Outcome) (passes : Text → ℕ → Held → Bool)
      → ((t : Text) (s : ℕ) (x : Outcome) (k : Held) → passes t s k ≡ true → IsFilled k → IsFilled (then t s x k).0)
      → bundle_step_passes c again o flags skip h passes ≡ true → IsFilled h → IsFilled (bundle_step c o flags skip so_far h then).0
  bundle_step_filled None flags skip so_far h then passes kept e all = all
  bundle_step_filled (Some x) flags zero so_far h then passes kept e all =
      let rest = drop (length (encode_utf8 x)) flags in
      short_filled (arg_by_short c x) rest h (then rest 0 done) (passes rest 0) (kept rest 0 done) (found_fills _) e all
  bundle_step_filled (Some x) flags (suc skip) so_far h then passes kept e all = kept _ skip so_far h e all

  bundle_filled : (k : ℕ) (flags : Text) (skip : ℕ) (so_far : Outcome) (h : Held)
      → flags_pass c again k flags skip h ≡ true → IsFilled h → IsFilled (bundle_met c k flags skip so_far h).0
  unfolding flags_pass bundle_met
  bundle_filled zero flags skip so_far h e all = all
  bundle_filled (suc k) flags skip so_far h e all =
      bundle_step_filled (slice_get (chars flags) 0) flags skip so_far h (bundle_met c k) (flags_pass c again k) (bundle_filled k) e all

  option_word_filled : (o : Option Rule) (id word : Text) (h : Held) → IsFilled h → IsFilled (option_word o id word h).0
  option_word_filled None id word h all = all
  option_word_filled (Some a) id word h all = all

  plain_filled : (waiting : Waiting) (word : Text) (h : Held) → IsFilled h → IsFilled (plain_word c waiting word h).0
  plain_filled (option id) word h all = option_word_filled (arg_by_id c id) id word h all
  plain_filled idle word h all = all
  plain_filled positional word h all = all

  after_filled : (waiting : Waiting) (word : Text) (h : Held) (x : Outcome) → IsFilled h → IsFilled (after_flag c waiting word h x).0
  after_filled waiting word h done all = all
  after_filled waiting word h (waits id) all = all
  after_filled waiting word h plain all = plain_filled waiting word h all
  after_filled waiting word h refused all = plain_filled waiting word h all

  bundled : (waiting : Waiting) (word : Text) (o : Option Text) (h : Held)
      → option_map_or (λ flags. bundle_passes c again flags h) o true ≡ true → IsFilled h
      → IsFilled (short_or_plain c waiting word o h).0
  bundled waiting word None h e all = plain_filled waiting word h all
  bundled waiting word (Some flags) h e all =
      let met = bundle c flags h in
      after_filled waiting word met.0 met.1 (bundle_filled (length flags) flags h.skip plain (record h { skip = 0 }) e all)

  flag_word_filled : (waiting : Waiting) (word : Text) (o : Option (Text × Option Text)) (h : Held)
      → flag_word_passes c again o word h ≡ true → IsFilled h
      → IsFilled (long_or_other c waiting word o h).0
  flag_word_filled waiting word (Some p) h e all =
      let met = long_met c (arg_by_long c p.0) p.1 h in
      after_filled waiting word met.0 met.1 (long_filled (arg_by_long c p.0) p.1 h (found_fills _) e all)
  flag_word_filled waiting word None h e all = bundled waiting word (short_of word) h e all

  positional_filled : (a : Rule) (word : Text) (h : Held) → positional_passes c again a h ≡ true → IsFilled h
      → IsFilled (positional_held c a word h)
  positional_filled a word h e all = go (is_pending a h.pending && takes_several a) e
    where
      go : (b : Bool) → (b || settle_passes c again h) ≡ true → is_filled (cond b h (settled c h)).rows ≡ true
      go true e = all
      go false e = settle_filled h e all

module _ (s : Shape) (each : list_all fills s.rules ≡ true) where
  other_filled : (o : Option Text) (waiting : Waiting) (position : ℕ) (word : Text) (h : Held) → other_passes s o word h ≡ true → IsFilled h
      → IsFilled (subcommand_or_other s.rules o waiting position word h).0
  other_filled (Some name) waiting position word h e all = all
  other_filled None waiting position word h e all = go (bytes_eq word (45 ∷ 45 ∷ [])) e
    where
      go : (b : Bool) → (b || flag_word_passes s.rules s.args_override_self (long_of word) word h) ≡ true
          → IsFilled (cond b (h, trailing position) (long_or_other s.rules waiting word (long_of word) h)).0
      go true e = all
      go false e = flag_word_filled s.rules s.args_override_self each waiting word (long_of word) h e all

  word_filled : (names : Names) (is_trailing : Bool) (waiting : Waiting) (position : ℕ) (word : Text) (h : Held)
      → word_passes s names is_trailing waiting word h ≡ true → IsFilled h
      → IsFilled (word_met s.rules names is_trailing waiting position word h).0
  word_filled names true waiting position word h e all = all
  word_filled names false waiting position word h e all = other_filled (subcommand_met names waiting word) waiting position word h e all

  value_filled : (o : Option Rule) (word : Text) (w : Walk) (h : Held)
      → option_map_or (λ a. positional_passes s.rules s.args_override_self a h) o false ≡ true → IsFilled h
      → IsFilled (to_positional s.rules o word w h).held
  value_filled None word w h e all = all
  value_filled (Some a) word w h e all = positional_filled s.rules s.args_override_self each a word h e all

  step_filled : (w : Walk) (word : Text) (h : Held) (step : Step) → step_passes s w.position h step ≡ true
      → IsFilled h → IsFilled (after_step s.rules word w h step).held
  step_filled w word h (next waiting) e all = all
  step_filled w word h (trailing position) e all = all
  step_filled w word h (subcommand name) e all = all
  step_filled w word h value e all = value_filled (arg_by_index s.rules w.position) word w h e all

  turn_filled : (names : Names) (w : Walk) (word : Text) (stopped : Option (Text × List Text))
      → (is_some stopped || (word_passes s names w.is_trailing w.waiting word w.held
      && step_passes s w.position (word_met s.rules names w.is_trailing w.waiting w.position word w.held).0
      (word_met s.rules names w.is_trailing w.waiting w.position word w.held).1)) ≡ true
      → IsFilled w.held → IsFilled (walked_from s.rules names stopped w word).held
  turn_filled names w word (Some p) e all = all
  turn_filled names w word None e all =
      let met = word_met s.rules names w.is_trailing w.waiting w.position word w.held in
      let parts = both (word_passes s names w.is_trailing w.waiting word w.held) _ e in
      step_filled w word met.0 met.1 parts.1 (word_filled names w.is_trailing w.waiting w.position word w.held parts.0 all)

  walk_filled : (names : Names) (w : Walk) (words : List Text) → walk_passes s names w words ≡ true → IsFilled w.held
      → IsFilled (fold (walked s.rules names) w words).held
  unfolding walk_passes walked
  walk_filled names w [] e all = all
  walk_filled names w (word ∷ rest) e all =
      let parts = both (turn_passes s names w word) _ e in
      walk_filled names (walked s.rules names w word) rest parts.1 (turn_filled names w word w.stopped parts.0 all)

-- ---- after the walk

default_filled : (a : Rule) (rows : List Row) → is_filled rows ≡ true → is_filled (with_default rows a) ≡ true
default_filled a rows all = go (has_row a.id rows) a.defaults
  where
    go : (b : Bool) (defaults : List Text) → is_filled (cond b rows (default_rows a.id (reading_by a) defaults rows)) ≡ true
    go true defaults = all
    go false [] = all
    go false (v ∷ vs) = with_filled a.id _ _ v vs rows all

defaults_filled : (xs : List Rule) (rows : List Row) → is_filled rows ≡ true → is_filled (fold with_default rows xs) ≡ true
defaults_filled [] rows all = all
defaults_filled (a ∷ rest) rows all = defaults_filled rest (with_default rows a) (default_filled a rows all)

-- what a level of a parse asks for, of the rows that it leaves
pub record IsWhole (s : Shape) (rows : List Row) (has_subcommand : Bool) : Type 0 where
  pub filled : is_filled rows ≡ true
  pub valid : is_valid s rows has_subcommand ≡ true

pub level_whole : (s : Shape) (names : Names) (words : List Text) (has : Bool) → list_all fills s.rules ≡ true
    → level_passes s names nothing_held words has ≡ true
    → IsWhole s (rows_after s.rules names words) has
level_whole s names words has each e =
    let end = (walk s.rules names nothing_held words).held in
    let first = both (walk_passes s names (walk_from nothing_held) words) _ e in
    let second = both (settle_passes s.rules s.args_override_self end) _ first.1 in
    let last = both (list_all default_passes s.rules) _ second.1 in
    let walked_rows = walk_filled s each names (walk_from nothing_held) words first.0 refl in
    record {
      filled = defaults_filled s.rules (settled s.rules end).rows
          (settle_filled s.rules s.args_override_self each end second.0 walked_rows);
      valid = last.1;
    }

-- ---- the first value of an argument

first_of_row : (r : Row) → has_value r ≡ true → (text : Text) × (slice_get r.values 0 ≡ Some text)
first_of_row r e = go r.values e
  where
    go : (values : List Text) → is_any values ≡ true → (text : Text) × (slice_get values 0 ≡ Some text)
    go [] e = absurd (true≢false (sym e))
    go (v ∷ vs) e = (v, refl)

pub given_text : (id : Text) (rows : List Row) → is_filled rows ≡ true → is_given id rows ≡ true
    → (text : Text) × (first_of id rows ≡ Some text)
given_text id rows all given = go (find (λ r. bytes_eq r.id id) rows) refl given
  where
    go : (o : Option Row) → find (λ r. bytes_eq r.id id) rows ≡ o → option_map_or (λ r. explicit_source r.source) o false ≡ true
        → (text : Text) × (option_and_then (λ r. slice_get r.values 0) o ≡ Some text)
    go None found e = absurd (true≢false (sym e))
    go (Some r) found e = first_of_row r (each_passes (λ r. bytes_eq r.id id) has_value rows r found all)

-- what is required was given
pub required_given : (s : Shape) (rows : List Row) (has : Bool) → s.subcommand_negates_reqs ≡ false → is_valid s rows has ≡ true
    → list_all (λ a. not a.required || is_given a.id rows) s.rules ≡ true
required_given s rows has negates e =
    let first = both (not s.arg_required_else_help || (has || list_any (λ r. explicit_source r.source) rows)) _ e in
    let second = both (not s.subcommand_required || has) _ first.1 in
    let third = both (list_all (λ a. a.is_free) s.rules) _ second.1 in
    subst (λ b. ((b && has) || list_all (λ a. not a.required || is_given a.id rows) s.rules) ≡ true) negates third.1
