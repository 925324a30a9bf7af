-- A parse in which no step has a fault passes: from clap's kinds of fault to its test `takes`.
use Rattle.std.proofs.Common.{◌≡◌, ◌&&◌, ◌||◌, ℕ, Bool, cond, true, false, not, zero, suc, refl, sym, subst, arith}
use Rattle.std.proofs.Common.{List, [], ◌∷◌, Option, Some, None, codes, is_some, true≢false, length, find, drop}
use Rattle.std.specs.Prelude.{◌==◌, encode_utf8, slice_get, nat_le, nat_lt}
use Rattle.std.specs.List.{list_all, list_any}
use Rattle.std.specs.Option.{option_map_or}
use Rattle.std.specs.Str.{bytes_eq, chars}
use Rattle.std.proofs.lemmas.Bool.Decides.{nat_tests}
use Rattle.clap.specs.Lexer.{long_of, short_of}
use Rattle.clap.specs.Facts.{explicit_source, unwrap_or_range}
use Rattle.clap.specs.ValueTests.{accepts}
use Rattle.clap.specs.Walk.{Held, Names, Row, Rule, Step, Text, Walk, action_of, arg_by_id, arg_by_index, arg_by_long}
use Rattle.clap.specs.Walk.{arg_by_short, answers_to, attached_value, finished, has_row, is_pending, most_values}
use Rattle.clap.specs.Walk.{next, nothing_held, reacted, settled, subcommand, subcommand_met, takes_several}
use Rattle.clap.specs.Walk.{takes_values, trailing, value, values_or_missing, walk, walk_from, walked, word_met}
use Rattle.clap.specs.Simple.{App, Shape, argument_words, built, entered, is_simple, label_of, names_of, subcommand_of}
use Rattle.clap.specs.Takes.{action_passes, built_takes, bundle_passes, bundle_step_passes, count_passes}
use Rattle.clap.specs.Takes.{default_passes, entered_passes, flag_word_passes, flags_pass, is_given, is_valid}
use Rattle.clap.specs.Takes.{level_passes, long_passes, option_passes, other_passes, positional_passes, react_passes}
use Rattle.clap.specs.Takes.{set_passes, settle_passes, short_passes, step_passes, takes, turn_passes, use_passes}
use Rattle.clap.specs.Takes.{walk_passes}
use Rattle.clap.specs.Kinds.{Kinds, check_kinds, or_else, range_kinds, values_kinds}
use Rattle.clap.specs.Faults.{action_fault, built_fault, fault_of, is_simple_and_free, bundle_fault}
use Rattle.clap.specs.Faults.{bundle_step_fault, check_fault, count_fault, defaults_fault, entered_fault}
use Rattle.clap.specs.Faults.{flag_word_fault, flags_fault, level_fault, long_fault, option_fault, other_fault}
use Rattle.clap.specs.Faults.{positional_fault, react_fault, set_fault, settle_fault, short_fault, step_fault}
use Rattle.clap.specs.Faults.{stray_fault, turn_fault, use_fault, walk_fault, word_fault}
use Rattle.clap.specs.declared.builder.action.ArgAction.{ArgAction}
use Rattle.clap.specs.declared.builder.action.ArgAction.TheVariants as action
use Rattle.clap.specs.declared.builder.value_parser.ValueParser.{ValueParser}
use Rattle.clap.specs.declared.error.kind.ErrorKind.{ErrorKind}
use Rattle.clap.specs.declared.error.kind.ErrorKind.TheVariants as kind
use Rattle.clap.proofs.WalkLemmas.{both}
use Rattle.vm_words.specs.Apps.{vmcache_app}
use Rattle.vm_words.proofs.Passing.{each_passes, joined}

-- ---- lists of kinds

some_kind : {A : Type 0} (k : ErrorKind) (ks : Kinds) → k ∷ ks ≡ [] → A
some_kind k ks e = absurd cc

neither : (a b : Kinds) → or_else a b ≡ [] → (a ≡ []) × (b ≡ [])
neither [] b e = (refl, e)
neither (k ∷ ks) b e = some_kind k ks e

unless : (b : Bool) (k : ErrorKind) (ks : Kinds) → cond b (k ∷ ks) [] ≡ [] → b ≡ false
unless true k ks e = some_kind k ks e
unless false k ks e = refl

only_if : (b : Bool) (k : ErrorKind) → cond b [] (k ∷ []) ≡ [] → b ≡ true
only_if true k e = refl
only_if false k e = some_kind k [] e

either : (b : Bool) (x y : Kinds) (p q : Bool) → (x ≡ [] → p ≡ true) → (y ≡ [] → q ≡ true) → cond b x y ≡ [] → cond b p q ≡ true
either true x y p q f g e = f e
either false x y p q f g e = g e

-- the step is spared, or passes
spared : (b : Bool) (x : Kinds) (p : Bool) → (x ≡ [] → p ≡ true) → cond b [] x ≡ [] → (b || p) ≡ true
spared true x p f e = refl
spared false x p f e = f e

barred : (b : Bool) (k : ErrorKind) (x : Kinds) (p : Bool) → (x ≡ [] → p ≡ true) → cond b (k ∷ []) x ≡ [] → (not b && p) ≡ true
barred true k x p f e = some_kind k [] e
barred false k x p f e = f e

implied : (a b : Bool) → (a && not b) ≡ false → (not a || b) ≡ true
implied true true e = refl
implied true false e = sym e
implied false b e = refl

neither_holds : (a b : Bool) → (a || b) ≡ false → (a ≡ false) × (b ≡ false)
neither_holds true b e = absurd (true≢false e)
neither_holds false b e = (refl, e)

each_option : {A : Type 0} (f : A → Kinds) (g : A → Bool) → ((a : A) → f a ≡ [] → g a ≡ true) → (o : Option A)
    → option_map_or f o [] ≡ [] → option_map_or g o true ≡ true
each_option f g h None e = refl
each_option f g h (Some a) e = h a e

-- ---- one use of an argument

values_ok : (i : Bool) (p : ValueParser) (vs : List Text) → values_kinds i p vs ≡ [] → list_all (accepts i p) vs ≡ true
values_ok i p [] e = refl
values_ok i p (v ∷ vs) e =
    let parts = neither _ _ e in
    joined _ _ (only_if (accepts i p v) _ parts.0) (values_ok i p vs parts.1)

count_ok : (a : Rule) (vs : List Text) (rows : List Row) → count_fault a vs rows ≡ [] → count_passes a vs rows ≡ true
count_ok a [] rows e = only_if _ _ e
count_ok a (v ∷ vs) rows e = values_ok _ _ (v ∷ vs) e

set_ok : (again : Bool) (a : Rule) (vs : List Text) (rows : List Row) → set_fault again a vs rows ≡ [] → set_passes again a vs rows ≡ true
set_ok again a vs rows e =
    let parts = neither _ _ e in
    joined _ _ (implied (has_row a.id rows) again (unless _ _ _ parts.0)) (values_ok _ _ vs parts.1)

action_ok : (x : ArgAction) (again : Bool) (a : Rule) (vs : List Text) (rows : List Row)
    → action_fault x again a vs rows ≡ [] → action_passes x again a vs rows ≡ true
action_ok action.Set again a vs rows e = set_ok again a vs rows e
action_ok action.SetTrue again a vs rows e = set_ok again a vs rows e
action_ok action.SetFalse again a vs rows e = set_ok again a vs rows e
action_ok action.Append again a vs rows e = values_ok _ _ vs e
action_ok action.Count again a vs rows e = count_ok a vs rows e
action_ok action.Help again a vs rows e = some_kind _ _ e
action_ok action.HelpShort again a vs rows e = some_kind _ _ e
action_ok action.HelpLong again a vs rows e = some_kind _ _ e
action_ok action.Version again a vs rows e = some_kind _ _ e

range_ok : (least most n : ℕ) → range_kinds least most n ≡ [] → (nat_le least n ≡ true) × (nat_le n most ≡ true)
range_ok least most n e = go (nat_lt 0 least && n == 0) (least == most) (least == n) (nat_lt n least) (nat_lt most n) refl refl refl refl e
  where
    go : (none same met few many : Bool) → (least == most) ≡ same → (least == n) ≡ met → nat_lt n least ≡ few → nat_lt most n ≡ many
        → cond none (kind.InvalidValue ∷ [])
        (cond same (cond met [] (kind.WrongNumberOfValues ∷ []))
        (cond few (kind.TooFewValues ∷ []) (cond many (kind.TooManyValues ∷ []) []))) ≡ []
        → (nat_le least n ≡ true) × (nat_le n most ≡ true)
    go true same met few many s m f y e = some_kind _ _ e
    go false true true few many s m f y e = (grind (arith, nat_tests), grind (arith, nat_tests))
    go false true false few many s m f y e = some_kind _ _ e
    go false false met true many s m f y e = some_kind _ _ e
    go false false met false true s m f y e = some_kind _ _ e
    go false false met false false s m f y e = (grind (arith, nat_tests), grind (arith, nat_tests))

use_ok : (again : Bool) (a : Rule) (vs : List Text) (rows : List Row) → use_fault again a vs rows ≡ [] → use_passes again a vs rows ≡ true
use_ok again a vs rows e =
    let parts = neither _ _ e in
    let range = range_ok (unwrap_or_range a.range).start_inclusive (most_values a) (length vs) parts.0 in
    joined _ _ range.0 (joined _ _ range.1 (action_ok (action_of a) again a (values_or_missing a vs) rows parts.1))

-- ---- the walk

module _ (c : List Rule) (again : Bool) where
  settle_ok : (h : Held) → settle_fault c again h ≡ [] → settle_passes c again h ≡ true
  settle_ok h e =
      each_option (λ (p : Text × List Text). option_map_or (λ a. use_fault again a p.1 h.rows) (arg_by_id c p.0) [])
      (λ p. option_map_or (λ a. use_passes again a p.1 h.rows) (arg_by_id c p.0) true)
      (λ p. each_option (λ a. use_fault again a p.1 h.rows) (λ a. use_passes again a p.1 h.rows)
      (λ a. use_ok again a p.1 h.rows) (arg_by_id c p.0))
      h.pending e

  react_ok : (a : Rule) (vs : List Text) (h : Held) → react_fault c again a vs h ≡ [] → react_passes c again a vs h ≡ true
  react_ok a vs h e =
      let parts = neither _ _ e in
      joined _ _ (settle_ok h parts.0) (use_ok again a vs (settled c h).rows parts.1)

  option_ok : (a : Rule) (v : Option Text) (h : Held) → option_fault c again a v h ≡ [] → option_passes c again a v h ≡ true
  option_ok a (Some v) h e = react_ok a (v ∷ []) h e
  option_ok a None h e = settle_ok h e

  long_ok : (o : Option Rule) (v : Option Text) (h : Held) → long_fault c again o v h ≡ [] → long_passes c again o v h ≡ true
  long_ok None v h e = some_kind _ _ e
  long_ok (Some a) v h e =
      either (takes_values a) _ _ _ _ (option_ok a v h) (barred (is_some v) _ _ _ (react_ok a [] h)) e

  short_ok : (o : Option Rule) (rest : Text) (h : Held) (fails : Held → Kinds) (passes : Held → Bool)
      → ((k : Held) → fails k ≡ [] → passes k ≡ true)
      → short_fault c again o rest h fails ≡ [] → short_passes c again o rest h passes ≡ true
  short_ok None rest h fails passes each e = some_kind _ _ e
  short_ok (Some a) rest h fails passes each e =
      either (takes_values a) _ _ _ _ (option_ok a (attached_value rest) h)
      (λ (f : or_else (react_fault c again a [] h) (fails (reacted c a [] h)) ≡ []).
      let parts = neither (react_fault c again a [] h) (fails (reacted c a [] h)) f in
      joined _ _ (react_ok a [] h parts.0) (each _ parts.1)) e

  bundle_step_ok : (o : Option ℕ) (flags : Text) (skip : ℕ) (h : Held) (fails : Text → ℕ → Held → Kinds) (passes : Text → ℕ → Held → Bool)
      → ((t : Text) (s : ℕ) (k : Held) → fails t s k ≡ [] → passes t s k ≡ true)
      → bundle_step_fault c again o flags skip h fails ≡ [] → bundle_step_passes c again o flags skip h passes ≡ true
  bundle_step_ok None flags skip h fails passes each e = refl
  bundle_step_ok (Some x) flags zero h fails passes each e =
      short_ok (arg_by_short c x) (drop (length (encode_utf8 x)) flags) h _ _ (each (drop (length (encode_utf8 x)) flags) 0) e
  bundle_step_ok (Some x) flags (suc skip) h fails passes each e = each _ skip h e

  flags_ok : (k : ℕ) (flags : Text) (skip : ℕ) (h : Held) → flags_fault c again k flags skip h ≡ []
      → flags_pass c again k flags skip h ≡ true
  unfolding flags_fault flags_pass
  flags_ok zero flags skip h e = refl
  flags_ok (suc k) flags skip h e =
      bundle_step_ok (slice_get (chars flags) 0) flags skip h (flags_fault c again k) (flags_pass c again k) (flags_ok k) e

  flag_word_ok : (o : Option (Text × Option Text)) (word : Text) (h : Held) → flag_word_fault c again o word h ≡ []
      → flag_word_passes c again o word h ≡ true
  flag_word_ok (Some p) word h e = long_ok (arg_by_long c p.0) p.1 h e
  flag_word_ok None word h e =
      each_option (λ (flags : Text). bundle_fault c again flags h) (λ flags. bundle_passes c again flags h)
      (λ flags. flags_ok (length flags) flags h.skip (record h { skip = 0 })) (short_of word) e

  positional_ok : (a : Rule) (h : Held) → positional_fault c again a h ≡ [] → positional_passes c again a h ≡ true
  positional_ok a h e = spared (is_pending a h.pending && takes_several a) _ _ (settle_ok h) e

module _ (s : Shape) where
  other_ok : (o : Option Text) (word : Text) (h : Held) → other_fault s o word h ≡ [] → other_passes s o word h ≡ true
  other_ok (Some name) word h e = implied (bytes_eq name (codes "help")) s.disable_help_subcommand (unless _ _ _ e)
  other_ok None word h e = spared (bytes_eq word (45 ∷ 45 ∷ [])) _ _ (flag_word_ok s.rules s.args_override_self (long_of word) word h) e

  stray : {A : Type 0} → stray_fault s ≡ [] → A
  stray {A = A} e = go s.is_leaf e
    where
      go : (b : Bool) → cond b (kind.UnknownArgument ∷ []) (kind.UnknownArgument ∷ kind.InvalidSubcommand ∷ []) ≡ [] → A
      go true e = some_kind _ _ e
      go false e = some_kind _ _ e

  value_ok : (o : Option Rule) (h : Held) → option_map_or (λ a. positional_fault s.rules s.args_override_self a h) o (stray_fault s) ≡ []
      → option_map_or (λ a. positional_passes s.rules s.args_override_self a h) o false ≡ true
  value_ok None h e = stray e
  value_ok (Some a) h e = positional_ok s.rules s.args_override_self a h e

  step_ok : (position : ℕ) (h : Held) (step : Step) → step_fault s position h step ≡ [] → step_passes s position h step ≡ true
  step_ok position h value e = value_ok (arg_by_index s.rules position) h e
  step_ok position h (next waiting) e = refl
  step_ok position h (trailing p) e = refl
  step_ok position h (subcommand name) e = refl

  turn_ok : (names : Names) (w : Walk) (word : Text) → turn_fault s names w word ≡ [] → turn_passes s names w word ≡ true
  turn_ok names w word e =
      let met = word_met s.rules names w.is_trailing w.waiting w.position word w.held in
      spared (is_some w.stopped) (or_else (word_fault s names w.is_trailing w.waiting word w.held) (step_fault s w.position met.0 met.1)) _
      (λ f.
      let parts = neither (word_fault s names w.is_trailing w.waiting word w.held) (step_fault s w.position met.0 met.1) f in
      joined _ _ (spared w.is_trailing _ _ (other_ok (subcommand_met names w.waiting word) word w.held) parts.0)
      (step_ok w.position met.0 met.1 parts.1)) e

  walk_ok : (names : Names) (w : Walk) (words : List Text) → walk_fault s names w words ≡ [] → walk_passes s names w words ≡ true
  unfolding walk_fault walk_passes
  walk_ok names w [] e = refl
  walk_ok names w (word ∷ rest) e =
      let parts = neither (turn_fault s names w word) (walk_fault s names (walked s.rules names w word) rest) e in
      joined _ _ (turn_ok names w word parts.0) (walk_ok names (walked s.rules names w word) rest parts.1)

-- ---- after the walk

each_given : (wants gives : Rule → Bool) (xs : List Rule) → list_any (λ a. wants a && not (gives a)) xs ≡ false
    → list_all (λ a. not (wants a) || gives a) xs ≡ true
each_given wants gives [] e = refl
each_given wants gives (x ∷ xs) e =
    let parts = neither_holds (wants x && not (gives x)) _ e in
    joined _ _ (implied (wants x) (gives x) parts.0) (each_given wants gives xs parts.1)

-- what the last checks ask for is there
no_check : (help command argument : Bool) → check_kinds help command argument ≡ [] → (help ≡ false) × (command ≡ false) × (argument ≡ false)
no_check true command argument e = some_kind _ _ e
no_check false true argument e = some_kind _ _ e
no_check false false true e = some_kind _ _ e
no_check false false false e = (refl, refl, refl)

helped : (has wants used : Bool) → (not has && (wants && not used)) ≡ false → (not wants || (has || used)) ≡ true
helped has true true e = grind arith
helped true true false e = refl
helped false true false e = sym e
helped has false used e = refl

entered_one : (has wants : Bool) → (not has && wants) ≡ false → (not wants || has) ≡ true
entered_one has false e = refl
entered_one true true e = refl
entered_one false true e = sym e

excused : (b c d : Bool) → (c ≡ false → d ≡ true) → (not b && c) ≡ false → (b || d) ≡ true
excused true c d f e = refl
excused false c d f e = f e

valid_ok : (s : Shape) (rows : List Row) (has : Bool) → list_all (λ a. a.is_free) s.rules ≡ true
    → check_fault s rows has ≡ [] → is_valid s rows has ≡ true
valid_ok s rows has free e =
    let parts = no_check (not
    has && (s.arg_required_else_help && not (list_any (λ r. explicit_source r.source) rows)))
    (not has && s.subcommand_required)
    (not (s.subcommand_negates_reqs && has) && list_any (λ a. a.required && not (is_given a.id rows)) s.rules) e in
    joined _ _ (helped has s.arg_required_else_help (list_any (λ r. explicit_source r.source) rows) parts.0)
    (joined _ _ (entered_one has s.subcommand_required parts.1)
    (joined _ _ free
    (excused (s.subcommand_negates_reqs && has) (list_any (λ a. a.required && not (is_given a.id rows)) s.rules) _
    (each_given (λ a. a.required) (λ a. is_given a.id rows) s.rules) parts.2)))

-- defaults are values of their arguments, and no argument has a rule on another
abbrev pub is_quiet : Shape → Bool
is_quiet s = list_all default_passes s.rules && list_all (λ a. a.is_free) s.rules

level_ok : (s : Shape) (names : Names) (h : Held) (words : List Text) (has : Bool) (below : Kinds) → is_quiet s ≡ true
    → level_fault s names h words has below ≡ []
    → (below ≡ []) × (level_passes s names h words has ≡ true)
level_ok s names h words has below quiet e =
    let end = (walk s.rules names h words).held in
    let check = check_fault s (finished s.rules end) has in
    let defaults = defaults_fault (settled s.rules end).rows s.rules in
    let settle = settle_fault s.rules s.args_override_self end in
    let rules = both (list_all default_passes s.rules) _ quiet in
    let first = neither (walk_fault s names (walk_from h) words) (or_else below (or_else settle (or_else defaults check))) e in
    let second = neither below (or_else settle (or_else defaults check)) first.1 in
    let third = neither settle (or_else defaults check) second.1 in
    let last = neither defaults check third.1 in (
      second.0,
      joined _ _ (walk_ok s names (walk_from h) words first.0)
          (joined _ _ (settle_ok s.rules s.args_override_self end third.0)
          (joined _ _ rules.0 (valid_ok s (finished s.rules end) has rules.1 last.1))),
    )

-- the same of the command and of each of its subcommands
abbrev pub is_quiet_app : App → Bool
is_quiet_app a = is_quiet a.top && list_all is_quiet a.subs

sub_ok : (a : App) (p : Text × List Text) (o : Option Shape) → find (λ s. answers_to p.0 (label_of s)) a.subs ≡ o
    → list_all is_quiet a.subs ≡ true
    → option_map_or (λ s. level_fault s [] nothing_held p.1 false []) o [] ≡ []
    → option_map_or (λ s. level_passes s [] nothing_held p.1 false) o true ≡ true
sub_ok a p None found quiet e = refl
sub_ok a p (Some s) found quiet e =
    (level_ok s [] nothing_held p.1 false [] (each_passes (λ s. answers_to p.0 (label_of s)) is_quiet a.subs s found quiet) e).1

entered_ok : (a : App) (stop : Option (Text × List Text)) → list_all is_quiet a.subs ≡ true
    → entered_fault a stop ≡ [] → entered_passes a stop ≡ true
entered_ok a None quiet e = refl
entered_ok a (Some p) quiet e = sub_ok a p (find (λ s. answers_to p.0 (label_of s)) a.subs) refl quiet e

built_ok : (a : App) (h : Held) (words : List Text) → is_quiet_app a ≡ true → built_fault a h words ≡ [] → built_takes a h words ≡ true
built_ok a h words quiet e =
    let stop = (walk a.top.rules (names_of a) h words).stopped in
    let parts = both (is_quiet a.top) _ quiet in
    let level = level_ok a.top (names_of a) h words (is_some (entered a stop)) (entered_fault a stop) parts.0 e in
    joined _ _ (entered_ok a stop parts.1 level.0) level.1

-- a simple command takes the words in which no step has a fault
takes_faultless : (a : App) (words : List Text) → is_simple_and_free a ≡ true → is_quiet_app (built a) ≡ true
    → fault_of a words ≡ [] → takes a words ≡ true
takes_faultless a words simple quiet e =
    joined _ _ (both (is_simple a) _ simple).0 (built_ok (built a) nothing_held (argument_words a words) quiet e)

pub taken : (app : App) (words : List Text) → app ≡ vmcache_app
    → (is_simple_and_free app ≡ true → fault_of app words ≡ []) → takes vmcache_app words ≡ true
taken app words is faultless =
    let none = faultless (subst (λ a. is_simple_and_free a ≡ true) (sym is) refl) in
    takes_faultless vmcache_app words refl refl (subst (λ a. fault_of a words ≡ []) is none)

-- what clap found in the words is what its definitions find
pub entered_is : (app : App) (words : List Text) (found : Option (Text × List Row)) → app ≡ vmcache_app
    → (is_simple app ≡ true → found ≡ subcommand_of app words) → found ≡ subcommand_of vmcache_app words
entered_is app words found is finds =
    subst (λ a. found ≡ subcommand_of a words) is (finds (subst (λ a. is_simple a ≡ true) (sym is) refl))

not_true : (b : Bool) → (b ≡ true → ⊥) → b ≡ false
not_true true never = absurd (never refl)
not_true false never = refl

-- words that would only want memory if they were taken, and do not want it, are not taken
pub untaken : (app : App) (words : List Text) (K : Type 0) → app ≡ vmcache_app → (takes app words ≡ true → K)
    → (K → ⊥) → takes vmcache_app words ≡ false
untaken app words K is passes never = subst (λ a. takes a words ≡ false) is (not_true (takes app words) (λ e. never (passes e)))
