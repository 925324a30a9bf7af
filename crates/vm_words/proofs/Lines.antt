-- Words that clap takes are a line of a command, with all the words that it asks for; and they are so in one way.
use Rattle.std.proofs.Common.{◌≡◌, ◌∙◌, ◌&&◌, ◌||◌, Bool, cond, not, true, false, refl, sym, ap, ap₂, subst, List, []}
use Rattle.std.proofs.Common.{◌∷◌, Option, Some, None, is_some, true≢false, option_map, find}
use Rattle.std.specs.List.{list_all, list_any}
use Rattle.std.specs.Option.{option_map_or}
use Rattle.std.specs.Str.{bytes_eq}
use Rattle.std.proofs.lemmas.Slice.Eq.{bytes_eq-Decides}
use Rattle.clap.specs.Walk.{Row, Rule, Text, answers_to, first_of, nothing_held, rows_after, stop_after}
use Rattle.clap.specs.Simple.{App, Shape, built, entered, is_simple, label_of, names_of, rows_at, subcommand_of}
use Rattle.clap.specs.Takes.{entered_passes, is_given, level_passes, takes}
use Rattle.clap.proofs.WalkLemmas.{both}
use Rattle.vm_words.specs.declared.Command.{Command}
use Rattle.vm_words.specs.declared.form.FormSlot.{FormSlot}
use Rattle.vm_words.specs.declared.form.FormVerb.{FormVerb}
use Rattle.vm_words.specs.declared.form.FormVerb.TheVariants.{Run}
use Rattle.vm_words.specs.Apps.{vmcache_app}
use Rattle.vm_words.specs.Forms.{is_needed, kind_in, place_in, slot_text, slots_in, title, verb_at, verbs}
use Rattle.vm_words.specs.Values.{AreFilled, HasUnfilled, IsSlotFilled, IsUnfilled, Meaning}
use Rattle.vm_words.specs.Commands.{Entered, Enters, HasLine, HasOddWord, HasWords, IsCommand, IsCommandLine}
use Rattle.vm_words.specs.Commands.{IsNoCommand, ReadsEntered, WhyRefused, line_of, odd_word, untaken}
use Rattle.vm_words.proofs.Filled.{fills, given_text, is_filled, level_whole, required_given}
use Rattle.vm_words.proofs.Meanings.{each_at, filled_at, not_odd, one_list}

-- ---- the names of the commands

at_title : (verb : FormVerb) → verb_at (title verb) ≡ Some verb
at_title Run = refl
at_title _ = refl

-- no two commands have one name
one_verb : (verb other : FormVerb) → title verb ≡ title other → verb ≡ other
one_verb verb other e = let h : ◌≡◌ {A = Option FormVerb} (Some verb) (Some other) = sym (at_title verb)
    ∙ ap verb_at e ∙ at_title other in cc

found_test : {X : Type 0} (test : X → Bool) (xs : List X) (x : X) → find test xs ≡ Some x → test x ≡ true
found_test test [] x e = absurd cc
found_test {X = X} test (y ∷ ys) x e = go (test y) refl e (found_test test ys x)
  where
    go : (b : Bool) → test y ≡ b → cond b (Some y) (find test ys) ≡ Some x → (find test ys ≡ Some x → test x ≡ true) → test x ≡ true
    go true is same later = let here : y ≡ x = cc in subst (λ (z : X). test z ≡ true) here is
    go false is rest later = later rest

found_title : (word : Text) (verb : FormVerb) → verb_at word ≡ Some verb → word ≡ title verb
found_title word verb e = sym ((bytes_eq-Decides (title verb) word).0 (found_test (λ (v : FormVerb). bytes_eq (title v) word) verbs verb e))

-- ---- what was entered is one thing

same_rows : (met : Entered) (n m : Text) (a b : List Row) → met ≡ Some (n, a) → met ≡ Some (m, b) → a ≡ b
same_rows met n m a b p q = ap (λ o. option_map_or (λ x. x.1) o a) (sym p ∙ q)

one_name : (met : Entered) (n m : Text) (a b : List Row) → met ≡ Some (n, a) → met ≡ Some (m, b) → n ≡ m
one_name met n m a b p q = ap (λ o. option_map_or (λ x. x.0) o n) (sym p ∙ q)

pub line_verb : (words : List Text) (verb other : FormVerb) (meanings others : List Meaning)
    → IsCommandLine words verb meanings → IsCommandLine words other others → verb ≡ other
line_verb words verb other meanings others p q =
    one_verb verb other (one_name _ _ _ p.line.rows q.line.rows p.line.named_so q.line.named_so)

pub line_meanings : (words : List Text) (verb other : FormVerb) (meanings others : List Meaning)
    → IsCommandLine words verb meanings → IsCommandLine words other others → meanings ≡ others
line_meanings words verb other meanings others p q =
    let rows = same_rows _ _ _ p.line.rows q.line.rows p.line.named_so q.line.named_so in
    let same = line_verb words verb other meanings others p q in
    let first : AreFilled (slots_in verb) q.line.rows meanings =
    subst (λ (r : List Row). AreFilled (slots_in verb) r meanings) rows p.line.filled in
    let second : AreFilled (slots_in verb) q.line.rows others =
    subst (λ (v : FormVerb). AreFilled (slots_in v) q.line.rows others) (sym same) q.line.filled in
    one_list (slots_in verb) q.line.rows meanings others first second

pub one_command : (words : List Text) (command other : Command) → IsCommand words command → IsCommand words other
    → line_of command ≡ line_of other
one_command words command other p q =
    ap₂ (λ (v : FormVerb) (ms : List Meaning). (v, ms)) (line_verb words _ _ _ _ p q) (line_meanings words _ _ _ _ p q)

-- ---- words that are refused

odd_line : (words : List Text) (verb other : FormVerb) (meanings : List Meaning) → HasOddWord words verb
    → IsCommandLine words other meanings → ⊥
odd_line words verb other meanings o is =
    let same = one_verb other verb (one_name _ _ _ is.line.rows o.rows is.line.named_so o.named_so) in
    let rows = same_rows _ _ _ is.line.rows o.rows is.line.named_so o.named_so in
    let named : AreFilled (slots_in verb) is.line.rows meanings =
    subst (λ (v : FormVerb). AreFilled (slots_in v) is.line.rows meanings) same is.line.filled in
    let filled : AreFilled (slots_in verb) o.rows meanings = subst (λ (r : List Row). AreFilled (slots_in verb) r meanings) rows named in
    let at = filled_at (slots_in verb) o.rows meanings o.slot o.among.0 o.among.1 o.among.2 filled in
    let read : IsSlotFilled o.slot (Some o.text) at.0 = subst (λ (t : Option Text). IsSlotFilled o.slot t at.0) o.found at.1 in
    not_odd (kind_in o.slot) o.text at.0 o.odd read

pub refused_is_none : (words : List Text) → WhyRefused words → IsNoCommand words
refused_is_none words (untaken e) = λ command is. true≢false (sym is.taken ∙ e)
refused_is_none words (odd_word verb o) = λ command is. odd_line words verb (line_of command).0 (line_of command).1 o is

-- ---- words that are taken

-- the program and its commands, as clap builds them
abbrev whole : App
whole = built vmcache_app

-- one of the arguments is the slot's, and has to be there where the slot's word has to
abbrev asks : List Rule → FormSlot → Bool
asks rules slot = not (is_needed (place_in slot)) || list_any (λ a. bytes_eq a.id (slot_text slot) && a.required) rules

-- what clap builds is the command: it has its name and asks for its words
abbrev is_of : FormVerb → Shape → Bool
is_of verb s = bytes_eq s.name
    (title verb) && (list_all fills
    s.rules && (not s.subcommand_negates_reqs && list_all (asks s.rules) (slots_in verb)))

abbrev each_of : List FormVerb → List Shape → Bool
each_of [] [] = true
each_of [] (s ∷ ss) = false
each_of (verb ∷ vs) [] = false
each_of (verb ∷ vs) (s ∷ ss) = is_of verb s && each_of vs ss

table_fits : each_of verbs whole.subs ≡ true
table_fits = refl

found_verb : (test : Shape → Bool) (vs : List FormVerb) (ss : List Shape) (s : Shape) → find test ss ≡ Some s
    → each_of vs ss ≡ true → (verb : FormVerb) × (is_of verb s ≡ true)
found_verb test vs [] s e fit = absurd cc
found_verb test [] (x ∷ ss) s e fit = absurd (true≢false (sym fit))
found_verb test (v ∷ vs) (x ∷ ss) s e fit = go (test x) e (λ rest. found_verb test vs ss s rest (both (is_of v x) _ fit).1)
  where
    go : (b : Bool) → cond b (Some x) (find test ss) ≡ Some s
        → (find test ss ≡ Some s → (verb : FormVerb) × (is_of verb s ≡ true)) → (verb : FormVerb)
        × (is_of verb s ≡ true)
    go true same later = let here : x ≡ s = cc in (v, subst (λ (z : Shape). is_of v z ≡ true) here (both (is_of v x) _ fit).0)
    go false rest later = later rest

is_not : (b : Bool) → not b ≡ true → b ≡ false
is_not true e = absurd (true≢false (sym e))
is_not false e = refl

holds : (needed given : Bool) → needed ≡ true → (not needed || given) ≡ true → given ≡ true
holds true given e h = h
holds false given e h = absurd (true≢false (sym e))

any_given : (rules : List Rule) (rows : List Row) (id : Text) → list_all (λ a. not a.required || is_given a.id rows)
    rules ≡ true → list_any (λ a. bytes_eq a.id id && a.required) rules ≡ true → is_given id rows ≡ true
any_given [] rows id all any = absurd (true≢false (sym any))
any_given (a ∷ rules) rows id all any =
    let parts = both (not a.required || is_given a.id rows) _ all in go (bytes_eq a.id id && a.required) refl parts.0
    any (any_given rules rows id parts.1)
  where
    go : (b : Bool) → (bytes_eq a.id id && a.required) ≡ b → (not a.required || is_given a.id rows) ≡ true
        → (b || list_any (λ a. bytes_eq a.id id && a.required) rules) ≡ true
        → (list_any (λ a. bytes_eq a.id id && a.required) rules ≡ true → is_given id rows ≡ true) → is_given id rows ≡ true
    go true is own any later =
        let here = both (bytes_eq a.id id) a.required is in
        let same : a.id ≡ id = (bytes_eq-Decides a.id id).0 here.0 in
        subst (λ (t : Text). is_given t rows ≡ true) same (holds a.required (is_given a.id rows) here.1 own)
    go false is own rest later = later rest

has_words : (slots : List FormSlot) (rules : List Rule) (rows : List Row) → is_filled rows ≡ true
    → list_all (λ a. not a.required || is_given a.id rows) rules ≡ true → list_all (asks rules) slots ≡ true
    → HasWords slots rows
has_words [] rules rows filled given asked = tt
has_words (slot ∷ slots) rules rows filled given asked =
    let parts = both (asks rules slot) _ asked in (
      λ needed. given_text (slot_text slot) rows filled
          (any_given rules rows (slot_text slot) given (holds (is_needed (place_in slot)) _ needed parts.0)),
      has_words slots rules rows filled given parts.1,
    )

-- what was entered is a line of a command, with a word for each slot that has to have one
record IsWholeLine (met : Entered) : Type 0 where
  verb : FormVerb
  rows : List Row
  named_so : met ≡ Some (title verb, rows)
  whole_so : HasWords (slots_in verb) rows

leaf_line : (verb : FormVerb) (s : Shape) (words : List Text) → is_of verb s ≡ true
    → level_passes s [] nothing_held words false ≡ true → IsWholeLine (Some (rows_at s words))
leaf_line verb s words is e =
    let name = both (bytes_eq s.name (title verb)) _ is in
    let rules = both (list_all fills s.rules) _ name.1 in
    let negates = both (not s.subcommand_negates_reqs) _ rules.1 in
    let rows = rows_after s.rules [] words in
    let level = level_whole s [] words false rules.0 e in
    record {
      verb = verb;
      rows = rows;
      named_so = ap (λ (n : Text). Some (n, rows)) ((bytes_eq-Decides s.name (title verb)).0 name.0);
      whole_so = has_words (slots_in verb) s.rules rows level.filled
          (required_given s rows false (is_not s.subcommand_negates_reqs negates.0) level.valid) negates.1;
    }

entered_whole : (stop : Option (Text × List Text)) → entered_passes whole stop ≡ true
    → is_some (entered whole stop) ≡ true → IsWholeLine (entered whole stop)
entered_whole None e has = absurd (true≢false (sym has))
entered_whole (Some p) e has = go (find (λ s. answers_to p.0 (label_of s)) whole.subs) refl e has
  where
    go : (o : Option Shape) → find (λ s. answers_to p.0 (label_of s)) whole.subs ≡ o
        → option_map_or (λ s. level_passes s [] nothing_held p.1 false) o true ≡ true
        → is_some (option_map (λ s. rows_at s p.1) o) ≡ true → IsWholeLine (option_map (λ s. rows_at s p.1) o)
    go None found e has = absurd (true≢false (sym has))
    go (Some s) found e has = let fit = found_verb (λ s. answers_to p.0 (label_of s)) verbs whole.subs s found
        table_fits in leaf_line fit.0 s p.1 fit.1 e

taken_line : (words : List Text) → takes vmcache_app words ≡ true → IsWholeLine (subcommand_of vmcache_app words)
taken_line words e =
    let stop = stop_after whole.top.rules (names_of whole) words in
    let parts = both (entered_passes whole stop) _ (both (is_simple vmcache_app) _ e).1 in
    let level = level_whole whole.top (names_of whole) words (is_some (entered whole stop)) refl parts.1 in
    entered_whole stop parts.0 (both (is_some (entered whole stop)) _ level.valid).0

pub taken_is_whole : (words : List Text) → takes vmcache_app words ≡ true → HasLine words
taken_is_whole words e = let line = taken_line words e in record {
  verb = line.verb;
  rows = line.rows;
  named_so = line.named_so;
  whole_so = line.whole_so;
}

-- ---- what the reader answers

pub nothing_entered : (met : Entered) → None ≡ met → ReadsEntered met None
nothing_entered met is = λ verb rows e. absurd (let h : ◌≡◌ {A = Entered} None (Some (title verb, rows)) = is ∙ e in cc)

pub stranger : (met : Entered) (word : Text) (rows : List Row) → Some (word, rows) ≡ met → verb_at word ≡ None → ReadsEntered met None
stranger met word rows is none = λ verb others e.
    let name : word ≡ title verb = one_name met word (title verb) rows others (sym is) e in
    absurd (let h : ◌≡◌ {A = Option FormVerb} None (Some verb) = sym none ∙ ap verb_at name ∙ at_title verb in cc)

pub unread : (met : Entered) (word : Text) (rows : List Row) (verb : FormVerb) → Some (word, rows) ≡ met
    → verb_at word ≡ Some verb → HasUnfilled (slots_in verb) rows → ReadsEntered met None
unread met word rows verb is at unfilled = λ other others e.
    let name : title verb ≡ title other = sym (found_title word verb at) ∙ one_name met word (title other) rows others (sym is) e in
    let same : rows ≡ others = same_rows met word (title other) rows others (sym is) e in
    subst (λ (r : List Row). HasUnfilled (slots_in other) r) same
    (subst (λ (v : FormVerb). HasUnfilled (slots_in v) rows) (one_verb verb other name) unfilled)

pub read_line : (met : Entered) (word : Text) (rows : List Row) (verb : FormVerb) (meanings : List Meaning)
    (command : Command) → Some (word, rows) ≡ met → verb_at word ≡ Some verb → AreFilled (slots_in verb) rows meanings
    → line_of command ≡ (verb, meanings) → ReadsEntered met (Some command)
read_line met word rows verb meanings command is at filled line =
    let enters : Enters met verb meanings = record {
      rows = rows;
      named_so = sym is ∙ ap (λ (n : Text). Some (n, rows)) (found_title word verb at);
      filled = filled;
    } in
    subst (λ (l : FormVerb × List Meaning). Enters met l.0 l.1) (sym line) enters

-- where clap takes the words and no command was read of them, a word is none of its slot's kind
pub none_is_odd : (words : List Text) → takes vmcache_app words ≡ true → (met : Entered)
    → met ≡ subcommand_of vmcache_app words → ReadsEntered met None → WhyRefused words
none_is_odd words e met is none = go (first_of (slot_text u.slot) line.rows) refl u.unfilled
  where
    line : HasLine words
    line = taken_is_whole words e

    u : HasUnfilled (slots_in line.verb) line.rows
    u = none line.verb line.rows (is ∙ line.named_so)

    go : (o : Option Text) → first_of (slot_text u.slot) line.rows ≡ o → IsUnfilled u.slot o → WhyRefused words
    go (Some text) found odd = odd_word line.verb (record {
      taken = e;
      rows = line.rows;
      named_so = line.named_so;
      slot = u.slot;
      among = u.among;
      text = text;
      found = found;
      odd = odd;
    })
    go None found needed =
        let has = each_at (λ (slot : FormSlot). is_needed (place_in slot) ≡ true
        → (text : Text) × (first_of (slot_text slot) line.rows ≡ Some text)) (slots_in line.verb) u.slot u.among.0
        u.among.1 u.among.2 line.whole_so needed in
        absurd (let h : ◌≡◌ {A = Option Text} None (Some has.0) = sym found ∙ has.1 in cc)
