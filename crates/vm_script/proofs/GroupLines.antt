-- Group lines: the text of one, lists of groups that fit, and group lines with event lines behind them.
use Rattle.std.specs.Fmt.{decimal}
use Rattle.std.specs.List.{AllByRecursion, flat_map}
use Rattle.std.proofs.Common.{[], ◌++◌, ◌+◌, ◌<◌, ◌^◌, ◌∙◌, ◌∷◌, ◌≡◌, ◌≢◌, ◌≤◌, ap, append_assoc, arith, codes, drop}
use Rattle.std.proofs.Common.{length, List, lit<, map, refl, subst, sym, ℕ}
use Rattle.std.proofs.lemmas.List.{length-map}
use Rattle.vm_event.specs.Groups.{ShareNoPage, GroupsFit, IsGroup}
use Rattle.vm_event.specs.declared.event.CoreShape.{CoreShape}
use Rattle.vm_script.specs.{Cuts.IsCut, Cuts.Lacks, declared.event_line.EventLine.EventLine}
use Rattle.vm_script.specs.{declared.event_line.FieldKind.FieldKind, declared.event_line.FieldKind.TheVariants.Count}
use Rattle.vm_script.specs.{declared.list_line.ListLine.ListLine}
use Rattle.vm_script.specs.{Events.lines_text, EventWords.AreSmall, ListLines.IsNextLine, ListLines.list_line_text}
use Rattle.vm_script.specs.{Verbs.kinds_of, Verbs.verb_name}
use Rattle.vm_script.specs.declared.list_line.ListLine.TheVariants.{Event, Group}
use Rattle.vm_script.specs.EventLines.{AreFields, event_line_text, fields_text, form, group_text, IsEventLine, IsShape}
use Rattle.vm_script.proofs.{EventForms.one_event, EventTexts.lacks_line, EventTexts.largest, EventTexts.largest_is}
use Rattle.vm_script.proofs.{FieldLists.lacks_fields, FieldLists.one_list, VerbNames.lacks_verb, VerbNames.not_group}
use Rattle.vm_script.proofs.Words.{cut_here, each_append, one_cut}

-- ---- the text of one

abbrev pub counts : List FieldKind
counts = Count ∷ Count ∷ []

abbrev pub numbers : ℕ × ℕ → List ℕ
numbers group = group.0 ∷ group.1 ∷ []

pub are_counts : (any : CoreShape) (group : ℕ × ℕ) → AreSmall group → AreFields any counts (numbers group)
are_counts any group small = (small.0, (small.1, tt))

group_word : Lacks 32 (codes "group")
group_word = (λ e. omega arith, (λ e. omega arith, (λ e. omega arith, (λ e. omega arith, (λ e. omega arith, tt)))))

pub cut_group : (bytes word rest : List ℕ) (group : ℕ × ℕ) → IsCut bytes 32 word rest → bytes ≡ group_text group
    → (word ≡ codes "group") × (rest ≡ fields_text counts (numbers group))
cut_group bytes word rest group cut e =
    cut_here bytes 32 word rest (codes "group") (fields_text counts (numbers group)) cut group_word e

pub lacks_group : (group : ℕ × ℕ) → AreSmall group → Lacks 10 (group_text group)
lacks_group group small =
    each_append (λ b. b ≢ 10) (codes "group") (32 ∷ fields_text counts (numbers group))
    (λ e. omega arith, (λ e. omega arith, (λ e. omega arith, (λ e. omega arith, (λ e. omega arith, tt)))))
    (λ e. omega arith, lacks_fields largest counts (numbers group) largest_is (are_counts largest group small))

same_group : (one other : ℕ × ℕ) → numbers one ≡ numbers other → one ≡ other
same_group one other e =
    let h : one.0 ≡ other.0 = cc in
    let g : one.1 ≡ other.1 = cc in
    λ i. (h i, g i)

-- two groups with one text are one
pub one_group : (one other : ℕ × ℕ) → AreSmall one → AreSmall other → group_text one ≡ group_text other → one ≡ other
one_group one other small small' e =
    same_group one other (one_list largest counts (numbers one) (numbers other) largest_is (are_counts largest one small)
    (are_counts largest other small') (ap (λ (l : List ℕ). drop 6 l) e))

-- no event has it
no_event : (group : ℕ × ℕ) (line : EventLine) → group_text group ≢ event_line_text line
no_event group line e =
    not_group (form line).0
    (one_cut 32 (codes "group") (fields_text counts (numbers group)) (verb_name (form line).0)
    (fields_text (kinds_of (form line).0) (form line).1) group_word (lacks_verb 32 (form line).0 (lit< tt)) e).0

-- ---- groups that fit

pub small_group : (pages : ℕ) (group : ℕ × ℕ) → pages < 2 ^ 32 → IsGroup pages group → AreSmall group
small_group pages group small is = (omega (arith, is.inside), omega (arith, is.inside))

each_front : {X : Type 0} (P : X → Type 0) (xs ys : List X) → AllByRecursion P (xs ++ ys) → AllByRecursion P xs
each_front P [] ys h = tt
each_front P (x ∷ xs) ys h = (h.0, each_front P xs ys h.1)

fit_front : (pages : ℕ) (gs hs : List (ℕ × ℕ)) → GroupsFit pages (gs ++ hs) → GroupsFit pages gs
fit_front pages [] hs fit = tt
fit_front pages (g ∷ gs) hs fit = (fit.0, each_front (ShareNoPage g) gs hs fit.1, fit_front pages gs hs fit.2)

-- one more, which is apart from each
pub record IsBeside (pages : ℕ) (groups : List (ℕ × ℕ)) (group : ℕ × ℕ) : Type 0 where
  pub is : IsGroup pages group
  pub apart : AllByRecursion (λ other. ShareNoPage other group) groups

pub fit_more : (pages : ℕ) (groups : List (ℕ × ℕ)) (group : ℕ × ℕ) → GroupsFit pages groups → IsBeside pages groups group
    → GroupsFit pages (groups ++ group ∷ [])
fit_more pages [] group fit beside = (beside.is, tt, tt)
fit_more pages (g ∷ gs) group fit beside = (
  fit.0,
  each_append (ShareNoPage g) gs (group ∷ []) fit.1 (beside.apart.0, tt),
  fit_more pages gs group fit.2 (record { is = beside.is; apart = beside.apart.1 }),
)

pub fit_last : (pages : ℕ) (groups : List (ℕ × ℕ)) (group : ℕ × ℕ) → GroupsFit pages (groups ++ group ∷ []) → IsBeside pages groups group
fit_last pages [] group fit = record { is = fit.0; apart = tt }
fit_last pages (g ∷ gs) group fit =
    let rest = fit_last pages gs group fit.2 in
    record { is = rest.is; apart = (last_of gs fit.1, rest.apart) }
  where
    last_of : (xs : List (ℕ × ℕ)) → AllByRecursion (ShareNoPage g) (xs ++ group ∷ []) → ShareNoPage g group
    last_of [] h = h.0
    last_of (x ∷ xs) h = last_of xs h.1

-- ---- group lines, and event lines behind them

abbrev pub list_lines : List (ℕ × ℕ) → List EventLine → List ListLine
list_lines groups lines = map Group groups ++ map Event lines

-- a line that may stand somewhere behind the shape's
abbrev pub IsListLine : CoreShape → ListLine → Type 0
IsListLine shape (Group group) = IsGroup shape.pages group
IsListLine shape (Event line) = IsEventLine shape line

-- each with its line feed
abbrev pub ended : List ListLine → List ℕ
ended lines = flat_map (λ line. list_line_text line ++ 10 ∷ []) lines

events_ended : (lines : List EventLine) → ended (map Event lines) ≡ flat_map (λ line. event_line_text line ++ 10 ∷ []) lines
events_ended [] = refl
events_ended (line ∷ lines) = ap (λ (l : List ℕ). (event_line_text line ++ 10 ∷ []) ++ l) (events_ended lines)

pub lines_ended : (groups : List (ℕ × ℕ)) (lines : List EventLine) → ended (list_lines groups lines) ≡ lines_text groups lines
lines_ended [] lines = events_ended lines
lines_ended (group ∷ groups) lines =
    ap (λ (l : List ℕ). (group_text group ++ 10 ∷ []) ++ l) (lines_ended groups lines)
    ∙ sym (append_assoc (group_text group ++ 10 ∷ []) (flat_map (λ g. group_text g ++ 10 ∷ []) groups)
    (flat_map (λ line. event_line_text line ++ 10 ∷ []) lines))

pub length_lines : (groups : List (ℕ × ℕ)) (lines : List EventLine) → length (list_lines groups lines) ≡ length groups + length lines
length_lines [] lines = omega (arith, length-map lines Event)
length_lines (group ∷ groups) lines = omega (arith, length_lines groups lines)

events_are : (shape : CoreShape) (lines : List EventLine) → AllByRecursion (IsEventLine shape) lines
    → AllByRecursion (IsListLine shape) (map Event lines)
events_are shape [] each = tt
events_are shape (line ∷ lines) each = (each.0, events_are shape lines each.1)

pub lines_are : (shape : CoreShape) (groups : List (ℕ × ℕ)) (lines : List EventLine) → GroupsFit shape.pages groups
    → AllByRecursion (IsEventLine shape) lines → AllByRecursion (IsListLine shape) (list_lines groups lines)
lines_are shape [] lines fit each = events_are shape lines each
lines_are shape (group ∷ groups) lines fit each = (fit.0, lines_are shape groups lines fit.2 each)

pub lacks_list_line : (shape : CoreShape) → IsShape shape → (line : ListLine) → IsListLine shape line → Lacks 10 (list_line_text line)
lacks_list_line shape s (Group group) is = lacks_group group (small_group shape.pages group (omega (arith, s.pages)) is)
lacks_list_line shape s (Event line) is = lacks_line shape line s is

pub one_list_line : (shape : CoreShape) → IsShape shape → (a b : ListLine) → IsListLine shape a → IsListLine shape b
    → list_line_text a ≡ list_line_text b → a ≡ b
one_list_line shape s (Group g) (Group h) is is' e =
    let small : shape.pages < 2 ^ 32 = omega (arith, s.pages) in
    ap Group (one_group g h (small_group shape.pages g small is) (small_group shape.pages h small is') e)
one_list_line shape s (Group g) (Event line) is is' e = absurd (no_event g line e)
one_list_line shape s (Event line) (Group g) is is' e = absurd (no_event g line (sym e))
one_list_line shape s (Event a) (Event b) is is' e = ap Event (one_event shape s a b is is' e)

-- groups and events are those of their lines
same_events : (a b : List EventLine) → map Event a ≡ map Event b → a ≡ b
same_events [] [] e = refl
same_events [] (y ∷ b) e = absurd (cc)
same_events (x ∷ a) [] e = absurd (cc)
same_events (x ∷ a) (y ∷ b) e =
    let first : x ≡ y = cc in
    let rest : map Event a ≡ map Event b = cc in
    let all = same_events a b rest in
    cc (first, all)

pub same_lines : (gs hs : List (ℕ × ℕ)) (a b : List EventLine) → list_lines gs a ≡ list_lines hs b → (gs ≡ hs) × (a ≡ b)
same_lines [] [] a b e = (refl, same_events a b e)
same_lines [] (h ∷ hs) [] b e = absurd (cc)
same_lines [] (h ∷ hs) (x ∷ a) b e = absurd (cc)
same_lines (g ∷ gs) [] a [] e = absurd (cc)
same_lines (g ∷ gs) [] a (y ∷ b) e = absurd (cc)
same_lines (g ∷ gs) (h ∷ hs) a b e =
    let first : g ≡ h = cc in
    let rest : list_lines gs a ≡ list_lines hs b = cc in
    let all = same_lines gs hs a b rest in
    (cc (first, all.0), all.1)

-- a group stands among group lines alone
no_group_among : (a b : List EventLine) (g : ℕ × ℕ) (more : List ListLine) → map Event b ≡ (map Event a ++ Group g ∷ []) ++ more → ⊥
no_group_among [] [] g more e = cc
no_group_among [] (y ∷ b) g more e = cc
no_group_among (x ∷ a) [] g more e = cc
no_group_among (x ∷ a) (y ∷ b) g more e = no_group_among a b g more (cc)

record GroupAt (gs hs : List (ℕ × ℕ)) (a : List EventLine) (g : ℕ × ℕ) : Type 0 where
  none : a ≡ []
  more : List (ℕ × ℕ)
  longer : hs ≡ (gs ++ g ∷ []) ++ more

group_at : (gs hs : List (ℕ × ℕ)) (a b : List EventLine) (g : ℕ × ℕ) (more : List ListLine)
    → list_lines hs b ≡ (list_lines gs a ++ Group g ∷ []) ++ more → GroupAt gs hs a g
group_at [] [] a b g more e = absurd (no_group_among a b g more e)
group_at [] (h ∷ hs) [] b g more e =
    let first : h ≡ g = cc in
    record { none = refl; more = hs; longer = ap (λ (x : ℕ × ℕ). x ∷ hs) first }
group_at [] (h ∷ hs) (x ∷ a) b g more e = absurd (cc)
group_at (x ∷ gs) [] a [] g more e = absurd (cc)
group_at (x ∷ gs) [] a (y ∷ b) g more e = absurd (cc)
group_at (x ∷ gs) (h ∷ hs) a b g more e =
    let first : h ≡ x = cc in
    let rest : list_lines hs b ≡ (list_lines gs a ++ Group g ∷ []) ++ more = cc in
    let all = group_at gs hs a b g more rest in
    record { none = all.none; more = all.more; longer = cc (first, all.longer) }

-- the next line of a good list may stand behind those before it
pub next_line : (shape : CoreShape) (gs hs : List (ℕ × ℕ)) (a b : List EventLine) (line : ListLine) (more : List ListLine)
    → GroupsFit shape.pages hs → IsListLine shape line → list_lines hs b ≡ (list_lines gs a ++ line ∷ []) ++ more
    → IsNextLine shape gs a line
next_line shape gs hs a b (Event line) more fit is longer = is
next_line shape gs hs a b (Group g) more fit is longer =
    let there = group_at gs hs a b g more longer in
    (there.none, fit_front shape.pages (gs ++ g ∷ []) there.more (subst (GroupsFit shape.pages) there.longer fit))
