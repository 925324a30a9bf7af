-- Where a host tells, a file has one list of bytes, and where devices tell, one list of pages: so a test that passes fails only where the file was
-- not read, and a test that fails has one status.
use Rattle.std.proofs.Common.{◌≡◌, ◌≢◌, ◌∙◌, ℕ, ◌*◌, ◌<◌, ◌≤◌, ◌^◌, Bool, false, true, true≢false, length, List, []}
use Rattle.std.proofs.Common.{◌∷◌, Option, Some, refl, sym, ap, subst}
use Rattle.std.proofs.Common.{arith}
use Rattle.std.specs.Option.{option_map_or}
use Rattle.vm_io.specs.Shown.{Shown}
use Rattle.vm_device.specs.Devices.{size_of}
use Rattle.vm_bytes_script.specs.KeyScripts.{key_grammar}
use Rattle.vm_bytes_script.proofs.KeyLines.{tells as keys-tell}
use Rattle.vm_script.specs.{Orders.Grammar, Orders.most_bytes, Orders.TellsCalls, Scripts.word_grammar}
use Rattle.vm_script.proofs.{Orders.lacks_call, Orders.one_call, Readings.not_both}
use Rattle.vm_script.proofs.EventReadings.{not_both as not_both_events}
use Rattle.vm_file_serve.specs.from_vm_endings.declared_stop_Stop.{Stop}
use Rattle.vm_file_serve.specs.from_vm_endings.declared_stop_Stop_TheVariants.{Shape, Unread, Length, Page, TooFew, Long, Line}
use Rattle.vm_file_serve.specs.from_vm_bytes_file.KeyFiles.{is_key_file}
use Rattle.vm_file_serve.specs.from_vm_endings.AnyFiles.{IsBadScriptWith, IsGoodScriptWith}
use Rattle.vm_file_serve.specs.from_vm_endings.Files.{HasFile}
use Rattle.vm_file_serve.specs.from_vm_endings.Held.{HasFilePages, pages_held}
use Rattle.vm_file_serve.specs.from_vm_endings.Outside.{Outside, Remains, with_shown}
use Rattle.vm_file_serve.specs.from_vm_endings.Scripts.{IsBadScriptIn, IsGoodScriptIn}
use Rattle.vm_file_serve.specs.from_vm_endings.Stops.{status_of}
use Rattle.vm_file_serve.specs.from_vm_endings.Tests.{AllPass, any_image, Fails, Passes, StopsAt, Test, depth, events, here}
use Rattle.vm_file_serve.specs.from_vm_endings.Tests.{image, past, room, run_script, script, space, stored}
use Rattle.vm_file_serve.specs.from_vm_endings.Tests.{stored_depth, within}

-- a call with words as keys is one line, and a text is that of one call
words-tell : TellsCalls word_grammar
words-tell = record { one_line = lacks_call; one_call = one_call }

-- the same outside, where the host tells and shows this
abbrev pub over : Shown → Outside → Outside
over shown outside = with_shown outside (Some shown)

-- devices tell, and hold the same files
pub record HoldSame (a b : Outside) : Type 0 where
  pub first : a.tells ≡ true
  pub second : b.tells ≡ true
  pub files : b.devices.files ≡ a.devices.files

pub held_back : (a b : Outside) → HoldSame a b → HoldSame b a
held_back a b same = record { first = same.second; second = same.first; files = sym same.files }

some_same : {X : Type 0} (o : Option X) (x y : X) → o ≡ Some x → o ≡ Some y → x ≡ y
some_same {X = X} o x y p q = ap (λ (v : Option X). option_map_or (λ (z : X). z) v x) (sym p ∙ q)

-- what holds of a file's bytes, and what else does, hold of the same bytes
pub both_of : (shown : Shown) (name : List ℕ) (P Q : List ℕ → Type 0) → HasFile (Some shown) name P
    → HasFile (Some shown) name Q → (bytes : List ℕ) × P bytes × Q bytes
both_of shown name P Q p q =
    let same : p.0 ≡ q.0 = some_same (shown.files name) p.0 q.0 p.1 q.1 in
    (q.0, subst P same p.2, q.2)

-- so it is of a file's pages
pub both_held : (a b : Outside) (name : List ℕ) (P Q : List (List ℕ) → Type 0) → HoldSame a b → HasFilePages a name P
    → HasFilePages b name Q → (pages : List (List ℕ)) × P pages × Q pages
both_held a b name P Q same p q =
    let first : pages_held a.devices.files name ≡ Some p.0 = p.1.held same.first in
    let second : pages_held a.devices.files name ≡ Some q.0 =
    subst (λ files. pages_held files name ≡ Some q.0) same.files (q.1.held same.second) in
    let are : p.0 ≡ q.0 = some_same (pages_held a.devices.files name) p.0 q.0 first second in
    (q.0, subst P are p.2, q.2)

-- the workers of a script are numbers of 32 bits; a test of pages that devices hold is of the same
abbrev pub IsBounded : Outside → Outside → Test → Type 0
IsBounded a b (within quantity holds) = Unit {0}
IsBounded a b (room words pages pairs) = Unit {0}
IsBounded a b (space pages name) = Unit {0}
IsBounded a b (image name) = Unit {0}
IsBounded a b (any_image name) = Unit {0}
IsBounded a b (depth frames name) = Unit {0}
IsBounded a b (stored name) = HoldSame a b
IsBounded a b (stored_depth frames name) = HoldSame a b
IsBounded a b (script name workers) = workers < 2 ^ 32
IsBounded a b (run_script tree name workers) = workers < 2 ^ 32
IsBounded a b (events name) = Unit {0}

bounded_back : (a b : Outside) (test : Test) → IsBounded a b test → IsBounded b a test
bounded_back a b (within quantity holds) is = tt
bounded_back a b (room words pages pairs) is = tt
bounded_back a b (space pages name) is = tt
bounded_back a b (image name) is = tt
bounded_back a b (any_image name) is = tt
bounded_back a b (depth frames name) is = tt
bounded_back a b (stored name) is = held_back a b is
bounded_back a b (stored_depth frames name) is = held_back a b is
bounded_back a b (script name workers) is = is
bounded_back a b (run_script tree name workers) is = is
bounded_back a b (events name) is = tt

-- of each test that is asked
abbrev pub AreBounded : Shown → Outside → Outside → List Test → Type 0
AreBounded shown a b [] = Unit {0}
AreBounded shown a b (test ∷ tests) = IsBounded a b test × (Passes (over shown a) test → AreBounded shown a b tests)

-- ---- a test that passes fails only where the file was not read

-- a script is no bad one
not_bad : {C : Type 0} (grammar : Grammar C) → TellsCalls grammar → (workers n : ℕ) (bytes : List ℕ) → workers < 2 ^ 32
    → IsGoodScriptIn grammar workers bytes → IsBadScriptIn grammar workers n bytes → ⊥
not_bad grammar tells workers n bytes few good bad =
    not_both grammar tells workers bytes good.1.reads.orders n few good.1.reads.spells bad.first

not_bad_with : (has_keys : Bool) (workers n : ℕ) (bytes : List ℕ) → workers < 2 ^ 32
    → IsGoodScriptWith has_keys workers bytes → IsBadScriptWith has_keys workers n bytes → ⊥
not_bad_with true workers n bytes few good bad = not_bad key_grammar keys-tell workers n bytes few good bad
not_bad_with false workers n bytes few good bad = not_bad word_grammar words-tell workers n bytes few good bad

-- nor is it too long
short_with : (has_keys : Bool) (workers : ℕ) (bytes : List ℕ) → IsGoodScriptWith has_keys workers bytes
    → length bytes ≤ most_bytes
short_with true workers bytes good = good.1.short
short_with false workers bytes good = good.1.short

module _ (shown : Shown) (a b : Outside) (left : Remains) where
  read_image : (name : List ℕ) (stop : Stop) → Passes (over shown a) (image name)
      → Fails (over shown b) left (image name) stop → status_of stop ≡ 2
  read_image name (Unread unread) p f = refl
  read_image name (Length told) p f = let b = both_of shown name _ _ p f in absurd (b.2.none b.1.file)
  read_image name (Page page why) p f = let b = both_of shown name _ _ p f in absurd (b.2.none b.1.tree)
  read_image name _ p f = absurd f

  read_any : (name : List ℕ) (stop : Stop) → Passes (over shown a) (any_image name)
      → Fails (over shown b) left (any_image name) stop → status_of stop ≡ 2
  read_any name (Unread unread) p f = refl
  read_any name (Length told) p f = let b = both_of shown name _ _ p f in absurd (b.2.none b.1.file)
  read_any name (Page page why) p f = let b = both_of shown name _ _ p f in absurd (b.2.none b.1.tree)
  read_any name _ p f = absurd f

  read_script : (name : List ℕ) (workers : ℕ) (stop : Stop) → workers < 2 ^ 32
      → Passes (over shown a) (script name workers) → Fails (over shown b) left (script name workers) stop
      → status_of stop ≡ 2
  read_script name workers (Unread unread) few p f = refl
  read_script name workers (Long lines) few p f =
      let b = both_of shown name _ _ p f.1 in absurd (omega (arith, b.1.1.short, b.2))
  read_script name workers (Line lines n) few p f =
      let b = both_of shown name _ _ p f.1 in absurd (not_bad word_grammar words-tell workers n b.0 few b.1 b.2)
  read_script name workers _ few p f = absurd f

  read_run_script : (tree name : List ℕ) (workers : ℕ) (stop : Stop) → workers < 2 ^ 32
      → Passes (over shown a) (run_script tree name workers)
      → Fails (over shown b) left (run_script tree name workers) stop → status_of stop ≡ 2
  read_run_script tree name workers (Unread unread) few p f = refl
  read_run_script tree name workers (Long lines) few p f =
      let b = both_of shown name _ _ p.2 f.1 in
      absurd (omega (arith, short_with (is_key_file p.0) workers b.0 b.1, b.2))
  read_run_script tree name workers (Line lines n) few p f =
      let i = both_of shown tree _ _ p f.1 in
      let b = both_of shown name _ _ i.1 i.2 in
      absurd (not_bad_with (is_key_file i.0) workers n b.0 few b.1 b.2)
  read_run_script tree name workers _ few p f = absurd f

  read_events : (name : List ℕ) (stop : Stop) → Passes (over shown a) (events name)
      → Fails (over shown b) left (events name) stop → status_of stop ≡ 2
  read_events name (Unread unread) p f = refl
  read_events name (Long lines) p f = let b = both_of shown name _ _ p f.1 in absurd (omega (arith, b.1.3.short, b.2))
  read_events name (Line lines n) p f =
      let b = both_of shown name _ _ p f.1 in absurd (not_both_events b.0 b.1.0 b.1.1 b.1.2 n b.1.3.spells b.2.first)
  read_events name _ p f = absurd f

  read_stored : (name : List ℕ) (stop : Stop) → HoldSame a b → Passes (over shown a) (stored name)
      → Fails (over shown b) left (stored name) stop → status_of stop ≡ 2
  read_stored name (Unread unread) same p f = refl
  read_stored name (Length told) same p f =
      let first : size_of a.devices.files name ≡ Some (512 * length p.0) = p.1.size same.first in
      let second : size_of a.devices.files name ≡ Some told =
      subst (λ files. size_of files name ≡ Some told) same.files (f.size same.second) in
      let are : told ≡ 512 * length p.0 = some_same (size_of a.devices.files name) told (512 * length p.0) second first in
      absurd (f.none (length p.0, p.1.some, p.1.most, are))
  read_stored name (Page page why) same p f =
      let t = both_held (over shown a) (over shown b) name _ _ (record {
        first = same.first;
        second = same.second;
        files = same.files;
      }) p f in
      absurd (t.2.none t.1)
  read_stored name _ same p f = absurd f

  unread_only : (test : Test) (stop : Stop) → IsBounded a b test → Passes (over shown a) test
      → Fails (over shown b) left test stop → status_of stop ≡ 2
  unread_only (within quantity holds) (Shape other) few p f = absurd (true≢false (sym p ∙ f.0))
  unread_only (within quantity holds) _ few p f = absurd f
  unread_only (room words pages pairs) (TooFew told wanted) few p f = absurd (omega (arith, p, f.0))
  unread_only (room words pages pairs) _ few p f = absurd f
  unread_only (space pages name) (TooFew told wanted) few p f =
      let b = both_of shown name _ _ p f.1 in absurd (omega (arith, b.1, b.2.0))
  unread_only (space pages name) _ few p f = absurd f
  unread_only (image name) stop few p f = read_image name stop p f
  unread_only (any_image name) stop few p f = read_any name stop p f
  unread_only (depth frames name) (Shape other) few p f =
      let b = both_of shown name _ _ p f.1 in absurd (true≢false (sym b.1 ∙ b.2))
  unread_only (depth frames name) _ few p f = absurd f
  unread_only (stored name) stop few p f = read_stored name stop few p f
  unread_only (stored_depth frames name) (Shape other) few p f =
      let t = both_held (over shown a) (over shown b) name _ _ (record {
        first = few.first;
        second = few.second;
        files = few.files;
      }) p f.1 in
      absurd (true≢false (sym t.1 ∙ t.2))
  unread_only (stored_depth frames name) _ few p f = absurd f
  unread_only (script name workers) stop few p f = read_script name workers stop few p f
  unread_only (run_script tree name workers) stop few p f = read_run_script tree name workers stop few p f
  unread_only (events name) stop few p f = read_events name stop p f

  -- tests that all pass stop nothing but where a file was not read
  pub stop_unread : (tests : List Test) (stop : Stop) → AreBounded shown a b tests → AllPass (over shown a) tests
      → StopsAt (over shown b) left tests stop → status_of stop ≡ 2
  stop_unread [] stop few all at = elim at [ ]
  stop_unread (test ∷ tests) stop few all (here fails) = unread_only test stop few.0 all.0 fails
  stop_unread (test ∷ tests) stop few all (past passes more) = stop_unread tests stop (few.1 all.0) all.1 more

-- ---- a test that fails has one status

abbrev status_in : Test → ℕ
status_in (within quantity holds) = 5
status_in (room words pages pairs) = 4
status_in (space pages name) = 4
status_in (image name) = 4
status_in (any_image name) = 4
status_in (depth frames name) = 5
status_in (stored name) = 4
status_in (stored_depth frames name) = 5
status_in (script name workers) = 5
status_in (run_script tree name workers) = 5
status_in (events name) = 5

one_status : (outside : Outside) (left : Remains) (test : Test) (stop : Stop) → Fails outside left test stop
    → status_of stop ≢ 2 → status_of stop ≡ status_in test
one_status outside left (within quantity holds) (Shape other) f read = refl
one_status outside left (within quantity holds) _ f read = absurd f
one_status outside left (room words pages pairs) (TooFew told wanted) f read = refl
one_status outside left (room words pages pairs) _ f read = absurd f
one_status outside left (space pages name) (TooFew told wanted) f read = refl
one_status outside left (space pages name) _ f read = absurd f
one_status outside left (image name) (Unread unread) f read = absurd (read refl)
one_status outside left (image name) (Length told) f read = refl
one_status outside left (image name) (Page page why) f read = refl
one_status outside left (image name) _ f read = absurd f
one_status outside left (any_image name) (Unread unread) f read = absurd (read refl)
one_status outside left (any_image name) (Length told) f read = refl
one_status outside left (any_image name) (Page page why) f read = refl
one_status outside left (any_image name) _ f read = absurd f
one_status outside left (depth frames name) (Shape other) f read = refl
one_status outside left (depth frames name) _ f read = absurd f
one_status outside left (stored name) (Unread unread) f read = absurd (read refl)
one_status outside left (stored name) (Length told) f read = refl
one_status outside left (stored name) (Page page why) f read = refl
one_status outside left (stored name) _ f read = absurd f
one_status outside left (stored_depth frames name) (Shape other) f read = refl
one_status outside left (stored_depth frames name) _ f read = absurd f
one_status outside left (script name workers) (Unread unread) f read = absurd (read refl)
one_status outside left (script name workers) (Long lines) f read = refl
one_status outside left (script name workers) (Line lines n) f read = refl
one_status outside left (script name workers) _ f read = absurd f
one_status outside left (run_script tree name workers) (Unread unread) f read = absurd (read refl)
one_status outside left (run_script tree name workers) (Long lines) f read = refl
one_status outside left (run_script tree name workers) (Line lines n) f read = refl
one_status outside left (run_script tree name workers) _ f read = absurd f
one_status outside left (events name) (Unread unread) f read = absurd (read refl)
one_status outside left (events name) (Long lines) f read = refl
one_status outside left (events name) (Line lines n) f read = refl
one_status outside left (events name) _ f read = absurd f

-- the first test that fails is one test, where each file was read
pub one_stop : (shown : Shown) (a b : Outside) (left last : Remains) (tests : List Test) (stop other : Stop)
    → AreBounded shown a b tests → StopsAt (over shown a) left tests stop → StopsAt (over shown b) last tests other
    → status_of stop ≢ 2 → status_of other ≢ 2 → status_of stop ≡ status_of other
one_stop shown a b left last [] stop other few at also read put = elim at [ ]
one_stop shown a b left last (test ∷ tests) stop other few (here f) (here g) read also =
    one_status (over shown a) left test stop f read ∙ sym (one_status (over shown b) last test other g also)
one_stop shown a b left last (test ∷ tests) stop other few (here f) (past p more) read also =
    absurd (read (unread_only shown b a left test stop (bounded_back a b test few.0) p f))
one_stop shown a b left last (test ∷ tests) stop other few (past p more) (here g) read also =
    absurd (also (unread_only shown a b last test other few.0 p g))
one_stop shown a b left last (test ∷ tests) stop other few (past p more) (past q rest) read also =
    one_stop shown a b left last tests stop other (few.1 p) more rest read also

-- no stop has status 0
pub stop_status : (stop : Stop) → status_of stop ≢ 0
stop_status (Shape quantity) = λ e. absurd cc
stop_status (Unread name) = λ e. absurd cc
stop_status (Length len) = λ e. absurd cc
stop_status (Page page why) = λ e. absurd cc
stop_status (TooFew pages needed) = λ e. absurd cc
stop_status (Long lines) = λ e. absurd cc
stop_status (Line lines n) = λ e. absurd cc
