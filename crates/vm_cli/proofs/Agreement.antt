-- What any two endings of one command line have in common, how valid input ends, what status 0 says of any ending, and what remains of devices.
use Rattle.std.proofs.Common.{◌≡◌, ◌≢◌, inl, inr, ◌∙◌, ℕ, List, Option, Some, sym, ap, subst, refl, arith}
use Rattle.vm_io.specs.Causes.{FailedGive, Rose}
use Rattle.vm_io.specs.Shown.{Shown}
use Rattle.vm_io.specs.declared.host.GiveFaults.{GiveFaults}
use Rattle.vm_device.specs.Devices.{DeviceState, size_of, words_at}
use Rattle.vm_words.specs.declared.Command.{Command}
use Rattle.vm_words.specs.declared.Command.TheVariants.{Run, Make, Check, Churn, Replay, Migrate, Serve, MakeBytes}
use Rattle.vm_words.specs.declared.Serve.{Serve as ServeLine}
use Rattle.vm_words.specs.declared.form.FormVerb.{FormVerb}
use Rattle.vm_words.specs.Commands.{IsCommand, line_of}
use Rattle.vm_words.specs.Values.{Meaning}
use Rattle.vm_words.proofs.Lines.{one_command}
use Rattle.vm_file_serve.specs.from_vm_endings.declared_ends_Ends.{Ends}
use Rattle.vm_cli.specs.Agreement.{AgreesWithOthers, DevicesServe, IsComplete, IsDoneStatus, IsSameFor, IsSettledStatus, as_done}
use Rattle.vm_file_serve.specs.from_vm_endings.Commands.{IsSmooth, order_of}
use Rattle.vm_file_serve.specs.from_vm_endings.Deliveries.{Content, IsDelivered, WentOut, line, text_cut, unwritten, whole}
use Rattle.vm_file_serve.specs.from_vm_endings.Endings.{ChangesDevices, CommandEnds, IsHeadline, ProgramEnds}
use Rattle.vm_file_serve.specs.from_vm_endings.Endings.{UnreadBy, UnreadCause, UsesDevices}
use Rattle.vm_file_serve.specs.from_vm_endings.Endings.{command, cut, done, exhausted, stopped, told, unable, usage}
use Rattle.vm_file_serve.specs.from_vm_endings.Outside.{ChangesJust, Outside, Remains, with_shown}
use Rattle.vm_file_serve.specs.from_vm_endings.Tests.{AllPass, StopsAt, Test}
use Rattle.vm_cli.proofs.OneLine.{HaveSame, bounded, cut_done, cut_not_done, done_status, one_ending, same_order, two_lines}
use Rattle.vm_cli.proofs.OneStop.{held_back, one_stop, over, stop_status, stop_unread}

-- what went out has its status, or 3
delivered_status : (content : Content) (old new : Option Shown) (status : ℕ) → IsDelivered content old new status
    → status ≢ 3 → status ≡ content.status
delivered_status content old new status (whole written w s e) put = e
delivered_status content old new status (unwritten f same e) put = absurd (put e)
delivered_status content old new status (text_cut written w l s e) put = absurd (put e)

went_out : (content : Content) (old new : Option Shown) (status : ℕ) → IsDelivered content old new status → status ≢ 3
    → WentOut content old new
went_out content old new status (whole written w s e) put = record { written = written; wrote = w; said = s }
went_out content old new status (unwritten f same e) put = absurd (put e)
went_out content old new status (text_cut written w l s e) put = absurd (put e)

-- ---- status 0

command_headline : (words : List (List ℕ)) (c : Command) (outside : Outside) (left : Remains) (new : Option Shown)
    (before after : Ends) (status : ℕ) → IsCommand words c → CommandEnds c outside left new before after status
    → status ≡ 0 → IsHeadline words outside left new before after
command_headline words c outside left new before after status is (done content pass (told t e) out) zero =
    record {
      command = c;
      named = is;
      content = content;
      told = t;
      out = went_out content outside.shown new status out (λ three. omega (arith, zero, three));
    }
command_headline words c outside left new before after status is (done content pass (cut t) out) zero =
    let full = delivered_status content outside.shown new status out (λ three. omega (arith, zero, three)) in
    absurd (cut_not_done outside left c content before after t (sym full ∙ zero))
command_headline words c outside left new before after status is (stopped stop at same kept out) zero =
    let full = delivered_status _ outside.shown new status out (λ three. omega (arith, zero, three)) in
    absurd (stop_status stop (sym full ∙ zero))
command_headline words c outside left new before after status is (unable shown same six) zero = absurd (omega (arith, six, zero))

-- status 0 comes where what was asked for was done and went out
pub headline : (words : List (List ℕ)) (outside : Outside) (left : Remains) (new : Option Shown) (before after : Ends)
    (status : ℕ) → ProgramEnds words outside left new before after status → status ≡ 0
    → IsHeadline words outside left new before after
headline words outside left new before after status (usage none why same out) zero =
    let full = delivered_status _ outside.shown new status out (λ three. omega (arith, zero, three)) in
    absurd (omega (arith, full, zero))
headline words outside left new before after status (command c is ends) zero =
    command_headline words c outside left new before after status is ends zero
headline words outside left new before after status (exhausted shown same six) zero = absurd (omega (arith, six, zero))

-- ---- two endings of the same words where the same is outside

have_same : (words : List (List ℕ)) (c : Command) (a b : Outside) (shown : Shown) → IsCommand words c
    → IsSameFor words a b shown → HaveSame c a b
have_same words (Run run) a b shown is same = tt
have_same words (Make make) a b shown is same = tt
have_same words (Check check) a b shown is same = tt
have_same words (Churn churn) a b shown is same = tt
have_same words (Replay replay) a b shown is same = tt
have_same words (Migrate migrate) a b shown is same = tt
have_same words (MakeBytes make) a b shown is same = tt
have_same words (Serve serve) a b shown is same = record {
  first = (same.tells (serve, is)).0;
  second = (same.tells (serve, is)).1;
  files = same.files (serve, is);
}

same_back : (c : Command) (a b : Outside) → HaveSame c a b → HaveSame c b a
same_back (Run run) a b same = tt
same_back (Make make) a b same = tt
same_back (Check check) a b same = tt
same_back (Churn churn) a b same = tt
same_back (Replay replay) a b same = tt
same_back (Migrate migrate) a b same = tt
same_back (MakeBytes make) a b same = tt
same_back (Serve serve) a b same = held_back a b same

module _ (shown : Shown) (a b : Outside) (left last : Remains) where
  two_commands : (c d : Command) (new more : Option Shown) (before after start end : Ends) (status other : ℕ)
      → HaveSame c a b → HaveSame d a b → line_of c ≡ line_of d
      → CommandEnds c (over shown a) left new before after status
      → CommandEnds d (over shown b) last more start end other → IsSettledStatus status → IsSettledStatus other
      → as_done status ≡ as_done other
  two_commands c d new more before after start end status other same alike line (done content pass does out)
      (done given also did gone) s t =
      let first = delivered_status content (Some shown) new status out s.put in
      let second = delivered_status given (Some shown) more other gone t.put in
      ap as_done first ∙ one_ending shown a b left last c d content given before after start end line does did
      ∙ sym (ap as_done second)
  two_commands c d new more before after start end status other same alike line (done content pass does out)
      (stopped stop at kept still gone) s t =
      let all : AllPass (over shown a) (order_of d) =
      subst (λ (tests : List Test). AllPass (over shown a) tests) (same_order c d line) pass in
      absurd (t.read (delivered_status _ (Some shown) more other gone t.put
      ∙ stop_unread shown a b last (order_of d) stop (bounded shown a b d alike) all at))
  two_commands c d new more before after start end status other same alike line (stopped stop at kept still out)
      (done given also did gone) s t =
      let all : AllPass (over shown b) (order_of c) =
      subst (λ (tests : List Test). AllPass (over shown b) tests) (sym (same_order c d line)) also in
      absurd (s.read (delivered_status _ (Some shown) new status out s.put
      ∙ stop_unread shown b a left (order_of c) stop (bounded shown b a c (same_back c a b same)) all at))
  two_commands c d new more before after start end status other same alike line (stopped stop at kept still out)
      (stopped reason there held quiet gone) s t =
      let first = delivered_status _ (Some shown) new status out s.put in
      let second = delivered_status _ (Some shown) more other gone t.put in
      let stops : StopsAt (over shown a) left (order_of d) stop =
      subst (λ (tests : List Test). StopsAt (over shown a) left tests stop) (same_order c d line) at in
      let one = one_stop shown a b left last (order_of d) stop reason (bounded shown a b d alike) stops there
      (λ e. s.read (first ∙ e)) (λ e. t.read (second ∙ e)) in
      ap as_done (first ∙ one ∙ sym second)
  two_commands c d new more before after start end status other same alike line (unable now kept six) ends s t = absurd (s.memory six)
  two_commands c d new more before after start end status other same alike line ends (unable now kept six) s t = absurd (t.memory six)

  two_lines_end : (words : List (List ℕ)) (new more : Option Shown) (before after start end : Ends) (status other : ℕ)
      → ((c : Command) → IsCommand words c → HaveSame c a b)
      → ProgramEnds words (over shown a) left new before after status
      → ProgramEnds words (over shown b) last more start end other → IsSettledStatus status → IsSettledStatus other
      → as_done status ≡ as_done other
  two_lines_end words new more before after start end status other same (usage none why kept out) (usage also reason held gone) s t =
      ap as_done (delivered_status _ (Some shown) new status out s.put ∙ sym (delivered_status _ (Some shown) more other gone t.put))
  two_lines_end words new more before after start end status other same (usage none why kept out) (command d is ends) s t =
      absurd (none d is)
  two_lines_end words new more before after start end status other same (command c is ends) (usage none why kept gone) s t =
      absurd (none c is)
  two_lines_end words new more before after start end status other same (command c is ends) (command d also too) s t =
      two_commands c d new more before after start end status other (same c is) (same d also)
      (one_command words c d is also) ends too s t
  two_lines_end words new more before after start end status other same (exhausted now kept six) ends s t = absurd (s.memory six)
  two_lines_end words new more before after start end status other same ends (exhausted now kept six) s t = absurd (t.memory six)

-- an ending over a host that tells
told_ends : (words : List (List ℕ)) (shown : Shown) (outside : Outside) (left : Remains) (new : Option Shown)
    (before after : Ends) (status : ℕ) → outside.shown ≡ Some shown
    → ProgramEnds words outside left new before after status
    → ProgramEnds words (over shown outside) left new before after status
told_ends words shown outside left new before after status e p =
    subst (λ (o : Option Shown). ProgramEnds words (with_shown outside o) left new before after status) e p

pub two_endings : (words : List (List ℕ)) (shown : Shown) (a b : Outside) (left last : Remains) (new more : Option Shown)
    (before after start end : Ends) (status other : ℕ) → IsSameFor words a b shown
    → ProgramEnds words a left new before after status → ProgramEnds words b last more start end other
    → IsSettledStatus status → IsSettledStatus other → as_done status ≡ as_done other
two_endings words shown a b left last new more before after start end status other same p q =
    two_lines_end shown a b left last words new more before after start end status other
    (λ c is. have_same words c a b shown is same) (told_ends words shown a left new before after status same.first p)
    (told_ends words shown b last more start end other same.second q)

-- any other ending agrees with this one
pub agrees : (words : List (List ℕ)) (outside : Outside) (left : Remains) (new : Option Shown) (before after : Ends)
    (status : ℕ) → ProgramEnds words outside left new before after status → AgreesWithOthers words outside status
agrees words outside left new before after status p = λ shown other last more start end status' same q s t.
    two_endings words shown outside other left last new more before after start end status status' same p q s t

-- ---- valid input

-- a file is not answered as unread for a cause that is not there
no_cause_by : (words : List (List ℕ)) (d : Command) (takes takes' : ℕ) (outside : Outside) (left : Remains)
    → IsCommand words d → DevicesServe d outside left → ¬ (Rose takes takes')
    → UnreadBy words takes takes' outside left → ⊥
no_cause_by words d takes takes' outside left is fine taken (inl cause) = taken cause
no_cause_by words (Serve serve) takes takes' outside left is fine taken (inr (line, cause)) = fine.1 cause
no_cause_by words d takes takes' outside left is fine taken (inr (line, cause)) =
    absurd (two_lines d (Serve line.0) (λ v. absurd cc) (one_command words d (Serve line.0) is line.1))

own_same : (d : Command) (outside : Outside) (left : Remains) → DevicesServe d outside left → HaveSame d outside outside
own_same (Run run) outside left fine = tt
own_same (Make make) outside left fine = tt
own_same (Check check) outside left fine = tt
own_same (Churn churn) outside left fine = tt
own_same (Replay replay) outside left fine = tt
own_same (Migrate migrate) outside left fine = tt
own_same (MakeBytes make) outside left fine = tt
own_same (Serve serve) outside left fine = record { first = fine.0; second = fine.0; files = refl }

valid_command : (shown : Shown) (a : Outside) (left : Remains) (c d : Command) (new : Option Shown) (before after : Ends)
    (status : ℕ) → line_of c ≡ line_of d → HaveSame d a a → CommandEnds c (over shown a) left new before after status
    → status ≢ 2 → status ≢ 3 → IsSmooth d (over shown a) → AllPass (over shown a) (order_of d)
    → IsDoneStatus d status
valid_command shown a left c d new before after status line same (done content pass (told t e) out) read put smooth all =
    done_status d status (inl (delivered_status content (Some shown) new status out put ∙ e))
valid_command shown a left c d new before after status line same (done content pass (cut t) out) read put smooth all =
    subst (λ (n : ℕ). IsDoneStatus d n) (sym (delivered_status content (Some shown) new status out put))
    (cut_done shown a left c d content before after line smooth t)
valid_command shown a left c d new before after status line same (stopped stop at kept still out) read put smooth all =
    let stops : StopsAt (over shown a) left (order_of d) stop =
    subst (λ (tests : List Test). StopsAt (over shown a) left tests stop) (same_order c d line) at in
    absurd (read (delivered_status _ (Some shown) new status out put
    ∙ stop_unread shown a a left (order_of d) stop (bounded shown a a d same) all stops))
valid_command shown a left c d new before after status line same (unable now kept six) read put smooth all = done_status d status (inr six)

valid_input : (words : List (List ℕ)) (shown : Shown) (a : Outside) (left : Remains) (d : Command) (new : Option Shown)
    (before after : Ends) (status : ℕ) → IsCommand words d → HaveSame d a a
    → ProgramEnds words (over shown a) left new before after status → status ≢ 2 → status ≢ 3
    → IsSmooth d (over shown a) → AllPass (over shown a) (order_of d) → IsDoneStatus d status
valid_input words shown a left d new before after status is same (usage none why kept out) read put smooth all = absurd (none d is)
valid_input words shown a left d new before after status is same (command c also ends) read put smooth all =
    valid_command shown a left c d new before after status (one_command words c d also is) same ends read put smooth all
valid_input words shown a left d new before after status is same (exhausted now kept six) read put smooth all = done_status d status (inr six)

-- valid words over valid files, where status 2 and 3 have their causes
pub complete : (words : List (List ℕ)) (outside : Outside) (left : Remains) (new : Option Shown) (before after : Ends)
    (takes takes' : ℕ) (gives gives' : GiveFaults) (status : ℕ)
    → ProgramEnds words outside left new before after status
    → (status ≡ 2 → UnreadBy words takes takes' outside left) → (status ≡ 3 → FailedGive gives gives')
    → IsComplete words outside left takes takes' gives gives' status
complete words outside left new before after takes takes' gives gives' status p read write = λ shown d e is fine smooth all taken given.
    let smooth' : IsSmooth d (over shown outside) = subst (λ (o : Option Shown). IsSmooth d (with_shown outside o)) e smooth in
    let all' : AllPass (over shown outside) (order_of d) =
    subst (λ (o : Option Shown). AllPass (with_shown outside o) (order_of d)) e all in
    valid_input words shown outside left d new before after status is (own_same d outside left fine)
    (told_ends words shown outside left new before after status e p)
    (λ two. no_cause_by words d takes takes' outside left is fine taken (read two)) (λ three. given (write three)) smooth' all'

-- ---- what a command does is what its words do

pub read_by : (words : List (List ℕ)) (c : Command) (takes takes' : ℕ) (outside : Outside) (left : Remains)
    → IsCommand words c → UnreadCause c takes takes' outside left → UnreadBy words takes takes' outside left
read_by words (Run run) takes takes' outside left is cause = inl cause
read_by words (Make make) takes takes' outside left is cause = inl cause
read_by words (Check check) takes takes' outside left is cause = inl cause
read_by words (Churn churn) takes takes' outside left is cause = inl cause
read_by words (Replay replay) takes takes' outside left is cause = inl cause
read_by words (Migrate migrate) takes takes' outside left is cause = inl cause
read_by words (MakeBytes make) takes takes' outside left is cause = inl cause
read_by words (Serve serve) takes takes' outside left is (inl cause) = inl cause
read_by words (Serve serve) takes takes' outside left is (inr cause) = inr ((serve, is), cause)

-- serves of one line are of one file
served_file : (serve other : ServeLine) → line_of (Serve serve) ≡ line_of (Serve other) → serve.file.now ≡ other.file.now
served_file serve other e = let says = ap (λ (l : FormVerb × List Meaning). l.1) e in cc

-- where nothing changed, nothing but a file's pages did
pub none_changes : (serve : ServeLine) (outside : Outside) (left : Remains) → left.devices ≡ outside.devices
    → ChangesDevices (Serve serve) outside left
none_changes serve outside left same = λ tells. record {
  sizes = λ other. ap (λ (d : DeviceState). size_of d.files other) same;
  others = λ other p differ. ap (λ (d : DeviceState). words_at d.files other p) same;
}

pub idle_use : (words : List (List ℕ)) (outside : Outside) (left : Remains) → left.devices ≡ outside.devices
    → UsesDevices words outside left
idle_use words outside left same = record { idle = λ none. same; own = λ serve is. none_changes serve outside left same }

pub used_by : (words : List (List ℕ)) (c : Command) (outside : Outside) (left : Remains) → IsCommand words c
    → ChangesDevices c outside left → UsesDevices words outside left
used_by words (Serve serve) outside left is change = record {
  idle = λ none. absurd (none (serve, is));
  own = λ other also tells. subst (λ (name : List ℕ). ChangesJust outside.devices.files left.devices.files name)
      (served_file serve other (one_command words (Serve serve) (Serve other) is also)) (change tells);
}
used_by words (Run run) outside left is change = idle_use words outside left change
used_by words (Make make) outside left is change = idle_use words outside left change
used_by words (Check check) outside left is change = idle_use words outside left change
used_by words (Churn churn) outside left is change = idle_use words outside left change
used_by words (Replay replay) outside left is change = idle_use words outside left change
used_by words (Migrate migrate) outside left is change = idle_use words outside left change
used_by words (MakeBytes make) outside left is change = idle_use words outside left change
