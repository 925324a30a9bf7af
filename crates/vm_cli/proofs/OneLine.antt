-- Two commands of one line: they ask the same tests, and what they do ends in one way. A further command is one more line of each.
use Rattle.std.proofs.Common.{◌≡◌, ◌≢◌, ◌∙◌, ◌⊎◌, inl, inr, ℕ, ◌≤◌, ◌<◌, ◌^◌, leb, true, false, true≢false, List, [], ◌∷◌, get_or}
use Rattle.std.proofs.Common.{Option, Some, None, refl, sym, ap, subst, arith}
use Rattle.std.proofs.lemmas.Bool.{and_parts, leb-true}
use Rattle.vm_io.specs.Shown.{Shown}
use Rattle.vm_image.specs.declared.blocks.PlannedFault.{PlannedFault}
use Rattle.vm_bytes_laws.specs.declared.call.{KeyCall.KeyCall, KeySaid.KeySaid}
use Rattle.vm_map.specs.{declared.call.Call.Call, declared.call.Said.Said}
use Rattle.vm_file_serve.specs.from_vm_pool.declared_ended_Ended.{Ended}
use Rattle.vm_file_serve.specs.from_vm_serve.{Served.IsServed, Served.IsServedFrom, Serving.word_serving}
use Rattle.vm_file_serve.specs.from_vm_bytes_serve.KeyServing.{key_serving}
use Rattle.vm_file_serve.proofs.from_vm_serve.Unplanned.{all_flushed}
use Rattle.vm_replay.specs.Told.{PlayedFile}
use Rattle.vm_replay.proofs.OnePlay.{one_played}
use Rattle.vm_words.specs.declared.Command.{Command}
use Rattle.vm_words.specs.declared.Command.TheVariants.{Run, Make, Check, Churn, Replay, Migrate, Serve, MakeBytes}
use Rattle.vm_words.specs.declared.Replay.{Replay as ReplayLine}
use Rattle.vm_words.specs.declared.Run.{Run as RunLine}
use Rattle.vm_words.specs.declared.Serve.{Serve as ServeLine}
use Rattle.vm_words.specs.declared.form.FormVerb.{FormVerb}
use Rattle.vm_words.specs.Commands.{line_of, number_or, plan_or}
use Rattle.vm_words.specs.Values.{Meaning, named, counted, planned, absent}
use Rattle.vm_file_serve.specs.from_vm_endings.declared_ends_Ends.{Ends}
use Rattle.vm_file_serve.specs.from_vm_endings.declared_ends_Ends_TheVariants.{BytesTree, LargeTree, Nothing, Tree}
use Rattle.vm_cli.specs.Agreement.{as_done, IsDoneStatus}
use Rattle.vm_file_serve.specs.from_vm_endings.Commands.{Cut, IsSmooth, order_of}
use Rattle.vm_file_serve.specs.from_vm_endings.Deliveries.{Content}
use Rattle.vm_file_serve.specs.from_vm_endings.Endings.{Performs, cut, told}
use Rattle.vm_file_serve.specs.from_vm_endings.Files.{HasFile}
use Rattle.vm_file_serve.specs.from_vm_endings.Limits.{are_workers, words_or}
use Rattle.vm_file_serve.specs.from_vm_endings.Outside.{Outside, Remains}
use Rattle.vm_file_serve.specs.from_vm_endings.{AnyRuns.CutRun, KeyRuns.IsUnflushedKeyRun, KeyRuns.OfKeyFiles}
use Rattle.vm_file_serve.specs.from_vm_endings.Runs.{IsUnflushedRun, OfFiles, version_or}
use Rattle.vm_file_serve.specs.from_vm_endings.Tests.{events}
use Rattle.vm_cli.proofs.OneStop.{AreBounded, both_of, HoldSame, over}

-- ---- what a line says

abbrev plan_in : Meaning → List PlannedFault
plan_in (named text) = []
plan_in (counted n) = []
plan_in (planned plan) = plan
plan_in absent = []

abbrev number_in : Meaning → ℕ
number_in (named text) = 0
number_in (counted n) = n
number_in (planned plan) = 0
number_in absent = 0

-- how many words a page has, where 64 need not be said
abbrev words_in : Meaning → ℕ
words_in (named text) = 0
words_in (counted n) = n
words_in (planned plan) = 0
words_in absent = 64

plan_back : (plan : List PlannedFault) → plan_in (plan_or plan) ≡ plan
plan_back [] = refl
plan_back (fault ∷ plan) = refl

number_back : (n : Option ℕ) → number_in (number_or n) ≡ version_or n
number_back None = refl
number_back (Some n) = refl

words_back : (n : Option ℕ) → words_in (number_or n) ≡ words_or n
words_back None = refl
words_back (Some n) = refl

-- runs of one line have one plan, and begin at one version
same_plan : (run other : RunLine) → line_of (Run run) ≡ line_of (Run other) → run.options.fail.items ≡ other.options.fail.items
same_plan run other e = sym (plan_back run.options.fail.items)
    ∙ ap (λ (l : FormVerb × List Meaning). plan_in (get_or l.1 5 absent)) e ∙ plan_back other.options.fail.items

same_version : (run other : RunLine) → line_of (Run run) ≡ line_of (Run other)
    → version_or run.options.first_version ≡ version_or other.options.first_version
same_version run other e = sym (number_back run.options.first_version)
    ∙ ap (λ (l : FormVerb × List Meaning). number_in (get_or l.1 6 absent)) e
    ∙ number_back other.options.first_version

-- makes and churns of one line have pages of one size
same_words : (words other : Option ℕ) → number_or words ≡ number_or other → words_or words ≡ words_or other
same_words words other e = sym (words_back words) ∙ ap words_in e ∙ words_back other

-- replays of one line are of one file
same_file : (replay other : ReplayLine) → line_of (Replay replay) ≡ line_of (Replay other) → replay.file.now ≡ other.file.now
same_file replay other e = let says = ap (λ (l : FormVerb × List Meaning). l.1) e in cc

-- commands of two names are of two lines
pub two_lines : (c d : Command) → (line_of c).0 ≢ (line_of d).0 → line_of c ≢ line_of d
two_lines c d differ = λ e. differ (ap (λ (l : FormVerb × List Meaning). l.0) e)

-- ---- the tests

pub same_order : (c d : Command) → line_of c ≡ line_of d → order_of c ≡ order_of d
same_order (Run run) (Run other) e =
    let says = ap (λ (l : FormVerb × List Meaning). l.1) e in
    let image : run.image.now ≡ other.image.now = cc in
    let script : run.script.now ≡ other.script.now = cc in
    let workers : run.workers ≡ other.workers = cc in
    let frames : run.frames ≡ other.frames = cc in
    cc (image, script, workers, frames, same_plan run other e, same_version run other e)
same_order (Make make) (Make other) e =
    let says = ap (λ (l : FormVerb × List Meaning). l.1) e in
    let pages : make.pages ≡ other.pages = cc in
    let pairs : make.pairs ≡ other.pairs = cc in
    let words : words_or make.words ≡ words_or other.words =
    same_words make.words other.words (ap (λ (l : List Meaning). get_or l 4 absent) says) in
    cc (pages, pairs, words)
same_order (Churn churn) (Churn other) e =
    let says = ap (λ (l : FormVerb × List Meaning). l.1) e in
    let pairs : churn.pairs ≡ other.pairs = cc in
    let workers : churn.workers ≡ other.workers = cc in
    let frames : churn.frames ≡ other.frames = cc in
    let words : words_or churn.words ≡ words_or other.words =
    same_words churn.words other.words (ap (λ (l : List Meaning). get_or l 4 absent) says) in
    cc (pairs, workers, frames, words)
same_order (Check check) (Check other) e = let says = ap (λ (l : FormVerb × List Meaning). l.1) e in cc
same_order (Replay replay) (Replay other) e = ap (λ (name : List ℕ). events name ∷ []) (same_file replay other e)
same_order (Migrate migrate) (Migrate other) e =
    let says = ap (λ (l : FormVerb × List Meaning). l.1) e in
    let input : migrate.input.now ≡ other.input.now = cc in
    let pages : migrate.pages ≡ other.pages = cc in
    cc (input, pages)
same_order (Serve serve) (Serve other) e =
    let says = ap (λ (l : FormVerb × List Meaning). l.1) e in
    let file : serve.file.now ≡ other.file.now = cc in
    let script : serve.script.now ≡ other.script.now = cc in
    let workers : serve.workers ≡ other.workers = cc in
    let frames : serve.frames ≡ other.frames = cc in
    cc (file, script, workers, frames)
same_order (MakeBytes make) (MakeBytes other) e =
    let says = ap (λ (l : FormVerb × List Meaning). l.1) e in
    let pages : make.pages ≡ other.pages = cc in
    cc (pages)
same_order c d e = absurd (two_lines c d (λ v. absurd cc) e)

few_workers : (workers : ℕ) → are_workers workers ≡ true → workers < 2 ^ 32
few_workers workers h =
    let most : workers ≤ 64 = leb-true workers 64 (and_parts (leb 1 workers) (leb workers 64) h).1 in omega (arith, most)

-- what a serve has to find the same in two outsides
abbrev pub HaveSame : Command → Outside → Outside → Type 0
HaveSame (Serve serve) a b = HoldSame a b
HaveSame _ a b = Unit {0}

pub bounded : (shown : Shown) (a b : Outside) (c : Command) → HaveSame c a b → AreBounded shown a b (order_of c)
bounded shown a b (Run run) same =
    (tt, λ few. (tt, λ _. (tt, λ _. (tt, λ _. (tt, λ _. (tt, λ _. (few_workers run.workers few, λ _. tt)))))))
bounded shown a b (Make make) same = (tt, λ _. (tt, λ _. (tt, λ _. (tt, λ _. tt))))
bounded shown a b (Check check) same = (tt, λ _. tt)
bounded shown a b (Churn churn) same = (tt, λ _. (tt, λ _. (tt, λ _. (tt, λ _. tt))))
bounded shown a b (Replay replay) same = (tt, λ _. tt)
bounded shown a b (Migrate migrate) same = (tt, λ _. (tt, λ _. (tt, λ _. tt)))
bounded shown a b (MakeBytes make) same = (tt, λ _. tt)
bounded shown a b (Serve serve) same =
    (tt, λ few. (tt, λ _. (same, λ _. (same, λ _. (few_workers serve.workers few, λ _. tt)))))

-- ---- what is done

-- a file is played to its end or up to an illegal event, and not both
played_apart : (shown : Shown) (name last text other : List ℕ) → name ≡ last
    → HasFile (Some shown) name (λ bytes. PlayedFile bytes text true)
    → HasFile (Some shown) last (λ bytes. PlayedFile bytes other false) → ⊥
played_apart shown name last text other e p q =
    let p' : HasFile (Some shown) last (λ bytes. PlayedFile bytes text true) =
    subst (λ (n : List ℕ). HasFile (Some shown) n (λ bytes. PlayedFile bytes text true)) e p in
    let b = both_of shown last _ _ p' q in
    true≢false (one_played b.0 text other true false b.1 b.2).1

-- where no failure is planned the write of no page failed
all_written : (n : ℕ) {U : Type 0} (run : RunLine) (end : Ended U Said) (content : Content) (pages : List (List ℕ))
    (lists : List (List Call)) → run.options.fail.items ≡ [] → IsUnflushedRun n run end content pages lists → ⊥
all_written n run end content pages lists none is =
    let made = is.made in
    let served = subst (λ (plan : List PlannedFault). IsServed n pages plan lists made.replies made.report made.blocks
    end) none made.served in
    let first = all_flushed (word_serving n) pages lists made.replies made.report made.blocks end served in
    let least = is.least in
    absurd cc

no_cut_files : (n : ℕ) {U : Type 0} (shown : Shown) (run : RunLine) (end : Ended U Said) (content : Content)
    → run.options.fail.items ≡ [] → OfFiles n (Some shown) run (IsUnflushedRun n run end content) → ⊥
no_cut_files n shown run end content none is = all_written n run end content _ is.2.3.2.0 none is.2.3.2.2

all_keys_written : {U : Type 0} (run : RunLine) (end : Ended U KeySaid) (content : Content) (pages : List (List ℕ))
    (lists : List (List KeyCall)) → run.options.fail.items ≡ [] → IsUnflushedKeyRun run end content pages lists → ⊥
all_keys_written run end content pages lists none is =
    let made = is.made in
    let served = subst (λ (plan : List PlannedFault). IsServedFrom key_serving pages plan lists made.replies made.report made.blocks
    end) none made.served.ranks in
    let first = all_flushed key_serving pages lists made.replies made.report made.blocks end served in
    let least = is.least in
    absurd cc

no_cut_key_files : {U : Type 0} (shown : Shown) (run : RunLine) (end : Ended U KeySaid) (content : Content)
    → run.options.fail.items ≡ [] → OfKeyFiles (Some shown) run (IsUnflushedKeyRun run end content) → ⊥
no_cut_key_files shown run end content none is = all_keys_written run end content _ is.2.2.2.0 none is.2.2.2.2

no_cut_run : (shown : Shown) (run : RunLine) (content : Content) (after : Ends) → run.options.fail.items ≡ []
    → CutRun run (Some shown) content after → ⊥
no_cut_run shown run content Nothing none is = is
no_cut_run shown run content (Tree end) none is = no_cut_files 64 shown run end content none is
no_cut_run shown run content (LargeTree end) none is = no_cut_files 512 shown run end content none is
no_cut_run shown run content (BytesTree end) none is = no_cut_key_files shown run end content none is

-- what makes a command end otherwise is not there, but that a serve may end with 7
pub cut_done : (shown : Shown) (a : Outside) (left : Remains) (c d : Command) (content : Content) (before after : Ends)
    → line_of c ≡ line_of d → IsSmooth d (over shown a) → Cut c (over shown a) left content before after
    → IsDoneStatus d content.status
cut_done shown a left (Run run) (Run other) content before after e smooth is =
    absurd (no_cut_run shown run content after (same_plan run other e ∙ smooth) is.0)
cut_done shown a left (Make make) (Make other) content before after e smooth is = absurd is
cut_done shown a left (Check check) (Check other) content before after e smooth is = absurd is
cut_done shown a left (Churn churn) (Churn other) content before after e smooth is = absurd is
cut_done shown a left (Migrate migrate) (Migrate other) content before after e smooth is = absurd is
cut_done shown a left (MakeBytes make) (MakeBytes other) content before after e smooth is = absurd is
cut_done shown a left (Replay replay) (Replay other) content before after e smooth is =
    absurd (played_apart shown other.file.now replay.file.now smooth.2.0 content.text (sym (same_file replay other e))
    (smooth.0, smooth.1, smooth.2.1) is.0.0.0)
cut_done shown a left (Serve serve) (Serve other) content before after e smooth is = inr (inr is.1)
cut_done shown a left c d content before after e smooth is = absurd (two_lines c d (λ v. absurd cc) e)

-- what nothing stops may end with 0, or for want of memory with 6
pub done_status : (c : Command) (status : ℕ) → (status ≡ 0) ⊎ (status ≡ 6) → IsDoneStatus c status
done_status (Run run) status is = is
done_status (Make make) status is = is
done_status (Check check) status is = is
done_status (Churn churn) status is = is
done_status (Replay replay) status is = is
done_status (Migrate migrate) status is = is
done_status (MakeBytes make) status is = is
done_status (Serve serve) status (inl zero) = inl zero
done_status (Serve serve) status (inr six) = inr (inl six)

-- what it ends with then is not 0
pub cut_not_done : (outside : Outside) (left : Remains) (c : Command) (content : Content) (before after : Ends)
    → Cut c outside left content before after → content.status ≢ 0
cut_not_done outside left (Run run) content before after is = λ e. omega (arith, e, is.1)
cut_not_done outside left (Make make) content before after is = absurd is
cut_not_done outside left (Check check) content before after is = absurd is
cut_not_done outside left (Churn churn) content before after is = absurd is
cut_not_done outside left (Migrate migrate) content before after is = absurd is
cut_not_done outside left (MakeBytes make) content before after is = absurd is
cut_not_done outside left (Replay replay) content before after is = λ e. omega (arith, e, is.1)
cut_not_done outside left (Serve serve) content before after is = λ e. omega (arith, e, is.1)

run_ends : (outside : Outside) (left : Remains) (run : RunLine) (content : Content) (before after : Ends)
    → Performs (Run run) outside left content before after → as_done content.status ≡ 0
run_ends outside left run content before after (told t e) = ap as_done e
run_ends outside left run content before after (cut t) = ap as_done t.1

serve_ends : (outside : Outside) (left : Remains) (serve : ServeLine) (content : Content) (before after : Ends)
    → Performs (Serve serve) outside left content before after → as_done content.status ≡ 0
serve_ends outside left serve content before after (told t e) = ap as_done e
serve_ends outside left serve content before after (cut t) = ap as_done t.1

-- a command that ends in no other way ends with status 0
only_told : (outside : Outside) (left : Remains) (c : Command) (content : Content) (before after : Ends)
    → (Cut c outside left content before after → ⊥) → Performs c outside left content before after
    → content.status ≡ 0
only_told outside left c content before after never (told t e) = e
only_told outside left c content before after never (cut t) = absurd (never t)

-- so two of them end with one
both_told : (a b : Outside) (left last : Remains) (c d : Command) (content more : Content) (before after start end : Ends)
    → (Cut c a left content before after → ⊥) → (Cut d b last more start end → ⊥)
    → Performs c a left content before after → Performs d b last more start end
    → as_done content.status ≡ as_done more.status
both_told a b left last c d content more before after start end never nor p q =
    ap as_done (only_told a left c content before after never p ∙ sym (only_told b last d more start end nor q))

replays_end : (shown : Shown) (a b : Outside) (left last : Remains) (replay other : ReplayLine) (content more : Content)
    (before after start end : Ends) → replay.file.now ≡ other.file.now
    → Performs (Replay replay) (over shown a) left content before after
    → Performs (Replay other) (over shown b) last more start end → content.status ≡ more.status
replays_end shown a b left last replay other content more before after start end file (told t e) (told u f) = e ∙ sym f
replays_end shown a b left last replay other content more before after start end file (told t e) (cut u) =
    absurd (played_apart shown replay.file.now other.file.now content.text more.text file t.0.0 u.0.0.0)
replays_end shown a b left last replay other content more before after start end file (cut t) (told u f) =
    absurd (played_apart shown other.file.now replay.file.now more.text content.text (sym file) u.0.0 t.0.0.0)
replays_end shown a b left last replay other content more before after start end file (cut t) (cut u) = t.1 ∙ sym u.1

-- what commands of one line do ends with one status, where the two of a run or a serve count as one
pub one_ending : (shown : Shown) (a b : Outside) (left last : Remains) (c d : Command) (content more : Content)
    (before after start end : Ends) → line_of c ≡ line_of d → Performs c (over shown a) left content before after
    → Performs d (over shown b) last more start end → as_done content.status ≡ as_done more.status
one_ending shown a b left last (Run run) (Run other) content more before after start end e p q =
    run_ends (over shown a) left run content before after p ∙ sym (run_ends (over shown b) last other more start end q)
one_ending shown a b left last (Serve serve) (Serve other) content more before after start end e p q =
    serve_ends (over shown a) left serve content before after p
    ∙ sym (serve_ends (over shown b) last other more start end q)
one_ending shown a b left last (Make make) (Make other) content more before after start end e p q =
    both_told (over shown a) (over shown b) left last (Make make) (Make other) content more before after start end (λ t. t) (λ t. t) p q
one_ending shown a b left last (Check check) (Check other) content more before after start end e p q =
    both_told (over shown a) (over shown b) left last (Check check) (Check other) content more before after start end (λ t. t) (λ t. t) p q
one_ending shown a b left last (Churn churn) (Churn other) content more before after start end e p q =
    both_told (over shown a) (over shown b) left last (Churn churn) (Churn other) content more before after start end (λ t. t) (λ t. t) p q
one_ending shown a b left last (Migrate migrate) (Migrate other) content more before after start end e p q =
    both_told (over shown a) (over shown b) left last (Migrate migrate) (Migrate other) content more before after start end (λ t. t) (λ t. t) p q
one_ending shown a b left last (MakeBytes make) (MakeBytes other) content more before after start end e p q =
    both_told (over shown a) (over shown b) left last (MakeBytes make) (MakeBytes other) content more before after start end (λ t. t) (λ t. t) p q
one_ending shown a b left last (Replay replay) (Replay other) content more before after start end e p q =
    ap as_done (replays_end shown a b left last replay other content more before after start end
    (same_file replay other e) p q)
one_ending shown a b left last c d content more before after start end e p q = absurd (two_lines c d (λ v. absurd cc) e)
