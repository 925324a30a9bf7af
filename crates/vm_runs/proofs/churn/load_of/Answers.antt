use Rattle.std.proofs.Common.{◌∙◌, ◌≡◌, ap, false, refl, Some, sym, true, ℕ}
use Rattle.vm_reading.specs.from_vm_endings.Limits.{are_frames, are_pairs_to_churn, are_words, are_workers, words_or}
use Rattle.vm_reading.specs.from_vm_endings.Tests.{here, past}
use Rattle.vm_runs.proofs.churn.load_of.Goals as goal
use Rattle.vm_runs.proofs.Churning.{within_limits}

pub returns-then-not-are_pairs_to_churn : goal.returns-then-not-are_pairs_to_churn
returns-then-not-are_pairs_to_churn c =
    let pairs : are_pairs_to_churn c.args.churn.now.pairs ≡ false = sym c.are_pairs_to_churn.ensures ∙ c.if-not-are_pairs_to_churn.true in
    λ outside left. here (pairs, refl)

pub returns-then-not-are_workers : goal.returns-then-not-are_workers
returns-then-not-are_workers c =
    let pairs : are_pairs_to_churn c.args.churn.now.pairs ≡ true = sym c.are_pairs_to_churn.ensures ∙ c.if-not-are_pairs_to_churn.false in
    let workers : are_workers c.args.churn.now.workers ≡ false = sym c.are_workers.ensures ∙ c.if-not-are_workers.true in
    λ outside left. past pairs (here (workers, refl))

pub returns-then-not-are_frames : goal.returns-then-not-are_frames
returns-then-not-are_frames c =
    let pairs : are_pairs_to_churn c.args.churn.now.pairs ≡ true = sym c.are_pairs_to_churn.ensures ∙ c.if-not-are_pairs_to_churn.false in
    let workers : are_workers c.args.churn.now.workers ≡ true = sym c.are_workers.ensures ∙ c.if-not-are_workers.false in
    let frames : are_frames c.args.churn.now.workers c.args.churn.now.frames ≡ false = sym c.are_frames.ensures
    ∙ c.if-not-are_frames.true in
    λ outside left. past pairs (past workers (here (frames, refl)))

pub returns-then-not-are_words : goal.returns-then-not-are_words
returns-then-not-are_words c =
    let pairs : are_pairs_to_churn c.args.churn.now.pairs ≡ true = sym c.are_pairs_to_churn.ensures ∙ c.if-not-are_pairs_to_churn.false in
    let workers : are_workers c.args.churn.now.workers ≡ true = sym c.are_workers.ensures ∙ c.if-not-are_workers.false in
    let frames : are_frames c.args.churn.now.workers c.args.churn.now.frames ≡ true = sym c.are_frames.ensures
    ∙ c.if-not-are_frames.false in
    let words : are_words (words_or c.args.churn.now.words) ≡ false =
    rw (← c.words_of-words.ensures) (sym c.are_words.ensures ∙ c.if-not-are_words.true) in
    λ outside left. past pairs (past workers (past frames (here (words, refl))))

pub returns : goal.returns
returns c =
    let pairs : are_pairs_to_churn c.args.churn.now.pairs ≡ true = sym c.are_pairs_to_churn.ensures ∙ c.if-not-are_pairs_to_churn.false in
    let workers : are_workers c.args.churn.now.workers ≡ true = sym c.are_workers.ensures ∙ c.if-not-are_workers.false in
    let frames : are_frames c.args.churn.now.workers c.args.churn.now.frames ≡ true = sym c.are_frames.ensures
    ∙ c.if-not-are_frames.false in
    let size : are_words c.words_of-words.result ≡ true = sym c.are_words.ensures ∙ c.if-not-are_words.false in
    let words : are_words (words_or c.args.churn.now.words) ≡ true = rw (← c.words_of-words.ensures) size in (
      ap (λ (n : ℕ). record {
        pairs = c.args.churn.now.pairs;
        seed = c.args.churn.now.seed;
        workers = c.args.churn.now.workers;
        frames = c.args.churn.now.frames;
        words = Some n;
      }) c.words_of-words.ensures,
      within_limits _ pairs workers frames size,
      (pairs, (workers, (frames, (words, tt)))),
    )
