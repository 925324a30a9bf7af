use Rattle.std.proofs.Common.{◌≡◌, ◌∙◌, ◌<◌, ap, false, true, refl, sym}
use Rattle.vm_build.specs.Build.{needed}
use Rattle.vm_reading.specs.from_vm_endings.Limits.{are_pages, are_pairs_to_make, are_words, words_or}
use Rattle.vm_reading.specs.from_vm_endings.Tests.{here, past}
use Rattle.vm_files.proofs.make.sizes_of.Goals as goal

pub returns-then-not-are_pages : goal.returns-then-not-are_pages
returns-then-not-are_pages c = λ outside left.
    let pages : are_pages (words_or c.args.make.now.words) c.args.make.now.pages ≡ false =
    rw (← c.words_of-words.ensures) (sym c.are_pages.ensures ∙ c.if-not-are_pages.true) in
    here (pages, refl)

pub returns-then-not-are_pairs_to_make : goal.returns-then-not-are_pairs_to_make
returns-then-not-are_pairs_to_make c = λ outside left.
    let pages : are_pages (words_or c.args.make.now.words) c.args.make.now.pages ≡ true =
    rw (← c.words_of-words.ensures) (sym c.are_pages.ensures ∙ c.if-not-are_pages.false) in
    past pages (here (sym c.are_pairs_to_make.ensures ∙ c.if-not-are_pairs_to_make.true, refl))

pub returns-then-not-are_words : goal.returns-then-not-are_words
returns-then-not-are_words c = λ outside left.
    let pages : are_pages (words_or c.args.make.now.words) c.args.make.now.pages ≡ true =
    rw (← c.words_of-words.ensures) (sym c.are_pages.ensures ∙ c.if-not-are_pages.false) in
    let pairs : are_pairs_to_make c.args.make.now.pairs ≡ true = sym c.are_pairs_to_make.ensures ∙ c.if-not-are_pairs_to_make.false in
    let words : are_words (words_or c.args.make.now.words) ≡ false =
    rw (← c.words_of-words.ensures) (sym c.are_words.ensures ∙ c.if-not-are_words.true) in
    past pages (past pairs (here (words, refl)))

pub returns-then-pages-needed : goal.returns-then-pages-needed
returns-then-pages-needed c = λ outside left.
    let pages : are_pages (words_or c.args.make.now.words) c.args.make.now.pages ≡ true =
    rw (← c.words_of-words.ensures) (sym c.are_pages.ensures ∙ c.if-not-are_pages.false) in
    let pairs : are_pairs_to_make c.args.make.now.pairs ≡ true = sym c.are_pairs_to_make.ensures ∙ c.if-not-are_pairs_to_make.false in
    let words : are_words (words_or c.args.make.now.words) ≡ true =
    rw (← c.words_of-words.ensures) (sym c.are_words.ensures ∙ c.if-not-are_words.false) in
    let asked : c.needed-needed.result ≡ needed (words_or c.args.make.now.words) c.args.make.now.pairs =
    c.needed-needed.ensures ∙ ap (λ k. needed k c.args.make.now.pairs) c.words_of-words.ensures in
    let few : c.args.make.now.pages < needed (words_or c.args.make.now.words) c.args.make.now.pairs = rw asked at c.if-pages-needed.true in
    past pages (past pairs (past words (here (few, refl, asked))))

pub returns : goal.returns
returns c =
    let pages : are_pages (words_or c.args.make.now.words) c.args.make.now.pages ≡ true =
    rw (← c.words_of-words.ensures) (sym c.are_pages.ensures ∙ c.if-not-are_pages.false) in
    let pairs : are_pairs_to_make c.args.make.now.pairs ≡ true = sym c.are_pairs_to_make.ensures ∙ c.if-not-are_pairs_to_make.false in
    let words : are_words (words_or c.args.make.now.words) ≡ true =
    rw (← c.words_of-words.ensures) (sym c.are_words.ensures ∙ c.if-not-are_words.false) in
    let asked : c.needed-needed.result ≡ needed (words_or c.args.make.now.words) c.args.make.now.pairs =
    c.needed-needed.ensures ∙ ap (λ k. needed k c.args.make.now.pairs) c.words_of-words.ensures in
    (c.words_of-words.ensures, refl, refl, (pages, (pairs, (words, (rw asked at c.if-pages-needed.false, tt)))))
