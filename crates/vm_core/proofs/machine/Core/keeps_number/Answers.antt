use Rattle.std.specs.Cmp.Lexicographic.{pointwise}
use Rattle.std.proofs.Common.{◌<◌, ◌∙◌, ◌≡◌, ap, arith, eqb, length, List, None, Option, replicate, Some, subst, sym, ℕ}
use Rattle.vm_page.specs.Pages.{all_zero}
use Rattle.vm_event.specs.Prelude.{Page}
use Rattle.vm_core.specs.Prelude.{CoreData, pages_of, words_of_frames}
use Rattle.vm_event.specs.declared.event.Mapping.{Mapping}
use Rattle.vm_event.specs.Step.{standing_words}
use Rattle.vm_core.proofs.{CorePages.page-here, Numbers.zero-words}
use Rattle.vm_core.proofs.machine.Core.keeps_number.Goals as goal

pub returns-in-Some : goal.returns-in-Some
returns-in-Some c =
    let n : c.args.p < c.self.inside.shape.pages = subst (λ (x : CoreData). c.args.p < x.shape.pages) (sym c.self.view_is) c.requires in
    let lp : c.args.p < length c.self.inside.pages.items = omega (arith, c.self.invariant.pages, n) in
    let stands : (pages_of c.self.inside.pages.items c.args.p).trans ≡ Some c.in-Some.mapping =
    ap (λ (r : Page). r.trans) (page-here _ c.args.p _ lp c.index.ensures) ∙ sym c.mapping.ensures
    ∙ c.in-Some.is in
    let here : c.frame_words.result ≡ words_of_frames c.self.inside.frames.items c.in-Some.mapping.frame =
    c.frame_words.ensures ∙ ap (λ (fs : List (List ℕ)). words_of_frames fs c.in-Some.mapping.frame)
    c.deref.ensures.value in
    let len : length c.frame_words.result ≡ 64 = omega (arith, c.frame_words.type_inv) in
    let same : c.eq.result ≡ pointwise eqb c.frame_words.result (replicate 64 0) = c.eq.ensures in
    rw (← c.self.view_is)
    (same ∙ zero-words 64 c.frame_words.result len ∙ ap all_zero here
    ∙ sym (ap (λ (t : Option Mapping). all_zero (standing_words (words_of_frames c.self.inside.frames.items) t)) stands))

pub returns-in-None : goal.returns-in-None
returns-in-None c =
    let n : c.args.p < c.self.inside.shape.pages = subst (λ (x : CoreData). c.args.p < x.shape.pages) (sym c.self.view_is) c.requires in
    let lp : c.args.p < length c.self.inside.pages.items = omega (arith, c.self.invariant.pages, n) in
    let empty : (pages_of c.self.inside.pages.items c.args.p).trans ≡ None =
    ap (λ (r : Page). r.trans) (page-here _ c.args.p _ lp c.index.ensures) ∙ sym c.mapping.ensures
    ∙ c.in-None.is in
    rw (← c.self.view_is) (sym
    (ap (λ (t : Option Mapping). all_zero (standing_words (words_of_frames c.self.inside.frames.items) t)) empty))
