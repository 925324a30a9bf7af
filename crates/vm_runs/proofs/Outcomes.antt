-- What workers' calls come to, from what serving them, the text and the kept file tell.
use Rattle.std.specs.declared.alloc.Global.{Global}
use Rattle.std.specs.Prelude.{unwrap_or}
use Rattle.std.proofs.Common.{◌++◌, ◌∙◌, ◌≡◌, ap, inl, inr, List, None, Option, refl, Some, subst, sym, Vec, ℕ}
use Rattle.vm_map.specs.{declared.call.Call.Call, declared.call.Said.Said, Map.Pairs}
use Rattle.vm_tree_model.specs.{Fixed.fixed, Tree.map_of}
use Rattle.vm_image.specs.{Blocks.pages_of_blocks, declared.blocks.PlannedFault.PlannedFault}
use Rattle.vm_reading.specs.from_vm_pool.{Closing.view_at_end, declared_ended_Ended.Ended}
use Rattle.vm_reading.specs.from_vm_drive.Prelude.{all_replies}
use Rattle.vm_reading.specs.from_vm_serve.{declared_serving_Served.Served, Served.IsServed}
use Rattle.vm_script.specs.Texts.{rows_text, unflushed_line, worker_replies}
use Rattle.vm_words.specs.declared.Run.{Run}
use Rattle.vm_reading.specs.from_vm_endings.{declared_delivery_File.File, Deliveries.content_of}
use Rattle.vm_reading.specs.from_vm_endings.{Deliveries.written_of, Made.last_map, Replies.all_lines}
use Rattle.vm_reading.specs.from_vm_endings.{Replies.counters_of}
use Rattle.vm_reading.specs.from_vm_endings.Runs.{IsFlushedRun, IsKept, IsMadeRun, IsOutcome, IsUnflushedRun, version_or}
use Rattle.vm_runs.specs.declared.outcome.Outcome.{Outcome}

pub version_is : (version : Option ℕ) → unwrap_or version 0 ≡ version_or version
version_is None = refl
version_is (Some version) = refl

abbrev pub made : (n : ℕ) {U : Type 0} (run : Run) (image : List (List ℕ)) (lists : List (List Call))
    (plan : List PlannedFault) (version frames : ℕ) (s : Served U n Said)
    → IsServed n image plan lists (all_replies s.replies.items) s.report s.blocks.items s.ended
    → (view_at_end s.ended).start.version ≡ version → (view_at_end s.ended).start.frames ≡ frames
    → plan ≡ run.options.fail.items → version ≡ unwrap_or run.options.first_version 0 → frames ≡ run.frames
    → IsMadeRun n run s.ended image lists
made n run image lists plan version frames s served began has e first all = record {
  replies = all_replies s.replies.items;
  report = s.report;
  blocks = s.blocks.items;
  served = subst (λ (l : List PlannedFault). IsServed n image l lists (all_replies s.replies.items) s.report
      s.blocks.items s.ended) e served;
  version = began ∙ first ∙ version_is run.options.first_version;
  frames = has ∙ all;
}

-- no write of the last flush failed: the map of the blocks is told and kept
pub flushed_outcome : (n : ℕ) {U : Type 0} (run : Run) (image : List (List ℕ)) (lists : List (List Call))
    (end : Ended U Said) (m : Pairs) (text : Vec ℕ Global) (file : Option File) (o : Outcome U Said) (evicted : ℕ)
    (of : IsMadeRun n run end image lists) → of.report.first ≡ None → m ≡ map_of (fixed n) (pages_of_blocks of.blocks)
    → m ≡ last_map n image end → text.items ≡ worker_replies 0 (all_lines lists of.replies) ++ rows_text
    m ++ counters_of end evicted → IsKept n run.options.keep (pages_of_blocks of.blocks) (written_of file)
    → o ≡ record {
      delivery = record { file = file; text = text; status = 0 };
      ended = end;
    } → IsOutcome n run image lists (content_of o.delivery) o.ended
flushed_outcome n {U = U} run image lists end m text file o evicted of none held last told kept is =
    let given : Outcome U Said = record { delivery = record { file = file; text = text; status = 0 }; ended = end } in
    let flushed : IsFlushedRun n run end (content_of given.delivery) image lists = record {
      made = of;
      evicted = evicted;
      flushed = none;
      text = told ∙ ap (λ (k : Pairs). worker_replies 0 (all_lines lists of.replies) ++ rows_text k ++ counters_of end evicted) last;
      last = sym held ∙ last;
      file = kept;
    } in
    subst (λ (g : Outcome U Said). IsOutcome n run image lists (content_of g.delivery) g.ended) {x = given} (sym is) (inl (refl, flushed))

-- the write of a page failed
pub cut_outcome : (n : ℕ) {U : Type 0} (run : Run) (image : List (List ℕ)) (lists : List (List Call))
    (end : Ended U Said) (page : ℕ) (text : Vec ℕ Global) (o : Outcome U Said) (evicted : ℕ)
    (of : IsMadeRun n run end image lists) → of.report.first ≡ Some page
    → text.items ≡ worker_replies 0 (all_lines lists of.replies) ++ unflushed_line page ++ counters_of end evicted
    → o ≡ record {
      delivery = record { file = None; text = text; status = 7 };
      ended = end;
    } → IsOutcome n run image lists (content_of o.delivery) o.ended
cut_outcome n {U = U} run image lists end page text o evicted of least told is =
    let given : Outcome U Said = record { delivery = record { file = None; text = text; status = 7 }; ended = end } in
    let cut : IsUnflushedRun n run end (content_of given.delivery) image lists = record {
      made = of;
      evicted = evicted;
      page = page;
      least = least;
      text = told;
      file = refl;
    } in
    subst (λ (g : Outcome U Said). IsOutcome n run image lists (content_of g.delivery) g.ended) {x = given} (sym is) (inr (refl, cut))
