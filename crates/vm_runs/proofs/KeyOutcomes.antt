-- What workers' calls with byte keys come to, from what serving them, the text and the kept file tell.
use Rattle.std.specs.declared.alloc.Global.{Global}
use Rattle.std.specs.Prelude.{unwrap_or}
use Rattle.std.proofs.Common.{[], ◌++◌, ◌∙◌, ◌∷◌, ◌≡◌, ap, inl, inr, List, None, Option, refl, Some, subst, sym, Vec, ℕ}
use Rattle.vm_tree_model.specs.Tree.{IsTree, map_of}
use Rattle.vm_block.specs.declared.memory.MemBlock.{MemBlock}
use Rattle.vm_image.specs.{Blocks.pages_of_blocks, declared.blocks.PlannedFault.PlannedFault}
use Rattle.vm_bytes_form.proofs.Ranks.{string_of_rank}
use Rattle.vm_bytes_form.specs.{Bytes.bytes as keyed, Forms.AreKeys, Forms.KeyEntry, KeyMap.ranks_of}
use Rattle.vm_bytes_laws.specs.declared.call.{KeyCall.KeyCall, KeySaid.KeySaid}
use Rattle.vm_reading.specs.from_vm_bytes_calls.declared_answers_KeyReplies.{KeyReplies}
use Rattle.vm_reading.specs.from_vm_bytes_replies.KeyLines.{AreAnswered, key_worker_lines}
use Rattle.vm_reading.specs.from_vm_bytes_serve.KeyServing.{IsKeyServed, IsKeyServedInto}
use Rattle.vm_bytes_text.specs.KeyTexts.{key_rows_text, key_text, line_with}
use Rattle.vm_reading.specs.from_vm_pool.{Closing.view_at_end, declared_ended_Ended.Ended}
use Rattle.vm_reading.specs.from_vm_serve.declared_serving_ServedOn.{ServedOn}
use Rattle.vm_reading.proofs.from_vm_serve.Planned.{saved}
use Rattle.vm_reading.proofs.from_vm_endings.Telling.{matched}
use Rattle.vm_script.specs.Texts.{unflushed_line}
use Rattle.vm_words.specs.declared.Run.{Run}
use Rattle.vm_reading.specs.from_vm_endings.{declared_delivery_File.File, Deliveries.content_of}
use Rattle.vm_reading.specs.from_vm_endings.{Deliveries.written_of, Replies.counters_of}
use Rattle.vm_reading.specs.from_vm_endings.KeyRuns.{entries_text, IsFlushedKeyRun, IsKeyOutcome, IsMadeKeyRun, IsUnflushedKeyRun, KeepsKeys, last_strings}
use Rattle.vm_runs.specs.declared.outcome.Outcome.{Outcome}
use Rattle.vm_runs.proofs.Outcomes.{version_is}

-- the lines of a map over ranks are those of the map over strings whose ranks it has
rows-entries : (m : List KeyEntry) → AreKeys m → key_rows_text (ranks_of m) ≡ entries_text m
rows-entries [] keys = refl
rows-entries (e ∷ es) keys =
    ap (λ (s : List ℕ). line_with (key_text s) e.1 ++ key_rows_text (ranks_of es)) (string_of_rank 64 e.0 keys.0.fits keys.0.bytes)
    ∙ ap (λ (l : List ℕ). line_with (key_text e.0) e.1 ++ l) (rows-entries es keys.1)

module _ {U : Type 0} (run : Run) (image : List (List ℕ)) (lists : List (List KeyCall)) (plan : List PlannedFault)
    (version frames : ℕ) (s : ServedOn U KeyReplies (MemBlock 512) KeySaid)
    (into : IsKeyServedInto image plan lists s.kept.items s.report s.blocks.items s.ended) where
  -- what was kept stands for answers to the calls
  pub answered : AreAnswered lists s.kept.items
  answered = record {
    told = into.told;
    stand = into.stand;
    matched = matched (view_at_end s.ended).seen lists into.told into.served.ranks.on.calls;
  }

  abbrev pub key_made : (view_at_end s.ended).start.version ≡ version → (view_at_end s.ended).start.frames ≡ frames
      → plan ≡ run.options.fail.items → version ≡ unwrap_or run.options.first_version 0 → frames ≡ run.frames
      → IsMadeKeyRun run s.ended image lists
  key_made began has e first all = record {
    replies = into.told;
    report = s.report;
    blocks = s.blocks.items;
    served = subst (λ (l : List PlannedFault). IsKeyServed image l lists into.told s.report s.blocks.items s.ended) e into.served;
    version = began ∙ first ∙ version_is run.options.first_version;
    frames = has ∙ all;
  }

module _ {U : Type 0} (run : Run) (image : List (List ℕ)) (lists : List (List KeyCall)) (end : Ended U KeySaid)
    (of : IsMadeKeyRun run end image lists) (evicted : ℕ) where
  -- where no write of the last flush failed the blocks hold the last map
  pub blocks-hold : of.report.first ≡ None → IsTree keyed (pages_of_blocks of.blocks)
      × (map_of keyed (pages_of_blocks of.blocks) ≡ ranks_of (last_strings of))
  blocks-hold none =
      let is = saved _ _ _ _ _ _ _ of.served.ranks (of.served.ranks.on.flushed none) in
      (is.0, is.1 ∙ sym of.served.heard.last)

  -- no write of the last flush failed: the map of the blocks is told and kept
  pub key_flushed : (rows : List KeyEntry) (text : Vec ℕ Global) (file : Option File) (o : Outcome U KeySaid)
      → of.report.first ≡ None → ranks_of rows ≡ map_of keyed (pages_of_blocks of.blocks)
      → text.items ≡ key_worker_lines 0 lists of.replies ++ key_rows_text (ranks_of rows) ++ counters_of end evicted
      → KeepsKeys run.options.keep (pages_of_blocks of.blocks) (written_of file)
      → o ≡ record { delivery = record { file = file; text = text; status = 0 }; ended = end }
      → IsKeyOutcome run image lists (content_of o.delivery) o.ended
  key_flushed rows text file o none held told kept is =
      let given : Outcome U KeySaid = record { delivery = record { file = file; text = text; status = 0 }; ended = end } in
      let last = (blocks-hold none).1 in
      let flushed : IsFlushedKeyRun run end (content_of given.delivery) image lists = record {
        made = of;
        evicted = evicted;
        flushed = none;
        text = told ∙ ap (λ (l : List ℕ). key_worker_lines 0 lists of.replies ++ l ++ counters_of end evicted)
            (ap key_rows_text (held ∙ last) ∙ rows-entries (last_strings of) of.served.heard.last_keys);
        last = last;
        file = kept;
      } in
      subst (λ (g : Outcome U KeySaid). IsKeyOutcome run image lists (content_of g.delivery) g.ended) {x = given} (sym is) (inl (refl, flushed))

  -- the write of a page failed
  pub key_cut : (page : ℕ) (text : Vec ℕ Global) (o : Outcome U KeySaid) → of.report.first ≡ Some page
      → text.items ≡ key_worker_lines 0 lists of.replies ++ unflushed_line page ++ counters_of end evicted
      → o ≡ record { delivery = record { file = None; text = text; status = 7 }; ended = end }
      → IsKeyOutcome run image lists (content_of o.delivery) o.ended
  key_cut page text o least told is =
      let given : Outcome U KeySaid = record { delivery = record { file = None; text = text; status = 7 }; ended = end } in
      let cut : IsUnflushedKeyRun run end (content_of given.delivery) image lists = record {
        made = of;
        evicted = evicted;
        page = page;
        least = least;
        text = told;
        file = refl;
      } in
      subst (λ (g : Outcome U KeySaid). IsKeyOutcome run image lists (content_of g.delivery) g.ended) {x = given} (sym is) (inr (refl, cut))
