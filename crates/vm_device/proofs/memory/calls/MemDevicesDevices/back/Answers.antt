use Rattle.std.proofs.Common.{rules, ap, sym, ◌∙◌, ◌≡◌, true}
use Rattle.std.specs.Prelude.{is_some}
use Rattle.vm_device.specs.Devices.{count_out, with_words}
use Rattle.vm_device.specs.Held.{outs_in}
use Rattle.vm_device.specs.Memory.{files_in, page_stored}
use Rattle.vm_device.proofs.Named.{found_put, none_put, some_home}
use Rattle.vm_device.proofs.memory.calls.MemDevicesDevices.back.Goals as goal

pub returns-in-Some : goal.returns-in-Some
returns-in-Some g c =
    let was : is_some (count_out (outs_in c.args.self.now.ledger.outs.blocks.items) c.args.name.now c.args.p) ≡ true = search rules in
    let put = found_put _ _ _ _ _ _ _ (rw c.deref.ensures.value at c.in-Some.ensures) c.index_mut.ensures.value c.put.ensures in record {
      outs = search rules;
      count = search rules;
      answered = search rules;
      files = λ _. put
          ∙ ap (λ w. with_words (files_in c.args.self.now.files.items) c.args.name.now c.args.p w) c.words.ensures
          ∙ sym (some_home _ (files_in c.args.self.now.files.items) c.args.name.now c.args.p (page_stored c.args.block).words was);
    }

pub returns-then-bring_home : goal.returns-then-bring_home
returns-then-bring_home g c =
    let was : is_some (count_out (outs_in c.args.self.now.ledger.outs.blocks.items) c.args.name.now c.args.p) ≡ true = search rules in
    record {
      outs = search rules;
      count = search rules;
      answered = search rules;
      files = λ _. sym (some_home _ (files_in c.args.self.now.files.items) c.args.name.now c.args.p (page_stored c.args.block).words was
          ∙ none_put c.args.name.now c.args.self.now.files.items c.args.p (page_stored c.args.block).words
          (rw c.deref.ensures.value at c.in_default.ensures));
    }
