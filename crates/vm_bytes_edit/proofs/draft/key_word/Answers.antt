use Rattle.std.proofs.Common.{◌≡◌, ◌+◌, ◌*◌, ◌-◌, ◌++◌, drop, replicate, ◌∙◌, arith}
use Rattle.std.specs.Int.{w64, from_be_bytes}
use Rattle.vm_bytes_edit.proofs.KeyWords.{block_word}
use Rattle.vm_bytes_edit.proofs.draft.key_word.Goals as goal

pub returns : goal.returns
returns c =
    let word : c.from_be_bytes.result ≡ from_be_bytes w64 (c.copy_from_slice.new.self ++ drop c.min-count.result (replicate 8 0)) =
    c.from_be_bytes.ensures in
    word ∙ block_word c.args.bytes.now c.copy_from_slice.new.self c.args.i c.min-count.result
    (8 * c.args.i + c.min-count.result - 8 * c.args.i)
    c.requires.inside c.min-count.ensures (omega arith) c.copy_from_slice.ensures.after
