-- Definitions of vm_rule that the crates above name through this one.
pub use Rattle.vm_rule.specs.Prelude
pub use Rattle.vm_rule.specs.declared.words.Pass as declared_words_Pass
pub use Rattle.vm_rule.specs.declared.words.Words as declared_words_Words
