-- Definitions of vm_kind that the crates above name through this one.
pub use Rattle.vm_kind.specs.Joins
pub use Rattle.vm_kind.specs.Room
pub use Rattle.vm_kind.specs.WordRoom
pub use Rattle.vm_kind.specs.declared.tree.TreeOf as declared_tree_TreeOf
pub use Rattle.vm_kind.specs.declared.word_keys.Sizes as declared_word_keys_Sizes
pub use Rattle.vm_kind.specs.declared.word_keys.WordKeys as declared_word_keys_WordKeys
