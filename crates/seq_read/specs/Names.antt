-- Which words may be names, by the kind of text in which a block stands.
-- Reserved words are those of ISO/IEC 8652:2012, 2.9.
use Rattle.std.specs.Prelude.{Bool}
use Rattle.seq_tree.specs.Names.{Name}
use Rattle.seq_tree.specs.Proper.{is_block_name}
use Rattle.ada_tree.specs.Words.{is_ada_name}
use Rattle.ods_tree.specs.Words.{is_design_name}
use Rattle.seq_read.specs.declared.names.Text.{Text}
use Rattle.seq_read.specs.declared.names.Text.TheVariants.{Plain, Ada, Design}

-- whether a word may be a name
unfoldable pub may_name : Text → Name → Bool
may_name Plain name = is_block_name name
may_name Ada name = is_ada_name name
may_name Design name = is_design_name name
