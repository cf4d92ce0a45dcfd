-- The tokens of lines: those of two lists one after the other, and those of a block at whatever level it stands.
use Rattle.std.proofs.Common.{◌≡◌, ℕ, List, ◌++◌, sym, ◌∙◌}
use Rattle.std.proofs.lemmas.Grind.{flat_map-append}
use Rattle.seq_tree.specs.Statements.{Statements}
use Rattle.seq_tree.specs.Spelling.{Line, joined, block_lines}
use Rattle.seq_read.proofs.Shared.StatementTokens as tokens

pub joined-append : (one two : List Line) → joined (one ++ two) ≡ joined one ++ joined two
joined-append one two = flat_map-append (λ (l : Line). l.tokens) one two

pub block-level : (n m : ℕ) (b : Statements) → joined (block_lines n b) ≡ joined (block_lines m b)
block-level n m b = tokens.block-level n b ∙ sym (tokens.block-level m b)
