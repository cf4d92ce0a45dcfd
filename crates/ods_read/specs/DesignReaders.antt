-- Reading a design, of either version.
-- The object description skeleton follows Burns and Wellings 1995; its grammar is this project's own.
use Rattle.std.specs.Prelude.{ℕ, List, Option, Some, None, is_some, codes}
use Rattle.grammar.specs.Reading.{Read, then_at, pure_at, choose_at}
use Rattle.seq_tree.specs.declared.token.Token.{Token}
use Rattle.seq_tree.specs.declared.token.Token.TheVariants.{Word, Number, Sign}
use Rattle.seq_tree.specs.declared.token.Mark.TheVariants.{Semicolon, DotDot, Equal}
use Rattle.ods_tree.specs.Designs.{Design}
use Rattle.ods_tree.specs.declared.design.TickUnit.{TickUnit}
use Rattle.ods_tree.specs.declared.design.VersionTwo.{VersionTwo}
use Rattle.token_read.specs.Readers.{fixed_at, number_at, next_is}
use Rattle.seq_read.specs.Parts.{named_at}
use Rattle.seq_read.specs.Statements.{word}
use Rattle.ods_read.specs.Readers.{unit_named, design_name_at, end_at, costs_at}
use Rattle.ods_read.specs.ObjectReaders.{TreesReader, children_at, over_at, tree_with}

-- the time of a tick
unfoldable pub tick_at : List Token → Read Token (ℕ × TickUnit)
tick_at =
    then_at (word (codes "tick")) (λ _. then_at (fixed_at (Sign Equal)) (λ _. then_at number_at (λ n. then_at (named_at unit_named) (λ u.
    then_at (fixed_at (Sign Semicolon)) (λ _. pure_at (n, u))))))

-- the least and the greatest priority
unfoldable pub range_at : List Token → Read Token (Option (ℕ × ℕ))
range_at =
    then_at (word (codes "priorities")) (λ _. then_at number_at (λ low. then_at (fixed_at (Sign DotDot)) (λ _. then_at number_at (λ high.
    then_at (fixed_at (Sign Semicolon)) (λ _. pure_at (Some (low, high)))))))

-- the least and the greatest priority, where they are stated
unfoldable pub priorities_at : List Token → Read Token (Option (ℕ × ℕ))
priorities_at = choose_at (next_is (Word (codes "priorities"))) range_at (pure_at None)

-- what a design of version 2 states besides
unfoldable pub two_at : List Token → Read Token (Option VersionTwo)
two_at =
    then_at (word (codes "version")) (λ _. then_at (fixed_at (Number 2)) (λ _. then_at (word (codes "is")) (λ _. then_at tick_at (λ tick.
    then_at priorities_at (λ range. pure_at (Some (record { tick = tick.0; unit = tick.1; priorities = range })))))))

-- the head of a design, behind its name
unfoldable pub version_at : List Token → Read Token (Option VersionTwo)
version_at = choose_at (next_is (Word (codes "version"))) two_at (then_at (word (codes "is")) (λ _. pure_at None))

-- A design inside whose root constructs and objects nest at most so deep, by what is read of objects where none may nest any more.
-- Units stand in version 2 alone.
unfoldable pub design_with : TreesReader → ℕ → ℕ → List Token → Read Token Design
design_with last most deeper =
    then_at (word (codes "design")) (λ _. then_at design_name_at (λ name. then_at version_at (λ version. then_at costs_at (λ costs.
    then_at (tree_with last (is_some version) most deeper) (λ root. then_at (end_at name) (λ _.
    pure_at (record { name = name; version = version; costs = costs; root = root })))))))

-- a design: at most 32 operators in a chain, and nesting of at most 64, of which the root is the first
abbrev pub design_at : List Token → Read Token Design
design_at = design_with (children_at over_at) 32 63
