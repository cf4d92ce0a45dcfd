-- The sort of an operator, level by level.
use Rattle.std.proofs.Common.{◌≡◌, Bool, false, ◌&&◌, ◌⊎◌, Option, arith}
use Rattle.seq_tree.specs.Sorts.{Sort, Word, Boolean, same_sort, result_sort}
use Rattle.seq_tree.specs.Levels as levels
use Rattle.seq_check.specs.LevelViews.{level_view}
use Rattle.seq_check.specs.declared.sorts.Level.{Level}
use Rattle.seq_check.specs.declared.sorts.Level.TheVariants.{Logical, Relational, Arithmetic}

pub other-word : (l : levels.Level) (k : Level) (named : Bool) (a b : Option Sort) → k ≡ level_view l → (k ≡ Logical) ⊎ (k ≡ Arithmetic)
    → same_sort Word (result_sort l named a b) ≡ (same_sort Word a && same_sort Word b)
other-word l k named a b e h = grind arith

pub relational-word : (l : levels.Level) (named : Bool) (a b : Option Sort) → level_view l ≡ Relational
    → same_sort Word (result_sort l named a b) ≡ false
relational-word l named a b e = grind arith

pub logical-boolean : (l : levels.Level) (named : Bool) (a b : Option Sort) → level_view l ≡ Logical
    → same_sort Boolean (result_sort l named a b) ≡ (same_sort Boolean a && same_sort Boolean b)
logical-boolean l named a b e = grind arith

pub relational-boolean : (l : levels.Level) (named : Bool) (a b : Option Sort) → level_view l ≡ Relational
    → same_sort Boolean (result_sort l named a b) ≡ (same_sort Word a && same_sort Word b && named)
relational-boolean l named a b e = grind arith

pub arithmetic-boolean : (l : levels.Level) (named : Bool) (a b : Option Sort) → level_view l ≡ Arithmetic
    → same_sort Boolean (result_sort l named a b) ≡ false
arithmetic-boolean l named a b e = grind arith

pub ruleset sort_laws = (other-word, logical-boolean)
