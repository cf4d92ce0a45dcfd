-- The first fault of several expressions, by a test of all of them for each fault.
use Rattle.std.proofs.Common.{◌≡◌, Bool, not, ◌||◌, List, [], ◌∷◌, map, Option, Some, None, refl, ap}
use Rattle.std.specs.List.{list_any}
use Rattle.seq_tree.specs.Expressions.{Expression}
use Rattle.seq_tree.specs.Statements.{Statements}
use Rattle.seq_tree.specs.Sorts.{has_sort, Word, Boolean}
use Rattle.seq_tree.specs.Faults.{Scope, Expected, has_unknown, has_bad_divisor, expressions_fault, word, words, condition, conditions}
use Rattle.seq_tree.specs.Trees.{branches_of, otherwise}
use Rattle.seq_check.specs.Answers.{first_of}

words-any : {A : Type 0} (f : A → Expression) (test : Expected → Bool) (xs : List A)
    → list_any test (words (map f xs)) ≡ list_any (λ x. test (word (f x))) xs
words-any f test [] = refl
words-any f test (x ∷ xs) = ap (λ b. test (word (f x)) || b) (words-any f test xs)

conditions-any : {A : Type 0} (f : A → Expression × Statements) (test : Expected → Bool) (xs : List A) (other : Option Statements) →
    list_any test (conditions (branches_of (map f xs) (otherwise other))) ≡ list_any (λ x. test (condition (f x).0)) xs
conditions-any f test [] None = refl
conditions-any f test [] (Some block) = refl
conditions-any f test (x ∷ xs) other = ap (λ b. test (condition (f x).0) || b) (conditions-any f test xs other)

-- the first fault of expressions that are to be words
pub words-fault : {A : Type 0} (c : Scope) (f : A → Expression) (xs : List A) →
    expressions_fault c (words (map f xs)) ≡ first_of (list_any (λ x. has_unknown c (f x)) xs) (list_any (λ x. not (has_sort Word (f x))) xs)
    (list_any (λ x. has_bad_divisor (f x)) xs)
words-fault c f xs =
    rw (
      words-any f (λ x. has_unknown c x.expression) xs,
      words-any f (λ x. not (has_sort x.sort x.expression)) xs,
      words-any f (λ x.
          has_bad_divisor x.expression) xs,
    ) refl

-- that of the conditions of an `if`
pub conditions-fault : {A : Type 0} (c : Scope) (f : A → Expression × Statements) (xs : List A) (other : Option Statements) →
    expressions_fault c (conditions (branches_of (map f xs) (otherwise other)))
    ≡ first_of (list_any (λ x. has_unknown c (f x).0) xs) (list_any (λ x. not (has_sort Boolean (f x).0)) xs)
    (list_any (λ x. has_bad_divisor (f x).0) xs)
conditions-fault c f xs other =
    rw (
      conditions-any f (λ x. has_unknown c x.expression) xs other,
      conditions-any f (λ x.
          not (has_sort x.sort x.expression)) xs other,
      conditions-any f (λ x. has_bad_divisor x.expression) xs other,
    ) refl
