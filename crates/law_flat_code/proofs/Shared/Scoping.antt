-- What holds of a scope holds at each place of a block, where each loop keeps it.
use Rattle.std.proofs.Common.{ℕ, suc, ◌-◌, Bool, true, false}
use Rattle.std.specs.Prelude.{nat_lt, if◌then◌else◌}
use Rattle.seq_tree.specs.Names.{Name}
use Rattle.seq_tree.specs.Statements.{Statement, Statements, Branches, Null, Assign, If, For, ExitWhen, Call, Work, Put, End, Then, Nothing}
use Rattle.seq_tree.specs.Statements.{Else, When}
use Rattle.seq_tree.specs.Variables.{Variables}
use Rattle.law_flat_code.specs.Codes.{block_size, in_turn, size}
use Rattle.law_flat_code.specs.Withins.{scope_inside, scope_within, scope_among}

-- what holds of both sides of a choice
by_choice : {A : Type 0} (P : A → Type 0) (b : Bool) (x y : A) → P x → P y → P (if b then x else y)
by_choice P true x y h k = h
by_choice P false x y h k = k

module _ (P : Variables → Type 0) (turned : (name : Name) (scope : Variables) → P scope → P (in_turn name scope)) where
  mutual
    holds_inside : (s : Statement) (n : ℕ) (open' : Bool) (scope : Variables) → P scope → P (scope_inside s n open' scope)
    holds_inside (If branches) n open' scope h = holds_among branches n open' scope h
    holds_inside (For name low high body) n open' scope h =
        by_choice P (nat_lt 0 n) _ _
        (by_choice P (nat_lt (n - 1) (block_size body)) _ _ (holds_within body (n - 1) open' (in_turn name scope) (turned name scope h))
        (by_choice P open' _ _ (turned name scope h) h)) h
    holds_inside Null n open' scope h = h
    holds_inside (Assign target e) n open' scope h = h
    holds_inside (ExitWhen condition) n open' scope h = h
    holds_inside (Call object op actuals) n open' scope h = h
    holds_inside (Work ticks) n open' scope h = h
    holds_inside (Put e) n open' scope h = h

    pub holds_within : (b : Statements) (n : ℕ) (open' : Bool) (scope : Variables) → P scope → P (scope_within b n open' scope)
    holds_within End n open' scope h = h
    holds_within (Then first others) n open' scope h =
        by_choice P (nat_lt n (size first)) _ _ (holds_inside first n open' scope h) (holds_within others (n - size first) open' scope h)

    holds_among : (bs : Branches) (n : ℕ) (open' : Bool) (scope : Variables) → P scope → P (scope_among bs n open' scope)
    holds_among Nothing n open' scope h = h
    holds_among (Else block) n open' scope h = holds_within block n open' scope h
    holds_among (When condition block others) n open' scope h =
        by_choice P (nat_lt 0 n) _ _
        (by_choice P (nat_lt (n - 1) (block_size block)) _ _ (holds_within block (n - 1) open' scope h)
        (by_choice P (nat_lt (n - 1) (suc (block_size block))) _ _ h (holds_among others (n - 1 - suc (block_size block)) open' scope h))) h
