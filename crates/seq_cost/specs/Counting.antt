-- The weights of statements for what is counted along a path.
-- They are those of the definitions of a block's cost and of the calls of an operation on one path.
use Rattle.std.specs.Prelude.{ℕ, ◌+◌, List, [], ◌∷◌, max, if◌then◌else◌}
use Rattle.seq_tree.specs.Expressions.{Expression}
use Rattle.seq_tree.specs.Statements.{Statements}
use Rattle.seq_tree.specs.Dearest.{Weights, dearest, free, is_call_of}
use Rattle.seq_tree.specs.Names.{Name}
use Rattle.seq_cost.specs.declared.counted.Counted.{Counted}
use Rattle.seq_cost.specs.declared.counted.Counted.TheVariants.{Ticks, Calls, Through, Weighed}

-- the weights for what is counted, where an account tells what operations count for their callers
abbrev pub weights_of : {A : Type 0} → (A → Name → Name → ℕ) → Counted A → Weights
weights_of counts (Ticks costs account) = record { costs = costs.now; work = λ ticks. ticks; called = counts account.now }
weights_of counts (Calls target) = record { costs = free; work = λ ticks. 0; called = λ object op. if is_call_of target.now object op then 1 else 0 }
weights_of counts (Through target account) =
    record { costs = free; work = λ ticks. 0; called = λ object op. if is_call_of target.now object op then 1 else counts account.now object op }
weights_of counts (Weighed account) = record { costs = free; work = λ ticks. 0; called = counts account.now }

-- what arms count along their dearest path, where what follows all of them counts this much
abbrev pub arms_weight : Weights → List (Expression × Statements) → ℕ → ℕ
arms_weight w [] others = others
arms_weight w (arm ∷ arms) others = w.costs.test + max (dearest w arm.1) (arms_weight w arms others)
