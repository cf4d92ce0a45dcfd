-- Examples: what the definitions of this crate give for small blocks and lists, and what breaks each of them alone.
use Rattle.std.specs.Prelude.{◌≡◌, ℕ, List, [], ◌∷◌, codes, refl, Some, None}
use Rattle.std.proofs.Common.{arith}
use Rattle.std.specs.Borrow.{Bor}
use Rattle.seq_tree.specs.Expressions.{Variable}
use Rattle.seq_tree.specs.Statements.{Statements, Work, Null, End, Then}
use Rattle.seq_tree.specs.Dearest.{Weights}
use Rattle.seq_tree.specs.declared.tree.Costs.{Costs}
use Rattle.seq_tree.specs.declared.tree.OpName.{OpName}
use Rattle.seq_cost.specs.Callees.{callee_cost, callee_starts}
use Rattle.seq_cost.specs.Counting.{arms_weight, weights_of}
use Rattle.seq_cost.specs.Different.{call_of, different}
use Rattle.seq_cost.specs.Over.{BringsOver, front, within_most}
use Rattle.seq_cost.specs.declared.counted.Counted.TheVariants.{Ticks, Calls, Through, Weighed}

abbrev unit_costs : Costs
unit_costs = record { assign = 1; test = 1; turn = 1; call = 2; nothing = 1; put = 1; finish = 1 }

abbrev set : OpName
set = record { object = codes "q"; op = codes "set" }

abbrev get : OpName
get = record { object = codes "q"; op = codes "get" }

-- callees: the first of a name counts, and one that is not listed counts nothing
callee_listed : callee_cost (record { name = get; cost = 4 } ∷ record { name = set; cost = 7 } ∷ record { name = set; cost = 9 } ∷ []) (codes "q")
    (codes "set") ≡ 7
callee_listed = refl

callee_not_listed : callee_cost (record { name = get; cost = 4 } ∷ []) (codes "q") (codes "set") ≡ 0
callee_not_listed = refl

started_listed : callee_starts (record { name = get; starts = 1 } ∷ record { name = set; starts = 3 } ∷ record { name = set; starts = 5 } ∷ [])
    (codes "q") (codes "set") ≡ 3
started_listed = refl

started_not_listed : callee_starts (record { name = get; starts = 1 } ∷ []) (codes "e") (codes "get") ≡ 0
started_not_listed = refl

-- what is counted: ticks with the work, or calls without it
abbrev ones : ℕ → List ℕ → List ℕ → ℕ
ones account object op = account

work_takes_ticks : (costs : Bor Costs) (account : Bor ℕ) → (weights_of ones (Ticks costs account)).work 7 ≡ 7
work_takes_ticks costs account = refl

calls_take_what_the_account_says : (costs : Bor Costs) (account : Bor ℕ) → (weights_of ones (Ticks costs account)).called set.object set.op
    ≡ account.now
calls_take_what_the_account_says costs account = refl

work_is_no_call : (target : Bor OpName) → (weights_of ones (Calls target)).work 7 ≡ 0
work_is_no_call target = refl

work_is_no_call_through : (target : Bor OpName) (account : Bor ℕ) → (weights_of ones (Through target account)).work 7 ≡ 0
work_is_no_call_through target account = refl

work_is_no_weighed_call : (account : Bor ℕ) → (weights_of ones (Weighed account)).work 7 ≡ 0
work_is_no_weighed_call account = refl

each_call_is_weighed : (account : Bor ℕ) → (weights_of ones (Weighed account)).called set.object set.op ≡ account.now
each_call_is_weighed account = refl

-- arms: the first costs a condition and 5, the second two conditions and 6, what follows two conditions and 2
abbrev ticks : Weights
ticks = record { costs = unit_costs; work = λ n. n; called = λ object op. 0 }

abbrev busy : ℕ → Statements
busy n = Then (Work n) End

arms_greatest : arms_weight ticks ((Variable (codes "x"), busy 5) ∷ (Variable (codes "y"), busy 6) ∷ []) 2 ≡ 8
arms_greatest = refl

arms_others : arms_weight ticks ((Variable (codes "x"), busy 5) ∷ (Variable (codes "y"), busy 6) ∷ []) 9 ≡ 11
arms_others = refl

-- ticks up to the most, and one more
within : within_most 1000000000 ≡ Some 1000000000
within = refl

not_within : within_most 1000000001 ≡ None
not_within = refl

-- a block whose second statement brings the sum over the most
abbrev dear : Statements
dear = Then (Work 600000000) (Then (Work 400000001) (Then Null End))

front_of_two : front 2 dear ≡ Then (Work 600000000) (Then (Work 400000001) End)
front_of_two = refl

front_of_all : front 9 dear ≡ dear
front_of_all = refl

second_brings_over : BringsOver unit_costs (λ object op. 0) dear 1
second_brings_over = record { before = omega arith; with_it = omega arith }

first_does_not : BringsOver unit_costs (λ object op. 0) dear 0 → ⊥
first_does_not h = omega (arith, h.with_it)

third_does_not : BringsOver unit_costs (λ object op. 0) dear 2 → ⊥
third_does_not h = omega (arith, h.before)

-- different calls, in the order in which they are written first
once_each : different (set ∷ get ∷ set ∷ get ∷ []) ≡ set ∷ get ∷ []
once_each = refl

other_order : different (get ∷ set ∷ []) ≡ get ∷ set ∷ []
other_order = refl

abbrev name_of : List ℕ → Bor (List ℕ)
name_of n = record { ref_ptr = (0, 0); now = n }

-- a call is the operation that it names
called_set : call_of (record { object = name_of (codes "q"); op = name_of (codes "set") }) ≡ set
called_set = refl
