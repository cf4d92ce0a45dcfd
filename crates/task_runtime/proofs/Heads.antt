-- What is known of the first piece at each place of a block that fits: a call leads to an operation that is not under way, a loop is left inside
-- one, and a `work` takes ticks. The scope there is no larger than the loops that fit.
use Rattle.std.proofs.Common.{◌≡◌, inl, inr, ◌<◌, ◌≤◌, ℕ, suc, ◌+◌, ◌-◌, Bool, true, false, List, [], ◌∷◌, Option, Some, None, length, refl, ap, sym}
use Rattle.std.proofs.Common.{subst, arith}
use Rattle.std.specs.Prelude.{nat_le, nat_lt, if◌then◌else◌, ⊤}
use Rattle.seq_tree.specs.Names.{Name}
use Rattle.seq_tree.specs.Expressions.{Expression}
use Rattle.seq_tree.specs.Statements.{Statement, Statements, Branches, Null, Assign, If, For, ExitWhen, Call, Work, Put, End, Then, Nothing}
use Rattle.seq_tree.specs.Statements.{Else, When}
use Rattle.seq_tree.specs.Variables.{Variables}
use Rattle.seq_tree.specs.declared.tree.OpName.{OpName}
use Rattle.machine.specs.Systems.{System, callee}
use Rattle.machine.specs.Pieces.{Piece, Calling, Leaving, Turned, Turning, Working, branch_pieces, pieces, pieces_of}
use Rattle.law_flat_code.specs.Codes.{block_size, in_turn, next_slot, size}
use Rattle.law_flat_code.specs.Withins.{among, inside, scope_among, scope_inside, scope_within, turn_end, within}
use Rattle.task_runtime.specs.Callable.{IsClear, op_name}
use Rattle.task_runtime.specs.Fitting.{FitsBlock, FitsBranches, FitsIf, FitsStatement, Spot, in_branch, in_loop, spot_of}
use Rattle.linker.specs.Callees.{OpBody}
use Rattle.linker.specs.Leads.{Leads}
use Rattle.linker.specs.Scopes.{slots_of}
use Rattle.linker.specs.Standing.{Lists}
use Rattle.linker.specs.declared.code.Ins.{Ins}
use Rattle.task_runtime.specs.Bodies.{Body, ended_by, left_at, scope_at, turn_at}
use Rattle.task_runtime.proofs.Orders.{by_both, by_choice, by_four}
use Rattle.task_runtime.specs.Sounds.{FullBlock, FullBranches, FullStatement, IsEnding, IsFull, IsSound}

few_when : (s : Spot) (scope : Variables) (b c d : Bool) (inner others : Variables) → 1 ≤ s.room
    → next_slot inner ≤ next_slot scope + (s.room - 1) → next_slot others ≤ next_slot scope + s.room
    → next_slot (if b then (if c then inner else (if d then scope else others)) else scope) ≤ next_slot scope + s.room
few_when s scope b c d inner others le h k =
    let P : Variables → Type 0 = λ z. next_slot z ≤ next_slot scope + s.room in
    let same : P scope = omega arith in
    by_choice P b _ _ (by_choice P c _ _ (omega (arith, h, le)) (by_choice P d _ _ same k)) same

-- the scope at each place has few slots
mutual
  few_inside : (s : Spot) (st : Statement) (n : ℕ) (open' : Bool) (scope : Variables) → FitsStatement s st
      → next_slot (scope_inside st n open' scope) ≤ next_slot scope + s.room
  few_inside s (If branches) n open' scope h = few_if s branches n open' scope h
  few_inside s (For name low high body) n open' scope h =
      let P : Variables → Type 0 = λ z. next_slot z ≤ next_slot scope + s.room in
      let turn : P (in_turn name scope) = omega (arith, h.0) in
      let same : P scope = omega arith in
      let body' = few_within (in_loop s) body (n - 1) open' (in_turn name scope) h.1 in
      by_choice P (nat_lt 0 n) _ _
      (by_choice P (nat_lt (n - 1) (block_size body)) _ _ (omega (arith, body', h.0)) (by_choice P open' _ _ turn same)) same
  few_inside s Null n open' scope h = omega arith
  few_inside s (Assign target e) n open' scope h = omega arith
  few_inside s (ExitWhen condition) n open' scope h = omega arith
  few_inside s (Call unit op actuals) n open' scope h = omega arith
  few_inside s (Work ticks) n open' scope h = omega arith
  few_inside s (Put e) n open' scope h = omega arith

  pub few_within : (s : Spot) (b : Statements) (n : ℕ) (open' : Bool) (scope : Variables) → FitsBlock s b
      → next_slot (scope_within b n open' scope) ≤ next_slot scope + s.room
  few_within s End n open' scope h = omega arith
  few_within s (Then first others) n open' scope h =
      by_choice (λ z. next_slot z ≤ next_slot scope + s.room) (nat_lt n (size first)) _ _ (few_inside s first n open' scope h.0)
      (few_within s others (n - size first) open' scope h.1)

  few_if : (s : Spot) (bs : Branches) (n : ℕ) (open' : Bool) (scope : Variables) → FitsIf s bs
      → next_slot (scope_among bs n open' scope) ≤ next_slot scope + s.room
  few_if s Nothing n open' scope h = absurd h
  few_if s (Else block) n open' scope h = absurd h
  few_if s (When condition block others) n open' scope h =
      few_when s scope (nat_lt 0 n) (nat_lt (n - 1) (block_size block)) (nat_lt (n - 1) (suc (block_size block))) _ _ h.0
      (few_within (in_branch s) block (n - 1) open' scope h.1) (few_among s others (n - 1 - suc (block_size block)) open' scope h.2)

  few_among : (s : Spot) (bs : Branches) (n : ℕ) (open' : Bool) (scope : Variables) → FitsBranches s bs
      → next_slot (scope_among bs n open' scope) ≤ next_slot scope + s.room
  few_among s Nothing n open' scope h = omega arith
  few_among s (Else block) n open' scope h = let k = few_within (in_branch s) block n open' scope h.1 in omega (arith, k, h.0)
  few_among s (When condition block others) n open' scope h =
      few_when s scope (nat_lt 0 n) (nat_lt (n - 1) (block_size block)) (nat_lt (n - 1) (suc (block_size block))) _ _ h.0
      (few_within (in_branch s) block (n - 1) open' scope h.1) (few_among s others (n - 1 - suc (block_size block)) open' scope h.2)

-- what is known of the first of pieces in a scope, where so many names are outside of all loops
abbrev pub Head : System → List OpName → ℕ → Variables → List Piece → Type 0
Head y chain outer scope (Calling unit op actuals ∷ ps) = IsClear y chain (op_name unit op) × IsFull (callee y unit op) actuals
Head y chain outer scope (Leaving condition ∷ ps) = outer < length scope
Head y chain outer scope (Working ticks ∷ ps) = 0 < ticks
Head y chain outer scope _ = ⊤

-- an operation that is clear where a statement stands
clear_at : (s : Spot) (y : System) (chain : List OpName) (c : OpName) → s.system ≡ y → s.chain ≡ chain → IsClear s.system s.chain c
    → IsClear y chain c
clear_at s y chain c e f h = subst (λ z. IsClear z chain c) e (subst (λ w. IsClear s.system w c) f h)

module _ (y : System) (chain : List OpName) (outer : ℕ) where
  turns_head : (b : Bool) (name : Name) (low high : ℕ) (body : Statements) (scope : Variables) (rest : List Piece) → Head y chain outer scope rest
      → Head y chain outer scope (if b then Turning name low high body ∷ rest else rest)
  turns_head true name low high body scope rest h = tt
  turns_head false name low high body scope rest h = h

  mutual
    head_statement : (s : Spot) (st : Statement) (scope : Variables) (rest : List Piece) → s.system ≡ y → s.chain ≡ chain
        → (s.inside ≡ true → outer < length scope) → FitsStatement s st → FullStatement y st → Head y chain outer scope rest
        → Head y chain outer scope (pieces_of st rest)
    head_statement s Null scope rest e f i h k r = tt
    head_statement s (Assign target x) scope rest e f i h k r = tt
    head_statement s (If branches) scope rest e f i h k r = head_if s branches scope rest h
    head_statement s (For name low high body) scope rest e f i h k r = turns_head (nat_le low high) name low high body scope rest r
    head_statement s (ExitWhen condition) scope rest e f i h k r = i h
    head_statement s (Call unit op actuals) scope rest e f i h k r = (clear_at s y chain (op_name unit op) e f h, k)
    head_statement s (Work ticks) scope rest e f i h k r = h
    head_statement s (Put x) scope rest e f i h k r = tt

    head_block : (s : Spot) (b : Statements) (scope : Variables) (rest : List Piece) → s.system ≡ y → s.chain ≡ chain
        → (s.inside ≡ true → outer < length scope) → FitsBlock s b → FullBlock y b → Head y chain outer scope rest
        → Head y chain outer scope (pieces b rest)
    head_block s End scope rest e f i h k r = r
    head_block s (Then first others) scope rest e f i h k r =
        head_statement s first scope (pieces others rest) e f i h.0 k.0 (head_block s others scope rest e f i h.1 k.1 r)

    head_if : (s : Spot) (bs : Branches) (scope : Variables) (rest : List Piece) → FitsIf s bs → Head y chain outer scope (branch_pieces bs rest)
    head_if s Nothing scope rest h = absurd h
    head_if s (Else block) scope rest h = absurd h
    head_if s (When condition block others) scope rest h = tt

  end_head : (open' : Bool) (name : Name) (at last : ℕ) (body : Statements) (scope : Variables) (rest : List Piece)
      → Head y chain outer scope (turn_end open' name at last body ∷ rest)
  end_head true name at last body scope rest = tt
  end_head false name at last body scope rest = tt

  abbrev P : Variables → List Piece → Type 0
  P scope ps = Head y chain outer scope ps

  mutual
    head_inside : (s : Spot) (st : Statement) (n : ℕ) (open' : Bool) (depth : ℕ) (turn : ℕ → ℕ) (scope : Variables) (rest : List Piece)
        → s.system ≡ y → s.chain ≡ chain → (s.inside ≡ true → outer < length scope) → outer ≤ length scope → FitsStatement s st
        → FullStatement y st → Head y chain outer scope rest
        → Head y chain outer (scope_inside st n open' scope) (inside st n open' depth turn rest)
    head_inside s (If branches) n open' depth turn scope rest e f i le h k r = head_among_if s branches n open' depth turn scope rest e f i le h k r
    head_inside s (For name low high body) n open' depth turn scope rest e f i le h k r =
        by_both P (nat_lt 0 n) _ _ _ _
        (by_both P (nat_lt (n - 1) (block_size body)) _ _ _ _
        (head_within (in_loop s) body (n - 1) open' (suc depth) turn (in_turn name scope) (Turned name (turn depth) high body ∷ rest) e f
        (λ t. omega (arith, le)) (omega (arith, le)) h.1 k tt)
        (end_head open' name (turn depth) high body (if open' then in_turn name scope else scope) rest))
        (turns_head (nat_le low high) name low high body scope rest r)
    head_inside s Null n open' depth turn scope rest e f i le h k r = tt
    head_inside s (Assign target x) n open' depth turn scope rest e f i le h k r = tt
    head_inside s (ExitWhen condition) n open' depth turn scope rest e f i le h k r = i h
    head_inside s (Call unit op actuals) n open' depth turn scope rest e f i le h k r = (clear_at s y chain (op_name unit op) e f h, k)
    head_inside s (Work ticks) n open' depth turn scope rest e f i le h k r = h
    head_inside s (Put x) n open' depth turn scope rest e f i le h k r = tt

    pub head_within : (s : Spot) (b : Statements) (n : ℕ) (open' : Bool) (depth : ℕ) (turn : ℕ → ℕ) (scope : Variables) (rest : List Piece)
        → s.system ≡ y → s.chain ≡ chain → (s.inside ≡ true → outer < length scope) → outer ≤ length scope → FitsBlock s b → FullBlock y b
        → Head y chain outer scope rest → Head y chain outer (scope_within b n open' scope) (within b n open' depth turn rest)
    head_within s End n open' depth turn scope rest e f i le h k r = r
    head_within s (Then first others) n open' depth turn scope rest e f i le h k r =
        by_both P (nat_lt n (size first)) _ _ _ _
        (head_inside s first n open' depth turn scope (pieces others rest) e f i le h.0 k.0 (head_block s others scope rest e f i h.1 k.1 r))
        (head_within s others (n - size first) open' depth turn scope rest e f i le h.1 k.1 r)

    head_among_if : (s : Spot) (bs : Branches) (n : ℕ) (open' : Bool) (depth : ℕ) (turn : ℕ → ℕ) (scope : Variables) (rest : List Piece)
        → s.system ≡ y → s.chain ≡ chain → (s.inside ≡ true → outer < length scope) → outer ≤ length scope → FitsIf s bs → FullBranches y bs
        → Head y chain outer scope rest → Head y chain outer (scope_among bs n open' scope) (among bs n open' depth turn rest)
    head_among_if s Nothing n open' depth turn scope rest e f i le h k r = absurd h
    head_among_if s (Else block) n open' depth turn scope rest e f i le h k r = absurd h
    head_among_if s (When condition block others) n open' depth turn scope rest e f i le h k r =
        by_four P (nat_lt 0 n) (nat_lt (n - 1) (block_size block)) (nat_lt (n - 1) (suc (block_size block))) _ _ _ _ _ _ _ _
        (head_within (in_branch s) block (n - 1) open' depth turn scope rest e f i le h.1 k.0 r) r
        (head_among s others (n - 1 - suc (block_size block)) open' depth turn scope rest e f i le h.2 k.1 r) tt

    head_among : (s : Spot) (bs : Branches) (n : ℕ) (open' : Bool) (depth : ℕ) (turn : ℕ → ℕ) (scope : Variables) (rest : List Piece)
        → s.system ≡ y → s.chain ≡ chain → (s.inside ≡ true → outer < length scope) → outer ≤ length scope → FitsBranches s bs
        → FullBranches y bs → Head y chain outer scope rest
        → Head y chain outer (scope_among bs n open' scope) (among bs n open' depth turn rest)
    head_among s Nothing n open' depth turn scope rest e f i le h k r = r
    head_among s (Else block) n open' depth turn scope rest e f i le h k r =
        head_within (in_branch s) block n open' depth turn scope rest e f i le h.1 k r
    head_among s (When condition block others) n open' depth turn scope rest e f i le h k r =
        by_four P (nat_lt 0 n) (nat_lt (n - 1) (block_size block)) (nat_lt (n - 1) (suc (block_size block))) _ _ _ _ _ _ _ _
        (head_within (in_branch s) block (n - 1) open' depth turn scope rest e f i le h.1 k.0 r) r
        (head_among s others (n - 1 - suc (block_size block)) open' depth turn scope rest e f i le h.2 k.1 r) tt

-- behind a body is the end of a body or of an activation
end_known : (y : System) (chain : List OpName) (outer : ℕ) (scope : Variables) (o : Option (ℕ × ℕ)) (b : OpBody) (actuals : List Expression)
    (caller : Variables) (rest : List Piece) → Head y chain outer scope (ended_by o b.vars b.op actuals caller ∷ rest)
end_known y chain outer scope None b actuals caller rest = tt
end_known y chain outer scope (Some owner) b actuals caller rest = tt

ending_head : (y : System) (chain : List OpName) (outer : ℕ) (scope : Variables) (ps : List Piece) → IsEnding ps → Head y chain outer scope ps
ending_head y chain outer scope ps (inl h) = subst (Head y chain outer scope) (sym h.1) tt
ending_head y chain outer scope ps (inr h) = subst (Head y chain outer scope) (sym h.4) (end_known y chain outer scope h.0.owner h.0 h.1 h.2 h.3)

pub slots_long : (ns : List Name) → length (slots_of ns) ≡ length ns
slots_long [] = refl
slots_long (n ∷ ns) = ap suc (slots_long ns)

-- the first piece at each place of a body
pub head_at : (y : System) (leads : Name → Name → Leads) (t : Lists) (last : Ins) (room : ℕ) (r : Body) → IsSound y leads t last room r
    → (open' : Bool) (at : ℕ) (slots : List ℕ) → Head y r.chain (length r.names) (scope_at r open' at) (left_at r open' at slots)
head_at y leads t last room r s open' at slots =
    head_within y r.chain (length r.names) (spot_of y r.chain) r.block (at - r.start) open' 0 (turn_at r.names slots) (slots_of r.names) r.behind
    refl refl (λ h. absurd (not_inside h)) (let e = slots_long r.names in omega (arith, e)) s.fits s.full
    (ending_head y r.chain (length r.names) (slots_of r.names) r.behind s.ending)
  where
    not_inside : false ≡ true → ⊥
    not_inside h = cc
