-- The pieces from the first instruction of a block on are those of the block.
use Rattle.std.proofs.Common.{◌≡◌, ◌⊎◌, inl, inr, ◌<◌, ◌≤◌, ℕ, ◌-◌, Bool, true, false, List, refl, ap, sym, ◌∙◌, arith}
use Rattle.std.specs.Prelude.{nat_lt, if◌then◌else◌}
use Rattle.seq_tree.specs.Statements.{Statement, Statements, Branches, Null, Assign, If, For, ExitWhen, Call, Work, Put, End, Then, Nothing}
use Rattle.seq_tree.specs.Statements.{Else, When}
use Rattle.seq_tree.specs.Variables.{Variables}
use Rattle.machine.specs.Pieces.{Piece, pieces, pieces_of, branch_pieces}
use Rattle.law_flat_code.specs.Codes.{size, block_size, branch_size}
use Rattle.law_flat_code.specs.Withins.{inside, within, among, scope_inside, scope_within, scope_among}
use Rattle.law_flat_code.proofs.Tests.{less}

-- what has no instruction has no pieces
mutual
  none : (s : Statement) (rest : List Piece) → size s ≤ 0 → pieces_of s rest ≡ rest
  none Null rest h = absurd (omega (arith, h))
  none (Assign target e) rest h = absurd (omega (arith, h))
  none (If branches) rest h = none_among branches rest h
  none (For name low high body) rest h = absurd (omega (arith, h))
  none (ExitWhen c) rest h = absurd (omega (arith, h))
  none (Call object op actuals) rest h = absurd (omega (arith, h))
  none (Work k) rest h = absurd (omega (arith, h))
  none (Put e) rest h = absurd (omega (arith, h))

  none_within : (b : Statements) (rest : List Piece) → block_size b ≤ 0 → pieces b rest ≡ rest
  none_within End rest h = refl
  none_within (Then first others) rest h =
      none first (pieces others rest) (omega (arith, h)) ∙ none_within others rest (omega (arith, h))

  none_among : (bs : Branches) (rest : List Piece) → branch_size bs ≤ 0 → branch_pieces bs rest ≡ rest
  none_among Nothing rest h = refl
  none_among (Else block) rest h = none_within block rest h
  none_among (When c block others) rest h = absurd (omega (arith, h))

-- the first of two parts, or the second where the first has no instruction
by_size : (s : Statement) (ps qs later : List Piece) → ((nat_lt 0 (size s) ≡ true) × (0 < size s)) ⊎ ((nat_lt 0 (size s) ≡ false) × (size s ≤ 0))
    → ps ≡ pieces_of s later → qs ≡ later → (if nat_lt 0 (size s) then ps else qs) ≡ pieces_of s later
by_size s ps qs later (inl t) first second = ap (λ z. if z then ps else qs) t.0 ∙ first
by_size s ps qs later (inr t) first second = ap (λ z. if z then ps else qs) t.0 ∙ second ∙ sym (none s later t.1)

zero-less : (n : ℕ) → 0 - n ≡ 0
zero-less n = omega arith

mutual
  begins : (s : Statement) (open' : Bool) (depth : ℕ) (turn : ℕ → ℕ) (rest : List Piece) → inside s 0 open' depth turn rest ≡ pieces_of s rest
  begins Null open' depth turn rest = refl
  begins (Assign target e) open' depth turn rest = refl
  begins (If branches) open' depth turn rest = begins_among branches open' depth turn rest
  begins (For name low high body) open' depth turn rest = refl
  begins (ExitWhen c) open' depth turn rest = refl
  begins (Call object op actuals) open' depth turn rest = refl
  begins (Work k) open' depth turn rest = refl
  begins (Put e) open' depth turn rest = refl

  pub begins_within : (b : Statements) (open' : Bool) (depth : ℕ) (turn : ℕ → ℕ) (rest : List Piece)
      → within b 0 open' depth turn rest ≡ pieces b rest
  begins_within End open' depth turn rest = refl
  begins_within (Then first others) open' depth turn rest =
      by_size first (inside first 0 open' depth turn (pieces others rest)) (within others (0 - size first) open' depth turn rest) (pieces others rest)
      (less 0 (size first)) (begins first open' depth turn (pieces others rest))
      (ap (λ z. within others z open' depth turn rest) (zero-less (size first)) ∙ begins_within others open' depth turn rest)

  pub begins_among : (bs : Branches) (open' : Bool) (depth : ℕ) (turn : ℕ → ℕ) (rest : List Piece)
      → among bs 0 open' depth turn rest ≡ branch_pieces bs rest
  begins_among Nothing open' depth turn rest = refl
  begins_among (Else block) open' depth turn rest = begins_within block open' depth turn rest
  begins_among (When c block others) open' depth turn rest = refl

either : (b : Bool) (x y z : Variables) → x ≡ z → y ≡ z → (if b then x else y) ≡ z
either true x y z first second = first
either false x y z first second = second

-- the scope at the first instruction of a block is that of the block
mutual
  scope_starts : (s : Statement) (open' : Bool) (scope : Variables) → scope_inside s 0 open' scope ≡ scope
  scope_starts Null open' scope = refl
  scope_starts (Assign target e) open' scope = refl
  scope_starts (If branches) open' scope = scope_starts_among branches open' scope
  scope_starts (For name low high body) open' scope = refl
  scope_starts (ExitWhen c) open' scope = refl
  scope_starts (Call object op actuals) open' scope = refl
  scope_starts (Work k) open' scope = refl
  scope_starts (Put e) open' scope = refl

  pub scope_begins : (b : Statements) (open' : Bool) (scope : Variables) → scope_within b 0 open' scope ≡ scope
  scope_begins End open' scope = refl
  scope_begins (Then first others) open' scope =
      either (nat_lt 0 (size first)) _ _ scope (scope_starts first open' scope)
      (ap (λ z. scope_within others z open' scope) (zero-less (size first)) ∙ scope_begins others open' scope)

  pub scope_starts_among : (bs : Branches) (open' : Bool) (scope : Variables) → scope_among bs 0 open' scope ≡ scope
  scope_starts_among Nothing open' scope = refl
  scope_starts_among (Else block) open' scope = scope_begins block open' scope
  scope_starts_among (When c block others) open' scope = refl
