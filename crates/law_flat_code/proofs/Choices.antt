-- Choices by tests of places, and what is left where a part ends.
use Rattle.std.proofs.Common.{◌≡◌, inl, inr, ◌<◌, ◌≤◌, ℕ, suc, ◌+◌, ◌-◌, Bool, List, refl, ap, sym, ◌∙◌, arith}
use Rattle.std.specs.Prelude.{nat_lt, if◌then◌else◌}
use Rattle.seq_tree.specs.Statements.{Statements, Branches, End, Then, Nothing, Else, When}
use Rattle.seq_tree.specs.Variables.{Variables}
use Rattle.machine.specs.Pieces.{Piece}
use Rattle.law_flat_code.specs.Codes.{Code, BranchesStand, size, block_size, branch_size}
use Rattle.law_flat_code.specs.Withins.{within, among, scope_within, scope_among}
use Rattle.law_flat_code.proofs.Tests.{Told, less}

-- a choice, by a test that failed or that passed
pub taken : {A : Type 0} (n m : ℕ) (x y : A) → n < m → (if nat_lt n m then x else y) ≡ x
taken n m x y lt = by (less n m)
  where
    by : Told n m → (if nat_lt n m then x else y) ≡ x
    by (inl t) = ap (λ z. if z then x else y) t.0
    by (inr t) = absurd (omega (arith, lt, t.1))

pub passed : {A : Type 0} (n m : ℕ) (x y : A) → m ≤ n → (if nat_lt n m then x else y) ≡ y
passed n m x y le = by (less n m)
  where
    by : Told n m → (if nat_lt n m then x else y) ≡ y
    by (inl t) = absurd (omega (arith, le, t.1))
    by (inr t) = ap (λ z. if z then x else y) t.0

-- a choice behind the first of a list of instructions
pub behind_first : {A : Type 0} (f : ℕ → A) (x y : A) (m k : ℕ)
    → (if nat_lt 0 (suc m) then (if nat_lt (suc m - 1) k then f (suc m - 1) else x) else y)
    ≡ (if nat_lt m k then f m else x)
behind_first f x y m k =
    let less-one : suc m - 1 ≡ m = omega arith in
    taken 0 (suc m) (if nat_lt (suc m - 1) k then f (suc m - 1) else x) y (omega arith) ∙ ap (λ z. if nat_lt z k then f z else x) less-one

-- where a block, branches or a statement ends, what is behind it is left
mutual
  pub within_end : (b : Statements) (open' : Bool) (depth : ℕ) (turn : ℕ → ℕ) (rest : List Piece)
      → within b (block_size b) open' depth turn rest ≡ rest
  within_end End open' depth turn rest = refl
  within_end (Then first others) open' depth turn rest =
      let left : size first + block_size others - size first ≡ block_size others = omega arith in
      passed (size first + block_size others) (size first) _ _ (omega arith)
      ∙ ap (λ z. within others z open' depth turn rest) left ∙ within_end others open' depth turn rest

  pub among_end : (bs : Branches) (open' : Bool) (depth : ℕ) (turn : ℕ → ℕ) (rest : List Piece)
      → among bs (branch_size bs) open' depth turn rest ≡ rest
  among_end Nothing open' depth turn rest = refl
  among_end (Else block) open' depth turn rest = within_end block open' depth turn rest
  among_end (When c block others) open' depth turn rest =
      let k = block_size block in
      let m = suc (k + branch_size others) in
      let one : suc m - 1 ≡ m = omega arith in
      let left : m - suc k ≡ branch_size others = omega arith in
      taken 0 (suc m) _ _ (omega arith) ∙ passed (suc m - 1) k _ _ (omega arith) ∙ passed (suc m - 1) (suc k) _ _ (omega arith)
      ∙ ap (λ z. among others (z - suc k) open' depth turn rest) one ∙ ap (λ z. among others z open' depth turn rest) left
      ∙ among_end others open' depth turn rest

mutual
  pub scope_within_end : (b : Statements) (open' : Bool) (scope : Variables) → scope_within b (block_size b) open' scope ≡ scope
  scope_within_end End open' scope = refl
  scope_within_end (Then first others) open' scope =
      let left : size first + block_size others - size first ≡ block_size others = omega arith in
      passed (size first + block_size others) (size first) _ _ (omega arith)
      ∙ ap (λ z. scope_within others z open' scope) left ∙ scope_within_end others open' scope

  pub scope_among_end : (bs : Branches) (open' : Bool) (scope : Variables) → scope_among bs (branch_size bs) open' scope ≡ scope
  scope_among_end Nothing open' scope = refl
  scope_among_end (Else block) open' scope = scope_within_end block open' scope
  scope_among_end (When c block others) open' scope =
      let k = block_size block in
      let m = suc (k + branch_size others) in
      let one : suc m - 1 ≡ m = omega arith in
      let left : m - suc k ≡ branch_size others = omega arith in
      taken 0 (suc m) _ _ (omega arith) ∙ passed (suc m - 1) k _ _ (omega arith) ∙ passed (suc m - 1) (suc k) _ _ (omega arith)
      ∙ ap (λ z. scope_among others (z - suc k) open' scope) one ∙ ap (λ z. scope_among others z open' scope) left
      ∙ scope_among_end others open' scope

-- up to the end of a part
pub up_to : {A : Type 0} (f : ℕ → A) (x : A) (m k : ℕ) → m ≤ k → f k ≡ x → f m ≡ (if nat_lt m k then f m else x)
up_to f x m k le end = by (less m k)
  where
    by : Told m k → f m ≡ (if nat_lt m k then f m else x)
    by (inl t) = sym (taken m k (f m) x t.1)
    by (inr t) =
        let same : m ≡ k = omega (arith, le, t.1) in
        ap f same ∙ end ∙ sym (passed m k (f m) x t.1)

-- branches end where they say
pub ends_at : (bs : Branches) (code : Code) (scope : Variables) (out end pc : ℕ) → BranchesStand code scope out end pc bs → end ≡ pc + branch_size bs
ends_at Nothing code scope out end pc h = omega (arith, h)
ends_at (Else block) code scope out end pc h = sym h.1
ends_at (When c block others) code scope out end pc h =
    let rest = ends_at others code scope out end (suc (suc pc + block_size block)) h.3 in
    omega (arith, rest)

-- what is left in a block behind its condition
pub in_block : {A : Type 0} (f g : ℕ → A) (x y : A) (m k : ℕ) → m ≤ k → f k ≡ x
    → f m ≡ (if nat_lt 0 (suc m) then (if nat_lt (suc m - 1) k then f (suc m - 1) else (if nat_lt (suc m - 1) (suc k) then x
    else g (suc m - 1 - suc k))) else y)
in_block f g x y m k le end =
    let one : suc m - 1 ≡ m = omega arith in
    let next : (if nat_lt m (suc k) then x else g (m - suc k)) ≡ x = taken m (suc k) x (g (m - suc k)) (omega (arith, le)) in
    up_to f x m k le end ∙ ap (λ z. if nat_lt m k then f m else z) (sym next)
    ∙ ap (λ z. if nat_lt z k then f z else (if nat_lt z (suc k) then x else g (z - suc k))) (sym one)
    ∙ sym (taken 0 (suc m) _ y (omega arith))

pub first_then : {A : Type 0} (f g : ℕ → A) (x y : A) (m k : ℕ) → m < k
    → f m ≡ (if nat_lt 0 (suc m) then (if nat_lt (suc m - 1) k then f (suc m - 1) else (if nat_lt (suc m - 1) (suc k) then x
    else g (suc m - 1 - suc k))) else y)
first_then f g x y m k lt =
    let one : suc m - 1 ≡ m = omega arith in
    sym (taken m k (f m) (if nat_lt m (suc k) then x else g (m - suc k)) lt)
    ∙ ap (λ z. if nat_lt z k then f z else (if nat_lt z (suc k) then x else g (z - suc k))) (sym one)
    ∙ sym (taken 0 (suc m) _ y (omega arith))

-- what is left in the other branches
pub in_others : {A : Type 0} (f g : ℕ → A) (x y : A) (m k : ℕ)
    → (if nat_lt 0 (suc (suc k + m)) then (if nat_lt (suc (suc k + m) - 1) k then f (suc (suc k + m) - 1)
    else (if nat_lt (suc (suc k + m) - 1) (suc k) then x else g (suc (suc k + m) - 1 - suc k))) else y) ≡ g m
in_others f g x y m k =
    let left : suc (suc k + m) - 1 - suc k ≡ m = omega arith in
    taken 0 (suc (suc k + m)) _ y (omega arith) ∙ passed (suc (suc k + m) - 1) k _ _ (omega arith)
    ∙ passed (suc (suc k + m) - 1) (suc k) _ _ (omega arith) ∙ ap g left

-- what is left where the rest of a block begins
pub or_behind : {A : Type 0} (f g : ℕ → A) (x : A) (m k : ℕ) → m ≤ k → g 0 ≡ x
    → (if nat_lt m k then f m else x) ≡ (if nat_lt m k then f m else g (m - k))
or_behind f g x m k le begin = by (less m k)
  where
    by : Told m k → (if nat_lt m k then f m else x) ≡ (if nat_lt m k then f m else g (m - k))
    by (inl t) = taken m k (f m) x t.1 ∙ sym (taken m k (f m) (g (m - k)) t.1)
    by (inr t) =
        let none : 0 ≡ m - k = omega (arith, le, t.1) in
        passed m k (f m) x t.1 ∙ sym begin ∙ ap g none ∙ sym (passed m k (f m) (g (m - k)) t.1)
