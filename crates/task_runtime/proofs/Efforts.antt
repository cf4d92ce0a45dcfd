-- How many ends of turns, of bodies and of sections are among the pieces that a body has left: no more than fit, and no section's.
use Rattle.std.proofs.Common.{◌≡◌, ◌≤◌, ℕ, suc, ◌+◌, ◌-◌, Bool, true, false, List, ◌∷◌, refl, ◌∙◌, arith}
use Rattle.std.specs.Prelude.{if◌then◌else◌, nat_le, nat_lt}
use Rattle.seq_tree.specs.Names.{Name}
use Rattle.seq_tree.specs.Statements.{Statement, Statements, Branches, Null, Assign, If, For, ExitWhen, Call, Work, Put, End, Then, Nothing}
use Rattle.seq_tree.specs.Statements.{Else, When}
use Rattle.machine.specs.Pieces.{Piece, Testing, Turned, Turning, branch_pieces, pieces, pieces_of}
use Rattle.law_flat_code.specs.Codes.{block_size, size}
use Rattle.law_flat_code.specs.Withins.{among, inside, turn_end, within}
use Rattle.task_runtime.proofs.Orders.{by_choice}
use Rattle.task_runtime.specs.Effort.{ends_among, sections_among}
use Rattle.task_runtime.specs.Fitting.{FitsBlock, FitsBranches, FitsIf, FitsStatement, Spot, in_branch, in_loop}
use Rattle.task_runtime.proofs.Shared.Sections.{sections-pieces}

ends_turns : (b : Bool) (name : Name) (at last : ℕ) (body : Statements) (rest : List Piece)
    → ends_among (if b then Turning name at last body ∷ rest else rest) ≡ ends_among rest
ends_turns true name at last body rest = refl
ends_turns false name at last body rest = refl

-- no ends are among the pieces of statements
mutual
  ends_statement : (s : Statement) (rest : List Piece) → ends_among (pieces_of s rest) ≡ ends_among rest
  ends_statement Null rest = refl
  ends_statement (Assign target e) rest = refl
  ends_statement (If branches) rest = ends_branches branches rest
  ends_statement (For name low high body) rest = ends_turns (nat_le low high) name low high body rest
  ends_statement (ExitWhen condition) rest = refl
  ends_statement (Call unit op actuals) rest = refl
  ends_statement (Work ticks) rest = refl
  ends_statement (Put e) rest = refl

  pub ends_pieces : (b : Statements) (rest : List Piece) → ends_among (pieces b rest) ≡ ends_among rest
  ends_pieces End rest = refl
  ends_pieces (Then first others) rest = ends_statement first (pieces others rest) ∙ ends_pieces others rest

  ends_branches : (bs : Branches) (rest : List Piece) → ends_among (branch_pieces bs rest) ≡ ends_among rest
  ends_branches Nothing rest = refl
  ends_branches (Else block) rest = ends_pieces block rest
  ends_branches (When condition block others) rest = refl

one_end : (open' : Bool) (name : Name) (at last : ℕ) (body : Statements) (rest : List Piece)
    → ends_among (turn_end open' name at last body ∷ rest) ≤ 1 + ends_among rest
one_end true name at last body rest = omega arith
one_end false name at last body rest = omega arith

ends_when : (s : Spot) (first : Piece) (b c d : Bool) (inner others rest : List Piece) → ends_among (first ∷ rest) ≡ ends_among rest → 1 ≤ s.room
    → ends_among inner ≤ s.room - 1 + ends_among rest → ends_among others ≤ s.room + ends_among rest
    → ends_among (if b then (if c then inner else (if d then rest else others)) else first ∷ rest) ≤ s.room + ends_among rest
ends_when s first b c d inner others rest none le h k =
    let P : List Piece → Type 0 = λ z. ends_among z ≤ s.room + ends_among rest in
    by_choice P b _ _ (by_choice P c _ _ (omega (arith, h, le)) (by_choice P d _ _ (omega arith) k)) (omega (arith, none))

-- and no more than the loops that fit among those from a place on
mutual
  ends_inside : (s : Spot) (st : Statement) (n : ℕ) (open' : Bool) (depth : ℕ) (turn : ℕ → ℕ) (rest : List Piece) → FitsStatement s st
      → ends_among (inside st n open' depth turn rest) ≤ s.room + ends_among rest
  ends_inside s (If branches) n open' depth turn rest h = ends_if s branches n open' depth turn rest h
  ends_inside s (For name low high body) n open' depth turn rest h =
      let P : List Piece → Type 0 = λ z. ends_among z ≤ s.room + ends_among rest in
      let inner = ends_within (in_loop s) body (n - 1) open' (suc depth) turn (Turned name (turn depth) high body ∷ rest) h.1 in
      let last = one_end open' name (turn depth) high body rest in
      let first = ends_turns (nat_le low high) name low high body rest in
      by_choice P (nat_lt 0 n) _ _
      (by_choice P (nat_lt (n - 1) (block_size body)) _ _ (omega (arith, inner, h.0)) (omega (arith, last, h.0))) (omega (arith, first))
  ends_inside s Null n open' depth turn rest h = omega arith
  ends_inside s (Assign target e) n open' depth turn rest h = omega arith
  ends_inside s (ExitWhen condition) n open' depth turn rest h = omega arith
  ends_inside s (Call unit op actuals) n open' depth turn rest h = omega arith
  ends_inside s (Work ticks) n open' depth turn rest h = omega arith
  ends_inside s (Put e) n open' depth turn rest h = omega arith

  pub ends_within : (s : Spot) (b : Statements) (n : ℕ) (open' : Bool) (depth : ℕ) (turn : ℕ → ℕ) (rest : List Piece) → FitsBlock s b
      → ends_among (within b n open' depth turn rest) ≤ s.room + ends_among rest
  ends_within s End n open' depth turn rest h = omega arith
  ends_within s (Then first others) n open' depth turn rest h =
      let e = ends_pieces others rest in
      let here = ends_inside s first n open' depth turn (pieces others rest) h.0 in
      by_choice (λ z. ends_among z ≤ s.room + ends_among rest) (nat_lt n (size first)) _ _ (omega (arith, here, e))
      (ends_within s others (n - size first) open' depth turn rest h.1)

  ends_if : (s : Spot) (bs : Branches) (n : ℕ) (open' : Bool) (depth : ℕ) (turn : ℕ → ℕ) (rest : List Piece) → FitsIf s bs
      → ends_among (among bs n open' depth turn rest) ≤ s.room + ends_among rest
  ends_if s Nothing n open' depth turn rest h = absurd h
  ends_if s (Else block) n open' depth turn rest h = absurd h
  ends_if s (When condition block others) n open' depth turn rest h =
      ends_when s (Testing condition block others) (nat_lt 0 n) (nat_lt (n - 1) (block_size block)) (nat_lt (n - 1) (suc (block_size block))) _ _ rest
      refl h.0 (ends_within (in_branch s) block (n - 1) open' depth turn rest h.1)
      (ends_others s others (n - 1 - suc (block_size block)) open' depth turn rest h.2)

  ends_others : (s : Spot) (bs : Branches) (n : ℕ) (open' : Bool) (depth : ℕ) (turn : ℕ → ℕ) (rest : List Piece) → FitsBranches s bs
      → ends_among (among bs n open' depth turn rest) ≤ s.room + ends_among rest
  ends_others s Nothing n open' depth turn rest h = omega arith
  ends_others s (Else block) n open' depth turn rest h =
      let here = ends_within (in_branch s) block n open' depth turn rest h.1 in omega (arith, here, h.0)
  ends_others s (When condition block others) n open' depth turn rest h =
      ends_when s (Testing condition block others) (nat_lt 0 n) (nat_lt (n - 1) (block_size block)) (nat_lt (n - 1) (suc (block_size block))) _ _ rest
      refl h.0 (ends_within (in_branch s) block (n - 1) open' depth turn rest h.1)
      (ends_others s others (n - 1 - suc (block_size block)) open' depth turn rest h.2)

-- no section ends inside a body
sections_turns : (b : Bool) (name : Name) (at last : ℕ) (body : Statements) (rest : List Piece)
    → sections_among (if b then Turning name at last body ∷ rest else rest) ≡ sections_among rest
sections_turns true name at last body rest = refl
sections_turns false name at last body rest = refl

no_section : (open' : Bool) (name : Name) (at last : ℕ) (body : Statements) (rest : List Piece)
    → sections_among (turn_end open' name at last body ∷ rest) ≡ sections_among rest
no_section true name at last body rest = refl
no_section false name at last body rest = refl

mutual
  sections_inside : (st : Statement) (n : ℕ) (open' : Bool) (depth : ℕ) (turn : ℕ → ℕ) (rest : List Piece)
      → sections_among (inside st n open' depth turn rest) ≡ sections_among rest
  sections_inside (If branches) n open' depth turn rest = sections_branches branches n open' depth turn rest
  sections_inside (For name low high body) n open' depth turn rest =
      let P : List Piece → Type 0 = λ z. sections_among z ≡ sections_among rest in
      by_choice P (nat_lt 0 n) _ _
      (by_choice P (nat_lt (n - 1) (block_size body)) _ _
      (sections_within body (n - 1) open' (suc depth) turn (Turned name (turn depth) high body ∷ rest))
      (no_section open' name (turn depth) high body rest)) (sections_turns (nat_le low high) name low high body rest)
  sections_inside Null n open' depth turn rest = refl
  sections_inside (Assign target e) n open' depth turn rest = refl
  sections_inside (ExitWhen condition) n open' depth turn rest = refl
  sections_inside (Call unit op actuals) n open' depth turn rest = refl
  sections_inside (Work ticks) n open' depth turn rest = refl
  sections_inside (Put e) n open' depth turn rest = refl

  pub sections_within : (b : Statements) (n : ℕ) (open' : Bool) (depth : ℕ) (turn : ℕ → ℕ) (rest : List Piece)
      → sections_among (within b n open' depth turn rest) ≡ sections_among rest
  sections_within End n open' depth turn rest = refl
  sections_within (Then first others) n open' depth turn rest =
      by_choice (λ z. sections_among z ≡ sections_among rest) (nat_lt n (size first)) _ _
      (sections_inside first n open' depth turn (pieces others rest) ∙ sections-pieces others rest)
      (sections_within others (n - size first) open' depth turn rest)

  sections_branches : (bs : Branches) (n : ℕ) (open' : Bool) (depth : ℕ) (turn : ℕ → ℕ) (rest : List Piece)
      → sections_among (among bs n open' depth turn rest) ≡ sections_among rest
  sections_branches Nothing n open' depth turn rest = refl
  sections_branches (Else block) n open' depth turn rest = sections_within block n open' depth turn rest
  sections_branches (When condition block others) n open' depth turn rest =
      let P : List Piece → Type 0 = λ z. sections_among z ≡ sections_among rest in
      by_choice P (nat_lt 0 n) _ _
      (by_choice P (nat_lt (n - 1) (block_size block)) _ _ (sections_within block (n - 1) open' depth turn rest)
      (by_choice P (nat_lt (n - 1) (suc (block_size block))) _ _ refl
      (sections_branches others (n - 1 - suc (block_size block)) open' depth turn rest))) refl
