-- Ahead of a place inside a block stand the pieces from its instruction on.
use Rattle.std.proofs.Common.{◌≡◌, inl, inr, ◌<◌, ◌≤◌, ℕ, zero, suc, ◌+◌, ◌-◌, Bool, true, false, List, ◌∷◌, refl, sym, subst, arith}
use Rattle.std.specs.Prelude.{nat_lt, if◌then◌else◌}
use Rattle.seq_tree.specs.Names.{Name}
use Rattle.seq_tree.specs.Expressions.{Expression}
use Rattle.seq_tree.specs.Statements.{Statement, Statements, Branches, Null, Assign, If, For, ExitWhen, Call, Work, Put, End, Then, Nothing}
use Rattle.seq_tree.specs.Statements.{Else, When}
use Rattle.seq_tree.specs.Variables.{Variables}
use Rattle.machine.specs.Pieces.{Piece, pieces, turns}
use Rattle.machine.specs.Pieces as piece
use Rattle.law_flat_code.specs.Codes.{Code, Stands, BlockStands, BranchesStand, size, block_size, branch_size, in_turn}
use Rattle.law_flat_code.specs.Aheads.{Ahead, Context, IsLoop, Somewhere, in_loop}
use Rattle.law_flat_code.specs.Withins.{inside, within, among, scope_inside, scope_within, scope_among, turn_end}
use Rattle.law_flat_code.proofs.Shared.Entering.{entered, entered_block, jumped}
use Rattle.law_flat_code.proofs.Tests.{Told, less}

at : (code : Code) (out : Context) (ps : List Piece) (a b : ℕ) → a ≡ b → Ahead code out ps a → Ahead code out ps b
at code out ps a b e h = subst (Ahead code out ps) e h

here : (code : Code) (out : Context) (ps : List Piece) (pc place : ℕ) → pc ≡ place → Ahead code out ps pc → Somewhere code out out.scope ps place
here code out ps pc place e h = record { out = out; scoped = refl; backs = refl; ahead = at code out ps pc place e h }

-- a choice of scopes and pieces, by a test
chosen : (b c : Bool) (code : Code) (out : Context) (ss ts : Variables) (ps qs : List Piece) (pc : ℕ) → b ≡ c
    → Somewhere code out (if c then ss else ts) (if c then ps else qs) pc → Somewhere code out (if b then ss else ts) (if b then ps else qs) pc
chosen b c code out ss ts ps qs pc e h = subst (λ z. Somewhere code out (if z then ss else ts) (if z then ps else qs) pc) (sym e) h

plain : (code : Code) (out : Context) (ps : List Piece) (pc n : ℕ) → n < 1 → Ahead code out ps pc → Somewhere code out out.scope ps (pc + n)
plain code out ps pc n lt h = here code out ps pc (pc + n) (omega (arith, lt)) h

moved : (code : Code) (out : Context) (scope : Variables) (ps : List Piece) (pc place : ℕ) → pc ≡ place → Somewhere code out scope ps pc
    → Somewhere code out scope ps place
moved code out scope ps pc place e h = subst (Somewhere code out scope ps) e h

then_ahead : (n m : ℕ) → Told n m → (code : Code) (out : Context) (pc : ℕ) (ss ts : Variables) (ps qs : List Piece)
    → (n < m → Somewhere code out ss ps (pc + n)) → (m ≤ n → Somewhere code out ts qs (pc + m + (n - m)))
    → Somewhere code out (if nat_lt n m then ss else ts) (if nat_lt n m then ps else qs) (pc + n)
then_ahead n m (inl t) code out pc ss ts ps qs first later = chosen (nat_lt n m) true code out ss ts ps qs (pc + n) t.0 (first t.1)
then_ahead n m (inr t) code out pc ss ts ps qs first later =
    chosen (nat_lt n m) false code out ss ts ps qs (pc + n) t.0 (moved code out ts qs (pc + m + (n - m)) (pc + n) (omega (arith, t.1)) (later t.1))

-- at the end of a turn, by whether that end is left
end_ahead : (open' : Bool) (code : Code) (out : Context) (start q : ℕ) (name : Name) (value last : ℕ) (body : Statements) (rest : List Piece)
    → start + block_size body ≡ q → IsLoop code out.scope start name last body → Ahead code out rest (suc (start + block_size body))
    → Somewhere code out (if open' then in_turn name out.scope else out.scope) (turn_end open' name value last body ∷ rest) q
end_ahead true code out start q name value last body rest e loop behind = record {
  out = in_loop out name (suc (start + block_size body));
  scoped = refl;
  backs = refl;
  ahead = (
    zero,
    q,
    refl,
    (
      start,
      out,
      loop,
      sym e,
      subst (λ z. in_loop out name (suc (start + block_size body)) ≡ in_loop out name (suc z)) e refl,
      subst (λ z. Ahead code out rest (suc z)) e behind,
    ),
  );
}
end_ahead false code out start q name value last body rest e loop behind =
    here code out (piece.Turning name value last body ∷ rest) (start + block_size body) q e
    (zero, start + block_size body, refl, (start, inr loop.ends, loop, behind))

loop_ahead : (n bs : ℕ) → Told 0 n → Told (n - 1) bs → (code : Code) (out : Context) (pc depth : ℕ) (open' : Bool) (turn : ℕ → ℕ) (rest : List Piece)
    (name : Name) (low high : ℕ) (body : Statements) → bs ≡ block_size body → Ahead code out (turns name low high body rest) pc
    → IsLoop code out.scope (suc pc) name high body → n < suc (suc bs) → Ahead code out rest (suc (suc pc + block_size body))
    → (n - 1 < bs → Somewhere code (in_loop out name (suc (suc pc + block_size body))) (scope_within body (n - 1) open' (in_turn name out.scope))
    (within body (n - 1) open' (suc depth) turn (piece.Turned name (turn depth) high body ∷ rest)) (suc pc + (n - 1)))
    → Somewhere code out (if nat_lt 0 n then (if nat_lt (n - 1) bs
    then scope_within body (n - 1) open' (in_turn name out.scope)
    else (if open' then in_turn name out.scope else out.scope)) else out.scope) (if nat_lt 0 n then (if nat_lt (n - 1) bs
    then within body (n - 1) open' (suc depth) turn (piece.Turned name (turn depth) high body ∷ rest)
    else turn_end open' name (turn depth) high body ∷ rest) else turns name low high body rest) (pc + n)
loop_ahead n bs (inr z) u code out pc depth open' turn rest name low high body same begin loop lt behind in_body =
    chosen (nat_lt 0 n) false code out _ _ _ _ (pc + n) z.0
    (here code out _ pc (pc + n) (omega (arith, z.1)) begin)
loop_ahead n bs (inl z) (inl u) code out pc depth open' turn rest name low high body same begin loop lt behind in_body =
    let s = in_body u.1 in
    chosen (nat_lt 0 n) true code out _ _ _ _ (pc + n) z.0 (chosen (nat_lt (n - 1) bs) true code out _ _ _ _ (pc + n) u.0
    (record { out = s.out; scoped = s.scoped; backs = s.backs; ahead = at code s.out _ (suc pc + (n - 1)) (pc + n) (omega (arith, z.1)) s.ahead }))
loop_ahead n bs (inl z) (inr u) code out pc depth open' turn rest name low high body same begin loop lt behind in_body =
    chosen (nat_lt 0 n) true code out _ _ _ _ (pc + n) z.0 (chosen (nat_lt (n - 1) bs) false code out _ _ _ _ (pc + n) u.0
    (end_ahead open' code out (suc pc) (pc + n) name (turn depth) high body rest (omega (arith, z.1, u.1, lt, same)) loop behind))

when_ahead : (n bs : ℕ) → Told 0 n → Told (n - 1) bs → Told (n - 1) (suc bs) → (code : Code) (out : Context) (end pc depth : ℕ) (open' : Bool)
    (turn : ℕ → ℕ) (rest : List Piece) (c : Expression) (block : Statements) (others : Branches) → bs ≡ block_size block
    → BranchesStand code out.scope out.to end pc (When c block others) → Ahead code out rest end → Ahead code out rest (suc pc + bs)
    → (n - 1 < bs → Somewhere code out (scope_within block (n - 1) open' out.scope) (within block (n - 1) open' depth turn rest) (suc pc + (n - 1)))
    → (suc bs ≤ n - 1 → Somewhere code out (scope_among others (n - 1 - suc bs) open' out.scope) (among others (n - 1 - suc bs) open' depth turn rest)
    (suc (suc pc + bs) + (n - 1 - suc bs)))
    → Somewhere code out (if nat_lt 0 n then (if nat_lt (n - 1) bs then scope_within block (n - 1) open' out.scope
    else (if nat_lt (n - 1) (suc bs) then out.scope else scope_among others (n - 1 - suc bs) open' out.scope)) else out.scope)
    (if nat_lt 0 n then (if nat_lt (n - 1) bs then within block (n - 1) open' depth turn rest
    else (if nat_lt (n - 1) (suc bs) then rest else among others (n - 1 - suc bs) open' depth turn rest)) else piece.Testing c block others ∷ rest)
    (pc + n)
when_ahead n bs (inr z) u v code out end pc depth open' turn rest c block others same h after close in_block in_others =
    chosen (nat_lt 0 n) false code out _ _ _ _ (pc + n) z.0 (here code out _ pc (pc + n) (omega (arith, z.1)) (zero, pc, refl, (end, h, after)))
when_ahead n bs (inl z) (inl u) v code out end pc depth open' turn rest c block others same h after close in_block in_others =
    chosen (nat_lt 0 n) true code out _ _ _ _ (pc + n) z.0 (chosen (nat_lt (n - 1) bs) true code out _ _ _ _ (pc + n) u.0
    (moved code out _ _ (suc pc + (n - 1)) (pc + n) (omega (arith, z.1)) (in_block u.1)))
when_ahead n bs (inl z) (inr u) (inl v) code out end pc depth open' turn rest c block others same h after close in_block in_others =
    chosen (nat_lt 0 n) true code out _ _ _ _ (pc + n) z.0 (chosen (nat_lt (n - 1) bs) false code out _ _ _ _ (pc + n) u.0
    (chosen (nat_lt (n - 1) (suc bs)) true code out _ _ _ _ (pc + n) v.0
    (here code out rest (suc pc + bs) (pc + n) (omega (arith, z.1, u.1, v.1)) close)))
when_ahead n bs (inl z) (inr u) (inr v) code out end pc depth open' turn rest c block others same h after close in_block in_others =
    chosen (nat_lt 0 n) true code out _ _ _ _ (pc + n) z.0 (chosen (nat_lt (n - 1) bs) false code out _ _ _ _ (pc + n) u.0
    (chosen (nat_lt (n - 1) (suc bs)) false code out _ _ _ _ (pc + n) v.0
    (moved code out _ _ (suc (suc pc + bs) + (n - 1 - suc bs)) (pc + n) (omega (arith, z.1, v.1)) (in_others v.1))))

mutual
  inside_ahead : (s : Statement) (code : Code) (out : Context) (pc n : ℕ) (open' : Bool) (depth : ℕ) (turn : ℕ → ℕ) (rest : List Piece)
      → Stands code out.scope out.to pc s → n < size s → Ahead code out rest (pc + size s)
      → Somewhere code out (scope_inside s n open' out.scope) (inside s n open' depth turn rest) (pc + n)
  inside_ahead Null code out pc n open' depth turn rest h lt after = plain code out _ pc n lt (entered Null code out pc rest h after)
  inside_ahead (Assign target e) code out pc n open' depth turn rest h lt after =
      plain code out _ pc n lt (entered (Assign target e) code out pc rest h after)
  inside_ahead (If branches) code out pc n open' depth turn rest h lt after =
      among_ahead branches code out (pc + branch_size branches) pc n open' depth turn rest h (omega (arith, lt)) after
  inside_ahead (For name low high body) code out pc n open' depth turn rest h lt after =
      let bs = block_size body in
      let loop : IsLoop code out.scope (suc pc) name high body = record { stands = h.1; ends = h.2 } in
      let behind : Ahead code out rest (suc (suc pc + bs)) = at code out rest (pc + suc (suc bs)) (suc (suc pc + bs)) (omega arith) after in
      loop_ahead n bs (less 0 n) (less (n - 1) bs) code out pc depth open' turn rest name low high body refl
      (entered (For name low high body) code out pc rest h after) loop lt behind
      (λ lt'. within_ahead body code (in_loop out name (suc (suc pc + bs))) (suc pc) (n - 1) open' (suc depth) turn
      (piece.Turned name (turn depth) high body ∷ rest) h.1 (omega (arith, lt'))
      (zero, suc pc + bs, refl, (suc pc, out, loop, refl, refl, behind)))
  inside_ahead (ExitWhen c) code out pc n open' depth turn rest h lt after =
      plain code out _ pc n lt (entered (ExitWhen c) code out pc rest h after)
  inside_ahead (Call object op actuals) code out pc n open' depth turn rest h lt after =
      plain code out _ pc n lt (entered (Call object op actuals) code out pc rest h after)
  inside_ahead (Work k) code out pc n open' depth turn rest h lt after = plain code out _ pc n lt (entered (Work k) code out pc rest h after)
  inside_ahead (Put e) code out pc n open' depth turn rest h lt after = plain code out _ pc n lt (entered (Put e) code out pc rest h after)

  pub within_ahead : (b : Statements) (code : Code) (out : Context) (pc n : ℕ) (open' : Bool) (depth : ℕ) (turn : ℕ → ℕ) (rest : List Piece)
      → BlockStands code out.scope out.to pc b → n ≤ block_size b → Ahead code out rest (pc + block_size b)
      → Somewhere code out (scope_within b n open' out.scope) (within b n open' depth turn rest) (pc + n)
  within_ahead End code out pc n open' depth turn rest h le after = here code out rest (pc + 0) (pc + n) (omega (arith, le)) after
  within_ahead (Then first others) code out pc n open' depth turn rest h le after =
      let later : Ahead code out rest (pc + size first + block_size others) =
      at code out rest (pc + (size first + block_size others)) (pc + size first + block_size others) (omega arith) after in
      then_ahead n (size first) (less n (size first)) code out pc (scope_inside first n open' out.scope)
      (scope_within others (n - size first) open' out.scope) (inside first n open' depth turn (pieces others rest))
      (within others (n - size first) open' depth turn rest)
      (λ lt. inside_ahead first code out pc n open' depth turn (pieces others rest) h.0 lt
      (entered_block others code out (pc + size first) rest h.1 later))
      (λ ge. within_ahead others code out (pc + size first) (n - size first) open' depth turn rest h.1 (omega (arith, le, ge)) later)

  among_ahead : (bs : Branches) (code : Code) (out : Context) (end pc n : ℕ) (open' : Bool) (depth : ℕ) (turn : ℕ → ℕ) (rest : List Piece)
      → BranchesStand code out.scope out.to end pc bs → n ≤ branch_size bs → Ahead code out rest end
      → Somewhere code out (scope_among bs n open' out.scope) (among bs n open' depth turn rest) (pc + n)
  among_ahead Nothing code out end pc n open' depth turn rest h le after = here code out rest end (pc + n) (omega (arith, h, le)) after
  among_ahead (Else block) code out end pc n open' depth turn rest h le after =
      within_ahead block code out pc n open' depth turn rest h.0 le (at code out rest end (pc + block_size block) (sym h.1) after)
  among_ahead (When c block others) code out end pc n open' depth turn rest h le after =
      let bs = block_size block in
      let close : Ahead code out rest (suc pc + bs) = jumped code out rest (suc pc + bs) end (inl h.2) after in
      when_ahead n bs (less 0 n) (less (n - 1) bs) (less (n - 1) (suc bs)) code out end pc depth open' turn rest c block others refl h after close
      (λ lt. within_ahead block code out (suc pc) (n - 1) open' depth turn rest h.1 (omega (arith, lt)) close)
      (λ ge. among_ahead others code out end (suc (suc pc + bs)) (n - 1 - suc bs) open' depth turn rest h.3 (omega (arith, le, ge)) after)
