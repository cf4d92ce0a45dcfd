-- After each instruction of a block, what is left is read off the place to which it leads.
use Rattle.std.proofs.Common.{◌≡◌, inl, inr, ◌<◌, ◌≤◌, ℕ, zero, suc, ◌+◌, ◌-◌, ◌*◌, Bool, true, false, List, ◌∷◌, refl, ap, sym, subst, ◌∙◌, arith}
use Rattle.std.specs.Prelude.{nat_le, nat_lt, drop, if◌then◌else◌}
use Rattle.seq_tree.specs.Names.{Name}
use Rattle.seq_tree.specs.Expressions.{Expression}
use Rattle.seq_tree.specs.Statements.{Statement, Statements, Branches, Null, Assign, If, For, ExitWhen, Call, Work, Put, End, Then, Nothing}
use Rattle.seq_tree.specs.Statements.{Else, When}
use Rattle.seq_tree.specs.Variables.{Variables}
use Rattle.machine.specs.Pieces.{Piece, pieces, pieces_of, branch_pieces, turns, after_loop}
use Rattle.machine.specs.Pieces as piece
use Rattle.law_flat_code.specs.Codes.{Code, Ins, Stands, BlockStands, BranchesStand, size, block_size, branch_size, in_turn, next_slot}
use Rattle.law_flat_code.specs.Codes as ins
use Rattle.law_flat_code.specs.Following.{AgreeBelow, Begins, DependsBelow, Ends, Follows, Goes, Leaves, LeftAt, Stepping, View, block_view}
use Rattle.law_flat_code.specs.Levels.{BeginsAt, EndsAt, FollowsAt, IsLevel, Levelled, Shows}
use Rattle.law_flat_code.specs.Withins.{inside, within, among, scope_inside, scope_within, scope_among, turn_end}
use Rattle.law_flat_code.proofs.Shared.Begins.{begins_among, begins_within, scope_begins, scope_starts_among}
use Rattle.law_flat_code.proofs.Choices.{among_end, behind_first, ends_at, first_then, in_block, in_others, or_behind, passed, scope_among_end}
use Rattle.law_flat_code.proofs.Choices.{scope_within_end}
use Rattle.law_flat_code.proofs.Choices.{taken, up_to, within_end}
use Rattle.law_flat_code.proofs.Tests.{Told, less}

-- a part of a larger one, from so many instructions on
record Part (v w : View) (most whole k : ℕ) : Type 0 where
  fits : k + most ≤ whole
  left : (turn : ℕ → ℕ) (m : ℕ) → m ≤ most → v.left true turn m ≡ w.left true turn (k + m)
  left_open : (open' : Bool) (turn : ℕ → ℕ) (m : ℕ) → m < most → v.left open' turn m ≡ w.left open' turn (k + m)
  scope : (m : ℕ) → m ≤ most → v.scope true m ≡ w.scope true (k + m)
  scope_open : (open' : Bool) (m : ℕ) → m < most → v.scope open' m ≡ w.scope open' (k + m)

one_more : (m : ℕ) → suc m ≡ 1 + m
one_more m = omega arith

none_more : (m : ℕ) → m ≡ 0 + m
none_more m = omega arith

more_behind : (k m : ℕ) → suc (suc k + m) ≡ suc (suc k) + m
more_behind k m = omega arith

on : (k n : ℕ) → k + suc n ≡ suc (k + n)
on k n = omega arith

-- levels in a part and in the whole
level_on : (around' around : Variables) (deep depth level : ℕ) (s t : Variables) → IsLevel around depth around' deep → s ≡ t
    → IsLevel around' deep s level → IsLevel around depth t level
level_on around' around deep depth level s t tie e h = subst (λ z. IsLevel around depth z level) e (omega (arith, tie, h))

same_level : (around : Variables) (depth : ℕ) (scope : Variables) → scope ≡ around → IsLevel around depth scope depth
same_level around depth scope e = ap (λ z. next_slot z + 2 * depth) e

turn_level : (around : Variables) (depth : ℕ) (name : Name) (scope : Variables) → scope ≡ in_turn name around → IsLevel around depth scope (suc depth)
turn_level around depth name scope e = subst (λ z. IsLevel around depth z (suc depth)) (sym e) (omega arith)

module _ (v w : View) (most whole k : ℕ) (p : Part v w most whole k) (pc pcv : ℕ) (e : pcv ≡ pc + k) where
  left_at : (to : ℕ) (turn : ℕ → ℕ) (ps qs : List Piece) (s t : Variables) → ps ≡ qs → s ≡ t → LeftAt v most pcv to turn ps s
      → LeftAt w whole pc to turn qs t
  left_at to turn ps qs s t e1 e2 h = record {
    at = k + h.at;
    place = omega (arith, h.place, e);
    inside = omega (arith, h.inside, p.fits);
    pieces' = sym e1 ∙ h.pieces' ∙ p.left turn h.at h.inside;
    scope' = sym e2 ∙ h.scope' ∙ p.scope h.at h.inside;
  }

  next : (turn : ℕ → ℕ) (n : ℕ) → n < most → v.left true turn (suc n) ≡ w.left true turn (suc (k + n))
  next turn n lt = p.left turn (suc n) (omega (arith, lt)) ∙ ap (w.left true turn) (on k n)

  next_scope : (n : ℕ) → n < most → v.scope true (suc n) ≡ w.scope true (suc (k + n))
  next_scope n lt = p.scope (suc n) (omega (arith, lt)) ∙ ap (w.scope true) (on k n)

  same_scope : (n : ℕ) → n < most → v.scope true (suc n) ≡ v.scope false n → w.scope true (suc (k + n)) ≡ w.scope false (k + n)
  same_scope n lt h = sym (next_scope n lt) ∙ h ∙ p.scope_open false n lt

  goes : (n : ℕ) (turn : ℕ → ℕ) (ps : List Piece) (q : Piece) → n < most → Goes v n turn ps q → Goes w (k + n) turn ps q
  goes n turn ps q lt h = (h.0 ∙ ap (λ z. q ∷ z) (next turn n lt), same_scope n lt h.1)

  begins : (n deep depth : ℕ) (turn : ℕ → ℕ) (ps : List Piece) (name : Name) (low high behind : ℕ) → n < most → depth ≤ deep
      → Begins v most pcv n deep turn ps name low high behind → Begins w whole pc (k + n) depth turn ps name low high behind
  begins n deep depth turn ps name low high behind lt le h = (
    h.0,
    h.1,
    h.2,
    omega (arith, h.3, le),
    h.4,
    left_at behind turn h.1 h.1 (v.scope false n) (w.scope false (k + n)) refl (p.scope_open false n lt) h.5,
    (λ turn' agree at. h.6 turn' agree at ∙ next turn' n lt),
    sym (next_scope n lt) ∙ h.7 ∙ ap (in_turn name) (p.scope_open false n lt),
  )

  ends : (n : ℕ) (open' : Bool) (deep depth : ℕ) (turn : ℕ → ℕ) (ps : List Piece) (name : Name) (last start : ℕ) → n < most → depth ≤ deep
      → Ends v most pcv n open' deep turn ps name last start → Ends w whole pc (k + n) open' depth turn ps name last start
  ends n open' deep depth turn ps name last start lt le h = (
    h.0,
    h.1,
    h.2,
    omega (arith, h.3, le),
    h.4,
    h.5 ∙ next turn n lt,
    same_scope n lt h.6,
    sym (p.scope_open true n lt) ∙ h.7 ∙ ap (in_turn name) (p.scope_open false n lt),
    (λ turn' agree. (
      (h.8 turn' agree).0 ∙ p.left_open false turn' n lt,
      left_at start turn' _ _ _ _ refl (ap (in_turn name) (p.scope_open false n lt)) (h.8 turn' agree).1,
    )),
  )

  follows : (n out' out : ℕ) (open' : Bool) (deep depth : ℕ) (turn : ℕ → ℕ) (rest' rest : List Piece) (around' around : Variables) (ps : List Piece)
      → n < most → depth ≤ deep
      → ((to : ℕ) → Leaves v most pcv n out' turn rest' around' to → Leaves w whole pc (k + n) out turn rest around to)
      → (i : Ins) → Follows v most pcv n out' open' deep turn rest' around' ps i
      → Follows w whole pc (k + n) out open' depth turn rest around ps i
  follows n out' out open' deep depth turn rest' rest around' around ps lt le away ins.Idle h = goes n turn ps _ lt h
  follows n out' out open' deep depth turn rest' rest around' around ps lt le away (ins.Store target x) h = goes n turn ps _ lt h
  follows n out' out open' deep depth turn rest' rest around' around ps lt le away (ins.Working ticks) h = goes n turn ps _ lt h
  follows n out' out open' deep depth turn rest' rest around' around ps lt le away (ins.Printing x) h = goes n turn ps _ lt h
  follows n out' out open' deep depth turn rest' rest around' around ps lt le away (ins.Calling unit op actuals) h = goes n turn ps _ lt h
  follows n out' out open' deep depth turn rest' rest around' around ps lt le away (ins.Exit c to) h =
      (goes n turn ps (piece.Leaving c) lt h.0, away to h.1)
  follows n out' out open' deep depth turn rest' rest around' around ps lt le away (ins.Test c other) h = (
    h.0,
    h.1,
    h.2,
    h.3,
    h.4 ∙ next turn n lt,
    same_scope n lt h.5,
    left_at other turn _ _ (v.scope false n) (w.scope false (k + n)) refl (p.scope_open false n lt) h.6,
  )
  follows n out' out open' deep depth turn rest' rest around' around ps lt le away (ins.Jump to) h =
      left_at to turn ps ps (v.scope false n) (w.scope false (k + n)) refl (p.scope_open false n lt) h
  follows n out' out open' deep depth turn rest' rest around' around ps lt le away (ins.Begin name low high behind) h =
      begins n deep depth turn ps name low high behind lt le h
  follows n out' out open' deep depth turn rest' rest around' around ps lt le away (ins.Next name last start) h =
      ends n open' deep depth turn ps name last start lt le h
  follows n out' out open' deep depth turn rest' rest around' around ps lt le away ins.Return h = h
  follows n out' out open' deep depth turn rest' rest around' around ps lt le away ins.Finish h = h

  begins_at : (n level : ℕ) (turn : ℕ → ℕ) (ps : List Piece) (name : Name) (low high behind : ℕ) → n < most
      → BeginsAt v most pcv n level turn ps name low high behind → BeginsAt w whole pc (k + n) level turn ps name low high behind
  begins_at n level turn ps name low high behind lt h = record {
    body = h.body;
    rest = h.rest;
    pieces' = h.pieces';
    around = left_at behind turn h.rest h.rest (v.scope false n) (w.scope false (k + n)) refl (p.scope_open false n lt) h.around;
    forward = omega (arith, h.forward, e);
    turned = λ turn' agree at. h.turned turn' agree at ∙ next turn' n lt;
    scope' = sym (next_scope n lt) ∙ h.scope' ∙ ap (in_turn name) (p.scope_open false n lt);
  }

  turn_ends_at : (n : ℕ) (open' : Bool) (level : ℕ) (turn : ℕ → ℕ) (ps : List Piece) (name : Name) (last start : ℕ) → n < most
      → EndsAt v most pcv n open' level turn ps name last start → EndsAt w whole pc (k + n) open' level turn ps name last start
  turn_ends_at n open' level turn ps name last start lt h = record {
    body = h.body;
    rest = h.rest;
    pieces' = h.pieces';
    behind = h.behind ∙ next turn n lt;
    scope' = same_scope n lt h.scope';
    inner = sym (p.scope_open true n lt) ∙ h.inner ∙ ap (in_turn name) (p.scope_open false n lt);
    again = λ turn' agree. h.again turn' agree ∙ p.left_open false turn' n lt;
    turned = λ turn' agree. left_at start turn' _ _ _ _ refl (ap (in_turn name) (p.scope_open false n lt)) (h.turned turn' agree);
  }

  follows_at : (n : ℕ) (open' : Bool) (level : ℕ) (turn : ℕ → ℕ) (ps : List Piece) → n < most → (i : Ins)
      → FollowsAt v most pcv n open' level turn ps i → FollowsAt w whole pc (k + n) open' level turn ps i
  follows_at n open' level turn ps lt (ins.Jump to) h = omega (arith, h, e)
  follows_at n open' level turn ps lt (ins.Begin name low high behind) h = begins_at n level turn ps name low high behind lt h
  follows_at n open' level turn ps lt (ins.Next name last start) h = turn_ends_at n open' level turn ps name last start lt h
  follows_at n open' level turn ps lt ins.Idle h = tt
  follows_at n open' level turn ps lt (ins.Store target x) h = tt
  follows_at n open' level turn ps lt (ins.Working ticks) h = tt
  follows_at n open' level turn ps lt (ins.Printing x) h = tt
  follows_at n open' level turn ps lt (ins.Calling unit op actuals) h = tt
  follows_at n open' level turn ps lt (ins.Test c other) h = tt
  follows_at n open' level turn ps lt (ins.Exit c to) h = tt
  follows_at n open' level turn ps lt ins.Return h = tt
  follows_at n open' level turn ps lt ins.Finish h = tt

  both_scopes : (n : ℕ) → n < most → v.scope true n ≡ v.scope false n → w.scope true (k + n) ≡ w.scope false (k + n)
  both_scopes n lt h = sym (p.scope_open true n lt) ∙ h ∙ p.scope_open false n lt

  shows : (n : ℕ) → n < most → (i : Ins) → Shows v n i → Shows w (k + n) i
  shows n lt (ins.Next name last start) h = tt
  shows n lt (ins.Jump to) h = both_scopes n lt h
  shows n lt (ins.Begin name low high behind) h = both_scopes n lt h
  shows n lt ins.Idle h = both_scopes n lt h
  shows n lt (ins.Store target x) h = both_scopes n lt h
  shows n lt (ins.Working ticks) h = both_scopes n lt h
  shows n lt (ins.Printing x) h = both_scopes n lt h
  shows n lt (ins.Calling unit op actuals) h = both_scopes n lt h
  shows n lt (ins.Test c other) h = both_scopes n lt h
  shows n lt (ins.Exit c to) h = both_scopes n lt h
  shows n lt ins.Return h = both_scopes n lt h
  shows n lt ins.Finish h = both_scopes n lt h

  -- an instruction of a part is one of the whole
  stepping : (code : Code) (n at out' out : ℕ) (open' : Bool) (deep depth : ℕ) (turn : ℕ → ℕ) (rest' rest : List Piece) (around' around : Variables)
      → n < most → depth ≤ deep → IsLevel around depth around' deep → k + n ≡ at
      → ((to : ℕ) → Leaves v most pcv n out' turn rest' around' to → Leaves w whole pc (k + n) out turn rest around to)
      → Levelled code v most pcv n out' open' deep turn rest' around' → Levelled code w whole pc at out open' depth turn rest around
  stepping code n at out' out open' deep depth turn rest' rest around' around lt le tie same away h =
      subst (λ z. Levelled code w whole pc z out open' depth turn rest around) same (record {
        ins = h.ins;
        is = subst (λ z. code z (pc + (k + n)) h.ins) (p.scope_open false n lt) (subst (λ z. code (v.scope false n) z h.ins) (omega (arith, e)) h.is);
        follows = subst (λ z. Follows w whole pc (k + n) out open' depth turn rest around z h.ins) (p.left_open open' turn n lt)
            (follows n out' out open' deep depth turn rest' rest around' around (v.left open' turn n) lt le away h.ins h.follows);
        level = h.level;
        deep = omega (arith, le, h.deep);
        is_level = level_on around' around deep depth h.level (v.scope false n) (w.scope false (k + n)) tie (p.scope_open false n lt) h.is_level;
        follows_at = subst (λ z. FollowsAt w whole pc (k + n) open' h.level turn z h.ins) (p.left_open open' turn n lt)
            (follows_at n open' h.level turn (v.left open' turn n) lt h.ins h.follows_at);
        shows = shows n lt h.ins h.shows;
        shown = h.shown;
        is_shown = level_on around' around deep depth h.shown (v.scope true n) (w.scope true (k + n)) tie (p.scope_open true n lt) h.is_shown;
        depends = λ turn' agree. sym (p.left_open open' turn' n lt) ∙ h.depends turn' agree ∙ p.left_open open' turn n lt;
      })

  -- a loop is left from a part that is no turn of its own
  leaves_same : (n out : ℕ) (turn : ℕ → ℕ) (rest' rest : List Piece) (around : Variables) → n < most → after_loop rest' ≡ after_loop rest
      → (to : ℕ) → Leaves v most pcv n out turn rest' around to → Leaves w whole pc (k + n) out turn rest around to
  leaves_same n out turn rest' rest around lt behind to (inl h) =
      inl (left_at to turn _ _ _ _ (ap after_loop (next turn n lt)) (ap (drop 1) (p.scope_open false n lt)) h)
  leaves_same n out turn rest' rest around lt behind to (inr h) =
      inr (h.0, ap after_loop (sym (next turn n lt)) ∙ h.1 ∙ behind, sym (p.scope_open false n lt) ∙ h.2)

  -- and from the turns of a loop
  leaves_loop : (n out' out : ℕ) (turn : ℕ → ℕ) (name : Name) (value last : ℕ) (body : Statements) (rest : List Piece) (around : Variables)
      → n < most → out' ≡ pc + whole → w.left true turn whole ≡ rest → w.scope true whole ≡ around
      → (to : ℕ) → Leaves v most pcv n out' turn (piece.Turned name value last body ∷ rest) (in_turn name around) to
      → Leaves w whole pc (k + n) out turn rest around to
  leaves_loop n out' out turn name value last body rest around lt place end scoped to (inl h) =
      inl (left_at to turn _ _ _ _ (ap after_loop (next turn n lt)) (ap (drop 1) (p.scope_open false n lt)) h)
  leaves_loop n out' out turn name value last body rest around lt place end scoped to (inr h) = inl (record {
    at = whole;
    place = h.0 ∙ place;
    inside = omega arith;
    pieces' = ap after_loop (sym (next turn n lt)) ∙ h.1 ∙ sym end;
    scope' = ap (drop 1) (sym (p.scope_open false n lt) ∙ h.2) ∙ sym scoped;
  })

-- what is behind the innermost loop is not among the pieces of a block
after_turns : (b : Bool) (name : Name) (low high : ℕ) (body : Statements) (rest : List Piece)
    → after_loop (if b then piece.Turning name low high body ∷ rest else rest) ≡ after_loop rest
after_turns true name low high body rest = refl
after_turns false name low high body rest = refl

mutual
  after_statement : (s : Statement) (rest : List Piece) → after_loop (pieces_of s rest) ≡ after_loop rest
  after_statement Null rest = refl
  after_statement (Assign target x) rest = refl
  after_statement (If branches) rest = after_branches branches rest
  after_statement (For name low high body) rest = after_turns (nat_le low high) name low high body rest
  after_statement (ExitWhen c) rest = refl
  after_statement (Call unit op actuals) rest = refl
  after_statement (Work ticks) rest = refl
  after_statement (Put x) rest = refl

  after_block : (b : Statements) (rest : List Piece) → after_loop (pieces b rest) ≡ after_loop rest
  after_block End rest = refl
  after_block (Then first others) rest = after_statement first (pieces others rest) ∙ after_block others rest

  after_branches : (bs : Branches) (rest : List Piece) → after_loop (branch_pieces bs rest) ≡ after_loop rest
  after_branches Nothing rest = refl
  after_branches (Else block) rest = after_block block rest
  after_branches (When c block others) rest = refl

-- a statement and branches as parts
abbrev statement_view : Statement → ℕ → ((ℕ → ℕ) → List Piece) → Variables → View
statement_view s depth rest scope = record {
  left = λ open' turn n. if nat_lt n (size s) then inside s n open' depth turn (rest turn) else rest turn;
  scope = λ open' n. if nat_lt n (size s) then scope_inside s n open' scope else scope;
}

abbrev branches_view : Branches → ℕ → ((ℕ → ℕ) → List Piece) → Variables → View
branches_view bs depth rest scope = record {
  left = λ open' turn n. among bs n open' depth turn (rest turn);
  scope = λ open' n. scope_among bs n open' scope;
}

abbrev StatementSteps : Statement → Type 1
StatementSteps s = (code : Code) (scope : Variables) (out pc n : ℕ) (open' : Bool) (depth : ℕ) (turn : ℕ → ℕ) (rest : (ℕ → ℕ) → List Piece)
    → DependsBelow depth rest → Stands code scope out pc s → n < size s
    → Levelled code (statement_view s depth rest scope) (size s) pc n out open' depth turn (rest turn) scope

abbrev BlockSteps : Statements → Type 1
BlockSteps b = (code : Code) (scope : Variables) (out pc n : ℕ) (open' : Bool) (depth : ℕ) (turn : ℕ → ℕ) (rest : (ℕ → ℕ) → List Piece)
    → DependsBelow depth rest → BlockStands code scope out pc b → n < block_size b
    → Levelled code (block_view b depth rest scope) (block_size b) pc n out open' depth turn (rest turn) scope

abbrev BranchesStep : Branches → Type 1
BranchesStep bs = (code : Code) (scope : Variables) (out end pc n : ℕ) (open' : Bool) (depth : ℕ) (turn : ℕ → ℕ) (rest : (ℕ → ℕ) → List Piece)
    → DependsBelow depth rest → BranchesStand code scope out end pc bs → n < branch_size bs
    → Levelled code (branches_view bs depth rest scope) (branch_size bs) pc n out open' depth turn (rest turn) scope

-- a statement of one instruction
only : (code : Code) (v : View) (out pc n : ℕ) (open' : Bool) (depth : ℕ) (turn : ℕ → ℕ) (rest : List Piece) (scope : Variables) (i : Ins) → n < 1
    → ((shown : Bool) → v.scope shown 0 ≡ scope) → ((turn' : ℕ → ℕ) → AgreeBelow depth turn turn' → v.left open' turn' 0 ≡ v.left open' turn 0)
    → FollowsAt v 1 pc 0 open' depth turn (v.left open' turn 0) i → (v.scope true 0 ≡ v.scope false 0 → Shows v 0 i)
    → code (v.scope false 0) pc i → Follows v 1 pc 0 out open' depth turn rest scope (v.left open' turn 0) i
    → Levelled code v 1 pc n out open' depth turn rest scope
only code v out pc n open' depth turn rest scope i lt scoped dep more shown h f =
    let none : zero ≡ n = omega (arith, lt) in
    subst (λ z. Levelled code v 1 pc z out open' depth turn rest scope) none (record {
      ins = i;
      is = subst (λ z. code (v.scope false 0) z i) (omega arith) h;
      follows = f;
      level = depth;
      deep = omega arith;
      is_level = same_level scope depth (v.scope false 0) (scoped false);
      follows_at = more;
      shows = shown (scoped true ∙ sym (scoped false));
      shown = depth;
      is_shown = same_level scope depth (v.scope true 0) (scoped true);
      depends = dep;
    })

-- a loop
module _ (name : Name) (low high : ℕ) (body : Statements) (depth : ℕ) (rest : (ℕ → ℕ) → List Piece) (dep : DependsBelow depth rest)
    (scope : Variables) where
  abbrev loop : View
  loop = statement_view (For name low high body) depth rest scope

  abbrev turn_rest : (ℕ → ℕ) → List Piece
  turn_rest turn = piece.Turned name (turn depth) high body ∷ rest turn

  turn_depends : DependsBelow (suc depth) turn_rest
  turn_depends turn turn' agree =
      ap (λ z. piece.Turned name z high body ∷ rest turn') (agree depth (omega arith))
      ∙ ap (λ z. piece.Turned name (turn depth) high body ∷ z) (dep turn turn' (λ k lt. agree k (omega (arith, lt))))

  turn_part : Part (block_view body (suc depth) turn_rest (in_turn name scope)) loop (block_size body) (suc (suc (block_size body))) 1
  turn_part = record {
    fits = omega arith;
    left = λ turn m le. up_to (λ i. within body i true (suc depth) turn (turn_rest turn)) (turn_rest turn) m (block_size body) le
        (within_end body true (suc depth) turn (turn_rest turn))
        ∙ sym (behind_first (λ i. within body i true (suc depth) turn (turn_rest turn)) (turn_rest turn) _ m (block_size body))
        ∙ sym (taken (suc m) (suc (suc (block_size body))) _ _ (omega (arith, le))) ∙ ap (loop.left true turn) (one_more m);
    left_open = λ open' turn m lt. sym (taken m (block_size body) (within body m open' (suc depth) turn (turn_rest turn))
        (turn_end open' name (turn depth) high body ∷ rest turn) lt)
        ∙ sym (behind_first (λ i. within body i open' (suc depth) turn (turn_rest turn)) (turn_end open' name (turn depth) high body ∷ rest turn) _ m
        (block_size body))
        ∙ sym (taken (suc m) (suc (suc (block_size body))) _ _ (omega (arith, lt))) ∙ ap (loop.left open' turn) (one_more m);
    scope = λ m le. up_to (λ i. scope_within body i true (in_turn name scope)) (in_turn name scope) m (block_size body) le
        (scope_within_end body true (in_turn name scope))
        ∙ sym (behind_first (λ i. scope_within body i true (in_turn name scope)) (in_turn name scope) _ m (block_size body))
        ∙ sym (taken (suc m) (suc (suc (block_size body))) _ _ (omega (arith, le))) ∙ ap (loop.scope true) (one_more m);
    scope_open = λ open' m lt. sym (taken m (block_size body) (scope_within body m open' (in_turn name scope))
        (if open' then in_turn name scope else scope) lt)
        ∙ sym (behind_first (λ i. scope_within body i open' (in_turn name scope)) (if open' then in_turn name scope else scope) _ m (block_size body))
        ∙ sym (taken (suc m) (suc (suc (block_size body))) _ _ (omega (arith, lt))) ∙ ap (loop.scope open') (one_more m);
  }

  left_end : (open' : Bool) (turn : ℕ → ℕ) → loop.left open' turn (suc (block_size body)) ≡ turn_end open' name (turn depth) high body ∷ rest turn
  left_end open' turn = taken (suc (block_size body)) (suc (suc (block_size body))) _ _ (omega arith)
      ∙ behind_first (λ i. within body i open' (suc depth) turn (turn_rest turn)) (turn_end open' name (turn depth) high body ∷ rest turn) _
      (block_size body) (block_size body)
      ∙ passed (block_size body) (block_size body) _ _ (omega arith)

  scope_end : (open' : Bool) → loop.scope open' (suc (block_size body)) ≡ (if open' then in_turn name scope else scope)
  scope_end open' = taken (suc (block_size body)) (suc (suc (block_size body))) _ _ (omega arith)
      ∙ behind_first (λ i. scope_within body i open' (in_turn name scope)) (if open' then in_turn name scope else scope) _
      (block_size body) (block_size body)
      ∙ passed (block_size body) (block_size body) _ _ (omega arith)

  left_start : (turn : ℕ → ℕ) → loop.left true turn 1 ≡ pieces body (turn_rest turn)
  left_start turn = sym (turn_part.left turn 0 (omega arith)) ∙ begins_within body true (suc depth) turn (turn_rest turn)

  scope_start : loop.scope true 1 ≡ in_turn name scope
  scope_start = sym (turn_part.scope 0 (omega arith)) ∙ scope_begins body true (in_turn name scope)

  left_first : (open' : Bool) (turn : ℕ → ℕ) → loop.left open' turn 0 ≡ turns name low high body (rest turn)
  left_first open' turn = taken 0 (suc (suc (block_size body))) _ _ (omega arith)

  scope_first : (open' : Bool) → loop.scope open' 0 ≡ scope
  scope_first open' = taken 0 (suc (suc (block_size body))) _ _ (omega arith)

  left_whole : (turn : ℕ → ℕ) → loop.left true turn (suc (suc (block_size body))) ≡ rest turn
  left_whole turn = passed (suc (suc (block_size body))) (suc (suc (block_size body))) _ _ (omega arith)

  scope_whole : loop.scope true (suc (suc (block_size body))) ≡ scope
  scope_whole = passed (suc (suc (block_size body))) (suc (suc (block_size body))) _ _ (omega arith)

  loop_begins : (code : Code) (out pc : ℕ) (open' : Bool) (turn : ℕ → ℕ) → Stands code scope out pc (For name low high body)
      → Levelled code loop (suc (suc (block_size body))) pc 0 out open' depth turn (rest turn) scope
  loop_begins code out pc open' turn h = record {
    ins = ins.Begin name low high (suc (suc pc + block_size body));
    is = subst (λ z. code z (pc + 0) (ins.Begin name low high (suc (suc pc + block_size body)))) (sym (scope_first false))
        (subst (λ z. code scope z (ins.Begin name low high (suc (suc pc + block_size body)))) (omega arith) h.0);
    follows = (
      body,
      rest turn,
      depth,
      omega arith,
      left_first open' turn,
      record {
        at = suc (suc (block_size body));
        place = omega arith;
        inside = omega arith;
        pieces' = sym (left_whole turn);
        scope' = scope_first false ∙ sym scope_whole;
      },
      (λ turn' agree at. ap (λ z. pieces body (piece.Turned name z high body ∷ rest turn)) (sym at)
          ∙ ap (λ z. pieces body (piece.Turned name (turn' depth) high body ∷ z)) (sym (dep turn turn' agree)) ∙ sym (left_start turn')),
      scope_start ∙ ap (in_turn name) (sym (scope_first false)),
    );
    level = depth;
    deep = omega arith;
    is_level = same_level scope depth (loop.scope false 0) (scope_first false);
    follows_at = record {
      body = body;
      rest = rest turn;
      pieces' = left_first open' turn;
      around = record {
        at = suc (suc (block_size body));
        place = omega arith;
        inside = omega arith;
        pieces' = sym (left_whole turn);
        scope' = scope_first false ∙ sym scope_whole;
      };
      forward = omega arith;
      turned = λ turn' agree at. ap (λ z. pieces body (piece.Turned name z high body ∷ rest turn)) (sym at)
          ∙ ap (λ z. pieces body (piece.Turned name (turn' depth) high body ∷ z)) (sym (dep turn turn' agree)) ∙ sym (left_start turn');
      scope' = scope_start ∙ ap (in_turn name) (sym (scope_first false));
    };
    shows = scope_first true ∙ sym (scope_first false);
    shown = depth;
    is_shown = same_level scope depth (loop.scope true 0) (scope_first true);
    depends = λ turn' agree. left_first open' turn' ∙ ap (turns name low high body) (dep turn turn' agree) ∙ sym (left_first open' turn);
  }

  loop_ends : (code : Code) (out pc n : ℕ) (open' : Bool) (turn : ℕ → ℕ) → suc (block_size body) ≡ n
      → Stands code scope out pc (For name low high body)
      → Levelled code loop (suc (suc (block_size body))) pc n out open' depth turn (rest turn) scope
  loop_ends code out pc n open' turn e h =
      subst (λ z. Levelled code loop (suc (suc (block_size body))) pc z out open' depth turn (rest turn) scope) e (record {
        ins = ins.Next name high (suc pc);
        is = subst (λ z. code z (pc + suc (block_size body)) (ins.Next name high (suc pc))) (sym (scope_end false))
            (subst (λ z. code scope z (ins.Next name high (suc pc))) (omega arith) h.2);
        follows = (
          body,
          rest turn,
          depth,
          omega arith,
          left_end open' turn,
          sym (left_whole turn),
          scope_whole ∙ sym (scope_end false),
          scope_end true ∙ ap (in_turn name) (sym (scope_end false)),
          (λ turn' agree. (
            ap (λ z. piece.Turning name (turn' depth) high body ∷ z) (sym (dep turn turn' agree)) ∙ sym (left_end false turn'),
            record {
              at = 1;
              place = omega arith;
              inside = omega arith;
              pieces' = ap (λ z. pieces body (piece.Turned name (turn' depth) high body ∷ z)) (sym (dep turn turn' agree)) ∙ sym (left_start turn');
              scope' = ap (in_turn name) (scope_end false) ∙ sym scope_start;
            },
          )),
        );
        level = depth;
        deep = omega arith;
        is_level = same_level scope depth (loop.scope false (suc (block_size body))) (scope_end false);
        follows_at = record {
          body = body;
          rest = rest turn;
          pieces' = left_end open' turn;
          behind = sym (left_whole turn);
          scope' = scope_whole ∙ sym (scope_end false);
          inner = scope_end true ∙ ap (in_turn name) (sym (scope_end false));
          again = λ turn' agree. ap (λ z. piece.Turning name (turn' depth) high body ∷ z) (sym (dep turn turn' agree)) ∙ sym (left_end false turn');
          turned = λ turn' agree. record {
            at = 1;
            place = omega arith;
            inside = omega arith;
            pieces' = ap (λ z. pieces body (piece.Turned name (turn' depth) high body ∷ z)) (sym (dep turn turn' agree)) ∙ sym (left_start turn');
            scope' = ap (in_turn name) (scope_end false) ∙ sym scope_start;
          };
        };
        shows = tt;
        shown = suc depth;
        is_shown = turn_level scope depth name (loop.scope true (suc (block_size body))) (scope_end true);
        depends = λ turn' agree. left_end open' turn'
            ∙ ap (λ z. turn_end open' name z high body ∷ rest turn') (agree depth (omega arith))
            ∙ ap (λ z. turn_end open' name (turn depth) high body ∷ z) (dep turn turn' (λ j lt. agree j (omega (arith, lt))))
            ∙ sym (left_end open' turn);
      })

  loop_steps : (n : ℕ) → Told 0 n → Told (n - 1) (block_size body) → BlockSteps body
      → (code : Code) (out pc : ℕ) (open' : Bool) (turn : ℕ → ℕ) → Stands code scope out pc (For name low high body) → n < suc (suc (block_size body))
      → Levelled code loop (suc (suc (block_size body))) pc n out open' depth turn (rest turn) scope
  loop_steps n (inr z) u steps code out pc open' turn h lt =
      let none : 0 ≡ n = omega (arith, z.1) in
      subst (λ m. Levelled code loop (suc (suc (block_size body))) pc m out open' depth turn (rest turn) scope) none
      (loop_begins code out pc open' turn h)
  loop_steps n (inl z) (inl u) steps code out pc open' turn h lt =
      stepping (block_view body (suc depth) turn_rest (in_turn name scope)) loop (block_size body) (suc (suc (block_size body))) 1 turn_part
      pc (suc pc) (omega arith) code (n - 1) n (suc (suc pc + block_size body)) out open' (suc depth) depth turn (turn_rest turn) (rest turn)
      (in_turn name scope) scope u.1 (omega arith) (turn_level scope depth name (in_turn name scope) refl) (omega (arith, z.1))
      (leaves_loop (block_view body (suc depth) turn_rest (in_turn name scope)) loop (block_size body) (suc (suc (block_size body))) 1 turn_part
      pc (suc pc) (omega arith) (n - 1) (suc (suc pc + block_size body)) out turn name (turn depth) high body (rest turn) scope u.1 (omega arith)
      (left_whole turn) scope_whole)
      (steps code (in_turn name scope) (suc (suc pc + block_size body)) (suc pc) (n - 1) open' (suc depth) turn turn_rest turn_depends h.1 u.1)
  loop_steps n (inl z) (inr u) steps code out pc open' turn h lt = loop_ends code out pc n open' turn (omega (arith, z.1, u.1, lt)) h

-- a condition with its block, before other branches
module _ (c : Expression) (block : Statements) (others : Branches) (depth : ℕ) (rest : (ℕ → ℕ) → List Piece) (dep : DependsBelow depth rest)
    (scope : Variables) where
  abbrev arms : View
  arms = branches_view (When c block others) depth rest scope

  block_part : Part (block_view block depth rest scope) arms (block_size block) (suc (suc (block_size block + branch_size others))) 1
  block_part = record {
    fits = omega arith;
    left = λ turn m le. in_block (λ i. within block i true depth turn (rest turn)) (λ i. among others i true depth turn (rest turn)) (rest turn) _ m
        (block_size block) le (within_end block true depth turn (rest turn)) ∙ ap (arms.left true turn) (one_more m);
    left_open = λ open' turn m lt. first_then (λ i. within block i open' depth turn (rest turn)) (λ i. among others i open' depth turn (rest turn))
        (rest turn) _ m (block_size block) lt ∙ ap (arms.left open' turn) (one_more m);
    scope = λ m le. in_block (λ i. scope_within block i true scope) (λ i. scope_among others i true scope) scope _ m
        (block_size block) le (scope_within_end block true scope) ∙ ap (arms.scope true) (one_more m);
    scope_open = λ open' m lt. first_then (λ i. scope_within block i open' scope) (λ i. scope_among others i open' scope) scope _ m
        (block_size block) lt ∙ ap (arms.scope open') (one_more m);
  }

  others_part : Part (branches_view others depth rest scope) arms (branch_size others) (suc (suc (block_size block + branch_size others)))
      (suc (suc (block_size block)))
  others_part = record {
    fits = omega arith;
    left = λ turn m le. sym (in_others (λ i. within block i true depth turn (rest turn)) (λ i. among others i true depth turn (rest turn))
        (rest turn) _
        m (block_size block)) ∙ ap (arms.left true turn) (more_behind (block_size block) m);
    left_open = λ open' turn m lt. sym (in_others (λ i. within block i open' depth turn (rest turn)) (λ i. among others i open' depth turn
        (rest turn))
        (rest turn) _ m (block_size block)) ∙ ap (arms.left open' turn) (more_behind (block_size block) m);
    scope = λ m le. sym (in_others (λ i. scope_within block i true scope) (λ i. scope_among others i true scope) scope _ m (block_size block))
        ∙ ap (arms.scope true) (more_behind (block_size block) m);
    scope_open = λ open' m lt. sym (in_others (λ i. scope_within block i open' scope) (λ i. scope_among others i open' scope) scope _ m
        (block_size block)) ∙ ap (arms.scope open') (more_behind (block_size block) m);
  }

  others_place : suc (suc (block_size block)) + 0 ≡ suc (suc (block_size block))
  others_place = omega arith

  scope_test : (open' : Bool) → arms.scope open' 0 ≡ scope
  scope_test open' = refl

  when_tests : (code : Code) (out end pc : ℕ) (open' : Bool) (turn : ℕ → ℕ) → BranchesStand code scope out end pc (When c block others)
      → Levelled code arms (suc (suc (block_size block + branch_size others))) pc 0 out open' depth turn (rest turn) scope
  when_tests code out end pc open' turn h = record {
    ins = ins.Test c (suc (suc pc + block_size block));
    is = subst (λ z. code z (pc + 0) (ins.Test c (suc (suc pc + block_size block)))) (sym (scope_test false))
        (subst (λ z. code scope z (ins.Test c (suc (suc pc + block_size block)))) (omega arith) h.0);
    follows = (
      block,
      others,
      rest turn,
      refl,
      sym (sym (block_part.left turn 0 (omega arith)) ∙ begins_within block true depth turn (rest turn)),
      sym (block_part.scope 0 (omega arith)) ∙ scope_begins block true scope ∙ sym (scope_test false),
      record {
        at = suc (suc (block_size block));
        place = omega arith;
        inside = omega arith;
        pieces' = sym (begins_among others true depth turn (rest turn)) ∙ others_part.left turn 0 (omega arith)
            ∙ ap (arms.left true turn) others_place;
        scope' = scope_test false ∙ sym (scope_starts_among others true scope) ∙ others_part.scope 0 (omega arith)
            ∙ ap (arms.scope true) others_place;
      },
    );
    level = depth;
    deep = omega arith;
    is_level = same_level scope depth (arms.scope false 0) (scope_test false);
    follows_at = tt;
    shows = refl;
    shown = depth;
    is_shown = same_level scope depth (arms.scope true 0) (scope_test true);
    depends = λ turn' agree. ap (λ z. piece.Testing c block others ∷ z) (dep turn turn' agree);
  }

  at_jump : {A : Type 0} (f g : ℕ → A) (x y : A) (k : ℕ)
      → (if nat_lt 0 (suc k) then (if nat_lt (suc k - 1) k then f (suc k - 1) else (if nat_lt (suc k - 1) (suc k) then x
      else g (suc k - 1 - suc k))) else y)
      ≡ x
  at_jump f g x y k =
      taken 0 (suc k) _ y (omega arith) ∙ passed (suc k - 1) k _ _ (omega arith) ∙ taken (suc k - 1) (suc k) x _ (omega arith)

  left_jump : (open' : Bool) (turn : ℕ → ℕ) → arms.left open' turn (suc (block_size block)) ≡ rest turn
  left_jump open' turn = at_jump (λ i. within block i open' depth turn (rest turn)) (λ i. among others i open' depth turn (rest turn)) (rest turn) _
      (block_size block)

  scope_jump : (open' : Bool) → arms.scope open' (suc (block_size block)) ≡ scope
  scope_jump open' = at_jump (λ i. scope_within block i open' scope) (λ i. scope_among others i open' scope) scope _ (block_size block)

  when_jumps : (code : Code) (out end pc n : ℕ) (open' : Bool) (turn : ℕ → ℕ) → suc (block_size block) ≡ n
      → BranchesStand code scope out end pc (When c block others)
      → Levelled code arms (suc (suc (block_size block + branch_size others))) pc n out open' depth turn (rest turn) scope
  when_jumps code out end pc n open' turn e h =
      subst (λ z. Levelled code arms (suc (suc (block_size block + branch_size others))) pc z out open' depth turn (rest turn) scope) e (record {
        ins = ins.Jump end;
        is = subst (λ z. code z (pc + suc (block_size block)) (ins.Jump end)) (sym (scope_jump false))
            (subst (λ z. code scope z (ins.Jump end)) (omega arith) h.2);
        follows = record {
          at = suc (suc (block_size block + branch_size others));
          place = ends_at (When c block others) code scope out end pc h;
          inside = omega arith;
          pieces' = left_jump open' turn ∙ sym (among_end (When c block others) true depth turn (rest turn));
          scope' = scope_jump false ∙ sym (scope_among_end (When c block others) true scope);
        };
        level = depth;
        deep = omega arith;
        is_level = same_level scope depth (arms.scope false (suc (block_size block))) (scope_jump false);
        follows_at = omega (arith, ends_at (When c block others) code scope out end pc h);
        shows = scope_jump true ∙ sym (scope_jump false);
        shown = depth;
        is_shown = same_level scope depth (arms.scope true (suc (block_size block))) (scope_jump true);
        depends = λ turn' agree. left_jump open' turn' ∙ dep turn turn' agree ∙ sym (left_jump open' turn);
      })

  when_steps : (n : ℕ) → Told 0 n → Told (n - 1) (block_size block) → Told (n - 1) (suc (block_size block)) → BlockSteps block → BranchesStep others
      → (code : Code) (out end pc : ℕ) (open' : Bool) (turn : ℕ → ℕ) → BranchesStand code scope out end pc (When c block others)
      → n < suc (suc (block_size block + branch_size others))
      → Levelled code arms (suc (suc (block_size block + branch_size others))) pc n out open' depth turn (rest turn) scope
  when_steps n (inr z) u w block_steps others_step code out end pc open' turn h lt =
      let none : 0 ≡ n = omega (arith, z.1) in
      subst (λ m. Levelled code arms (suc (suc (block_size block + branch_size others))) pc m out open' depth turn (rest turn) scope) none
      (when_tests code out end pc open' turn h)
  when_steps n (inl z) (inl u) w block_steps others_step code out end pc open' turn h lt =
      stepping (block_view block depth rest scope) arms (block_size block) (suc (suc (block_size block + branch_size others))) 1 block_part
      pc (suc pc) (omega arith) code (n - 1) n out out open' depth depth turn (rest turn) (rest turn) scope scope u.1 (omega arith) refl
      (omega (arith, z.1))
      (leaves_same (block_view block depth rest scope) arms (block_size block) (suc (suc (block_size block + branch_size others))) 1 block_part
      pc (suc pc) (omega arith) (n - 1) out turn (rest turn) (rest turn) scope u.1 refl)
      (block_steps code scope out (suc pc) (n - 1) open' depth turn rest dep h.1 u.1)
  when_steps n (inl z) (inr u) (inl w) block_steps others_step code out end pc open' turn h lt =
      when_jumps code out end pc n open' turn (omega (arith, z.1, u.1, w.1)) h
  when_steps n (inl z) (inr u) (inr w) block_steps others_step code out end pc open' turn h lt =
      let k = suc (suc (block_size block)) in
      let inner : n - 1 - suc (block_size block) < branch_size others = omega (arith, lt, w.1) in
      stepping (branches_view others depth rest scope) arms (branch_size others) (suc (suc (block_size block + branch_size others))) k others_part
      pc (suc (suc pc + block_size block)) (omega arith) code (n - 1 - suc (block_size block)) n out out open' depth depth turn (rest turn)
      (rest turn)
      scope scope inner (omega arith) refl (omega (arith, z.1, w.1))
      (leaves_same (branches_view others depth rest scope) arms (branch_size others) (suc (suc (block_size block + branch_size others))) k others_part
      pc (suc (suc pc + block_size block)) (omega arith) (n - 1 - suc (block_size block)) out turn (rest turn) (rest turn) scope inner refl)
      (others_step code scope out end (suc (suc pc + block_size block)) (n - 1 - suc (block_size block)) open' depth turn rest dep h.3 inner)

-- a statement before the rest of a block
module _ (first : Statement) (others : Statements) (depth : ℕ) (rest : (ℕ → ℕ) → List Piece) (dep : DependsBelow depth rest)
    (scope : Variables) where
  abbrev lines : View
  lines = block_view (Then first others) depth rest scope

  abbrev later : (ℕ → ℕ) → List Piece
  later turn = pieces others (rest turn)

  first_part : Part (statement_view first depth later scope) lines (size first) (size first + block_size others) 0
  first_part = record {
    fits = omega arith;
    left = λ turn m le. or_behind (λ i. inside first i true depth turn (later turn)) (λ i. within others i true depth turn (rest turn)) (later turn)
        m (size first) le (begins_within others true depth turn (rest turn)) ∙ ap (lines.left true turn) (none_more m);
    left_open = λ open' turn m lt. taken m (size first) _ _ lt ∙ sym (taken m (size first) _ _ lt) ∙ ap (lines.left open' turn) (none_more m);
    scope = λ m le. or_behind (λ i. scope_inside first i true scope) (λ i. scope_within others i true scope) scope
        m (size first) le (scope_begins others true scope) ∙ ap (lines.scope true) (none_more m);
    scope_open = λ open' m lt. taken m (size first) _ _ lt ∙ sym (taken m (size first) _ _ lt) ∙ ap (lines.scope open') (none_more m);
  }

  less_first : (m : ℕ) → size first + m - size first ≡ m
  less_first m = omega arith

  later_part : Part (block_view others depth rest scope) lines (block_size others) (size first + block_size others) (size first)
  later_part = record {
    fits = omega arith;
    left = λ turn m le. ap (λ z. within others z true depth turn (rest turn)) (sym (less_first m))
        ∙ sym (passed (size first + m) (size first) _ _ (omega arith));
    left_open = λ open' turn m lt. ap (λ z. within others z open' depth turn (rest turn)) (sym (less_first m))
        ∙ sym (passed (size first + m) (size first) _ _ (omega arith));
    scope = λ m le. ap (λ z. scope_within others z true scope) (sym (less_first m))
        ∙ sym (passed (size first + m) (size first) _ _ (omega arith));
    scope_open = λ open' m lt. ap (λ z. scope_within others z open' scope) (sym (less_first m))
        ∙ sym (passed (size first + m) (size first) _ _ (omega arith));
  }

  then_steps : (n : ℕ) → Told n (size first) → StatementSteps first → BlockSteps others
      → (code : Code) (out pc : ℕ) (open' : Bool) (turn : ℕ → ℕ) → BlockStands code scope out pc (Then first others)
      → n < size first + block_size others
      → Levelled code lines (size first + block_size others) pc n out open' depth turn (rest turn) scope
  then_steps n (inl t) first_steps others_step code out pc open' turn h lt =
      stepping (statement_view first depth later scope) lines (size first) (size first + block_size others) 0 first_part
      pc pc (omega arith) code n n out out open' depth depth turn (later turn) (rest turn) scope scope t.1 (omega arith) refl (omega arith)
      (leaves_same (statement_view first depth later scope) lines (size first) (size first + block_size others) 0 first_part
      pc pc (omega arith) n out turn (later turn) (rest turn) scope t.1 (after_block others (rest turn)))
      (first_steps code scope out pc n open' depth turn later (λ a b agree. ap (pieces others) (dep a b agree)) h.0 t.1)
  then_steps n (inr t) first_steps others_step code out pc open' turn h lt =
      let k = size first in
      let inner : n - k < block_size others = omega (arith, lt, t.1) in
      stepping (block_view others depth rest scope) lines (block_size others) (k + block_size others) k later_part
      pc (pc + k) refl code (n - k) n out out open' depth depth turn (rest turn) (rest turn) scope scope inner (omega arith) refl (omega (arith, t.1))
      (leaves_same (block_view others depth rest scope) lines (block_size others) (k + block_size others) k later_part
      pc (pc + k) refl (n - k) out turn (rest turn) (rest turn) scope inner refl)
      (others_step code scope out (pc + k) (n - k) open' depth turn rest dep h.1 inner)

if_part : (bs : Branches) (depth : ℕ) (rest : (ℕ → ℕ) → List Piece) (scope : Variables)
    → Part (branches_view bs depth rest scope) (statement_view (If bs) depth rest scope) (branch_size bs) (branch_size bs) 0
if_part bs depth rest scope = record {
  fits = omega arith;
  left = λ turn m le. up_to (λ i. among bs i true depth turn (rest turn)) (rest turn) m (branch_size bs) le (among_end bs true depth turn (rest turn))
      ∙ ap ((statement_view (If bs) depth rest scope).left true turn) (none_more m);
  left_open = λ open' turn m lt. sym (taken m (branch_size bs) _ _ lt) ∙ ap ((statement_view (If bs) depth rest scope).left open' turn) (none_more m);
  scope = λ m le. up_to (λ i. scope_among bs i true scope) scope m (branch_size bs) le (scope_among_end bs true scope)
      ∙ ap ((statement_view (If bs) depth rest scope).scope true) (none_more m);
  scope_open = λ open' m lt. sym (taken m (branch_size bs) _ _ lt) ∙ ap ((statement_view (If bs) depth rest scope).scope open') (none_more m);
}

mutual
  steps_inside : (s : Statement) → StatementSteps s
  steps_inside Null code scope out pc n open' depth turn rest dep h lt =
      only code (statement_view Null depth rest scope) out pc n open' depth turn (rest turn) scope ins.Idle lt (λ shown. refl)
      (λ turn' agree. ap (pieces_of Null) (dep turn turn' agree)) tt (λ same. same) h (refl, refl)
  steps_inside (Assign target x) code scope out pc n open' depth turn rest dep h lt =
      only code (statement_view (Assign target x) depth rest scope) out pc n open' depth turn (rest turn) scope (ins.Store target x) lt (λ shown. refl)
      (λ turn' agree. ap (pieces_of (Assign target x)) (dep turn turn' agree)) tt (λ same. same) h (refl, refl)
  steps_inside (If branches) code scope out pc n open' depth turn rest dep h lt =
      stepping (branches_view branches depth rest scope) (statement_view (If branches) depth rest scope) (branch_size branches)
      (branch_size branches) 0
      (if_part branches depth rest scope) pc pc (omega arith) code n n out out open' depth depth turn (rest turn) (rest turn) scope scope lt
      (omega arith) refl (omega arith)
      (leaves_same (branches_view branches depth rest scope) (statement_view (If branches) depth rest scope) (branch_size branches)
      (branch_size branches) 0 (if_part branches depth rest scope) pc pc (omega arith) n out turn (rest turn) (rest turn) scope lt refl)
      (steps_among branches code scope out (pc + branch_size branches) pc n open' depth turn rest dep h lt)
  steps_inside (For name low high body) code scope out pc n open' depth turn rest dep h lt =
      loop_steps name low high body depth rest dep scope n (less 0 n) (less (n - 1) (block_size body)) (levels_block body) code out pc open' turn h lt
  steps_inside (ExitWhen c) code scope out pc n open' depth turn rest dep h lt =
      only code (statement_view (ExitWhen c) depth rest scope) out pc n open' depth turn (rest turn) scope (ins.Exit c out) lt (λ shown. refl)
      (λ turn' agree. ap (pieces_of (ExitWhen c)) (dep turn turn' agree)) tt (λ same. same) h ((refl, refl), inr (refl, refl, refl))
  steps_inside (Call unit op actuals) code scope out pc n open' depth turn rest dep h lt =
      only code (statement_view (Call unit op actuals) depth rest scope) out pc n open' depth turn (rest turn) scope
      (ins.Calling unit op actuals) lt (λ shown. refl) (λ turn' agree. ap (pieces_of (Call unit op actuals)) (dep turn turn' agree)) tt (λ same. same) h (refl, refl)
  steps_inside (Work ticks) code scope out pc n open' depth turn rest dep h lt =
      only code (statement_view (Work ticks) depth rest scope) out pc n open' depth turn (rest turn) scope (ins.Working ticks) lt (λ shown. refl)
      (λ turn' agree. ap (pieces_of (Work ticks)) (dep turn turn' agree)) tt (λ same. same) h (refl, refl)
  steps_inside (Put x) code scope out pc n open' depth turn rest dep h lt =
      only code (statement_view (Put x) depth rest scope) out pc n open' depth turn (rest turn) scope (ins.Printing x) lt (λ shown. refl)
      (λ turn' agree. ap (pieces_of (Put x)) (dep turn turn' agree)) tt (λ same. same) h (refl, refl)

  pub levels_block : (b : Statements) → BlockSteps b
  levels_block End code scope out pc n open' depth turn rest dep h lt = absurd (omega (arith, lt))
  levels_block (Then first others) code scope out pc n open' depth turn rest dep h lt =
      then_steps first others depth rest dep scope n (less n (size first)) (steps_inside first) (levels_block others) code out pc open' turn h lt

  steps_among : (bs : Branches) → BranchesStep bs
  steps_among Nothing code scope out end pc n open' depth turn rest dep h lt = absurd (omega (arith, lt))
  steps_among (Else block) code scope out end pc n open' depth turn rest dep h lt =
      levels_block block code scope out pc n open' depth turn rest dep h.0 lt
  steps_among (When c block others) code scope out end pc n open' depth turn rest dep h lt =
      when_steps c block others depth rest dep scope n (less 0 n) (less (n - 1) (block_size block)) (less (n - 1) (suc (block_size block)))
      (levels_block block) (steps_among others) code out end pc open' turn h lt

-- without the levels
pub steps_block : (b : Statements) (code : Code) (scope : Variables) (out pc n : ℕ) (open' : Bool) (depth : ℕ) (turn : ℕ → ℕ)
    (rest : (ℕ → ℕ) → List Piece) → DependsBelow depth rest → BlockStands code scope out pc b → n < block_size b
    → Stepping code (block_view b depth rest scope) (block_size b) pc n out open' depth turn (rest turn) scope
steps_block b code scope out pc n open' depth turn rest dep h lt =
    let s = levels_block b code scope out pc n open' depth turn rest dep h lt in
    record { ins = s.ins; is = s.is; follows = s.follows }
