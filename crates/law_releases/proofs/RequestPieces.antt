-- The parts of a request among a task's pieces: they stand first, one after another, and no other request is among the pieces.
use Rattle.std.specs.Prelude.{◌≡◌, ℕ, suc, Bool, true, false, ◌==◌, ◌||◌, List, [], ◌∷◌, drop, nat_le, Option, if◌then◌else◌, ⊤, refl}
use Rattle.std.proofs.Common.{sym, ◌∙◌, ap, subst}
use Rattle.seq_tree.specs.Names.{Name}
use Rattle.seq_tree.specs.Expressions.{Expression}
use Rattle.seq_tree.specs.Statements.{Statement, Statements, Branches, Null, Assign, If, For, ExitWhen, Call, Work, Put, End, Then, Nothing}
use Rattle.seq_tree.specs.Statements.{Else, When}
use Rattle.seq_tree.specs.Variables.{Variables}
use Rattle.seq_tree.specs.Values.{holds}
use Rattle.seq_tree.specs.Runs.{request_value}
use Rattle.machine.specs.Systems.{System, CallTarget, Plain, Protected, Request, Unknown, callee}
use Rattle.machine.specs.Pieces.{Piece, Idle, Store, Leaving, Calling, Working, Printing, Testing, Turning, Turned, Returning, Closing, Keeping}
use Rattle.machine.specs.Pieces.{Opening, Requested, Finishing, pieces_of, pieces, branch_pieces, after_loop}
use Rattle.machine.specs.Deeds.{Act, Silent, Ask, Keep, Open, Ended, deed, done, called}
use Rattle.machine.specs.States.{Gate}
use Rattle.std.proofs.lemmas.Bool.{true≢false, eqb-true, eqb-false, eq-eqb}

-- pieces without a request
abbrev pub is_free : List Piece → Bool
is_free [] = true
is_free (Keeping task v ∷ ps) = false
is_free (Opening task ∷ ps) = false
is_free (Requested task v ∷ ps) = false
is_free (_ ∷ ps) = is_free ps

-- what stands behind the parts of a request
abbrev pub AfterOpen : ℕ → List Piece → Type 0
AfterOpen k (Requested other v ∷ ps) = (other ≡ k) × (is_free ps ≡ true)
AfterOpen k _ = ⊥

abbrev pub AfterKeep : ℕ → Option ℕ → List Piece → Type 0
AfterKeep k v (Opening other ∷ Requested same w ∷ ps) = (other ≡ k) × (same ≡ k) × (w ≡ v) × (is_free ps ≡ true)
AfterKeep k v _ = ⊥

abbrev pub HeadOf : Piece → List Piece → Type 0
HeadOf (Keeping k v) rest = AfterKeep k v rest
HeadOf (Opening k) rest = AfterOpen k rest
HeadOf (Requested k v) rest = is_free rest ≡ true
HeadOf _ rest = is_free rest ≡ true

abbrev pub Heads : List Piece → Type 0
Heads [] = ⊤
Heads (x ∷ rest) = HeadOf x rest

-- whether a request of a task is among pieces
abbrev pub asks : ℕ → List Piece → Bool
asks j [] = false
asks j (Requested k v ∷ ps) = (k == j) || asks j ps
asks j (_ ∷ ps) = asks j ps

-- whether the value of a request has been kept, and whether the barrier is open
abbrev pub keeps : ℕ → List Piece → Bool
keeps j (Opening k ∷ ps) = k == j
keeps j (Requested k v ∷ ps) = k == j
keeps j _ = false

abbrev pub opened : ℕ → List Piece → Bool
opened j (Requested k v ∷ ps) = k == j
opened j _ = false

-- the control structure, as a request that goes on has left it
abbrev pub KeptBy : ℕ → Gate → List Piece → Type 0
KeptBy j g (Opening k ∷ Requested same v ∷ ps) = k ≡ j → g.value ≡ v
KeptBy j g (Requested k v ∷ ps) = k ≡ j → (g.value ≡ v) × (g.open' ≡ true)
KeptBy j g _ = ⊤

-- free pieces
mutual
  pub free_statement : (s : Statement) (rest : List Piece) → is_free (pieces_of s rest) ≡ is_free rest
  free_statement Null rest = refl
  free_statement (Assign target e) rest = refl
  free_statement (If branches) rest = free_branches branches rest
  free_statement (For name low high body) rest = by (nat_le low high)
    where
      by : (b : Bool) → is_free (if b then Turning name low high body ∷ rest else rest) ≡ is_free rest
      by true = refl
      by false = refl
  free_statement (ExitWhen condition) rest = refl
  free_statement (Call object op actuals) rest = refl
  free_statement (Work ticks) rest = refl
  free_statement (Put e) rest = refl

  pub free_block : (b : Statements) (rest : List Piece) → is_free (pieces b rest) ≡ is_free rest
  free_block End rest = refl
  free_block (Then first others) rest = free_statement first (pieces others rest) ∙ free_block others rest

  pub free_branches : (b : Branches) (rest : List Piece) → is_free (branch_pieces b rest) ≡ is_free rest
  free_branches Nothing rest = refl
  free_branches (Else block) rest = free_block block rest
  free_branches (When condition block others) rest = refl

free_after : (rest : List Piece) → is_free rest ≡ true → is_free (after_loop rest) ≡ true
free_after [] e = e
free_after (Turned name at last body ∷ rest) e = e
free_after (Keeping task v ∷ rest) e = absurd (true≢false (sym e))
free_after (Opening task ∷ rest) e = absurd (true≢false (sym e))
free_after (Requested task v ∷ rest) e = absurd (true≢false (sym e))
free_after (_ ∷ rest) e = free_after rest e

pub free_asks : (j : ℕ) (ps : List Piece) → is_free ps ≡ true → asks j ps ≡ false
free_asks j [] e = refl
free_asks j (Keeping task v ∷ rest) e = absurd (true≢false (sym e))
free_asks j (Opening task ∷ rest) e = absurd (true≢false (sym e))
free_asks j (Requested task v ∷ rest) e = absurd (true≢false (sym e))
free_asks j (_ ∷ rest) e = free_asks j rest e

pub free_heads : (ps : List Piece) → is_free ps ≡ true → Heads ps
free_heads [] e = tt
free_heads (Keeping task v ∷ rest) e = absurd (true≢false (sym e))
free_heads (Opening task ∷ rest) e = absurd (true≢false (sym e))
free_heads (Requested task v ∷ rest) e = absurd (true≢false (sym e))
free_heads (_ ∷ rest) e = e

pub free_keeps : (j : ℕ) (ps : List Piece) → is_free ps ≡ true → keeps j ps ≡ false
free_keeps j [] e = refl
free_keeps j (Keeping task v ∷ rest) e = refl
free_keeps j (Opening task ∷ rest) e = absurd (true≢false (sym e))
free_keeps j (Requested task v ∷ rest) e = absurd (true≢false (sym e))
free_keeps j (_ ∷ rest) e = refl

-- one that has kept a value asks
pub keeps_asks : (j : ℕ) (ps : List Piece) → Heads ps → keeps j ps ≡ true → asks j ps ≡ true
keeps_asks j [] heads e = e
keeps_asks j (Opening k ∷ []) heads e = absurd heads
keeps_asks j (Opening k ∷ Requested other v ∷ rest) heads e = ap (λ b. b || asks j rest) (eq-eqb other j (heads.0 ∙ eqb-true k j e))
keeps_asks j (Opening k ∷ _ ∷ rest) heads e = absurd heads
keeps_asks j (Requested k v ∷ rest) heads e = ap (λ b. b || asks j rest) e
keeps_asks j (_ ∷ rest) heads e = absurd (true≢false (sym e))

pub opened_keeps : (j : ℕ) (ps : List Piece) → opened j ps ≡ true → keeps j ps ≡ true
opened_keeps j [] e = e
opened_keeps j (Requested k v ∷ rest) e = e
opened_keeps j (_ ∷ rest) e = absurd (true≢false (sym e))

-- one that has kept none says nothing of the control structure
pub not_kept : (j : ℕ) (g : Gate) (ps : List Piece) → keeps j ps ≡ false → KeptBy j g ps
not_kept j g [] e = tt
not_kept j g (Opening k ∷ []) e = tt
not_kept j g (Opening k ∷ Requested other v ∷ rest) e = λ is. absurd (eqb-false k j e is)
not_kept j g (Opening k ∷ _ ∷ rest) e = tt
not_kept j g (Requested k v ∷ rest) e = λ is. absurd (eqb-false k j e is)
not_kept j g (_ ∷ rest) e = tt

-- an act that is no part of a request
abbrev pub is_plain : Act → Bool
is_plain (Ask task) = false
is_plain (Keep task v) = false
is_plain (Open task) = false
is_plain (Ended task v) = false
is_plain _ = true

-- a piece, its deed and the pieces after it, as parts of a request or not
pub data Part : Piece → List Piece → Act → List Piece → Type 0 where
  Plainly : {x : Piece} {rest ps : List Piece} {a : Act} → is_plain a ≡ true → ((j : ℕ) → keeps j (x ∷ rest) ≡ false) → is_free ps ≡ true
      → Part x rest a ps
  Asking : {x : Piece} {rest ps : List Piece} (k : ℕ) (v : Option ℕ) → ((j : ℕ) → keeps j (x ∷ rest) ≡ false) → is_free ps ≡ true
      → Part x rest (Ask k) (Keeping k v ∷ Opening k ∷ Requested k v ∷ ps)
  Kept : (k : ℕ) (v : Option ℕ) (ps : List Piece) → is_free ps ≡ true
      → Part (Keeping k v) (Opening k ∷ Requested k v ∷ ps) (Keep k v) (Opening k ∷ Requested k v ∷ ps)
  Opens : (k : ℕ) (v : Option ℕ) (ps : List Piece) → is_free ps ≡ true → Part (Opening k) (Requested k v ∷ ps) (Open k) (Requested k v ∷ ps)
  Ends : (k : ℕ) (v : Option ℕ) (ps : List Piece) → is_free ps ≡ true → Part (Requested k v) ps (Ended k v) ps

part_call : (k : CallTarget) (unit op : Name) (actuals : List Expression) (vars : Variables) (rest : List Piece) → is_free rest ≡ true
    → Part (Calling unit op actuals) rest ((called k actuals vars rest).act) ((called k actuals vars rest).pieces)
part_call (Plain o) unit op actuals vars rest free = Plainly refl (λ j. refl) (free_block o.block _ ∙ free)
part_call (Protected object j g o) unit op actuals vars rest free = Plainly refl (λ i. refl) (free_block o.block _ ∙ free)
part_call (Request task) unit op actuals vars rest free = Asking task (request_value actuals vars) (λ i. refl) free
part_call Unknown unit op actuals vars rest free = Plainly refl (λ i. refl) free

part_keep : (k : ℕ) (v : Option ℕ) (rest : List Piece) → AfterKeep k v rest → Part (Keeping k v) rest (Keep k v) rest
part_keep k v [] h = absurd h
part_keep k v (Opening other ∷ []) h = absurd h
part_keep k v (Opening other ∷ Requested same w ∷ ps) h =
    let P : ℕ → ℕ → Option ℕ → Type 0 = λ a b c. Part (Keeping k v) (Opening a ∷ Requested b c ∷ ps) (Keep k v) (Opening a ∷ Requested b c ∷ ps) in
    subst (λ a. P a same w) (sym h.0) (subst (λ b. P k b w) (sym h.1) (subst (λ c. P k k c) (sym h.2) (Kept k v ps h.3)))
part_keep k v (Opening other ∷ _ ∷ ps) h = absurd h
part_keep k v (_ ∷ ps) h = absurd h

part_open : (k : ℕ) (rest : List Piece) → AfterOpen k rest → Part (Opening k) rest (Open k) rest
part_open k [] h = absurd h
part_open k (Requested other v ∷ ps) h = subst (λ a. Part (Opening k) (Requested a v ∷ ps) (Open k) (Requested a v ∷ ps)) (sym h.0) (Opens k v ps h.1)
part_open k (_ ∷ ps) h = absurd h

part_leaving : (b : Bool) (condition : Expression) (vars : Variables) (rest : List Piece) → is_free rest ≡ true
    → Part (Leaving condition) rest ((if b then deed Silent (drop 1 vars) (after_loop rest) else deed Silent vars rest).act)
    ((if b then deed Silent (drop 1 vars) (after_loop rest) else deed Silent vars rest).pieces)
part_leaving true condition vars rest free = Plainly refl (λ j. refl) (free_after rest free)
part_leaving false condition vars rest free = Plainly refl (λ j. refl) free

free_if : (b : Bool) (ps qs : List Piece) → is_free ps ≡ true → is_free qs ≡ true → is_free (if b then ps else qs) ≡ true
free_if true ps qs e f = e
free_if false ps qs e f = f

pub part : (y : System) (x : Piece) (vars : Variables) (rest : List Piece) → HeadOf x rest
    → Part x rest ((done y x vars rest).act) ((done y x vars rest).pieces)
part y Idle vars rest h = Plainly refl (λ j. refl) h
part y (Store target e) vars rest h = Plainly refl (λ j. refl) h
part y (Leaving condition) vars rest h = part_leaving (holds condition vars) condition vars rest h
part y (Calling unit op actuals) vars rest h = part_call (callee y unit op) unit op actuals vars rest h
part y (Working ticks) vars rest h = Plainly refl (λ j. refl) h
part y (Printing e) vars rest h = Plainly refl (λ j. refl) h
part y (Testing condition block others) vars rest h
    = Plainly refl (λ j. refl) (free_if (holds condition vars) _ _ (free_block block rest ∙ h) (free_branches others rest ∙ h))
part y (Turning name at last body) vars rest h = Plainly refl (λ j. refl) (free_block body _ ∙ h)
part y (Turned name at last body) vars rest h = Plainly refl (λ j. refl) (free_if (nat_le (suc at) last) _ _ h h)
part y (Returning outs stores caller) vars rest h = Plainly refl (λ j. refl) h
part y (Closing object op data' outs stores caller) vars rest h = Plainly refl (λ j. refl) h
part y (Keeping task v) vars rest h = part_keep task v rest h
part y (Opening task) vars rest h = part_open task rest h
part y (Requested task v) vars rest h = Ends task v rest h
part y Finishing vars rest h = Plainly refl (λ j. refl) refl
