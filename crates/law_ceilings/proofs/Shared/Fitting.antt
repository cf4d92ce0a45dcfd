-- What a deed leaves of a task's pieces: they still fit, and their ends of sections are as before but for one that it enters or leaves.
use Rattle.std.specs.Prelude.{◌≡◌, ℕ, suc, Bool, true, false, List, [], ◌∷◌, drop, nat_le, Some, if◌then◌else◌, refl}
use Rattle.std.proofs.Common.{sym, ◌∙◌, ap, subst}
use Rattle.seq_tree.specs.Names.{Name}
use Rattle.seq_tree.specs.Statements.{Statement, Statements, Branches, Null, Assign, If, For, ExitWhen, Call, Work, Put, End, Then, Nothing}
use Rattle.seq_tree.specs.Statements.{Else, When}
use Rattle.seq_tree.specs.Expressions.{Expression}
use Rattle.seq_tree.specs.Values.{holds}
use Rattle.seq_tree.specs.Variables.{Variables}
use Rattle.machine.specs.Systems.{System, CallTarget, Plain, Protected, Request, Unknown, callee}
use Rattle.machine.specs.Pieces.{Piece, Idle, Store, Leaving, Calling, Working, Printing, Testing, Turning, Turned, Returning, Closing, Keeping}
use Rattle.machine.specs.Pieces.{Opening, Requested, Finishing, turns, pieces_of, pieces, branch_pieces, after_loop}
use Rattle.machine.specs.Deeds.{Act, Silent, Print, Enter, Leave, Ask, Keep, Open, Ended, Finish, PieceOutcome, deed, called, done}
use Rattle.machine.specs.States.{Resource, Object, Control}
use Rattle.law_ceilings.proofs.Shared.Pieces.{closers, is_in_loop, Permission, Inside, AreFit, entered_by, LeadsWithin, IsClosed}
use Rattle.law_ceilings.specs.Bodies.{Where, StatementFits, BlockFits, BranchesFit}
use Rattle.std.proofs.lemmas.Bool.{false≢true}

-- what holds of both holds of either
pub either-way : {A : Type 0} (P : A → Type 0) (b : Bool) (x y : A) → P x → P y → P (if b then x else y)
either-way P true x y p q = p
either-way P false x y p q = q

-- the pieces of statements put no end of a section and no end of a body before what is behind them
turns-closers : (name : Name) (at last : ℕ) (body : Statements) (rest : List Piece) → closers (turns name at last body rest) ≡ closers rest
turns-closers name at last body rest = either-way (λ ps. closers ps ≡ closers rest) (nat_le at last) (Turning name at last body ∷ rest) rest refl refl

turns-loop : (name : Name) (at last : ℕ) (body : Statements) (rest : List Piece) → is_in_loop (turns name at last body rest) ≡ is_in_loop rest
turns-loop name at last body rest = either-way (λ ps. is_in_loop ps ≡ is_in_loop rest) (nat_le at last)
    (Turning name at last body ∷ rest) rest refl refl

mutual
  statement-closers : (s : Statement) (rest : List Piece) → closers (pieces_of s rest) ≡ closers rest
  statement-closers Null rest = refl
  statement-closers (Assign target e) rest = refl
  statement-closers (If branches) rest = branches-closers branches rest
  statement-closers (For name low high body) rest = turns-closers name low high body rest
  statement-closers (ExitWhen condition) rest = refl
  statement-closers (Call object op actuals) rest = refl
  statement-closers (Work ticks) rest = refl
  statement-closers (Put e) rest = refl

  pub block-closers : (b : Statements) (rest : List Piece) → closers (pieces b rest) ≡ closers rest
  block-closers End rest = refl
  block-closers (Then first others) rest = statement-closers first (pieces others rest) ∙ block-closers others rest

  pub branches-closers : (b : Branches) (rest : List Piece) → closers (branch_pieces b rest) ≡ closers rest
  branches-closers Nothing rest = refl
  branches-closers (Else block) rest = block-closers block rest
  branches-closers (When condition block others) rest = refl

mutual
  statement-loop : (s : Statement) (rest : List Piece) → is_in_loop (pieces_of s rest) ≡ is_in_loop rest
  statement-loop Null rest = refl
  statement-loop (Assign target e) rest = refl
  statement-loop (If branches) rest = branches-loop branches rest
  statement-loop (For name low high body) rest = turns-loop name low high body rest
  statement-loop (ExitWhen condition) rest = refl
  statement-loop (Call object op actuals) rest = refl
  statement-loop (Work ticks) rest = refl
  statement-loop (Put e) rest = refl

  block-loop : (b : Statements) (rest : List Piece) → is_in_loop (pieces b rest) ≡ is_in_loop rest
  block-loop End rest = refl
  block-loop (Then first others) rest = statement-loop first (pieces others rest) ∙ block-loop others rest

  branches-loop : (b : Branches) (rest : List Piece) → is_in_loop (branch_pieces b rest) ≡ is_in_loop rest
  branches-loop Nothing rest = refl
  branches-loop (Else block) rest = block-loop block rest
  branches-loop (When condition block others) rest = refl

-- calls that may be made, under a weaker permission
mutual
  statement-weaken : (P Q : Name → Name → Type 0) → ((unit op : Name) → P unit op → Q unit op) → (b : Bool) (s : Statement) → StatementFits P b s
      → StatementFits Q b s
  statement-weaken P Q f b Null h = tt
  statement-weaken P Q f b (Assign target e) h = tt
  statement-weaken P Q f b (If branches) h = branches-weaken P Q f b branches h
  statement-weaken P Q f b (For name low high body) h = live (nat_le low high) (λ k. block-weaken P Q f true body k) h
    where
      live : (c : Bool) → (BlockFits P true body → BlockFits Q true body) → Where c (BlockFits P true body) → Where c (BlockFits Q true body)
      live true g k = g k
      live false g k = tt
  statement-weaken P Q f b (ExitWhen condition) h = h
  statement-weaken P Q f b (Call object op actuals) h = f object op h
  statement-weaken P Q f b (Work ticks) h = tt
  statement-weaken P Q f b (Put e) h = tt

  pub block-weaken : (P Q : Name → Name → Type 0) → ((unit op : Name) → P unit op → Q unit op) → (b : Bool) (s : Statements) → BlockFits P b s
      → BlockFits Q b s
  block-weaken P Q f b End h = tt
  block-weaken P Q f b (Then first rest) h = (statement-weaken P Q f b first h.0, block-weaken P Q f b rest h.1)

  branches-weaken : (P Q : Name → Name → Type 0) → ((unit op : Name) → P unit op → Q unit op) → (b : Bool) (s : Branches) → BranchesFit P b s
      → BranchesFit Q b s
  branches-weaken P Q f b Nothing h = tt
  branches-weaken P Q f b (Else block) h = block-weaken P Q f b block h
  branches-weaken P Q f b (When condition block others) h = (block-weaken P Q f b block h.0, branches-weaken P Q f b others h.1)

module _ (May : Permission) where
  -- what fits before pieces fits before others with the same ends
  statement-moved : (s : Statement) (ss ss' : List Resource) (b b' : Bool) → ss ≡ ss' → b ≡ b' → StatementFits (Inside May ss) b s
      → StatementFits (Inside May ss') b' s
  statement-moved s ss ss' b b' e f h = subst (λ c. StatementFits (Inside May ss') c s) f (subst (λ xs. StatementFits (Inside May xs) b s) e h)

  turns-fit : (name : Name) (at last : ℕ) (body : Statements) (rest : List Piece)
      → Where (nat_le at last) (BlockFits (Inside May (closers rest)) true body) → AreFit May rest → AreFit May (turns name at last body rest)
  turns-fit name at last body rest h fits = go (nat_le at last) h
    where
      go : (c : Bool) → Where c (BlockFits (Inside May (closers rest)) true body) → AreFit May (if c then Turning name at last body ∷ rest else rest)
      go true k = (k, fits)
      go false k = fits

  mutual
    statement-fit : (s : Statement) (rest : List Piece) → StatementFits (Inside May (closers rest)) (is_in_loop rest) s → AreFit May rest
        → AreFit May (pieces_of s rest)
    statement-fit Null rest h fits = (tt, fits)
    statement-fit (Assign target e) rest h fits = (tt, fits)
    statement-fit (If branches) rest h fits = branches-fit branches rest h fits
    statement-fit (For name low high body) rest h fits = turns-fit name low high body rest h fits
    statement-fit (ExitWhen condition) rest h fits = (h, fits)
    statement-fit (Call object op actuals) rest h fits = (h, fits)
    statement-fit (Work ticks) rest h fits = (tt, fits)
    statement-fit (Put e) rest h fits = (tt, fits)

    pub block-fit : (b : Statements) (rest : List Piece) → BlockFits (Inside May (closers rest)) (is_in_loop rest) b → AreFit May rest
        → AreFit May (pieces b rest)
    block-fit End rest h fits = fits
    block-fit (Then first others) rest h fits =
        statement-fit first (pieces others rest)
        (statement-moved first (closers rest) (closers (pieces others rest)) (is_in_loop rest) (is_in_loop (pieces others rest))
        (sym (block-closers others rest)) (sym (block-loop others rest)) h.0)
        (block-fit others rest h.1 fits)

    pub branches-fit : (b : Branches) (rest : List Piece) → BranchesFit (Inside May (closers rest)) (is_in_loop rest) b → AreFit May rest
        → AreFit May (branch_pieces b rest)
    branches-fit Nothing rest h fits = fits
    branches-fit (Else block) rest h fits = block-fit block rest h fits
    branches-fit (When condition block others) rest h fits = (h, fits)

-- what is left when a loop is left
pub after-closers : (ps : List Piece) → is_in_loop ps ≡ true → closers (after_loop ps) ≡ closers ps
after-closers [] e = absurd (false≢true e)
after-closers (Idle ∷ ps) e = after-closers ps e
after-closers (Store target value ∷ ps) e = after-closers ps e
after-closers (Leaving condition ∷ ps) e = after-closers ps e
after-closers (Calling unit op actuals ∷ ps) e = after-closers ps e
after-closers (Working ticks ∷ ps) e = after-closers ps e
after-closers (Printing value ∷ ps) e = after-closers ps e
after-closers (Testing condition block others ∷ ps) e = after-closers ps e
after-closers (Turning name at last body ∷ ps) e = after-closers ps e
after-closers (Turned name at last body ∷ ps) e = refl
after-closers (Returning outs stores caller ∷ ps) e = absurd (false≢true e)
after-closers (Closing object op vars outs stores caller ∷ ps) e = absurd (false≢true e)
after-closers (Keeping task value ∷ ps) e = after-closers ps e
after-closers (Opening task ∷ ps) e = after-closers ps e
after-closers (Requested task value ∷ ps) e = absurd (false≢true e)
after-closers (Finishing ∷ ps) e = absurd (false≢true e)

pub after-fit : (May : Permission) (ps : List Piece) → AreFit May ps → AreFit May (after_loop ps)
after-fit May [] h = h
after-fit May (Idle ∷ ps) h = after-fit May ps h.1
after-fit May (Store target value ∷ ps) h = after-fit May ps h.1
after-fit May (Leaving condition ∷ ps) h = after-fit May ps h.1
after-fit May (Calling unit op actuals ∷ ps) h = after-fit May ps h.1
after-fit May (Working ticks ∷ ps) h = after-fit May ps h.1
after-fit May (Printing value ∷ ps) h = after-fit May ps h.1
after-fit May (Testing condition block others ∷ ps) h = after-fit May ps h.1
after-fit May (Turning name at last body ∷ ps) h = after-fit May ps h.1
after-fit May (Turned name at last body ∷ ps) h = h.1
after-fit May (Returning outs stores caller ∷ ps) h = after-fit May ps h.1
after-fit May (Closing object op vars outs stores caller ∷ ps) h = after-fit May ps h.1
after-fit May (Keeping task value ∷ ps) h = after-fit May ps h.1
after-fit May (Opening task ∷ ps) h = after-fit May ps h.1
after-fit May (Requested task value ∷ ps) h = after-fit May ps h.1
after-fit May (Finishing ∷ ps) h = after-fit May ps h.1

-- a permitted call that enters a section, made inside these
pub record IsEntered (y : System) (May : Permission) (section : Resource) (ss : List Resource) : Type 0 where
  pub unit : Name
  pub op : Name
  pub enters : entered_by (callee y unit op) ≡ Some section
  pub may : May unit op ss

-- what an act does to the ends of sections among the pieces
abbrev pub ActFits : System → Permission → List Resource → Act → List Piece → Type 0
ActFits y May ss Silent ps = closers ps ≡ ss
ActFits y May ss (Print v) ps = closers ps ≡ ss
ActFits y May ss (Enter object op values) ps = IsEntered y May (Object object) ss × (closers ps ≡ Object object ∷ ss)
ActFits y May ss (Leave object op values data') ps = ss ≡ Object object ∷ closers ps
ActFits y May ss (Ask task) ps = IsEntered y May (Control task) ss × (closers ps ≡ Control task ∷ ss)
ActFits y May ss (Keep task v) ps = closers ps ≡ ss
ActFits y May ss (Open task) ps = closers ps ≡ ss
ActFits y May ss (Ended task v) ps = ss ≡ Control task ∷ closers ps
ActFits y May ss Finish ps = (ss ≡ []) × (ps ≡ [])

-- a deed whose pieces fit
abbrev pub DeedFits : System → Permission → List Resource → PieceOutcome → Type 0
DeedFits y May ss d = AreFit May d.pieces × ActFits y May ss d.act d.pieces

called-fits : (y : System) (May : Permission) (unit op : Name) (actuals : List Expression) (vars : Variables) (ps : List Piece) (c : CallTarget)
    → callee y unit op ≡ c → May unit op (closers ps) → LeadsWithin May c (closers ps) → AreFit May ps
    → DeedFits y May (closers ps) (called c actuals vars ps)
called-fits y May unit op actuals vars ps (Plain o) e may within fits = (block-fit May o.block _ within (tt, fits), block-closers o.block _)
called-fits y May unit op actuals vars ps (Protected object j g o) e may within fits =
    (block-fit May o.block _ within (tt, fits), (record { unit = unit; op = op; enters = ap entered_by e; may = may }, block-closers o.block _))
called-fits y May unit op actuals vars ps (Request task) e may within fits =
    (((refl, refl), (refl, (tt, fits))), (record { unit = unit; op = op; enters = ap entered_by e; may = may }, refl))
called-fits y May unit op actuals vars ps Unknown e may within fits = (fits, refl)

pub done-fits : (y : System) (May : Permission) → IsClosed y May → (p : Piece) (vars : Variables) (ps : List Piece)
    → AreFit May (p ∷ ps) → DeedFits y May (closers (p ∷ ps)) (done y p vars ps)
done-fits y May closed Idle vars ps h = (h.1, refl)
done-fits y May closed (Store target e) vars ps h = (h.1, refl)
done-fits y May closed (Leaving condition) vars ps h =
    either-way (DeedFits y May (closers ps)) (holds condition vars) (deed Silent (drop 1 vars) (after_loop ps)) (deed Silent vars ps)
    (after-fit May ps h.1, after-closers ps h.0) (h.1, refl)
done-fits y May closed (Calling unit op actuals) vars ps h =
    called-fits y May unit op actuals vars ps (callee y unit op) refl h.0 (closed unit op (closers ps) h.0) h.1
done-fits y May closed (Working ticks) vars ps h = (h.1, refl)
done-fits y May closed (Printing e) vars ps h = (h.1, refl)
done-fits y May closed (Testing condition block others) vars ps h =
    either-way (λ xs. DeedFits y May (closers ps) (deed Silent vars xs)) (holds condition vars) (pieces block ps) (branch_pieces others ps)
    (block-fit May block ps h.0.0 h.1, block-closers block ps) (branches-fit May others ps h.0.1 h.1, branches-closers others ps)
done-fits y May closed (Turning name at last body) vars ps h = (block-fit May body _ h.0 (h.0, h.1), block-closers body _)
done-fits y May closed (Turned name at last body) vars ps h =
    (turns-fit May name (suc at) last body ps (live (nat_le (suc at) last) h.0) h.1, turns-closers name (suc at) last body ps)
  where
    live : (c : Bool) → BlockFits (Inside May (closers ps)) true body → Where c (BlockFits (Inside May (closers ps)) true body)
    live true k = k
    live false k = tt
done-fits y May closed (Returning outs stores caller) vars ps h = (h.1, refl)
done-fits y May closed (Closing object op data' outs stores caller) vars ps h = (h.1, refl)
done-fits y May closed (Keeping task v) vars ps h = (h.1, refl)
done-fits y May closed (Opening task) vars ps h = (h.1, refl)
done-fits y May closed (Requested task v) vars ps h = (h.1, refl)
done-fits y May closed Finishing vars ps h = (tt, (ap closers h.0, refl))
