-- What is kept from step to step: what is left of the walk, room for its ticks, the names at the bottom, and no action is added.
use Rattle.std.proofs.Common.{◌≡◌, ℕ, ◌+◌, ◌≤◌, ◌<◌, false, fold, List, [], ◌∷◌, ◌++◌, length, Result, Ok, Err, refl, sym, ap, ◌∙◌, arith, subst}
use Rattle.std.proofs.lemmas.List.Sums.{fold-append}
use Rattle.grammar.specs.Reading.{whole_at}
use Rattle.seq_tree.specs.Limits.{tick_limit}
use Rattle.seq_tree.specs.Names.{Name}
use Rattle.seq_tree.specs.Statements.{Statements}
use Rattle.seq_tree.specs.Variables.{Variables}
use Rattle.seq_tree.specs.Runs.{Action, Callee}
use Rattle.seq_tree.specs.declared.tree.Costs.{Costs}
use Rattle.law_walks.specs.Walks.{walk_at}
use Rattle.seq_eval.specs.Bounds.{most_ticks}
use Rattle.seq_eval.specs.Ends.{comes_to, names_of}
use Rattle.seq_eval.specs.Ends as ends
use Rattle.seq_eval.specs.States.{doing_of, doings_of, with_frame}
use Rattle.seq_eval.specs.Stepping.{Doing, Rest, Arms, Turned, Returned, HasFew, State, to_do, step}
use Rattle.seq_eval.specs.declared.walk.Frame.{Frame}
use Rattle.seq_eval.proofs.Meaning.{backs, rest_of, rest_after, step-keeps, begins-left}
use Rattle.seq_eval.proofs.Naming.{names_under, step-names, step-leaves, NamesStay, Leaves}
use Rattle.seq_eval.proofs.Tolls.{toll, Pays, PaysStep, step-pays, first-toll}

-- more bodies than any stack has frames
abbrev pub most : ℕ
most = 18446744073709551615

pub deepest : ℕ
deepest = 18446744073709551616

pub deep-enough : most < deepest
unfolding deepest
deep-enough = omega arith

-- a block whose walks take few ticks
abbrev pub IsCheap : Costs → (Name → Name → Callee) → Statements → Type 0
IsCheap costs calls b = (depth : ℕ) → most_ticks costs calls depth b ≤ tick_limit

pub record Keeps (costs : Costs) (calls : Name → Name → Callee) (b : Statements) (whole : ℕ → Result ends.End ℕ) (names : List Name) (count : ℕ)
    (s : State) : Type 0 where
  pub kept : (depth : ℕ) → most < depth → rest_of costs calls depth s ≡ whole depth
  pub low : IsCheap costs calls b → (depth : ℕ) → most < depth → s.low + toll costs calls 0 depth s.doings ≤ tick_limit
  pub high : IsCheap costs calls b → (depth : ℕ) → most < depth → s.high + toll costs calls 0 depth s.doings ≤ tick_limit
  pub names-stay : names_under s ≡ names
  pub fewer : length s.script ≤ count

-- a stack has as many frames as it has
backs-few : (ds : List Doing) → backs ds ≤ length ds
backs-few [] = omega arith
backs-few (Rest block ∷ ds) = let e = backs-few ds in omega (arith, e)
backs-few (Arms branches ∷ ds) = let e = backs-few ds in omega (arith, e)
backs-few (Turned name at last body ∷ ds) = let e = backs-few ds in omega (arith, e)
backs-few (Returned o actuals vars ∷ ds) = let e = backs-few ds in omega (arith, e)

module _ (costs : Costs) (calls : Name → Name → Callee) (b : Statements) (whole : ℕ → Result ends.End ℕ) (names : List Name) (count : ℕ) where
  abbrev Keeping : State → Type 0
  Keeping = Keeps costs calls b whole names count

  pub few : (s : State) → Keeping s → IsCheap costs calls b → HasFew s
  few s k cheap =
      let l = k.low cheap deepest deep-enough in let h = k.high cheap deepest deep-enough in (omega (arith, l), omega (arith, h))

  within : (s : State) (depth : ℕ) → length s.doings ≤ most → most < depth → backs s.doings < depth
  within s depth some big = let e = backs-few s.doings in omega (arith, e, some, big)

  -- a step that was made
  pub on-keeps : (d : Doing) (s t : State) → length s.doings ≤ most → Keeping (to_do d s) → step costs calls d s ≡ Ok t → Keeping t
  on-keeps d s t some k e = record {
    kept = λ depth big.
        ap (rest_after costs calls depth) (sym e) ∙ step-keeps costs calls depth d s (within s depth some big) ∙ k.kept depth big;
    low = λ cheap depth big.
        let p : Pays costs calls 0 depth _ s.low s.high t
        = subst (PaysStep costs calls 0 depth (toll costs calls 0 depth (d ∷ s.doings)) s.low s.high) e
        (step-pays costs calls 0 depth d s (within s depth some big)) in
        let was = k.low cheap depth big in let paid = p.low-paid in let now = p.low in omega (arith, was, paid, now);
    high = λ cheap depth big.
        let p : Pays costs calls 0 depth _ s.low s.high t
        = subst (PaysStep costs calls 0 depth (toll costs calls 0 depth (d ∷ s.doings)) s.low s.high) e
        (step-pays costs calls 0 depth d s (within s depth some big)) in
        let was = k.high cheap depth big in let paid = p.high-paid in let now = p.high in omega (arith, was, paid, now);
    names-stay = subst (NamesStay (names_under (to_do d s))) e (step-names costs calls d s) ∙ k.names-stay;
    fewer = let l : length t.script ≤ length s.script = subst (Leaves (length s.script)) e (step-leaves costs calls d s) in
        let was = k.fewer in omega (arith, l, was);
  }

  -- one that was not
  pub off-keeps : (d : Doing) (s : State) (left : ℕ) → length s.doings ≤ most → Keeping (to_do d s) → step costs calls d s ≡ Err left
      → (depth : ℕ) → most < depth → whole depth ≡ Err left
  off-keeps d s left some k e depth big =
      sym (k.kept depth big) ∙ sym (step-keeps costs calls depth d s (within s depth some big)) ∙ ap (rest_after costs calls depth) e

  pub off-fewer : (d : Doing) (s : State) (left : ℕ) → Keeping (to_do d s) → step costs calls d s ≡ Err left → left ≤ count
  off-fewer d s left k e =
      let l : left ≤ length s.script = subst (Leaves (length s.script)) e (step-leaves costs calls d s) in let was = k.fewer in omega (arith, l, was)

  -- a step brings the end nearer
  pub nearer : (d : Doing) (s t : State) → length s.doings ≤ most → step costs calls d s ≡ Ok t
      → toll costs calls 1 deepest t.doings < toll costs calls 1 deepest (d ∷ s.doings)
  nearer d s t some e =
      let p : Pays costs calls 1 deepest _ s.low s.high t
      = subst (PaysStep costs calls 1 deepest (toll costs calls 1 deepest (d ∷ s.doings)) s.low s.high) e
      (step-pays costs calls 1 deepest d s (within s deepest some deep-enough)) in
      let paid = p.low-paid in omega (arith, paid)

-- the beginning
pub begins-kept : (costs : Costs) (calls : Name → Name → Callee) (b : Statements) (vars : Variables) (script : List Action)
    → Keeps costs calls b (λ depth. comes_to (whole_at (walk_at costs calls depth b vars) script)) (names_of vars) (length script)
    (record { doings = Rest b ∷ []; leaving = false; vars = vars; low = 0; high = 0; script = script })
begins-kept costs calls b vars script = record {
  kept = λ depth big. begins-left costs calls depth b vars script;
  low = λ cheap depth big. let e = first-toll costs calls depth b in let f = cheap depth in omega (arith, e, f);
  high = λ cheap depth big. let e = first-toll costs calls depth b in let f = cheap depth in omega (arith, e, f);
  names-stay = refl;
  fewer = omega arith;
}

-- the innermost frame
pub doings-snoc : (fs : List Frame) (f : Frame) → doings_of (fs ++ f ∷ []) ≡ doing_of f ∷ doings_of fs
doings-snoc fs f = fold-append with_frame [] fs (f ∷ [])

fold-length : (fs : List Frame) (ds : List Doing) → length (fold with_frame ds fs) ≡ length fs + length ds
fold-length [] ds = let e : length ds ≡ 0 + length ds = omega arith in e
fold-length (f ∷ fs) ds = let e = fold-length fs (doing_of f ∷ ds) in omega (arith, e)

pub doings-length : (fs : List Frame) → length (doings_of fs) ≡ length fs
doings-length fs = let e = fold-length fs [] in omega (arith, e)
