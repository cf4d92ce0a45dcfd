-- The loop over what is to do: the innermost frame, a step, and the end.
use Rattle.std.proofs.Common.{◌≡◌, ℕ, ◌+◌, ◌≤◌, ◌<◌, Bool, true, false, List, [], ◌∷◌, ◌++◌, length, map, take, set, get_or, Result, Err, refl}
use Rattle.std.proofs.Common.{sym, ap, ◌∙◌}
use Rattle.std.proofs.Common.{arith, subst}
use Rattle.std.specs.Prelude.{Vec}
use Rattle.std.specs.declared.alloc.Global.{Global}
use Rattle.std.proofs.Math.Seq.{map-set_same}
use Rattle.std.proofs.lemmas.Bool.{false≢true}
use Rattle.std.proofs.lemmas.List.{map-append, take_more, take_more_set}
use Rattle.grammar.specs.Reading.{whole_at}
use Rattle.seq_tree.specs.Names.{Name}
use Rattle.seq_tree.specs.Statements.{Statements, End}
use Rattle.seq_tree.specs.Trees.{block_of, statement_of, statements_of}
use Rattle.seq_tree.specs.Variables.{Variables}
use Rattle.seq_tree.specs.Runs.{Action, Callee}
use Rattle.seq_tree.specs.declared.tree.Block.{Block}
use Rattle.seq_tree.specs.declared.tree.Costs.{Costs}
use Rattle.seq_tree.proofs.Shared.TreeForms.{block-tree}
use Rattle.law_walks.specs.Walks.{walk_at}
use Rattle.seq_eval.specs.Ends.{IsEnd, comes_to, names_of}
use Rattle.seq_eval.specs.Ends as ends
use Rattle.seq_eval.specs.Scripts.{is_over}
use Rattle.seq_eval.specs.States.{doing_of, doings_of}
use Rattle.seq_eval.specs.Stepping.{Rest, HasFew, State, to_do, moved, step}
use Rattle.seq_eval.specs.declared.along.Ended.TheVariants.{Done, Stopped}
use Rattle.seq_eval.specs.declared.walk.Frame.{Frame}
use Rattle.seq_eval.proofs.Keeping.{IsCheap, Keeps, begins-kept, deepest, doings-length, doings-snoc, few, most, nearer, off-fewer, off-keeps}
use Rattle.seq_eval.proofs.Keeping.{on-keeps}
use Rattle.seq_eval.proofs.Meaning.{rest_of}
use Rattle.seq_eval.proofs.Tolls.{toll}

-- one more variable of a list has its value
pub one-set-names : (slots : List (Name × ℕ)) (at v : ℕ) (was : Name × ℕ) → was ≡ get_or slots at was
    → names_of (set slots at (was.0, v)) ≡ names_of slots
one-set-names slots at v was is = map-set_same (λ x. x.0) slots at (was.0, v) was (ap (λ x. x.0) is)

pub one-set-value : (slots : List (Name × ℕ)) (values : List ℕ) (at : ℕ) (n : Name) → length slots ≡ length values → at < length values
    → map (λ x. x.1) (take at slots) ≡ take at values
    → map (λ x. x.1) (take (at + 1) (set slots at (n, get_or values at 0))) ≡ take (at + 1) values
one-set-value slots values at n even within was =
    let v : ℕ = get_or values at 0 in
    ap (map (λ x. x.1)) (take_more_set slots at (n, v) (omega (arith, even, within)))
    ∙ map-append (λ x. x.1) (take at slots) ((n, v) ∷ []) ∙ ap (λ xs. xs ++ v ∷ []) was ∙ sym (take_more values at 0 within)

module _ {S : Type 0} (meaning : S → List Action) (costs : Costs) (calls : Name → Name → Callee) (b : Statements)
    (whole : ℕ → Result ends.End ℕ) (names : List Name) (count : ℕ)
  where
    abbrev Keeping : State → Type 0
    Keeping = Keeps costs calls b whole names count

    -- the innermost frame is taken off
    pub popped : (fs rest : List Frame) (f : Frame) (leaving : Bool) (vars : Variables) (low high : ℕ) (script : List Action)
        → fs ≡ rest ++ f ∷ []
        → Keeping (record { doings = doings_of fs; leaving = leaving; vars = vars; low = low; high = high; script = script })
        → Keeping (to_do (doing_of f) (record { doings = doings_of rest; leaving = leaving; vars = vars; low = low; high = high; script = script }))
    popped fs rest f leaving vars low high script e =
        subst (λ ds. Keeping (record { doings = ds; leaving = leaving; vars = vars; low = low; high = high; script = script }))
        (ap doings_of e ∙ doings-snoc rest f)

    rest-few : (rest : List Frame) → length rest ≤ most → length (doings_of rest) ≤ most
    rest-few rest some = let e = doings-length rest in omega (arith, e, some)

    -- it is done
    pub stepped : (rest : List Frame) (f : Frame) (leaving : Bool) (vars : Variables) (low high : ℕ) (script : List Action) (on : Bool) (t : State)
        → length rest ≤ most
        → Keeping (to_do (doing_of f) (record { doings = doings_of rest; leaving = leaving; vars = vars; low = low; high = high; script = script }))
        → moved on t ≡ step costs calls (doing_of f) (record {
          doings = doings_of rest;
          leaving = leaving;
          vars = vars;
          low = low;
          high
              = high;
          script = script;
        })
        → on ≡ true → Keeping t
    stepped rest f leaving vars low high script on t some k e made =
        on-keeps costs calls b whole names count (doing_of f) _ t (rest-few rest some) k (sym e ∙ ap (λ x. moved x t) made)

    -- or the following stops
    ended-at : (n : ℕ) (rest : S) (r : Result ends.End ℕ) → r ≡ Err n → length (meaning rest) ≡ n → n ≤ count
        → IsEnd meaning names count (Stopped rest) r
    ended-at n rest r e same le = subst (IsEnd meaning names count (Stopped rest)) (sym e) (same, omega (arith, same, le))

    pub stopped : (rest : List Frame) (f : Frame) (leaving : Bool) (vars : Variables) (low high : ℕ) (script : List Action) (on : Bool) (t : State)
        (over : S) → length rest ≤ most
        → Keeping (to_do (doing_of f) (record { doings = doings_of rest; leaving = leaving; vars = vars; low = low; high = high; script = script }))
        → moved on t ≡ step costs calls (doing_of f) (record {
          doings = doings_of rest;
          leaving = leaving;
          vars = vars;
          low = low;
          high
              = high;
          script = script;
        })
        → on ≡ false → meaning over ≡ t.script → (depth : ℕ) → most < depth → IsEnd meaning names count (Stopped over) (whole depth)
    stopped rest f leaving vars low high script on t over some k e made same depth big =
        let stops = sym e ∙ ap (λ x. moved x t) made in
        ended-at (length t.script) over (whole depth)
        (off-keeps costs calls b whole names count (doing_of f) _ (length t.script) (rest-few rest some) k stops depth big) (ap length same)
        (off-fewer costs calls b whole names count (doing_of f) _ (length t.script) k stops)

    -- ticks that are too many are none of a block whose walks take few
    pub too-many : (s : State) (rest : S) → Keeping s → (HasFew s → ⊥) → IsCheap costs calls b → (depth : ℕ) → most < depth
        → IsEnd meaning names count (Stopped rest) (whole depth)
    too-many s rest k many cheap depth big = absurd (many (few costs calls b whole names count s k cheap))

    -- nothing is left to do
    none-left : (vars : Variables) (low high : ℕ) (leaving : Bool) (script : List Action) (a : Action) (us : List Action) → script ≡ a ∷ us
        → Keeping (record { doings = []; leaving = leaving; vars = vars; low = low; high = high; script = script })
        → (depth : ℕ) → most < depth → whole depth ≡ Err (length script)
    none-left vars low high leaving script a us e k depth big =
        sym (k.kept depth big) ∙ ap (λ xs. rest_of costs calls depth (record {
          doings = [];
          leaving = leaving;
          vars = vars;
          low = low;
          high
              = high;
          script = xs;
        })) e
        ∙ ap (λ xs. Err (length xs)) (sym e)

    pub left-over : (fs : List Frame) (vars : Variables) (low high : ℕ) (leaving : Bool) (rest : S) (script : List Action) → meaning rest ≡ script
        → fs ≡ [] → is_over script ≡ false
        → Keeping (record { doings = doings_of fs; leaving = leaving; vars = vars; low = low; high = high; script = script })
        → (depth : ℕ) → most < depth → IsEnd meaning names count (Stopped rest) (whole depth)
    left-over fs vars low high leaving rest [] same none some k depth big = absurd (false≢true (sym some))
    left-over fs vars low high leaving rest (a ∷ us) same none some k depth big =
        let k' = subst (λ xs. Keeping (record {
          doings = doings_of xs;
          leaving = leaving;
          vars = vars;
          low = low;
          high = high;
          script
              = a ∷ us;
        })) none k in
        ended-at (length (a ∷ us)) rest (whole depth) (none-left vars low high leaving (a ∷ us) a us refl k' depth big) (ap length same) k.fewer

    pub all-done : (fs : List Frame) (vars : Variables) (low high : ℕ) (leaving : Bool) (script : List Action) (values : Vec ℕ Global) → fs ≡ []
        → is_over script ≡ true
        → values.items ≡ map (λ v. v.1) vars
        → Keeping (record { doings = doings_of fs; leaving = leaving; vars = vars; low = low; high = high; script = script })
        → (depth : ℕ) → most < depth → IsEnd meaning names count (Done low high values) (whole depth)
    all-done fs vars low high leaving (a ∷ us) values none some same k depth big = absurd (false≢true some)
    all-done fs vars low high leaving [] values none some same k depth big =
        let k' = subst (λ xs. Keeping (record { doings = doings_of xs; leaving = leaving; vars = vars; low = low; high = high; script = [] })) none k in
        subst (IsEnd meaning names count (Done low high values)) (k'.kept depth big) (refl, refl, same, k'.names-stay)

-- the beginning
pub begun : (costs : Costs) (calls : Name → Name → Callee) (b : Block) (fs : List Frame) (vars env : Variables) (script : List Action)
    → doings_of fs ≡ Rest (statements_of (map statement_of b.stmts.items)) ∷ [] → vars ≡ env
    → Keeps costs calls (block_of b) (λ depth. comes_to (whole_at (walk_at costs calls depth (block_of b) env) script))
    (names_of env) (length script) (record { doings = doings_of fs; leaving = false; vars = vars; low = 0; high = 0; script = script })
begun costs calls b fs vars env script made same =
    let all = begins-kept costs calls (block_of b) env script in
    let named = subst (λ vs. Keeps costs calls (block_of b) (λ depth. comes_to (whole_at (walk_at costs calls depth (block_of b) env) script))
    (names_of env) (length script)
    (record { doings = Rest (block_of b) ∷ []; leaving = false; vars = vs; low = 0; high = 0; script = script })) (sym same) all in
    subst (λ ds. Keeps costs calls (block_of b) (λ depth. comes_to (whole_at (walk_at costs calls depth (block_of b) env) script))
    (names_of env) (length script) (record { doings = ds; leaving = false; vars = vars; low = 0; high = 0; script = script }))
    (ap (λ t. Rest t ∷ []) (block-tree b) ∙ sym made) named

-- a step brings the end nearer
pub nearer-by : (costs : Costs) (calls : Name → Name → Callee) (fs rest : List Frame) (f : Frame) (leaving : Bool) (vars : Variables) (low high : ℕ)
    (script : List Action) (on : Bool) (t : State) → length rest ≤ most → fs ≡ rest ++ f ∷ []
    → moved on t ≡ step costs calls (doing_of f) (record {
      doings = doings_of rest;
      leaving = leaving;
      vars = vars;
      low = low;
      high
          = high;
      script = script;
    })
    → on ≡ true → toll costs calls 1 deepest t.doings < toll costs calls 1 deepest (doings_of fs)
nearer-by costs calls fs rest f leaving vars low high script on t some cut e made =
    let n = doings-length rest in
    let less : toll costs calls 1 deepest t.doings < toll costs calls 1 deepest (doing_of f ∷ doings_of rest)
    = nearer costs calls End (λ depth. Err 0) [] 0 (doing_of f)
    (record { doings = doings_of rest; leaving = leaving; vars = vars; low = low; high = high; script = script }) t (omega (arith, n, some))
    (sym e ∙ ap (λ x. moved x t) made) in
    subst (λ ds. toll costs calls 1 deepest t.doings < toll costs calls 1 deepest ds) (sym (ap doings_of cut ∙ doings-snoc rest f)) less

-- a stack from which no frame could be taken has none
pub no-frames : (fs : List Frame) → (0 < length fs → ⊥) → fs ≡ []
no-frames [] none = refl
no-frames (f ∷ fs) none = absurd (none (omega arith))
