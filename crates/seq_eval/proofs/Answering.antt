-- What the end of the following of a block means for the answer, at any depth at which the block may be walked.
use Rattle.std.proofs.Common.{◌≡◌, ◌++◌, take, append-nil, append_assoc, length-append, ℕ, zero, suc, ◌+◌, ◌-◌, ◌≤◌, ◌<◌, List, [], ◌∷◌, length}
use Rattle.std.proofs.Common.{map, Result, Ok, Err, refl, sym, ap, ◌∙◌, arith, subst}
use Rattle.std.specs.Prelude.{IsErr, Vec}
use Rattle.std.specs.declared.alloc.Global.{Global}
use Rattle.std.proofs.lemmas.Bool.{false≢true}
use Rattle.std.proofs.lemmas.List.{length-map}
use Rattle.std.proofs.Math.Seq.{take-append_seam}
use Rattle.grammar.specs.Reading.{Halt, IsFirstFault, left_of, whole_at}
use Rattle.seq_tree.specs.Names.{Name}
use Rattle.seq_tree.specs.Statements.{Statements}
use Rattle.seq_tree.specs.Variables.{Variables}
use Rattle.seq_tree.specs.Runs.{Action, Callee, Path}
use Rattle.seq_tree.specs.declared.memory.NoMemory.{NoMemory}
use Rattle.seq_tree.specs.declared.tree.Costs.{Costs}
use Rattle.law_walks.specs.Fit.{MayRun}
use Rattle.law_walks.specs.Laws.{RunOf}
use Rattle.law_walks.specs.Walks.{walk_at}
use Rattle.law_walks.proofs.Shared.Exact.{tells}
use Rattle.seq_eval.specs.Ends.{IsEnd, comes_to, names_of}
use Rattle.seq_eval.specs.Ends as ends
use Rattle.seq_eval.specs.Following.{Answers, Means}
use Rattle.seq_eval.specs.Scripts.{stopped_at}
use Rattle.seq_eval.specs.declared.action.Followed.{Followed}
use Rattle.seq_eval.specs.declared.action.Followed.TheVariants as followed
use Rattle.seq_eval.specs.declared.along.Ended.{Ended}
use Rattle.seq_eval.specs.declared.along.Ended.TheVariants.{Done, Stopped}
use Rattle.seq_eval.proofs.Depths.{same-depths}
use Rattle.seq_eval.proofs.Keeping.{deepest, deep-enough, most}

-- variables with the same names and values are the same
heads : {A : Type 0} {x y : A} {xs ys : List A} → x ∷ xs ≡ y ∷ ys → x ≡ y
heads e = cc

tails : {A : Type 0} {x y : A} {xs ys : List A} → x ∷ xs ≡ y ∷ ys → xs ≡ ys
tails e = cc

same-vars : (xs ys : Variables) → names_of xs ≡ names_of ys → map (λ v. v.1) xs ≡ map (λ v. v.1) ys → xs ≡ ys
same-vars [] [] e f = refl
same-vars [] (y ∷ ys) e f = let n = ap length e in absurd (omega (arith, n))
same-vars (x ∷ xs) [] e f = let n = ap length e in absurd (omega (arith, n))
same-vars (x ∷ xs) (y ∷ ys) e f =
    let one : x ≡ y = ap (λ n. (n, x.1)) (heads e) ∙ ap (λ v. (y.0, v)) (heads f) in
    ap (λ z. z ∷ xs) one ∙ ap (λ zs. y ∷ zs) (same-vars xs ys (tails e) (tails f))

module _ {S : Type 0} (meaning : S → List Action) where
  -- there are as many values as names
  pub done-length : (names : List Name) (count low high : ℕ) (values : Vec ℕ Global) (r : Result ends.End ℕ)
      → IsEnd meaning names count (Done low high values) r
      → length values.items ≡ length names
  done-length names count low high values (Ok e) h =
      ap length h.2 ∙ length-map e.vars (λ v. v.1) ∙ sym (length-map e.vars (λ v. v.0)) ∙ ap length h.3
  done-length names count low high values (Err n) h = absurd h

  pub stopped-within : (names : List Name) (count : ℕ) (rest : S) (r : Result ends.End ℕ) → IsEnd meaning names count (Stopped rest) r
      → length (meaning rest) ≤ count
  stopped-within names count rest (Ok e) h = absurd h
  stopped-within names count rest (Err n) h = h.1

  pub answer-done : (r : Result Path Halt) (names : List Name) (n low high : ℕ) (values : Vec ℕ Global) (before after : Variables)
      → IsEnd meaning names n (Done low high values) (comes_to r) → names_of after ≡ names → map (λ v. v.1) after ≡ values.items
      → Answers r n before (followed.Done low high) after
  answer-done (Ok p) names n low high values before after h named valued =
      (same-vars after p.vars (named ∙ sym h.3) (valued ∙ h.2), h.0, h.1)
  answer-done (Err halt) names n low high values before after h named valued = absurd h

  left-over : (k left n : ℕ) → left ≡ k → left ≤ n → (halt : Halt) → left_of halt ≡ k → (vars : Variables)
      → Answers (Err halt) n vars (stopped_at n left) vars
  left-over k zero n same within halt e vars = (omega (arith, e, same), refl)
  left-over k (suc left) n same within halt e vars = (omega (arith, e, same, within), omega (arith, e, same), refl)

  pub answer-stopped : (r : Result Path Halt) (names : List Name) (n : ℕ) (rest : S) (vars : Variables)
      → IsEnd meaning names n (Stopped rest) (comes_to r) → Answers r n vars (stopped_at n (length (meaning rest))) vars
  answer-stopped (Ok p) names n rest vars h = absurd h
  answer-stopped (Err halt) names n rest vars h = left-over (left_of halt) (length (meaning rest)) n h.0 h.1 halt refl vars

  -- the end is that of the walk at any depth at which the block may be walked
  pub at-depth : (costs : Costs) (calls : Name → Name → Callee) (b : Statements) (vars : Variables) (script : List Action) (names : List Name)
      (n : ℕ) (e : Ended S) (depth : ℕ)
      → ((d : ℕ) → most < d → IsEnd meaning names n e (comes_to (whole_at (walk_at costs calls d b vars) script))) → MayRun calls depth b
      → IsEnd meaning names n e (comes_to (whole_at (walk_at costs calls depth b vars) script))
  at-depth costs calls b vars script names n e depth h may =
      let big = deep-enough in
      subst (IsEnd meaning names n e) (sym (same-depths costs calls b vars script depth (depth + deepest) (omega arith) may))
      (h (depth + deepest) (omega (arith, big)))

  -- the end that is known
  pub known : (names : List Name) (n : ℕ) (W : ℕ → Result ends.End ℕ) (e f : Ended S) → e ≡ f
      → ((d : ℕ) → most < d → IsEnd meaning names n e (W d)) → (d : ℕ) → most < d → IsEnd meaning names n f (W d)
  known names n W e f same h d big = subst (λ x. IsEnd meaning names n x (W d)) same (h d big)

-- the answer that tells a place
pub as-short : (n left : ℕ) → left ≡ 0 → stopped_at n left ≡ followed.Short
as-short n zero none = refl
as-short n (suc left) none = absurd (omega (arith, none))

pub as-off : (n left count some : ℕ) → n ≡ count → left ≡ some → (some ≡ 0 → ⊥) → stopped_at n left ≡ followed.Off (count - some)
as-off n zero count some e same is-some = absurd (is-some (sym same))
as-off n (suc left) count some e same is-some = ap (λ k. followed.Off (k - suc left)) e ∙ ap (λ k. followed.Off (count - k)) same

-- the answer in words of runs
take-one : (xs : List Action) (t : Action) (more : List Action) → take (suc (length xs)) (xs ++ t ∷ more) ≡ xs ++ t ∷ []
take-one [] t more = refl
take-one (x ∷ xs) t more = ap (λ ys. x ∷ ys) (take-one xs t more)

some-first : (xs : List Action) → 1 ≤ length xs → (t : Action) × (more : List Action) × (xs ≡ t ∷ more)
some-first [] le = absurd (omega (arith, le))
some-first (x ∷ xs) le = (x, xs, refl)

no-items : (xs : List Action) → length xs ≡ 0 → xs ≡ []
no-items [] e = refl
no-items (x ∷ xs) e = absurd (omega (arith, e))

module _ (costs : Costs) (calls : Name → Name → Callee) (b : Statements) (before : Variables) (script : List Action) where
  abbrev Runs : Path → List Action → Type 0
  Runs = RunOf costs calls b before

  one-path : (p q : Path) (r : Result Path Halt) → r ≡ Ok p → r ≡ Ok q → q ≡ p
  one-path p q r e f = cc

  means-short : (left : ℕ) (after : Variables) → IsFirstFault Runs script left → left ≡ 0 → after ≡ before
      → Means costs calls b before script (Ok followed.Short) after
  means-short left after f none kept =
      let front : script ≡ f.front = f.split ∙ ap (λ ys. f.front ++ ys) (no-items f.back (f.place ∙ none)) ∙ append-nil f.front in
      ((f.tail, (f.last, f.begins.0, sym f.begins.1 ∙ ap (λ xs. xs ++ f.tail) (sym front))), λ h. f.no_text h.0 (h.1, sym h.2), kept)

  means-off : (k left : ℕ) (after : Variables) → IsFirstFault Runs script left → k + left ≡ length script → 1 ≤ left → after ≡ before
      → Means costs calls b before script (Ok (followed.Off k)) after
  means-off k left after f sum some kept =
      let place = f.place in
      let cut : (t : Action) × (more : List Action) × (f.back ≡ t ∷ more) = some-first f.back (omega (arith, place, some)) in
      let total = ap length f.split ∙ length-append f.front f.back in
      let count : k ≡ length f.front = omega (arith, sum, place, total) in
      let first : take k script ≡ f.front
      = ap (λ n. take n script) count ∙ ap (take (length f.front)) f.split ∙ take-append_seam f.front f.back in
      let next : take (suc k) script ≡ f.front ++ cut.0 ∷ []
      = ap (λ n. take (suc n) script) count ∙ ap (take (suc (length f.front))) (f.split ∙ ap (λ ys. f.front ++ ys) cut.2)
      ∙ take-one f.front cut.0 cut.1 in (
        omega (arith, sum, some),
        (f.tail, (f.last, f.begins.0, sym f.begins.1 ∙ ap (λ xs. xs ++ f.tail) (sym first))),
        λ h. f.ends cut.0 cut.1 h.0 h.1.0 cut.2
            (h.1.1, sym (append_assoc f.front (cut.0 ∷ []) h.0) ∙ ap (λ xs. xs ++ h.0) (sym next) ∙ sym h.1.2),
        kept,
      )

  means-by : (r : Result Path Halt) (count : ℕ) (answer : Followed) (after : Variables) → count ≡ length script
      → ((p : Path) → r ≡ Ok p → Runs p script) → ((p : Path) → Runs p script → r ≡ Ok p)
      → ((halt : Halt) → r ≡ Err halt → IsFirstFault Runs script (left_of halt))
      → Answers r count before answer after → Means costs calls b before script (Ok answer) after
  means-by (Ok p) count (followed.Done low high) after n found only fault h =
      let one = found p refl in
      (p, one.0, sym one.1, sym h.0, sym h.1, sym h.2, λ q run same. one-path p q (Ok p) refl (only q (run, sym same)))
  means-by (Ok p) count followed.Short after n found only fault h = absurd h
  means-by (Ok p) count (followed.Off k) after n found only fault h = absurd h
  means-by (Err halt) count (followed.Done low high) after n found only fault h = absurd h
  means-by (Err halt) count followed.Short after n found only fault h = means-short (left_of halt) after (fault halt refl) h.0 h.1
  means-by (Err halt) count (followed.Off k) after n found only fault h =
      means-off k (left_of halt) after (fault halt refl) (h.0 ∙ n) h.1 h.2

  pub means : (depth : ℕ) (answer : Followed) (after : Variables) → MayRun calls depth b
      → Answers (whole_at (walk_at costs calls depth b before) script) (length script) before answer after
      → Means costs calls b before script (Ok answer) after
  means depth answer after may h =
      let t = tells costs calls depth b before script may in
      means-by (whole_at (walk_at costs calls depth b before) script) (length script) answer after refl t.found t.only t.fault h

  -- after want of memory the variables are as before
  pub means-failed : (answer : Result Followed NoMemory) (after : Variables) → IsErr answer → after ≡ before
      → Means costs calls b before script answer after
  means-failed (Ok found) after failed kept = absurd (false≢true failed)
  means-failed (Err e) after failed kept = kept
