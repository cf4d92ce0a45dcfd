-- What the answer of following a block says of the run that a script shows.
use Rattle.std.proofs.Common.{◌≡◌, ℕ, ◌≤◌, Bool, true, false, List, [], ◌∷◌, length, Option, Some, None, Result, Ok, Err, refl, sym, ap, subst, ◌∙◌, arith}
use Rattle.std.specs.Prelude.{if◌then◌else◌}
use Rattle.std.proofs.lemmas.Bool.{eq-eqb, ne_eqb}
use Rattle.grammar.specs.Reading.{Halt, left_of, whole_at}
use Rattle.seq_tree.specs.Names.{Name}
use Rattle.seq_tree.specs.Runs.{Action, Path, Callee}
use Rattle.seq_tree.specs.Statements.{Statements}
use Rattle.seq_tree.specs.Variables.{Variables}
use Rattle.guarantee.specs.Software.{Software, leads_to}
use Rattle.law_walks.specs.Fit.{MayRun}
use Rattle.law_walks.specs.Walks.{walk_at}
use Rattle.trace_tree.specs.declared.event.Event as machine
use Rattle.seq_eval.specs.Following.{Answers}
use Rattle.seq_eval.specs.Scripts.{is_over, stopped_at}
use Rattle.seq_eval.specs.declared.action.Followed.{Followed}
use Rattle.seq_eval.specs.declared.action.Followed.TheVariants.{Done, Short, Off}
use Rattle.law_traces.specs.Checks.{run_by, begins_by, run_along, begins_along}
use Rattle.law_traces.specs.Entries.{Shown}
use Rattle.trace_scripts.specs.Scripts.{actions_at, shown_of}
use Rattle.trace_scripts.specs.Scenes.{IsWalk, calls_of, program_in, software_of}
use Rattle.trace_scripts.specs.declared.scripts.Script.{Script}
use Rattle.trace_scripts.specs.declared.walks.Scene.{Scene}
use Rattle.trace_scripts.specs.declared.walks.Walked.{Walked}
use Rattle.trace_scripts.specs.declared.walks.Walked.TheVariants.{Ran, Begun, Astray}

-- the answer of following, as that of the walk
abbrev pub walked_by : Followed → Walked
walked_by (Done low high) = Ran low high
walked_by Short = Begun
walked_by (Off k) = Astray

pub answered : (r : Result Path Halt) (count : ℕ) (before after : Variables) (f : Followed) → Answers r count before f after
    → IsWalk (run_by r) (begins_by r) (walked_by f) after
answered (Ok p) count before after (Done low high) h = (refl, h.0, h.1, h.2)
answered (Ok p) count before after Short h = absurd h
answered (Ok p) count before after (Off k) h = absurd h
answered (Err halt) count before after (Done low high) h = absurd h
answered (Err halt) count before after Short h = eq-eqb (left_of halt) 0 h.0
answered (Err halt) count before after (Off k) h = ne_eqb (left_of halt) 0 (λ e. let g : 1 ≤ left_of halt = h.1 in omega (arith, g, e))

-- the actions that are left where following stopped
pub stopped-over : (count : ℕ) (rest : List Action) (b : Bool) → b ≡ is_over rest → b ≡ true → walked_by (stopped_at count (length rest)) ≡ Begun
stopped-over count [] b is over = refl
stopped-over count (a ∷ rest) b is over = absurd (cc)

pub stopped-off : (count : ℕ) (rest : List Action) (b : Bool) → b ≡ is_over rest → b ≡ false → walked_by (stopped_at count (length rest)) ≡ Astray
stopped-off count [] b is off = absurd (cc)
stopped-off count (a ∷ rest) b is off = refl

module _ (s : Scene) (es : List machine.Event) (block : Statements) (before after : Variables) (script : Script) (us : List Action) (f : Followed)
    (answer : Walked) (shows : script.shows ≡ true) (calls : calls_of s ≡ leads_to (software_of s))
    (same : us ≡ actions_at (program_in s) es script.lines.items) (is : walked_by f ≡ answer)
    (says : (depth : ℕ) → MayRun (calls_of s) depth block
    → Answers (whole_at (walk_at (program_in s).costs (calls_of s) depth block before) us) (length us) before f after)
  where
    pub told : (depth : ℕ) → MayRun (leads_to (software_of s)) depth block
        → IsWalk (run_along (software_of s) depth block before (shown_of (program_in s) es script))
        (begins_along (software_of s) depth block before (shown_of (program_in s) es script)) answer after
    told depth may =
        let w : Software = software_of s in
        let lines : List ℕ = script.lines.items in
        let W : (Name → Name → Callee) → List Action → Result Path Halt = λ c xs. whole_at (walk_at w.costs c depth block before) xs in
        let A : Answers (W (calls_of s) us) (length us) before f after = says depth (subst (λ c. MayRun c depth block) (sym calls) may) in
        let P : Result Path Halt → Walked → Type 0 = λ r x. IsWalk (run_by r) (begins_by r) x after in
        let one : P (W (calls_of s) us) answer =
        subst (P (W (calls_of s) us)) is (answered (W (calls_of s) us) (length us) before after f A) in
        let two : P (W (leads_to w) (actions_at (program_in s) es lines)) answer =
        subst (λ xs. P (W (leads_to w) xs) answer) same (subst (λ c. P (W c us) answer) calls one) in
        let Q : Bool → Type 0 = λ b. IsWalk
        (run_along w depth block before (if b then (let o : Shown = Some (actions_at (program_in s) es lines) in o) else None))
        (begins_along w depth block before (if b then (let o : Shown = Some (actions_at (program_in s) es lines) in o) else None)) answer after in
        subst Q (sym shows) two
