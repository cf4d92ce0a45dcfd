-- What a step does that takes an action, by what comes next in the script.
use Rattle.std.proofs.Common.{◌≡◌, ℕ, suc, Bool, true, false, ◌&&◌, ◌==◌, List, [], ◌∷◌, length, drop, Option, Some, None, Ok, Err, cond}
use Rattle.std.proofs.Common.{refl, sym, ap, ◌∙◌}
use Rattle.std.proofs.lemmas.Bool.{false≢true}
use Rattle.std.specs.Prelude.{bytes_eq, is_some, unwrap_or}
use Rattle.seq_tree.specs.Calls.{same_op}
use Rattle.seq_tree.specs.Names.{Name}
use Rattle.seq_tree.specs.Runs.{Action}
use Rattle.seq_tree.specs.Runs as runs
use Rattle.seq_tree.specs.Variables.{stored}
use Rattle.seq_tree.specs.declared.tree.Costs.{Costs}
use Rattle.seq_tree.specs.declared.tree.OpName.{OpName}
use Rattle.law_walks.specs.Walks.{sees_entry, sees_request}
use Rattle.seq_eval.specs.Scripts.{next_entry, next_exit, next_requests, of_next}
use Rattle.seq_eval.specs.Stepping.{State, Step, at_script, left_by, spent, stored_by, told_by}

-- an action that has to be next
pub told-not : (sees : Action → Bool) (us : List Action) (s : State) (next : State → Step) → of_next sees false us ≡ false
    → told_by sees us s next ≡ Err (length us)
told-not sees [] s next e = refl
told-not sees (a ∷ us) s next e = ap (λ b. cond b (next (at_script us s)) (Err (suc (length us)))) e

pub told-so : (sees : Action → Bool) (us rest : List Action) (s : State) (next : State → Step) → of_next sees false us ≡ true
    → rest ≡ drop 1 us → told_by sees us s next ≡ next (at_script rest s)
told-so sees [] rest s next e same = absurd (false≢true e)
told-so sees (a ∷ us) rest s next e same =
    ap (λ b. cond b (next (at_script us s)) (Err (suc (length us)))) e ∙ ap (λ xs. next (at_script xs s)) (sym same)

-- a request, whose value is that of an expression
pub asked-next : (name : OpName) (asked value : Option ℕ) (us : List Action) (on wanted : Bool) → asked ≡ value
    → on ≡ next_requests name asked us → on ≡ wanted → of_next (λ a. is_some (sees_request name value a)) false us ≡ wanted
asked-next name asked value us on wanted same seen is = ap (λ v. next_requests name v us) (sym same) ∙ sym seen ∙ is

-- the values of one are those of another
same-values : {vs ws : List ℕ} → Some vs ≡ Some ws → vs ≡ ws
same-values e = ap (λ o. unwrap_or o []) e

some-none : {vs : List ℕ} → Some vs ≡ None → true ≡ false
some-none e = ap is_some e

-- an entry
module _ (name : OpName) (handed : List ℕ) where
  is-entry : (b c : Bool) → is_some (cond (b && c) (Some (runs.Enter name handed)) None) ≡ b && c
  is-entry true true = refl
  is-entry true false = refl
  is-entry false c = refl

  pub entry-none : (us : List Action) → next_entry name us ≡ None → of_next (λ a. is_some (sees_entry name handed a)) false us ≡ false
  entry-none [] e = refl
  entry-none (runs.Enter n vs ∷ us) e = by (same_op name n) e
    where
      by : (b : Bool) → cond b (Some vs) None ≡ None
          → is_some (cond (b && bytes_eq handed vs) (Some (runs.Enter name handed)) None) ≡ false
      by true e = absurd (false≢true (sym (some-none e)))
      by false e = refl
  entry-none (runs.Leave n vs ∷ us) e = refl
  entry-none (runs.Request n v ∷ us) e = refl
  entry-none (runs.Print v ∷ us) e = refl

  pub entry-some : (us : List Action) (values : List ℕ) → next_entry name us ≡ Some values
      → of_next (λ a. is_some (sees_entry name handed a)) false us ≡ bytes_eq handed values
  entry-some [] values e = absurd (false≢true (sym (some-none (sym e))))
  entry-some (runs.Enter n vs ∷ us) values e = by (same_op name n) e
    where
      by : (b : Bool) → cond b (Some vs) None ≡ Some values
          → is_some (cond (b && bytes_eq handed vs) (Some (runs.Enter name handed)) None) ≡ bytes_eq handed values
      by true e = is-entry true (bytes_eq handed vs) ∙ ap (bytes_eq handed) (same-values e)
      by false e = absurd (false≢true (sym (some-none (sym e))))
  entry-some (runs.Leave n vs ∷ us) values e = absurd (false≢true (sym (some-none (sym e))))
  entry-some (runs.Request n v ∷ us) values e = absurd (false≢true (sym (some-none (sym e))))
  entry-some (runs.Print v ∷ us) values e = absurd (false≢true (sym (some-none (sym e))))

-- an exit
module _ (costs : Costs) (name : OpName) (count : ℕ) (names : List Name) (s : State) where
  pub exit-none : (us : List Action) → next_exit name us ≡ None → left_by costs name count names us s ≡ Err (length us)
  exit-none [] e = refl
  exit-none (runs.Enter n vs ∷ us) e = refl
  exit-none (runs.Leave n vs ∷ us) e = by (same_op name n) e
    where
      by : (b : Bool) → cond b (Some vs) None ≡ None
          → stored_by costs names (cond (b && (length vs == count)) (Some vs) None) us s ≡ Err (suc (length us))
      by true e = absurd (false≢true (sym (some-none e)))
      by false e = refl
  exit-none (runs.Request n v ∷ us) e = refl
  exit-none (runs.Print v ∷ us) e = refl

  counted : (vs : List ℕ) (us : List Action) (c : Bool) → c ≡ false
      → stored_by costs names (cond c (Some vs) None) us s ≡ Err (suc (length us))
  counted vs us c e = ap (λ b. stored_by costs names (cond b (Some vs) None) us s) e

  pub exit-other : (us : List Action) (values : List ℕ) → next_exit name us ≡ Some values → (length values == count) ≡ false
      → left_by costs name count names us s ≡ Err (length us)
  exit-other [] values e off = refl
  exit-other (runs.Enter n vs ∷ us) values e off = refl
  exit-other (runs.Leave n vs ∷ us) values e off = by (same_op name n) e
    where
      by : (b : Bool) → cond b (Some vs) None ≡ Some values
          → stored_by costs names (cond (b && (length vs == count)) (Some vs) None) us s ≡ Err (suc (length us))
      by true e = counted vs us (length vs == count) (ap (λ xs. length xs == count) (same-values e) ∙ off)
      by false e = refl
  exit-other (runs.Request n v ∷ us) values e off = refl
  exit-other (runs.Print v ∷ us) values e off = refl

  pub exit-so : (us rest : List Action) (values : List ℕ) → next_exit name us ≡ Some values → (length values == count) ≡ true → rest ≡ drop 1 us
      → left_by costs name count names us s
      ≡ Ok (spent costs.call costs.call (at_script rest (record s { vars = stored names values s.vars })))
  exit-so [] rest values e on same = absurd (false≢true (sym (some-none (sym e))))
  exit-so (runs.Enter n vs ∷ us) rest values e on same = absurd (false≢true (sym (some-none (sym e))))
  exit-so (runs.Leave n vs ∷ us) rest values e on same = by (same_op name n) e
    where
      by : (b : Bool) → cond b (Some vs) None ≡ Some values
          → stored_by costs names (cond (b && (length vs == count)) (Some vs) None) us s
          ≡ Ok (spent costs.call costs.call (at_script rest (record s { vars = stored names values s.vars })))
      by true e =
          ap (λ c. stored_by costs names (cond c (Some vs) None) us s) (ap (λ xs. length xs == count) (same-values e) ∙ on)
          ∙ ap (λ xs. Ok (spent costs.call costs.call (at_script us (record s { vars = stored names xs s.vars })))) (same-values e)
          ∙ ap (λ xs. Ok (spent costs.call costs.call (at_script xs (record s { vars = stored names values s.vars })))) (sym same)
      by false e = absurd (false≢true (sym (some-none (sym e))))
  exit-so (runs.Request n v ∷ us) rest values e on same = absurd (false≢true (sym (some-none (sym e))))
  exit-so (runs.Print v ∷ us) rest values e on same = absurd (false≢true (sym (some-none (sym e))))
