-- A loop that looks for what is called again: one step of it.
-- What was seen is a set that the step adds to.
use Rattle.std.proofs.Common.{◌≡◌, Bool, true, false, ◌&&◌, ◌||◌, List, ◌∷◌, ap, sym, ◌∙◌}
use Rattle.seq_tree.specs.Calls.{same_op}
use Rattle.seq_tree.specs.declared.tree.OpName.{OpName}
use Rattle.call_graph.specs.Once.{repeats}

-- functions with the same values are one
by_values : {A B : Type 0} {f g : A → B} → ((a : A) → f a ≡ g a) → f ≡ g
by_values same = λ i a. same a i

pub seen_step : (has old new : OpName → Bool) (c : OpName) (cs : List OpName) (all : Bool) → (has c && old c) ≡ false
    → ((n : OpName) → new n ≡ ((has c && same_op c n) || old n)) → repeats has old (c ∷ cs) ≡ all → repeats has new cs ≡ all
seen_step has old new c cs all e is h =
    ap (λ (f : OpName → Bool). repeats has f cs) (by_values is)
    ∙ ap (λ b. b || repeats has (λ n. (has c && same_op c n) || old n) cs) (sym e) ∙ h

pub seen_again : (has old : OpName → Bool) (c : OpName) (cs : List OpName) (all : Bool) → (has c && old c) ≡ true → repeats has old (c ∷ cs) ≡ all
    → true ≡ all
seen_again has old c cs all e h = ap (λ b. b || repeats has (λ n. (has c && same_op c n) || old n) cs) (sym e) ∙ h

-- nothing was seen at first
pub none_seen : (has old : OpName → Bool) (cs : List OpName) → ((n : OpName) → old n ≡ false) → repeats has old cs ≡ repeats has (λ n. false) cs
none_seen has old cs is = ap (λ (f : OpName → Bool). repeats has f cs) (by_values is)
