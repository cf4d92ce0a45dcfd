-- Slots that are filled one by one with what an object lends.
use Rattle.std.proofs.Common.{◌≡◌, ◌<◌, ℕ, ◌+◌, List, [], ◌∷◌, ◌++◌, length, set, get_or, ap, sym, subst, ◌∙◌, arith}
use Rattle.std.specs.Prelude.{fold, take}
use Rattle.std.proofs.lemmas.List.{length-map, length-take, take_more}
use Rattle.std.proofs.lemmas.List.Sums.{fold-append}
use Rattle.seq_tree.specs.Names.{Name}
use Rattle.seq_tree.specs.Variables.{Variables}
use Rattle.linker.specs.Slots.{vars_at}
use Rattle.linker.specs.Scopes.{slots_of}
use Rattle.task_runtime.specs.Fitting.{names_of}
use Rattle.task_runtime.specs.Stacked.{vars_of, with_var}
use Rattle.task_runtime.specs.declared.values.Var.{Var}
use Rattle.task_runtime.proofs.Openings.{one_above}

-- a stack of variables has as many as it holds
vars_more : (acc : Variables) (vs : List Var) → length (fold with_var acc vs) ≡ length acc + length vs
vars_more acc [] = omega arith
vars_more acc (v ∷ vs) = let e = vars_more (with_var acc v) vs in omega (arith, e)

pub vars_long : (vs : List Var) → length (vars_of vs) ≡ length vs
vars_long vs = let e = vars_more [] vs in omega (arith, e)

pub names_long : (vs : List Var) → length (names_of (vars_of vs)) ≡ length vs
names_long vs = length-map (vars_of vs) (λ (v : Name × ℕ). v.0) ∙ vars_long vs

-- one variable more that is lent
pub lent_step : (vs : List Var) (at : ℕ) (v : Var) (here here' : List ℕ) → at < length vs → v ≡ get_or vs at v → at < length here
    → here' ≡ set here at v.value → vars_at (slots_of (names_of (vars_of (take at vs)))) here ≡ vars_of (take at vs)
    → vars_at (slots_of (names_of (vars_of (take (at + 1) vs)))) here' ≡ vars_of (take (at + 1) vs)
lent_step vs at v here here' lt is fits put so_far =
    let e : take (at + 1) vs ≡ take at vs ++ v ∷ [] = take_more vs at v lt ∙ ap (λ x. take at vs ++ x ∷ []) (sym is) in
    let more : vars_of (take (at + 1) vs) ≡ (v.name.now, v.value) ∷ vars_of (take at vs) =
    ap vars_of e ∙ fold-append with_var [] (take at vs) (v ∷ []) in
    let long : at ≡ length (names_of (vars_of (take at vs))) =
    (let n = names_long (take at vs) in let k = length-take at vs in omega (arith, n, k, lt)) in
    subst (λ ws. vars_at (slots_of (names_of ws)) here' ≡ ws) (sym more)
    (ap (vars_at (slots_of (v.name.now ∷ names_of (vars_of (take at vs))))) put
    ∙ one_above v.name.now (names_of (vars_of (take at vs))) at v.value here (vars_of (take at vs)) long fits so_far)
