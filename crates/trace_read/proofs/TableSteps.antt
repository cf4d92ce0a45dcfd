-- Tables of the operations of units, one after another.
use Rattle.std.proofs.Common.{◌≡◌, ℕ, zero, suc, List, [], ◌∷◌, ◌++◌, length, take, Some, refl, sym, ap, subst, ◌∙◌, arith}
use Rattle.std.specs.Prelude.{◌+◌, ◌<◌, ◌≤◌, map, get_or}
use Rattle.seq_tree.proofs.Shared.LoopSteps.{take_step}
use Rattle.ada_tree.specs.Trees.{form_of, unit_of}
use Rattle.ada_tree.specs.declared.program.Unit as code
use Rattle.std.proofs.lemmas.List.{map-append}
use Rattle.std.proofs.lemmas.Option.{none-some}
use Rattle.seq_tree.specs.Names.{Name}
use Rattle.ada_tree.specs.Programs.{Unit}
use Rattle.name_sets.specs.declared.places.Places.{Places}
use Rattle.trace_read.specs.Names.{head_names, op_among}
use Rattle.trace_read.specs.Tables.{IsTable, AreTables, op_by}
use Rattle.trace_read.proofs.Placing.{place-below}

pub tables-place : (us : List Unit) (ts : List Places) → AreTables us ts → (k : ℕ) (n : Name) → op_by ts k n ≡ op_among us k n
tables-place [] [] h k n = refl
tables-place [] (t ∷ ts) h k n = absurd h
tables-place (u ∷ us) [] h k n = absurd h
tables-place (u ∷ us) (t ∷ ts) h zero n = h.0.places n
tables-place (u ∷ us) (t ∷ ts) h (suc k) n = tables-place us ts h.1 k n

pub tables-few : (us : List Unit) (ts : List Places) → AreTables us ts → (k : ℕ) (n : Name) (o : ℕ) → op_among us k n ≡ Some o → o < 4294967296
tables-few [] [] h k n o e = absurd (none-some o e)
tables-few [] (t ∷ ts) h k n o e = absurd h
tables-few (u ∷ us) [] h k n o e = absurd h
tables-few (u ∷ us) (t ∷ ts) h zero n o e =
    let b = place-below (head_names u.form) 0 o n e in let f = h.0.few in omega (arith, b, f)
tables-few (u ∷ us) (t ∷ ts) h (suc k) n o e = tables-few us ts h.1 k n o e

pub tables-push : (us : List Unit) (ts : List Places) (u : Unit) (t : Places) → AreTables us ts → IsTable (head_names u.form) t
    → AreTables (us ++ u ∷ []) (ts ++ t ∷ [])
tables-push [] [] u t h i = (i, tt)
tables-push [] (s ∷ ts) u t h i = absurd h
tables-push (v ∷ us) [] u t h i = absurd h
tables-push (v ∷ us) (s ∷ ts) u t h i = (h.0, tables-push us ts u t h.1 i)

pub tables-next : (us : List code.Unit) (i : ℕ) (u : code.Unit) (ts later : List Places) (t : Places) → AreTables (map unit_of (take i us)) ts
    → i < length us → u ≡ get_or us i u → IsTable (head_names (form_of u.form)) t → later ≡ ts ++ t ∷ [] → AreTables (map unit_of (take (i + 1) us)) later
tables-next us i u ts later t h less at one pushed =
    let units : map unit_of (take (i + 1) us) ≡ map unit_of (take i us) ++ unit_of u ∷ [] =
    ap (map unit_of) (take_step us i u less at) ∙ map-append unit_of (take i us) (u ∷ []) in
    subst (λ xs. AreTables xs later) (sym units)
    (subst (AreTables (map unit_of (take i us) ++ unit_of u ∷ [])) (sym pushed) (tables-push (map unit_of (take i us)) ts (unit_of u) t h one))

take-all : {A : Type 0} (n : ℕ) (xs : List A) → length xs ≤ n → take n xs ≡ xs
take-all zero [] h = refl
take-all zero (x ∷ xs) h = absurd (omega (arith, h))
take-all (suc n) [] h = refl
take-all (suc n) (x ∷ xs) h = ap (λ ys. x ∷ ys) (take-all n xs (omega (arith, h)))

pub tables-whole : (us : List code.Unit) (i : ℕ) (ts : List Places) → length us ≤ i → AreTables (map unit_of (take i us)) ts → AreTables (map unit_of us) ts
tables-whole us i ts past h = subst (λ xs. AreTables (map unit_of xs) ts) (take-all i us past) h
