-- Sets of names that were filled from lists have what the lists have.
use Rattle.std.proofs.Common.{◌≡◌, Bool, true, false, ◌&&◌, ◌||◌, List, [], ◌∷◌, ◌++◌, filter, map, refl, sym, ap, ◌∙◌, if◌then◌else◌}
use Rattle.std.specs.List.{list_any}
use Rattle.std.proofs.lemmas.List.Folds.{list_any-append}
use Rattle.std.proofs.Math.Bool.{or-false}
use Rattle.seq_tree.specs.Names.{Name, is_named, same_name}
use Rattle.seq_tree.specs.Operations.{is_out, out_names}
use Rattle.seq_tree.specs.declared.tree.Param.{Param}

or-turn : (a b : Bool) → (a || b) ≡ (b || a)
or-turn true true = refl
or-turn true false = refl
or-turn false true = refl
or-turn false false = refl

-- a set that has one list's names
pub filled : (before after listed : Bool) → before ≡ false → after ≡ (listed || before) → after ≡ listed
filled before after listed none added = added ∙ ap (λ b. listed || b) none ∙ or-false listed

-- one that has two lists' names
pub filled_twice : (xs ys : List Name) (n : Name) (before middle after listed : Bool) → before ≡ false → listed ≡ is_named xs n
    → middle ≡ (listed || before) → after ≡ (is_named ys n || middle)
    → after ≡ is_named (xs ++ ys) n
filled_twice xs ys n before middle after listed none first one two =
    two ∙ ap (λ b. is_named ys n || b) (filled before middle listed none one ∙ first) ∙ or-turn (is_named ys n) (is_named xs n) ∙ sym
    (list_any-append (λ m. same_name m n) xs ys)

-- the names of the parameters that hand values out
pub outs_named : (ps : List Param) (n : Name) → list_any (λ q. is_out q.mode && same_name q.name n) ps ≡ is_named (out_names ps) n
outs_named [] n = refl
outs_named (p ∷ ps) n = by (is_out p.mode) (outs_named ps n)
  where
    by : (out : Bool) → list_any (λ q. is_out q.mode && same_name q.name n) ps ≡ is_named (out_names ps) n
        → ((out && same_name p.name n) || list_any (λ q. is_out q.mode && same_name q.name n) ps)
        ≡ is_named (map (λ q. q.name) (if out then p ∷ filter (λ q. is_out q.mode) ps else filter (λ q. is_out q.mode) ps)) n
    by true h = ap (λ b. same_name p.name n || b) h
    by false h = h

-- a name that one of two lists has
pub in_both : (xs ys : List Name) (n : Name) (a b : Bool) → a ≡ is_named xs n → b ≡ is_named ys n → (a || b) ≡ is_named (xs ++ ys) n
in_both xs ys n a b first second = ap (λ c. c || b) first ∙ ap (λ c. is_named xs n || c) second ∙ sym (list_any-append (λ m. same_name m n) xs ys)
