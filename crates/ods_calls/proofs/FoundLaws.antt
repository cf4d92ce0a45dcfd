-- What was looked for is found, and nothing is lost.
use Rattle.std.proofs.Common.{◌≡◌, inl, inr, Bool, true, false, List, [], ◌∷◌, ◌++◌, refl, subst}
use Rattle.std.specs.Prelude.{if◌then◌else◌}
use Rattle.std.specs.List.{list_any}
use Rattle.seq_tree.specs.Calls.{same_op}
use Rattle.seq_tree.specs.declared.tree.OpName.{OpName}
use Rattle.ods_calls.specs.Spreading.{found_all, found_more}
use Rattle.ods_calls.proofs.Items.{In, in-left, in-right}
use Rattle.ods_calls.proofs.StartPaths.{among-in}

more-stays : (a op : OpName) (all : List OpName) → In a all → In a (found_more all op)
unfolding found_more
more-stays a op all h = by (list_any (same_op op) all)
  where
    by : (b : Bool) → In a (if b then all else all ++ op ∷ [])
    by true = h
    by false = in-left a all (op ∷ []) h

more-comes : (op : OpName) (all : List OpName) → In op (found_more all op)
unfolding found_more
more-comes op all = by (list_any (same_op op) all) refl
  where
    by : (b : Bool) → list_any (same_op op) all ≡ b → In op (if b then all else all ++ op ∷ [])
    by true e = among-in op all e
    by false e = in-right op all (op ∷ []) (inl refl)

all-stay : (a : OpName) (all ops : List OpName) → In a all → In a (found_all all ops)
all-stay a all [] h = h
all-stay a all (op ∷ ops) h = all-stay a (found_more all op) ops (more-stays a op all h)

pub all-come : (a : OpName) (all ops : List OpName) → In a ops → In a (found_all all ops)
all-come a all [] h = absurd h
all-come a all (op ∷ ops) (inl e) =
    let P : OpName → Type 0 = λ z. In z (found_more all op) in all-stay a (found_more all op) ops (subst P e (more-comes op all))
all-come a all (op ∷ ops) (inr h) = all-come a (found_more all op) ops h

-- operations one after another
pub found-append : (xs ys all : List OpName) → found_all all (xs ++ ys) ≡ found_all (found_all all xs) ys
found-append [] ys all = refl
found-append (x ∷ xs) ys all = found-append xs ys (found_more all x)

pub ruleset found_laws = (found-append)
