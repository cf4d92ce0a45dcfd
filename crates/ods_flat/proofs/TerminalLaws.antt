-- The parts of the flat design are made of the terminal objects by themselves.
use Rattle.std.proofs.Common.{◌≡◌, List, [], ◌∷◌, map, Option, Some, None, refl, ap, ◌∙◌}
use Rattle.std.specs.Prelude.{filter_map, option_map, if◌then◌else◌}
use Rattle.std.specs.List.{cons_option}
use Rattle.seq_tree.specs.Names.{Name}
use Rattle.ods_tree.specs.Designs.{Provided, Body, Object, Design}
use Rattle.ods_tree.specs.Flattening.{is_passive, is_protected, libraries, guarded, threads, thread_by, operation_by}
use Rattle.ods_tree.specs.Walk.{Standing, terminals}
use Rattle.ods_flat.specs.Terminals.{library_by, guarded_by, libraries_among, guarded_among, threads_among, operations_among}

-- what is made of things by a part of each
by-part : {A B C : Type 0} (part : A → B) (f : B → Option C) (xs : List A) → filter_map f (map part xs) ≡ filter_map (λ x. f (part x)) xs
by-part part f [] = refl
by-part part f (x ∷ xs) = ap (cons_option (f (part x))) (by-part part f xs)

abbrev own : Standing → Object
own s = s.own

pub libraries-are : (x : Design) → libraries_among x (map own (terminals x)) ≡ libraries x
libraries-are x = by-part own (λ o. if is_passive o.kind then Some (library_by x o) else None) (terminals x)

pub guarded-are : (x : Design) → guarded_among x (map own (terminals x)) ≡ guarded x
guarded-are x = by-part own (λ o. if is_protected o.kind then Some (guarded_by x o) else None) (terminals x)

pub threads-are : (x : Design) → threads_among x (map own (terminals x)) ≡ threads x
threads-are x = by-part own (thread_by x) (terminals x)

-- the same operations, where bodies are found that are the same
pub operations-same : (x : Design) (look seen : Name → Option Body) (ps : List Provided) → ((op : Name) → look op ≡ seen op)
    → operations_among x look ps ≡ operations_among x seen ps
operations-same x look seen [] same = refl
operations-same x look seen (p ∷ ps) same =
    ap (λ b. cons_option (option_map (operation_by x p.sig) b) (operations_among x look ps)) (same p.sig.name)
    ∙ ap (cons_option (option_map (operation_by x p.sig) (seen p.sig.name))) (operations-same x look seen ps same)

pub ruleset terminal_laws = (libraries-are, guarded-are, threads-are)
