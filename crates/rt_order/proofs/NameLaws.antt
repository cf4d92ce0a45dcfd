-- Which names threads and protected objects have beside them, and one name more among those that were seen.
use Rattle.std.proofs.Common.{◌≡◌, ℕ, ◌+◌, ◌<◌, Bool, true, false, not, ◌||◌, List, [], ◌∷◌, ◌++◌, length, map, drop, flat_map, refl, sym, ap, ◌∙◌}
use Rattle.std.proofs.Common.{append_assoc}
use Rattle.std.specs.Prelude.{if◌then◌else◌}
use Rattle.std.specs.List.{list_any}
use Rattle.std.specs.Borrow.{Bor}
use Rattle.std.proofs.Math.Bool.{or-false}
use Rattle.std.proofs.Math.ListN.{get_or}
use Rattle.std.proofs.lemmas.List.{append-nil}
use Rattle.std.proofs.lemmas.List.Folds.{list_any-append}
use Rattle.std.proofs.lemmas.Slice.Eq.{bytes_eq-Decides}
use Rattle.seq_tree.specs.Names.{Name, same_name, is_named}
use Rattle.seq_tree.specs.Operations.{Operation}
use Rattle.seq_tree.specs.Statements.{Statements}
use Rattle.seq_tree.specs.Calls.{block_calls}
use Rattle.seq_tree.specs.declared.tree.OpName.{OpName}
use Rattle.seq_tree.proofs.Shared.LoopSteps.{drop_step}
use Rattle.ods_tree.specs.Flats.{Guarded, Thread}
use Rattle.analysis.specs.Ceilings.{calls_from_inside, uses_object}
use Rattle.analysis.specs.Starts.{calls_object}
use Rattle.rt_order.specs.Called.{called_objects, names_called, names_of, names_used}
use Rattle.rt_order.specs.Numbers.{place_if}

among : (n : Name) (cs : List OpName) → is_named (map (λ c. c.object) cs) n ≡ list_any (λ c. same_name c.object n) cs
among n [] = refl
among n (c ∷ cs) = ap (λ b. same_name c.object n || b) (among n cs)

inside : (n : Name) (os : List Operation) → is_named (flat_map (λ o. called_objects o.block) os) n ≡ list_any (λ o. calls_object n o.block) os
inside n [] = refl
inside n (o ∷ os) =
    list_any-append (λ m. same_name m n) (called_objects o.block) (flat_map (λ p. called_objects p.block) os)
    ∙ ap (λ b. b || is_named (flat_map (λ p. called_objects p.block) os) n) (among n (block_calls o.block))
    ∙ ap (λ b. calls_object n o.block || b) (inside n os)

-- what is among the names of a thread is what it uses
pub used-is : (t : Thread) (names : List Name) (n : Name) → names ≡ names_used t → is_named names n ≡ uses_object n t
used-is t names n same = ap (λ ns. is_named ns n) same ∙ ap (λ b. same_name t.name n || b) (among n (block_calls t.block))

-- and what is among those of a protected object is what it calls
pub called-is : (g : Guarded) (names : List Name) (n : Name) → names ≡ names_called g → is_named names n ≡ calls_from_inside n g
called-is g names n same = ap (λ ns. is_named ns n) same ∙ inside n g.ops

by-seen : (one seen : Bool) (here : Bool) (place : ℕ) (before new : List ℕ) → (one ≡ true → seen ≡ here) → here ≡ false
    → new ≡ (before ++ place_if seen place) ++ (if one then place ∷ [] else []) → new ≡ before ++ place_if (one || seen) place
by-seen true seen here place before new same none made =
    made ∙ ap (λ b. (before ++ place_if b place) ++ place ∷ []) (same refl ∙ none) ∙ ap (λ ps. ps ++ place ∷ []) (append-nil before)
by-seen false seen here place before new same none made = made ∙ append-nil (before ++ place_if seen place)

-- a name that is new has the place behind its others, and those that were seen have theirs
pub marked-new : (name n : Name) (seen : Name → Bool) (place : ℕ) (before old new : List ℕ) → seen name ≡ false
    → old ≡ before ++ place_if (seen n) place → new ≡ old ++ (if same_name name n then place ∷ [] else [])
    → new ≡ before ++ place_if (same_name name n || seen n) place
marked-new name n seen place before old new none was made =
    by-seen (same_name name n) (seen n) (seen name) place before new (λ e. sym (ap seen ((bytes_eq-Decides name n).0 e))) none
    (made ∙ ap (λ ps. ps ++ (if same_name name n then place ∷ [] else [])) was)

by-known : (one seen here : Bool) (place : ℕ) (before old : List ℕ) → (one ≡ true → seen ≡ here) → here ≡ true
    → old ≡ before ++ place_if seen place → old ≡ before ++ place_if (one || seen) place
by-known true seen here place before old same some was = was ∙ ap (λ b. before ++ place_if b place) (same refl ∙ some)
by-known false seen here place before old same some was = was

-- a name that was seen changes nothing
pub marked-known : (name n : Name) (seen : Name → Bool) (place : ℕ) (before old : List ℕ) → seen name ≡ true
    → old ≡ before ++ place_if (seen n) place → old ≡ before ++ place_if (same_name name n || seen n) place
marked-known name n seen place before old some was =
    by-known (same_name name n) (seen n) (seen name) place before old (λ e. sym (ap seen ((bytes_eq-Decides name n).0 e))) some was

-- what it means that a name is new, and that it isn't
pub fresh : (seen new : Bool) → new ≡ not seen → new ≡ true → seen ≡ false
fresh true new is held = absurd (cc)
fresh false new is held = refl

pub stale : (seen new : Bool) → new ≡ not seen → new ≡ false → seen ≡ true
stale true new is held = refl
stale false new is held = absurd (cc)

turned : (one seen rest : Bool) → ((one || seen) || rest) ≡ (seen || (one || rest))
turned true true rest = refl
turned true false rest = refl
turned false seen rest = refl

-- one name more is seen, and one less is left
pub seen-step : (names : List (Bor Name)) (i : ℕ) (name : Bor Name) (n : Name) (seen after all : Bool) → i < length names → name ≡ get_or names i name
    → after ≡ (same_name name.now n || seen) → (seen || is_named (names_of (drop i names)) n) ≡ all
    → (after || is_named (names_of (drop (i + 1) names)) n) ≡ all
seen-step names i name n seen after all few at made was =
    let rest = is_named (names_of (drop (i + 1) names)) n in
    ap (λ b. b || rest) made ∙ turned (same_name name.now n) seen rest
    ∙ ap (λ ns. seen || is_named (names_of ns) n) (sym (drop_step names i name few at)) ∙ was
