-- Parts of statements, put one after another.
use Rattle.std.proofs.Common.{◌≡◌, List, [], ◌∷◌, ◌++◌, map, refl, sym, ap, ◌∙◌, append_assoc}
use Rattle.std.proofs.lemmas.List.{map-append}
use Rattle.seq_tree.specs.Expressions.{Expression}
use Rattle.seq_tree.specs.Statements.{Statements, Branches}
use Rattle.seq_tree.specs.Trees.{branches_of}
use Rattle.ada_rules.specs.Parts.{Part, part_of, arms_parts, block_parts, branch_parts}
use Rattle.ada_rules.specs.declared.parts.Part as code

-- the parts of arms, then those of what follows them
pub branches_parts : (arms : List (Expression × Statements)) (others : Branches)
    → branch_parts (branches_of arms others) ≡ arms_parts arms ++ branch_parts others
branches_parts [] others = refl
branches_parts (arm ∷ arms) others = ap (λ ps. block_parts arm.1 ++ ps) (branches_parts arms others) ∙ sym
    (append_assoc (block_parts arm.1) (arms_parts arms) (branch_parts others))

-- one part more
pub pushed : (old new : List code.Part) (p : code.Part) → new ≡ old ++ p ∷ [] → map part_of new ≡ map part_of old ++ part_of p ∷ []
pushed old new p e = ap (map part_of) e ∙ map-append part_of old (p ∷ [])

-- the parts of a loop
pub looped : (old one two all : List code.Part) (start stop : code.Part) (body : List Part) → one ≡ old ++ start ∷ []
    → map part_of two ≡ map part_of one ++ body →
    all ≡ two ++ stop ∷ [] → map part_of all ≡ map part_of old ++ (part_of start ∷ (body ++ part_of stop ∷ []))
looped old one two all start stop body began inside ended =
    pushed two all stop ended ∙ ap (λ ps. ps ++ part_of stop ∷ []) (inside ∙ ap (λ ps. ps ++ body) (pushed old one start began))
    ∙ append_assoc (map part_of old ++ part_of start ∷ []) body (part_of stop ∷ [])
    ∙ append_assoc (map part_of old) (part_of start ∷ []) (body ++ part_of stop ∷ [])

-- the parts of an `if`
pub branched : (old one all : List Part) (arms : List (Expression × Statements)) (others : Branches) → one ≡ old ++ arms_parts arms
    → all ≡ one ++ branch_parts others →
    all ≡ old ++ branch_parts (branches_of arms others)
branched old one all arms others first second =
    second ∙ ap (λ ps. ps ++ branch_parts others) first ∙ append_assoc old (arms_parts arms) (branch_parts others) ∙ ap (λ ps. old ++ ps)
    (sym (branches_parts arms others))
