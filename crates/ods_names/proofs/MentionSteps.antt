-- The loops of an `if`, and whether an operation has a body.
use Rattle.std.proofs.Common.{◌≡◌, Bool, true, false, cond, find, Some, List, [], ◌∷◌, ◌++◌, ◌||◌, refl, ap, sym, ◌∙◌, append_assoc}
use Rattle.std.specs.List.{list_any}
use Rattle.seq_tree.specs.Names.{Name}
use Rattle.seq_tree.specs.Expressions.{Expression}
use Rattle.seq_tree.specs.Statements.{Statements, Branches, Nothing}
use Rattle.seq_tree.specs.Trees.{branches_of}
use Rattle.ods_tree.specs.Designs.{Body}
use Rattle.design_rules.specs.Clashes.{Mention, block_loops, branch_loops, is_there}
use Rattle.ods_index.proofs.Shared.WalkSteps.{own_fields, inside_fields}

-- the loops of branches: those with conditions, then an `else`
loops_join : (f : Name → List Name → Mention) (open' : List Name) (arms : List (Expression × Statements)) (others : Branches) →
    branch_loops f open' (branches_of arms others) ≡ branch_loops f open' (branches_of arms Nothing) ++ branch_loops f open' others
loops_join f open' [] others = refl
loops_join f open' (arm ∷ arms) others =
    ap (λ ms. block_loops f open' arm.1 ++ ms) (loops_join f open' arms others)
    ∙ sym (append_assoc (block_loops f open' arm.1) (branch_loops f open' (branches_of arms Nothing)) (branch_loops f open' others))

-- the loops of branches that were added, and then those of an `else`
pub added_loops : (f : Name → List Name → Mention) (open' : List Name) (old mid : List Mention) (arms : List (Expression × Statements))
    (others : Branches) →
    mid ≡ old ++ branch_loops f open' (branches_of arms Nothing) → mid ++ branch_loops f open' others
    ≡ old ++ branch_loops f open' (branches_of arms others)
added_loops f open' old mid arms others first =
    ap (λ z. z ++ branch_loops f open' others) first ∙ append_assoc old (branch_loops f open' (branches_of arms Nothing))
    (branch_loops f open' others)
    ∙ ap (λ z. old ++ z) (sym (loops_join f open' arms others))

-- five lists one after another, as they were added
pub object_joined : (old one two three four m ops data' bodies thread : List Mention) → one ≡ old ++ m → two ≡ one ++ ops → three ≡ two ++ data'
    → four ≡ three ++ bodies →
    four ++ thread ≡ old ++ (m ++ (ops ++ (data' ++ (bodies ++ thread))))
object_joined old one two three four m ops data' bodies thread a b c d =
    ap (λ z. z ++ thread) (d ∙ ap (λ z. z ++ bodies) (c ∙ ap (λ z. z ++ data') (b ∙ ap (λ z. z ++ ops) a)))
    ∙ append_assoc (((old ++ m) ++ ops) ++ data') bodies thread ∙ append_assoc ((old ++ m) ++ ops) data' (bodies ++ thread)
    ∙ append_assoc (old ++ m) ops (data' ++ (bodies ++ thread)) ∙ append_assoc old m (ops ++ (data' ++ (bodies ++ thread)))

there_step : (test : Body → Bool) (b : Body) (bs : List Body) (now : Bool) → is_there (find test bs) ≡ list_any test bs
    → is_there (cond now (Some b) (find test bs)) ≡ (now || list_any test bs)
there_step test b bs true h = refl
there_step test b bs false h = h

-- one is found where some passes the test
pub there_found : (test : Body → Bool) (bs : List Body) → is_there (find test bs) ≡ list_any test bs
there_found test [] = refl
there_found test (b ∷ bs) = there_step test b bs (test b) (there_found test bs)

pub ruleset body_steps = (there_found, own_fields, inside_fields)
