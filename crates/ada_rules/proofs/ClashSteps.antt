-- Clashes inside a body, found step by step.
use Rattle.std.proofs.Common.{◌≡◌, ℕ, ◌+◌, ◌<◌, Bool, true, false, not, ◌||◌, List, [], length, drop, map, get_or, Result, Ok, Err, IfOk}
use Rattle.std.proofs.Common.{sym, ap, ◌∙◌}
use Rattle.std.proofs.Math.Path.{fun_ext}
use Rattle.std.proofs.Math.Bool.{or-false}
use Rattle.seq_tree.specs.Names.{Name, is_named}
use Rattle.seq_tree.proofs.Shared.LoopSteps.{drop_step}
use Rattle.ada_tree.specs.Bodies.{Body}
use Rattle.ada_tree.specs.Naming.{body_names}
use Rattle.ada_rules.specs.Clashes.{are_new, clashes_at, clashes_in, clashes_inside, inside_after}
use Rattle.ada_rules.specs.Parts.{Part, block_parts, part_of}
use Rattle.ada_rules.specs.declared.parts.Part as code
use Rattle.ada_rules.proofs.NameSteps.{are_new-same}

-- an answer that is one Boolean is another that is equal
pub same_answer : {E : Type 0} (r : Result Bool E) (a b : Bool) → a ≡ b → IfOk r (λ x. x ≡ a) → IfOk r (λ x. x ≡ b)
same_answer (Ok x) a b same h = h ∙ same
same_answer (Err e) a b same h = tt

new_names : (taken before : Name → Bool) (b : Body) (names : List Name) → ((n : Name) → before n ≡ false) → names ≡ body_names b →
    are_new (λ n. before n || taken n) names ≡ are_new taken (body_names b)
new_names taken before b names none same = are_new-same (λ n. before n || taken n) taken names (λ n. ap (λ c. c || taken n) (none n)) ∙ ap
    (are_new taken) same

-- names that clash among parameters and locals
pub names_clash : (taken before : Name → Bool) (b : Body) (names : List Name) → ((n : Name) → before n ≡ false) → names ≡ body_names b →
    false ≡ are_new (λ n. before n || taken n) names → true ≡ clashes_inside taken b
names_clash taken before b names none same found =
    ap (λ new. not new || clashes_in (λ n. is_named (body_names b) n || taken n) [] (block_parts b.block))
    (found ∙ new_names taken before b names none same)

-- names that clash in the block alone
pub block_clash : (taken before after : Name → Bool) (b : Body) (names : List Name) (parts : List Part) → ((n : Name) → before n ≡ false)
    → names ≡ body_names b →
    true ≡ are_new (λ n. before n || taken n) names → ((n : Name) → after n ≡ (is_named names n || before n)) → parts ≡ block_parts b.block →
    clashes_in (λ n. after n || taken n) [] parts ≡ clashes_inside taken b
block_clash taken before after b names parts none same found added written =
    let tests : (n : Name) → (after n || taken n) ≡ (is_named (body_names b) n || taken n) =
    λ n. ap (λ c. c || taken n) (added n ∙ ap (λ c. is_named names n || c) (none n) ∙ or-false (is_named names n) ∙ ap
    (λ ns. is_named ns n) same) in
    ap (λ (f : Name → Bool). clashes_in f [] parts) (fun_ext tests) ∙ ap (clashes_in (λ n. is_named (body_names b) n || taken n) []) written
    ∙ ap (λ new. not new || clashes_in (λ n. is_named (body_names b) n || taken n) [] (block_parts b.block))
    (found ∙ new_names taken before b names none same)

-- no loop clashes at a part, so that it is up to the parts behind it
pub clash_passed : (test : Name → Bool) (xs : List code.Part) (i : ℕ) (x : code.Part) (old new : List Name) (here all : Bool) → i < length xs
    → x ≡ get_or xs i x
    → here ≡ clashes_at test old (part_of x) → here ≡ false → new ≡ inside_after old (part_of x) → clashes_in test old (map part_of (drop i xs)) ≡ all
    → clashes_in test new (map part_of (drop (i + 1) xs)) ≡ all
clash_passed test xs i x old new here all inside at told fails after was =
    let rest : List Part = map part_of (drop (i + 1) xs) in
    ap (λ ns. clashes_in test ns rest) after ∙ ap (λ c. c || clashes_in test (inside_after old (part_of x)) rest) (sym fails ∙ told)
    ∙ ap (λ ys. clashes_in test old (map part_of ys)) (sym (drop_step xs i x inside at)) ∙ was

-- a loop clashes at a part, and so somewhere
pub clash_found : (test : Name → Bool) (xs : List code.Part) (i : ℕ) (x : code.Part) (old : List Name) (here all : Bool) → i < length xs
    → x ≡ get_or xs i x
    → here ≡ clashes_at test old (part_of x) → here ≡ true → clashes_in test old (map part_of (drop i xs)) ≡ all → true ≡ all
clash_found test xs i x old here all inside at told holds was =
    let rest : List Part = map part_of (drop (i + 1) xs) in
    ap (λ c. c || clashes_in test (inside_after old (part_of x)) rest) (sym holds ∙ told)
    ∙ ap (λ ys. clashes_in test old (map part_of ys)) (sym (drop_step xs i x inside at)) ∙ was
