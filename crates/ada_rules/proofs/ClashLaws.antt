-- Clashes told with tests are those told with lists of names.
use Rattle.std.proofs.Common.{◌≡◌, ℕ, Bool, true, false, not, ◌&&◌, ◌||◌, List, [], ◌∷◌, ◌++◌, nat_eq, bytes_eq, refl, sym, ap, ◌∙◌}
use Rattle.std.proofs.Common.{append_assoc, append-nil}
use Rattle.std.proofs.Math.Bool.{and_assoc, or_assoc, or_comm, or-false}
use Rattle.std.specs.Cmp.{nat_eq_equiv}
use Rattle.std.proofs.lemmas.List.Folds.{list_any-append}
use Rattle.seq_tree.specs.Names.{Name, same_name, is_named, are_distinct}
use Rattle.seq_tree.specs.Statements.{Statement, Statements, Branches, Null, Assign, If, For, ExitWhen, Call, Work, Put, End, Then, Nothing}
use Rattle.seq_tree.specs.Statements.{Else, When}
use Rattle.ada_tree.specs.Programs.{Form}
use Rattle.ada_tree.specs.Bodies.{Body}
use Rattle.ada_tree.specs.Naming.{own_names, body_names, statement_clashes, block_clashes, branch_clashes, body_clashes}
use Rattle.ada_rules.specs.Parts.{Part, LoopEnd, statement_parts, block_parts, branch_parts}
use Rattle.ada_rules.specs.Clashes.{are_new, clashes_in, clashes_inside}
use Rattle.ada_rules.proofs.NameSteps.{named-push, front-push, or_turn}

pub same_name-sym : (a b : List ℕ) → same_name a b ≡ same_name b a
same_name-sym [] [] = refl
same_name-sym [] (y ∷ ys) = refl
same_name-sym (x ∷ xs) [] = refl
same_name-sym (x ∷ xs) (y ∷ ys) = ap (λ b. b && bytes_eq xs ys) (nat_eq_equiv.symm x y) ∙ ap (λ b. nat_eq y x && b) (same_name-sym xs ys)

push_bits : (a s d e : Bool) → (not (a || s) && (d && not e)) ≡ ((not a && d) && not (s || e))
push_bits true s d e = refl
push_bits false true true e = refl
push_bits false true false e = refl
push_bits false false true e = refl
push_bits false false false e = refl

distinct-push : (xs : List Name) (n : Name) → are_distinct (xs ++ n ∷ []) ≡ (are_distinct xs && not (is_named xs n))
distinct-push [] n = refl
distinct-push (x ∷ xs) n =
    ap (λ b. not b && are_distinct (xs ++ n ∷ [])) (named-push xs n x ∙ ap (λ b. is_named xs x || b) (same_name-sym n x))
    ∙ ap (λ b. not (is_named xs x || same_name x n) && b) (distinct-push xs n)
    ∙ push_bits (is_named xs x) (same_name x n) (are_distinct xs) (is_named xs n)

and_true : (a : Bool) → a ≡ (a && true)
and_true true = refl
and_true false = refl

-- names differ with those before them where those differ, and they are new
pub distinct-append : (ns xs : List Name) (taken : Name → Bool) → ((n : Name) → taken n ≡ is_named xs n)
    → are_distinct (xs ++ ns) ≡ (are_distinct xs && are_new taken ns)
distinct-append [] xs taken h = ap are_distinct (append-nil xs) ∙ and_true (are_distinct xs)
distinct-append (n ∷ ns) xs taken h =
    ap are_distinct (sym (append_assoc xs (n ∷ []) ns))
    ∙ distinct-append ns (xs ++ n ∷ []) (λ m. same_name n m || taken m)
    (λ m. or_comm (same_name n m) (taken m) ∙ ap (λ b. b || same_name n m) (h m) ∙ sym (named-push xs n m))
    ∙ ap (λ b. b && are_new (λ m. same_name n m || taken m) ns) (distinct-push xs n ∙ ap (λ b. are_distinct xs && not b) (sym (h n)))
    ∙ and_assoc (are_distinct xs) (not (taken n)) (are_new (λ m. same_name n m || taken m) ns)

-- what is taken inside a loop
within : (test : Name → Bool) (taken inside : List Name) (name : Name) → ((n : Name) → is_named taken n ≡ (is_named inside n || test n)) →
    (n : Name) → is_named (name ∷ taken) n ≡ (is_named (inside ++ name ∷ []) n || test n)
within test taken inside name h n =
    ap (λ b. same_name name n || b) (h n) ∙ or_turn (same_name name n) (is_named inside n) (test n) ∙ ap (λ b. b || test n)
    (sym (named-push inside name n))

mutual
  statement_clashes_in : (s : Statement) (test : Name → Bool) (taken inside : List Name)
      → ((n : Name) → is_named taken n ≡ (is_named inside n || test n)) → (rest : List Part) →
      clashes_in test inside (statement_parts s ++ rest) ≡ (statement_clashes taken s || clashes_in test inside rest)
  statement_clashes_in Null test taken inside h rest = refl
  statement_clashes_in (Assign target value) test taken inside h rest = refl
  statement_clashes_in (If branches) test taken inside h rest = branch_clashes_in branches test taken inside h rest
  statement_clashes_in (For name low high body) test taken inside h rest =
      ap (λ ps. (is_named inside name || test name) || clashes_in test (inside ++ name ∷ []) ps) (append_assoc (block_parts body) (LoopEnd ∷ []) rest)
      ∙ ap (λ b. (is_named inside name || test name) || b)
      (block_clashes_in body test (name ∷ taken) (inside ++ name ∷ []) (within test taken inside name h) (LoopEnd ∷ rest)
      ∙ ap (λ ns. block_clashes (name ∷ taken) body || clashes_in test ns rest) (front-push inside name))
      ∙ ap (λ b. b || (block_clashes (name ∷ taken) body || clashes_in test inside rest)) (sym (h name))
      ∙ sym (or_assoc (is_named taken name) (block_clashes (name ∷ taken) body) (clashes_in test inside rest))
  statement_clashes_in (ExitWhen condition) test taken inside h rest = refl
  statement_clashes_in (Call object op actuals) test taken inside h rest = refl
  statement_clashes_in (Work ticks) test taken inside h rest = refl
  statement_clashes_in (Put value) test taken inside h rest = refl

  pub block_clashes_in : (b : Statements) (test : Name → Bool) (taken inside : List Name)
      → ((n : Name) → is_named taken n ≡ (is_named inside n || test n)) → (rest : List Part) →
      clashes_in test inside (block_parts b ++ rest) ≡ (block_clashes taken b || clashes_in test inside rest)
  block_clashes_in End test taken inside h rest = refl
  block_clashes_in (Then first others) test taken inside h rest =
      ap (clashes_in test inside) (append_assoc (statement_parts first) (block_parts others) rest)
      ∙ statement_clashes_in first test taken inside h (block_parts others ++ rest)
      ∙ ap (λ b. statement_clashes taken first || b) (block_clashes_in others test taken inside h rest)
      ∙ sym (or_assoc (statement_clashes taken first) (block_clashes taken others) (clashes_in test inside rest))

  branch_clashes_in : (b : Branches) (test : Name → Bool) (taken inside : List Name) → ((n : Name) → is_named taken n ≡ (is_named inside n || test n))
      → (rest : List Part) →
      clashes_in test inside (branch_parts b ++ rest) ≡ (branch_clashes taken b || clashes_in test inside rest)
  branch_clashes_in Nothing test taken inside h rest = refl
  branch_clashes_in (Else block) test taken inside h rest = block_clashes_in block test taken inside h rest
  branch_clashes_in (When condition block others) test taken inside h rest =
      ap (clashes_in test inside) (append_assoc (block_parts block) (branch_parts others) rest)
      ∙ block_clashes_in block test taken inside h (branch_parts others ++ rest)
      ∙ ap (λ b. block_clashes taken block || b) (branch_clashes_in others test taken inside h rest)
      ∙ sym (or_assoc (block_clashes taken block) (branch_clashes taken others) (clashes_in test inside rest))

-- clashes inside a body, where the names of the unit differ
pub inside_is : (form : Form) (taken : Name → Bool) (b : Body) → ((n : Name) → taken n ≡ is_named (own_names form) n)
    → are_distinct (own_names form) ≡ true → clashes_inside taken b ≡ body_clashes form b
inside_is form taken b h apart =
    let names : are_distinct (own_names form ++ body_names b) ≡ are_new taken (body_names b) =
    distinct-append (body_names b) (own_names form) taken h ∙ ap (λ d. d && are_new taken (body_names b)) apart in
    let tests : (n : Name) → is_named (own_names form ++ body_names b) n ≡ (is_named (body_names b) n || taken n) =
    λ n. list_any-append (λ m. same_name m n) (own_names form) (body_names b) ∙ or_comm (is_named (own_names form) n) (is_named (body_names b) n) ∙ ap
    (λ t. is_named (body_names b) n || t) (sym (h n)) in
    let loops : clashes_in (λ n. is_named (body_names b) n || taken n) [] (block_parts b.block)
    ≡ block_clashes (own_names form ++ body_names b) b.block =
    ap (clashes_in (λ n. is_named (body_names b) n || taken n) []) (sym (append-nil (block_parts b.block)))
    ∙ block_clashes_in b.block (λ n. is_named (body_names b) n || taken n) (own_names form ++ body_names b) [] tests []
    ∙ or-false (block_clashes (own_names form ++ body_names b) b.block) in
    ap (λ d. not d || clashes_in (λ n. is_named (body_names b) n || taken n) [] (block_parts b.block)) (sym names)
    ∙ ap (λ c. not (are_distinct (own_names form ++ body_names b)) || c) loops
