-- No loop of a block has a name that is taken at its place, where its mentions have no clash with earlier ones.
use Rattle.std.proofs.Common.{◌≡◌, true, false, ◌&&◌, List, [], ◌∷◌, ◌++◌, refl, sym, ap, ◌∙◌, inl, inr, ◌⊎◌}
use Rattle.std.specs.List.{list_any}
use Rattle.std.proofs.lemmas.Bool.{or_parts, or_from}
use Rattle.seq_tree.specs.Names.{Name, same_name, is_named}
use Rattle.seq_tree.specs.Statements.{Statement, Statements, Branches, Null, Assign, If, For, ExitWhen, Call, Work, Put, End, Then, Nothing}
use Rattle.seq_tree.specs.Statements.{Else, When}
use Rattle.ada_tree.specs.Naming.{statement_clashes, block_clashes, branch_clashes}
use Rattle.design_rules.specs.Broken.{V01}
use Rattle.design_rules.specs.Clashes.{Role, Mention, excludes, statement_loops, block_loops, branch_loops, is_taken, clashes_after}
use Rattle.ada_tree.specs.Naming as naming
use Rattle.law_designs.proofs.Shared.Lists.{in-cases, unnamed-from, unnamed-at}
use Rattle.law_designs.proofs.Shared.ObjectNames.{free-head, first-free, rest-free}
use Rattle.law_lists.proofs.Shared.Facts.{is-same}
use Rattle.law_lists.proofs.Shared.Lists.{in-left, in-right, none-in, IsIn}

module _ (role : Role) where
  -- a loop where it is declared
  abbrev pub loop : Name → List Name → Mention
  loop name open' = record { name = name; role = role; open' = open' }

  -- each taken name is that of an open loop or of an earlier thing that excludes a loop
  abbrev pub Covered : List Name → List Name → List Mention → Type 0
  Covered taken open' earlier = (n : Name) → IsIn n taken → IsIn n open'
      ⊎ ((e : Mention) × IsIn e earlier × (e.name ≡ n) × (excludes e.role role ≡ true))

  later : (taken open' : List Name) (earlier before : List Mention) → ((a : Mention) → IsIn a earlier → IsIn a before) → Covered taken open' earlier
      → Covered taken open' before
  later taken open' earlier before more cover n h = by (cover n h)
    where
      by : IsIn n open' ⊎ ((e : Mention) × IsIn e earlier × (e.name ≡ n) × (excludes e.role role ≡ true))
          → IsIn n open' ⊎ ((e : Mention) × IsIn e before × (e.name ≡ n) × (excludes e.role role ≡ true))
      by (inl k) = inl k
      by (inr (e, k, s, x)) = inr (e, more e k, s, x)

  free-name : (taken open' : List Name) (earlier : List Mention) (name : Name) → Covered taken open' earlier
      → is_taken earlier (loop name open') ≡ false → is_named taken name ≡ false
  free-name taken open' earlier name cover h = unnamed-from taken name (λ k. by (cover name k))
    where
      by : IsIn name open' ⊎ ((e : Mention) × IsIn e earlier × (e.name ≡ name) × (excludes e.role role ≡ true)) → ⊥
      by (inl k) = unnamed-at open' name (or_parts (list_any (λ e. same_name e.name name && excludes e.role role) earlier)
          (is_named open' name) h).1 k
      by (inr (e, k, s, x)) =
          let none = none-in (λ z. same_name z.name name && excludes z.role role) e earlier
          (or_parts (list_any (λ e. same_name e.name name && excludes e.role role) earlier) (is_named open' name) h).0 k in
          let z : true ≡ false = sym (ap (λ b. b && excludes e.role role) (is-same e.name name s) ∙ x) ∙ none in cc

  inner : (taken open' : List Name) (earlier : List Mention) (name : Name) → Covered taken open' earlier
      → Covered (name ∷ taken) (name ∷ open') (loop name open' ∷ earlier)
  inner taken open' earlier name cover n (inl s) = inl (inl s)
  inner taken open' earlier name cover n (inr h) = by (cover n h)
    where
      by : IsIn n open' ⊎ ((e : Mention) × IsIn e earlier × (e.name ≡ n) × (excludes e.role role ≡ true))
          → IsIn n (name ∷ open') ⊎ ((e : Mention) × IsIn e (loop name open' ∷ earlier) × (e.name ≡ n) × (excludes e.role role ≡ true))
      by (inl k) = inl (inr k)
      by (inr (e, k, s, x)) = inr (e, inr k, s, x)

  mutual
    statement-free : (s : Statement) (taken open' : List Name) (earlier : List Mention) → Covered taken open' earlier
        → clashes_after earlier (statement_loops loop open' s) ≡ [] → statement_clashes taken s ≡ false
    statement-free Null taken open' earlier cover h = refl
    statement-free (Assign target value) taken open' earlier cover h = refl
    statement-free (If branches) taken open' earlier cover h = branches-free branches taken open' earlier cover h
    statement-free (For name low high body) taken open' earlier cover h =
        let p = free-head (is_taken earlier (loop name open')) (V01 name)
        (clashes_after (loop name open' ∷ earlier) (block_loops loop (name ∷ open') body)) h in
        or_from (is_named taken name) (block_clashes (name ∷ taken) body) (free-name taken open' earlier name cover p.0)
        (loops-free body (name ∷ taken) (name ∷ open') (loop name open' ∷ earlier) (inner taken open' earlier name cover) p.1)
    statement-free (ExitWhen e) taken open' earlier cover h = refl
    statement-free (Call object op actuals) taken open' earlier cover h = refl
    statement-free (Work n) taken open' earlier cover h = refl
    statement-free (Put e) taken open' earlier cover h = refl

    pub loops-free : (b : Statements) (taken open' : List Name) (earlier : List Mention) → Covered taken open' earlier
        → clashes_after earlier (block_loops loop open' b) ≡ [] → block_clashes taken b ≡ false
    loops-free End taken open' earlier cover h = refl
    loops-free (Then first rest) taken open' earlier cover h =
        let r = rest-free (statement_loops loop open' first) (block_loops loop open' rest) earlier h in
        or_from (statement_clashes taken first) (block_clashes taken rest)
        (statement-free first taken open' earlier cover (first-free (statement_loops loop open' first) (block_loops loop open' rest) earlier h))
        (loops-free rest taken open' r.0 (later taken open' earlier r.0 (λ a k. r.2 a (inr k)) cover) r.1)

    branches-free : (bs : Branches) (taken open' : List Name) (earlier : List Mention) → Covered taken open' earlier
        → clashes_after earlier (branch_loops loop open' bs) ≡ [] → branch_clashes taken bs ≡ false
    branches-free Nothing taken open' earlier cover h = refl
    branches-free (Else b) taken open' earlier cover h = loops-free b taken open' earlier cover h
    branches-free (When e b others) taken open' earlier cover h =
        let r = rest-free (block_loops loop open' b) (branch_loops loop open' others) earlier h in
        or_from (block_clashes taken b) (branch_clashes taken others)
        (loops-free b taken open' earlier cover (first-free (block_loops loop open' b) (branch_loops loop open' others) earlier h))
        (branches-free others taken open' r.0 (later taken open' earlier r.0 (λ a k. r.2 a (inr k)) cover) r.1)

  -- each loop of a block is mentioned
  pub record Mentioned (ms : List Mention) (n : Name) : Type 0 where
    pub mention : Mention
    pub among : IsIn mention ms
    pub name : mention.name ≡ n
    pub sort : mention.role ≡ role

  mentioned-left : (xs ys : List Mention) (n : Name) → Mentioned xs n → Mentioned (xs ++ ys) n
  mentioned-left xs ys n m = record { mention = m.mention; among = in-left m.mention xs ys m.among; name = m.name; sort = m.sort }

  mentioned-right : (xs ys : List Mention) (n : Name) → Mentioned ys n → Mentioned (xs ++ ys) n
  mentioned-right xs ys n m = record { mention = m.mention; among = in-right m.mention xs ys m.among; name = m.name; sort = m.sort }

  mutual
    statement-mentioned : (s : Statement) (open' : List Name) (n : Name) → IsIn n (naming.statement_loops s)
        → Mentioned (statement_loops loop open' s) n
    statement-mentioned Null open' n h = absurd h
    statement-mentioned (Assign target value) open' n h = absurd h
    statement-mentioned (If branches) open' n h = branches-mentioned branches open' n h
    statement-mentioned (For name low high body) open' n (inl e) = record { mention = loop name open'; among = inl refl; name = e; sort = refl }
    statement-mentioned (For name low high body) open' n (inr h) =
        let m = loops-mentioned body (name ∷ open') n h in record { mention = m.mention; among = inr m.among; name = m.name; sort = m.sort }
    statement-mentioned (ExitWhen e) open' n h = absurd h
    statement-mentioned (Call object op actuals) open' n h = absurd h
    statement-mentioned (Work k) open' n h = absurd h
    statement-mentioned (Put e) open' n h = absurd h

    pub loops-mentioned : (b : Statements) (open' : List Name) (n : Name) → IsIn n (naming.block_loops b) → Mentioned (block_loops loop open' b) n
    loops-mentioned End open' n h = absurd h
    loops-mentioned (Then first rest) open' n h =
        by (statement-mentioned first open' n) (loops-mentioned rest open' n) (in-cases (naming.statement_loops first) (naming.block_loops rest) n h)
      where
        by : (IsIn n (naming.statement_loops first) → Mentioned (statement_loops loop open' first) n)
            → (IsIn n (naming.block_loops rest) → Mentioned (block_loops loop open' rest) n)
            → IsIn n (naming.statement_loops first) ⊎ IsIn n (naming.block_loops rest)
            → Mentioned (statement_loops loop open' first ++ block_loops loop open' rest) n
        by f g (inl k) = mentioned-left (statement_loops loop open' first) (block_loops loop open' rest) n (f k)
        by f g (inr k) = mentioned-right (statement_loops loop open' first) (block_loops loop open' rest) n (g k)

    branches-mentioned : (bs : Branches) (open' : List Name) (n : Name) → IsIn n (naming.branch_loops bs) → Mentioned (branch_loops loop open' bs) n
    branches-mentioned Nothing open' n h = absurd h
    branches-mentioned (Else b) open' n h = loops-mentioned b open' n h
    branches-mentioned (When e b others) open' n h =
        by (loops-mentioned b open' n) (branches-mentioned others open' n) (in-cases (naming.block_loops b) (naming.branch_loops others) n h)
      where
        by : (IsIn n (naming.block_loops b) → Mentioned (block_loops loop open' b) n)
            → (IsIn n (naming.branch_loops others) → Mentioned (branch_loops loop open' others) n)
            → IsIn n (naming.block_loops b) ⊎ IsIn n (naming.branch_loops others)
            → Mentioned (block_loops loop open' b ++ branch_loops loop open' others) n
        by f g (inl k) = mentioned-left (block_loops loop open' b) (branch_loops loop open' others) n (f k)
        by f g (inr k) = mentioned-right (block_loops loop open' b) (branch_loops loop open' others) n (g k)
