-- What is marked of operations, by places, is what calls lead to.
use Rattle.std.proofs.Common.{◌≡◌, ℕ, zero, suc, ◌<◌, Bool, true, false, ◌&&◌, ◌||◌, ◌==◌, List, [], ◌∷◌, filter_map, get_or, length, nat_lt}
use Rattle.std.proofs.Common.{slice_get, Option, Some, None, inl, inr, refl, sym, ap, subst, ◌∙◌, arith}
use Rattle.std.specs.List.{cons_option, list_any}
use Rattle.std.proofs.lemmas.Bool.{and_from, and_parts, or_right}
use Rattle.std.proofs.lemmas.Option.{slice_get_within}
use Rattle.seq_tree.specs.Calls.{same_op}
use Rattle.seq_tree.specs.Rings.{LeadsTo}
use Rattle.seq_tree.specs.declared.tree.OpName.{OpName}
use Rattle.seq_tree.proofs.Shared.Walks.{same_op-eq, same_op-refl}
use Rattle.name_sets.proofs.Shared.PlaceLaws.{op-none-later, op-placed}
use Rattle.name_sets.specs.FirstPlaces.{op_place_from}
use Rattle.call_graph.proofs.Shared.EdgeLaws.{at-is, is-at, is_at}
use Rattle.rings.specs.Graphs.{has_number, is_step}
use Rattle.rings.specs.Reached.{IsReachedBy}
use Rattle.rings.proofs.Shared.NamedRings.{names_lead, one_name}
use Rattle.rings.proofs.Shared.Reaching.{reached-more}
use Rattle.ada_rules.specs.Callers.{Caller, IsFound, Makes, caller_edges, is_led_to, is_marked, makes, names}
use Rattle.ada_rules.proofs.PlaceLaws.{back, forth}
use Rattle.ada_rules.proofs.RingLaws.{any-mono, any-some, maker}
use Rattle.ada_rules.proofs.UnitLaws.{same_op-sym}

-- a test of what there is, as a test of what it is made of
any-taken : {A : Type 0} (g : A → Option ℕ) (xs : List A) (p : ℕ) → has_number (filter_map g xs) p ≡ list_any (λ x. is_at (g x) p) xs
any-taken {A} g [] p = refl
any-taken {A} g (x ∷ xs) p = by (g x) (any-taken g xs p)
  where
    by : (o : Option ℕ) → has_number (filter_map g xs) p ≡ list_any (λ y. is_at (g y) p) xs
        → has_number (cons_option o (filter_map g xs)) p ≡ (is_at o p || list_any (λ y. is_at (g y) p) xs)
    by None h = h
    by (Some q) h = ap (λ c. (q == p) || c) h

-- one call more at the end
further : (R : OpName → OpName → Type 0) (path : List OpName) (from mid to : OpName) → LeadsTo R from path mid → R mid to
    → (longer : List OpName) × LeadsTo R from longer to
further R [] from mid to first last = (mid ∷ [], (first, last))
further R (via ∷ path) from mid to leads last = let r = further R path via mid to leads.1 last in (via ∷ r.0, (leads.0, r.1))

pub name-at : (xs : List Caller) (i : ℕ) (c : Caller) → slice_get xs i ≡ Some c → slice_get (names xs) i ≡ Some c.name
name-at [] i c h = cc
name-at (x ∷ xs) zero c h = (let same : x ≡ c = cc in ap (λ (d : Caller). Some d.name) same)
name-at (x ∷ xs) (suc i) c h = name-at xs i c h

-- the operations of a program and their places
module _ (cs : List Caller) (place : OpName → Option ℕ) (placed : (n : OpName) → place n ≡ op_place_from 0 (names cs) n) where
  pub op-stands : (n : OpName) (p : ℕ) → place n ≡ Some p → slice_get (names cs) p ≡ Some n
  op-stands n p e =
      let r = op-placed 0 (names cs) n p (sym (placed n) ∙ e) in
      let k = r.1 in
      let same : r.0 ≡ p = omega (arith, k) in
      let P : ℕ → Type 0 = λ z. slice_get (names cs) z ≡ Some n in subst P same r.2

  -- what calls has a place
  pub op-source : (a b : OpName) → Makes cs a b → (p : ℕ) × (place a ≡ Some p)
  op-source a b h =
      let r = maker cs a b h in
      let l = op-none-later 0 (names cs) r.1.name r.0 (name-at cs r.0 r.1 r.2) in (l.0, ap place (sym r.3) ∙ placed r.1.name ∙ l.1)

  module _ (step : ℕ → ℕ → Bool) (stepped : (p q : ℕ) → step p q ≡ is_step (length (names cs)) (caller_edges place cs) p q) where
    pub op-forth : (a c : OpName) (p q : ℕ) → Makes cs a c → place a ≡ Some p → place c ≡ Some q → step p q ≡ true
    op-forth = forth (λ n. n) same_op same_op-eq same_op-refl cs place (names cs) op-stands step stepped

    pub op-back : (p q : ℕ) → step p q ≡ true → (a c : OpName) × (place a ≡ Some p) × (place c ≡ Some q) × Makes cs a c
    op-back = back (λ n. n) same_op same_op-eq same_op-refl cs place (names cs) op-stands step stepped

    module _ (begun : List OpName) (starts : List ℕ) (started : starts ≡ filter_map place begun) (count : ℕ)
        (counted : count ≡ length (names cs)) where
      abbrev is_start : ℕ → Bool
      is_start s = has_number starts s && nat_lt s count

      abbrev begins : OpName → Bool
      begins m = list_any (same_op m) begun

      start-of : (s : ℕ) → is_start s ≡ true → (m : OpName) × (begins m ≡ true) × (place m ≡ Some s)
      start-of s h =
          let number = ap (λ ns. has_number ns s) (sym started) ∙ (and_parts (has_number starts s) (nat_lt s count) h).0 in
          let r = any-some (λ m. is_at (place m) s) begun (sym (any-taken place begun s) ∙ number) in
          (r.0, r.2 (same_op r.0) (same_op-refl r.0), is-at (place r.0) s r.1)

      is-start : (m : OpName) (s : ℕ) → begins m ≡ true → place m ≡ Some s → is_start s ≡ true
      is-start m s h at =
          let within : s < length (names cs) = slice_get_within (names cs) s m (op-stands m s at) in
          and_from (has_number starts s) (nat_lt s count)
          (ap (λ ns. has_number ns s) started ∙ any-taken place begun s
          ∙ any-mono (same_op m) (λ k. is_at (place k) s) begun (λ k e. at-is (place k) s (ap place (sym (same_op-eq m k e)) ∙ at)) h)
          (let c = counted in grind (arith, within, c))

      -- what a place is reached from leads to its operation
      reached-found : (n : OpName) (q : ℕ) → place n ≡ Some q → IsReachedBy step is_start q → IsFound (Makes cs) begun n
      reached-found n q at (s, start, inl here) =
          let m = start-of s start in
          let same : n ≡ m.0 = one_name (names cs) place (Makes cs) step op-stands op-forth op-back op-source n m.0 s (at ∙ ap Some (sym here)) m.2 in
          let P : OpName → Type 0 = λ z. same_op z m.0 ≡ true in (m.0, m.1, inl (subst P (sym same) (same_op-refl m.0)))
      reached-found n q at (s, start, inr (steps, leads)) =
          let m = start-of s start in
          let r = names_lead (names cs) place (Makes cs) step op-stands op-forth op-back op-source steps s q leads in
          let from : r.0 ≡ m.0 = one_name (names cs) place (Makes cs) step op-stands op-forth op-back op-source r.0 m.0 s r.2 m.2 in
          let to : r.1 ≡ n = one_name (names cs) place (Makes cs) step op-stands op-forth op-back op-source r.1 n q r.3 at in
          let P : OpName → Type 0 = λ z. LeadsTo (Makes cs) z r.4.0 r.1 in
          let Q : OpName → Type 0 = λ z. LeadsTo (Makes cs) m.0 r.4.0 z in (m.0, m.1, inr (r.4.0, subst Q to (subst P from r.4.1)))

      module _ (marks : List Bool) (sound : (p : ℕ) → get_or marks p false ≡ true → IsReachedBy step is_start p)
          (complete : (p : ℕ) → IsReachedBy step is_start p → get_or marks p false ≡ true) (after : OpName → Bool)
          (added : (n : OpName) → after n ≡ (is_led_to place marks cs n || list_any (λ m. same_op m n) begun)) where
        call-on : (n m : OpName) → IsFound (Makes cs) begun m → Makes cs m n → IsFound (Makes cs) begun n
        call-on n m (s, start, inl same) call =
            let P : OpName → Type 0 = λ z. Makes cs z n in (s, start, inr ([], subst P (same_op-eq m s same) call))
        call-on n m (s, start, inr (path, leads)) call = let r = further (Makes cs) path s m n leads call in (s, start, inr (r.0, r.1))

        led-found : (n : OpName) → is_led_to place marks cs n ≡ true → IsFound (Makes cs) begun n
        led-found n h =
            let r = any-some (λ c. is_marked marks (place c.name) && list_any (λ k. same_op k n) c.calls) cs h in
            let parts = and_parts (is_marked marks (place r.0.name)) (list_any (λ k. same_op k n) r.0.calls) r.1 in
            let called : list_any (same_op n) r.0.calls ≡ true
            = any-mono (λ k. same_op k n) (same_op n) r.0.calls (λ k e. same_op-sym n k ∙ e) parts.1 in
            call-on n r.0.name (by r.0.name (place r.0.name) refl parts.0)
            (r.2 (makes r.0.name n) (and_from (same_op r.0.name r.0.name) (list_any (same_op n) r.0.calls) (same_op-refl r.0.name) called))
          where
            by : (m : OpName) (o : Option ℕ) → place m ≡ o → is_marked marks o ≡ true → IsFound (Makes cs) begun m
            by m None e l = cc
            by m (Some q) e l = reached-found m q e (sound q l)

        -- what is called at first, or at a place that is marked, is what calls lead to
        follow_sound : (n : OpName) → after n ≡ true → IsFound (Makes cs) begun n
        follow_sound n h = by (is_led_to place marks cs n) refl (sym (added n) ∙ h)
          where
            by : (t : Bool) → is_led_to place marks cs n ≡ t → (t || list_any (λ m. same_op m n) begun) ≡ true → IsFound (Makes cs) begun n
            by true e k = led-found n e
            by false e k = (n, any-mono (λ m. same_op m n) (same_op n) begun (λ m s. same_op-sym n m ∙ s) k, inl (same_op-refl n))

        call-led : (n m : OpName) (q : ℕ) → place m ≡ Some q → IsReachedBy step is_start q → Makes cs m n → is_led_to place marks cs n ≡ true
        call-led n m q at reached call =
            any-mono (makes m n) (λ c. is_marked marks (place c.name) && list_any (λ k. same_op k n) c.calls) cs each call
          where
            each : (c : Caller) → makes m n c ≡ true → (is_marked marks (place c.name) && list_any (λ k. same_op k n) c.calls) ≡ true
            each c h =
                let parts = and_parts (same_op c.name m) (list_any (same_op n) c.calls) h in
                and_from _ _ (ap (is_marked marks) (ap place (same_op-eq c.name m parts.0) ∙ at) ∙ complete q reached)
                (any-mono (same_op n) (λ k. same_op k n) c.calls (λ k e. same_op-sym k n ∙ e) parts.1)

        -- the last call of a path, and what leads to it
        led-by : (path : List OpName) (from n : OpName) (s : ℕ) → place from ≡ Some s → IsReachedBy step is_start s
            → LeadsTo (Makes cs) from path n → is_led_to place marks cs n ≡ true
        led-by [] from n s at reached call = call-led n from s at reached call
        led-by (via ∷ []) from n s at reached leads =
            let v = op-source via n leads.1 in
            call-led n via v.0 v.1 (reached-more step is_start s v.0 reached (op-forth from via s v.0 leads.0 at v.1)) leads.1
        led-by (via ∷ (next ∷ path)) from n s at reached leads =
            let v = op-source via next leads.1.0 in
            led-by (next ∷ path) via n v.0 v.1 (reached-more step is_start s v.0 reached (op-forth from via s v.0 leads.0 at v.1)) leads.1

        follow_complete : (n : OpName) → IsFound (Makes cs) begun n → after n ≡ true
        follow_complete n (m, start, inl same) =
            let P : OpName → Type 0 = λ z. list_any (same_op z) begun ≡ true in
            added n ∙ or_right (is_led_to place marks cs n) (list_any (λ k. same_op k n) begun)
            (any-mono (same_op n) (λ k. same_op k n) begun (λ k e. same_op-sym k n ∙ e) (subst P (sym (same_op-eq n m same)) start))
        follow_complete n (m, start, inr (path, leads)) = added n ∙ ap (λ b. b || list_any (λ k. same_op k n) begun) (by path leads)
          where
            begin : (s : ℕ) → place m ≡ Some s → IsReachedBy step is_start s
            begin s at = (s, is-start m s start at, inl refl)

            by : (rest : List OpName) → LeadsTo (Makes cs) m rest n → is_led_to place marks cs n ≡ true
            by [] l = (let p = op-source m n l in led-by [] m n p.0 p.1 (begin p.0 p.1) l)
            by (v ∷ rest) l = (let p = op-source m v l.0 in led-by (v ∷ rest) m n p.0 p.1 (begin p.0 p.1) l)

        pub follow_found : (n : OpName) → (after n ≡ true → IsFound (Makes cs) begun n) × (IsFound (Makes cs) begun n → after n ≡ true)
        follow_found n = (follow_sound n, follow_complete n)
