-- Rings by what is reached, by ranks that fall, and by another graph of the same edges.
use Rattle.std.proofs.Common.{◌≡◌, ℕ, ◌+◌, ◌<◌, ◌≤◌, Option, ◌==◌, Bool, true, false, not, ◌&&◌, ◌||◌, List, [], ◌∷◌, get_or, length, nat_le}
use Rattle.std.proofs.Common.{nat_lt, refl, sym, ap, subst, ◌∙◌, arith, inl, inr}
use Rattle.std.specs.List.{list_any}
use Rattle.std.proofs.lemmas.Bool.{eqb-true, eq-eqb, and_parts, and_from}
use Rattle.seq_tree.specs.Rings.{LeadsTo, IsOnRing}
use Rattle.rings.specs.Graphs.{has_number, is_step}
use Rattle.rings.specs.Ranks.{falls, is_before, stays}
use Rattle.rings.specs.Reached.{leads, Goes, IsReached, TellsRing}
use Rattle.rings.specs.declared.graph.Graph.{Graph}

-- paths of edges that are the same
pub same-paths : (f g : ℕ → ℕ → Bool) → ((a b : ℕ) → f a b ≡ g a b) → (a : ℕ) (path : List ℕ) (b : ℕ) → LeadsTo (Goes f) a path b
    → LeadsTo (Goes g) a path b
same-paths f g same a [] b h = sym (same a b) ∙ h
same-paths f g same a (via ∷ path) b h = (sym (same a via) ∙ h.0, same-paths f g same via path b h.1)

pub same-ring : (f g : ℕ → ℕ → Bool) → ((a b : ℕ) → f a b ≡ g a b) → (n : ℕ) → IsOnRing (Goes f) n → IsOnRing (Goes g) n
same-ring f g same n (path, h) = (path, same-paths f g same n path n h)

-- a node is on a ring where it is reached from its targets
pub tells-ring : (g : Graph) (node : ℕ) (targets : List ℕ) → ((b : ℕ) → has_number targets b ≡ leads g node b) → (t : Bool)
    → (t ≡ true → IsReached g targets node) → (IsReached g targets node → t ≡ true)
    → TellsRing (leads g) node t
tells-ring g node targets at true sound complete = by (sound refl)
  where
    by : IsReached g targets node → IsOnRing (Goes (leads g)) node
    by (s, is, inl here) =
        let P : ℕ → Type 0 = λ z. leads g node z ≡ true in ([], subst P here (sym (at s) ∙ (and_parts (has_number targets s) (nat_lt s g.count) is).0))
    by (s, is, inr (path, l)) = (s ∷ path, (sym (at s) ∙ (and_parts (has_number targets s) (nat_lt s g.count) is).0, l))
tells-ring g node targets at false sound complete = λ ring. let z : false ≡ true = complete (go ring) in cc
  where
    start : (s : ℕ) → leads g node s ≡ true → has_number targets s && nat_lt s g.count ≡ true
    start s l = and_from _ _ (at s ∙ l) (let k : s < g.count = g.inside node s l in grind (arith, k))

    go : IsOnRing (Goes (leads g)) node → IsReached g targets node
    go ([], l) = (node, start node l, inl refl)
    go (via ∷ path, l) = (via, start via l.0, inr (path, l.1))

-- an edge that a test doesn't take
none-taken : (test : ℕ × ℕ → Bool) (hit : ℕ × ℕ → Bool) (es : List (ℕ × ℕ)) → list_any test es ≡ false → list_any hit es ≡ true
    → (e : ℕ × ℕ) × (hit e ≡ true) × (test e ≡ false)
none-taken test hit [] n h = (let z : false ≡ true = h in cc)
none-taken test hit (e ∷ es) n h = by (none-taken test hit es) (test e) refl (hit e) refl n h
  where
    by : (list_any test es ≡ false → list_any hit es ≡ true → (d : ℕ × ℕ) × (hit d ≡ true) × (test d ≡ false)) → (t : Bool) → test e ≡ t → (k : Bool)
        → hit e ≡ k → (t || list_any test es) ≡ false → (k || list_any hit es) ≡ true → (d : ℕ × ℕ) × (hit d ≡ true) × (test d ≡ false)
    by rest true p k q a b = (let z : true ≡ false = a in cc)
    by rest false p true q a b = (e, q, p)
    by rest false p false q a b = rest a b

step-untaken : (test : ℕ → ℕ → Bool) (count : ℕ) (es : List (ℕ × ℕ)) → list_any (λ e. test e.0 e.1) es ≡ false → (a b : ℕ)
    → is_step count es a b ≡ true → test a b ≡ false
step-untaken test count es none a b h =
    let r = none-taken (λ e. test e.0 e.1) (λ e. e.0 == a && e.1 == b) es none
    (and_parts (nat_lt b count) (list_any (λ e. e.0 == a && e.1 == b) es) h).1 in
    let ends = and_parts (r.0.0 == a) (r.0.1 == b) r.1 in
    ap (λ z. test z b) (sym (eqb-true r.0.0 a ends.0)) ∙ ap (λ z. test r.0.0 z) (sym (eqb-true r.0.1 b ends.1)) ∙ r.2

step-inside : (count : ℕ) (es : List (ℕ × ℕ)) (a b : ℕ) → is_step count es a b ≡ true → nat_lt b count ≡ true
step-inside count es a b h = (and_parts (nat_lt b count) (list_any (λ e. e.0 == a && e.1 == b) es) h).0

-- where no edge leads to a lower rank, no path does, and an edge of a ring stays at a rank
module _ (count : ℕ) (ranks : List ℕ) (es : List (ℕ × ℕ)) (none : list_any (falls count ranks) es ≡ false) where
  step-keeps : (a b : ℕ) → is_step count es a b ≡ true → get_or ranks a 0 ≤ get_or ranks b 0
  step-keeps a b h =
      let low : (nat_lt b count && nat_lt (get_or ranks b 0) (get_or ranks a 0)) ≡ false =
      step-untaken (λ p q. nat_lt q count && nat_lt (get_or ranks q 0) (get_or ranks p 0)) count es none a b h in
      let k : nat_lt (get_or ranks b 0) (get_or ranks a 0) ≡ false
      = sym (ap (λ t. t && nat_lt (get_or ranks b 0) (get_or ranks a 0)) (step-inside count es a b h)) ∙ low in
      grind (arith, k)

  path-keeps : (path : List ℕ) (a b : ℕ) → LeadsTo (Goes (is_step count es)) a path b → get_or ranks a 0 ≤ get_or ranks b 0
  path-keeps [] a b h = step-keeps a b h
  path-keeps (via ∷ path) a b h = let x = step-keeps a via h.0 in let y = path-keeps path via b h.1 in omega (arith, x, y)

  ring-level : (n : ℕ) → IsOnRing (Goes (is_step count es)) n → (via : ℕ) × (is_step count es n via ≡ true) × (get_or ranks n 0 ≡ get_or ranks via 0)
  ring-level n ([], h) = (n, h, refl)
  ring-level n (via ∷ path, h) = let x = step-keeps n via h.0 in let y = path-keeps path via n h.1 in (via, h.0, omega (arith, x, y))

  ring-stays : (n : ℕ) → IsOnRing (Goes (is_step count es)) n → list_any (stays count ranks n) es ≡ true
  ring-stays n ring = by (list_any (stays count ranks n) es) refl
    where
      by : (t : Bool) → list_any (stays count ranks n) es ≡ t → list_any (stays count ranks n) es ≡ true
      by true e = e
      by false e =
          let r = ring-level n ring in
          let no : ((nat_lt r.0 count && get_or ranks n 0 == get_or ranks r.0 0) && nat_le n n) ≡ false =
          step-untaken (λ p q. (nat_lt q count && get_or ranks p 0 == get_or ranks q 0) && nat_le p n) count es e n r.0 r.1 in
          let level = and_from (nat_lt r.0 count) (get_or ranks n 0 == get_or ranks r.0 0) (step-inside count es n r.0 r.1)
          (eq-eqb (get_or ranks n 0) (get_or ranks r.0 0) r.2) in
          let yes = and_from (nat_lt r.0 count && get_or ranks n 0 == get_or ranks r.0 0) (nat_le n n) level (grind arith) in
          let z : true ≡ false = sym yes ∙ no in cc

  -- no node before the first that such an edge leaves is on a ring
  pub none-before : (first : Option ℕ) → ((n : ℕ) → is_before n first ≡ not (list_any (stays count ranks n) es)) → (n : ℕ) → is_before n first ≡ true
      → IsOnRing (Goes (is_step count es)) n → ⊥
  none-before first is n before ring = let z : true ≡ false = sym before ∙ is n ∙ ap not (ring-stays n ring) in cc

-- a node on a ring is one of the nodes
pub ring-inside : (count : ℕ) (es : List (ℕ × ℕ)) (n : ℕ) → IsOnRing (Goes (is_step count es)) n → n < count
ring-inside count es n (path, h) = last path n h
  where
    inside : (a b : ℕ) → is_step count es a b ≡ true → b < count
    inside a b s = let k = (and_parts (nat_lt b count) (list_any (λ e. e.0 == a && e.1 == b) es) s).0 in grind (arith, k)

    last : (p : List ℕ) (a : ℕ) → LeadsTo (Goes (is_step count es)) a p n → n < count
    last [] a l = inside a n l
    last (via ∷ p) a l = last p via l.1

-- what is told of a ring
pub told-ring : (step : ℕ → ℕ → Bool) (n : ℕ) (t : Bool) → TellsRing step n t → t ≡ true → IsOnRing (Goes step) n
told-ring step n true h e = h
told-ring step n false h e = cc

pub told-none : (step : ℕ → ℕ → Bool) (n : ℕ) (t : Bool) → TellsRing step n t → t ≡ false → IsOnRing (Goes step) n → ⊥
told-none step n true h e = cc
told-none step n false h e = h

pub no-items : (xs : List ℕ) → length xs ≡ 0 → xs ≡ []
no-items [] h = refl
no-items (x ∷ xs) h = cc

-- one node more that is on no ring
pub no-more : (step : ℕ → ℕ → Bool) (m : ℕ) → ((n : ℕ) → n < m → IsOnRing (Goes step) n → ⊥) → (IsOnRing (Goes step) m → ⊥) → (n : ℕ) → n < m + 1
    → IsOnRing (Goes step) n → ⊥
no-more step m before none n below ring = by (n == m) refl
  where
    by : (t : Bool) → (n == m) ≡ t → ⊥
    by true e = let P : ℕ → Type 0 = λ z. IsOnRing (Goes step) z in none (subst P (eqb-true n m e) ring)
    by false e = before n (grind (arith, below, e)) ring
