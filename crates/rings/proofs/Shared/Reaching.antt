-- Marks of what is reached: they are sound and, where no node is left to be taken up, complete.
use Rattle.std.proofs.Common.{◌≡◌, ℕ, ◌<◌, ◌==◌, Bool, true, false, not, ◌&&◌, ◌||◌, List, [], ◌∷◌, ◌++◌, get_or, nat_lt, length, refl, sym, ap}
use Rattle.std.proofs.Common.{subst, ◌∙◌, arith, inl, inr, ◌⊎◌}
use Rattle.std.proofs.lemmas.Bool.{eqb-true, eq-eqb, or_cases, or_left, or_right, and_parts, and_from}
use Rattle.std.proofs.lemmas.List.Folds.{list_any-append}
use Rattle.seq_tree.specs.Rings.{LeadsTo}
use Rattle.rings.specs.Graphs.{has_number, targets_at}
use Rattle.rings.specs.Reached.{leads, Goes, IsReachedBy}
use Rattle.rings.specs.declared.graph.Graph.{Graph}

-- one edge more at the end
pub further : (step : ℕ → ℕ → Bool) (path : List ℕ) (from mid to : ℕ) → LeadsTo (Goes step) from path mid → step mid to ≡ true
    → (longer : List ℕ) × LeadsTo (Goes step) from longer to
further step [] from mid to h last = (mid ∷ [], (h, last))
further step (via ∷ path) from mid to h last = let r = further step path via mid to h.1 last in (via ∷ r.0, (h.0, r.1))

pub reached-more : (step : ℕ → ℕ → Bool) (starts : ℕ → Bool) (a b : ℕ) → IsReachedBy step starts a → step a b ≡ true → IsReachedBy step starts b
reached-more step starts a b (s, is, inl here) edge = let P : ℕ → Type 0 = λ z. step z b ≡ true in (s, is, inr ([], subst P (sym here) edge))
reached-more step starts a b (s, is, inr (path, leads)) edge = let r = further step path s a b leads edge in (s, is, inr (r.0, r.1))

-- marks and what is to be taken up, by tests
pub record Marked (step : ℕ → ℕ → Bool) (starts marks todo : ℕ → Bool) : Type 0 where
  pub started : (n : ℕ) → starts n ≡ true → marks n ≡ true
  pub sound : (n : ℕ) → marks n ≡ true → IsReachedBy step starts n
  pub listed : (n : ℕ) → todo n ≡ true → marks n ≡ true
  pub closed : (a b : ℕ) → marks a ≡ true → step a b ≡ true → (marks b || todo a) ≡ true

-- a node is taken up, and what it leads to is marked
pub taken : (step : ℕ → ℕ → Bool) (starts marks todo more rest after : ℕ → Bool) (node : ℕ) → Marked step starts marks todo
    → ((n : ℕ) → todo n ≡ (rest n || node == n)) → ((n : ℕ) → more n ≡ (marks n || step node n))
    → ((n : ℕ) → after n ≡ (rest n || (more n && not (marks n))))
    → Marked step starts more after
taken step starts marks todo more rest after node m split grown left =
    record { started = λ n h. old n (m.started n h); sound = sound; listed = listed; closed = closed }
  where
    old : (n : ℕ) → marks n ≡ true → more n ≡ true
    old n h = grown n ∙ or_left (marks n) (step node n) h

    here : marks node ≡ true
    here = m.listed node (split node ∙ or_right (rest node) (node == node) (eq-eqb node node refl))

    sound : (n : ℕ) → more n ≡ true → IsReachedBy step starts n
    sound n h = by (or_cases (marks n) (step node n) (sym (grown n) ∙ h))
      where
        by : (marks n ≡ true) ⊎ (step node n ≡ true) → IsReachedBy step starts n
        by (inl k) = m.sound n k
        by (inr k) = reached-more step starts node n (m.sound node here) k

    listed : (n : ℕ) → after n ≡ true → more n ≡ true
    listed n h = by (or_cases (rest n) (more n && not (marks n)) (sym (left n) ∙ h))
      where
        by : (rest n ≡ true) ⊎ ((more n && not (marks n)) ≡ true) → more n ≡ true
        by (inl k) = old n (m.listed n (split n ∙ or_left (rest n) (node == n) k))
        by (inr k) = (and_parts (more n) (not (marks n)) k).0

    closed : (a b : ℕ) → more a ≡ true → step a b ≡ true → (more b || after a) ≡ true
    closed a b h edge = by (marks a) refl
      where
        go : (todo a ≡ true) → (rest a ≡ true) ⊎ ((node == a) ≡ true) → (more b || after a) ≡ true
        go t (inl k) = or_right (more b) (after a) (left a ∙ or_left (rest a) (more a && not (marks a)) k)
        go t (inr k) = let P : ℕ → Type 0 = λ z. step z b ≡ true
            in or_left (more b) (after a) (grown b ∙ or_right (marks b) (step node b) (subst P (sym (eqb-true node a k)) edge))

        cases : (marks b ≡ true) ⊎ (todo a ≡ true) → (more b || after a) ≡ true
        cases (inl k) = or_left (more b) (after a) (old b k)
        cases (inr k) = go k (or_cases (rest a) (node == a) (sym (split a) ∙ k))

        by : (t : Bool) → marks a ≡ t → (more b || after a) ≡ true
        by true e = cases (or_cases (marks b) (todo a) (m.closed a b e edge))
        by false e = or_right (more b) (after a) (left a ∙ or_right (rest a) (more a && not (marks a))
            (and_from (more a) (not (marks a)) h (ap not e)))

-- where nothing is left to be taken up, all that is reached is marked
pub complete : (step : ℕ → ℕ → Bool) (starts marks todo : ℕ → Bool) → Marked step starts marks todo → ((n : ℕ) → todo n ≡ false) → (n : ℕ)
    → IsReachedBy step starts n → marks n ≡ true
complete step starts marks todo m none n (s, is, inl here) = let P : ℕ → Type 0 = λ z. marks z ≡ true in subst P here (m.started s is)
complete step starts marks todo m none n (s, is, inr (path, leads)) = along path s (m.started s is) leads
  where
    next : (a b : ℕ) → marks a ≡ true → step a b ≡ true → marks b ≡ true
    next a b h edge = by (or_cases (marks b) (todo a) (m.closed a b h edge))
      where
        by : (marks b ≡ true) ⊎ (todo a ≡ true) → marks b ≡ true
        by (inl k) = k
        by (inr k) = (let z : false ≡ true = sym (none a) ∙ k in cc)

    along : (p : List ℕ) (a : ℕ) → marks a ≡ true → LeadsTo (Goes step) a p n → marks n ≡ true
    along [] a h l = next a n h l
    along (via ∷ p) a h l = along p via (next a via h l.0) l.1

-- the marks of a graph as lists
abbrev pub Reaching : Graph → List ℕ → List Bool → List ℕ → Type 0
Reaching g starts marks todo = Marked (leads g) (λ s. has_number starts s && nat_lt s g.count) (λ n. get_or marks n false) (has_number todo)

-- the last of a list, and those before it
pub has-last : (xs ys : List ℕ) (m : ℕ) → xs ≡ ys ++ m ∷ [] → (n : ℕ) → has_number xs n ≡ (has_number ys n || m == n)
has-last xs ys m e n = ap (λ zs. has_number zs n) e ∙ list_any-append (λ k. k == n) ys (m ∷ []) ∙ ap (λ b. has_number ys n || b) (or-false (m == n))
  where
    or-false : (b : Bool) → (b || false) ≡ b
    or-false true = refl
    or-false false = refl

inside-and : (b : Bool) (n len : ℕ) → (b ≡ true → n < len) → (b && nat_lt n len) ≡ b
inside-and true n len h = let k = h refl in grind (arith, k)
inside-and false n len h = refl

-- what a node leads to is marked
pub marks-grow : (g : Graph) (node : ℕ) (targets : List ℕ) (old more : List Bool) → targets ≡ targets_at g.targets node → length old ≡ g.count
    → ((n : ℕ) → get_or more n false ≡ (get_or old n false || (has_number targets n && nat_lt n (length old))))
    → (n : ℕ) → get_or more n false ≡ (get_or old n false || leads g node n)
marks-grow g node targets old more at len made n =
    made n ∙ ap (λ ts. get_or old n false || (has_number ts n && nat_lt n (length old))) at ∙ ap
    (λ k. get_or old n false || (leads g node n && nat_lt n k)) len
    ∙ ap (λ b. get_or old n false || b) (inside-and (leads g node n) n g.count (g.inside node n))
