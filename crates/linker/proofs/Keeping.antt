-- Code that is filled place by place: what was written elsewhere stays.
use Rattle.std.proofs.Common.{◌≡◌, ◌⊎◌, inl, inr, ◌<◌, ◌≤◌, ℕ, suc, List, [], ◌∷◌, ◌++◌, Some, length, set, refl, ap, sym, subst, ◌∙◌, arith}
use Rattle.std.proofs.Common.{length-append, append_assoc, append-nil}
use Rattle.std.specs.Prelude.{slice_get}
use Rattle.std.proofs.lemmas.Bool.{cases_lt}
use Rattle.std.proofs.lemmas.Option.{slice_get_past, slice_get_within, slice_get-get_or, get_or_from_slice_get}
use Rattle.std.proofs.lemmas.List.{get_or_append_left, get_or-set_other, get_or-set_same, length-set}
use Rattle.std.proofs.Math.Seq.{get_or-append_seam}
use Rattle.seq_tree.specs.Expressions.{Expression}
use Rattle.seq_tree.specs.Values.{is_boolean}
use Rattle.seq_tree.specs.Variables.{Variables}
use Rattle.linker.specs.Nodes.{Grows}
use Rattle.linker.specs.declared.nodes.Operand.{Operand}
use Rattle.linker.proofs.Shared.Growths.{grows_none, grows_twice, linked_grown}
use Rattle.linker.specs.Linking.{Added, Filled, Fills, Keeps, Longer}
use Rattle.linker.specs.Standing.{Lists, Reads}
use Rattle.linker.specs.declared.code.Ins.{Ins}

-- an item stays where it is when others are added
pub get_more : {A : Type 0} (xs ys : List A) (k : ℕ) (x : A) → slice_get xs k ≡ Some x → slice_get (xs ++ ys) k ≡ Some x
get_more xs ys k x h =
    let lt = slice_get_within xs k x h in
    let whole : k < length (xs ++ ys) = omega (arith, lt, length-append xs ys) in
    subst (λ z. slice_get (xs ++ ys) k ≡ Some z) (get_or_append_left xs ys x k lt ∙ get_or_from_slice_get xs k x x h)
    (slice_get-get_or (xs ++ ys) k x whole)

-- the item that was added
pub get_last : {A : Type 0} (xs : List A) (x : A) → slice_get (xs ++ x ∷ []) (length xs) ≡ Some x
get_last xs x =
    let whole : length xs < length (xs ++ x ∷ []) = omega (arith, length-append xs (x ∷ [])) in
    subst (λ z. slice_get (xs ++ x ∷ []) (length xs) ≡ Some z) (get_or-append_seam xs x [] x) (slice_get-get_or (xs ++ x ∷ []) (length xs) x whole)

pub longer_none : (xs ys : List Operand) → ys ≡ xs → Longer xs ys
longer_none xs ys e = record { more = []; is = e ∙ sym (append-nil xs) }

pub longer_twice : (xs ys zs : List Operand) → Longer xs ys → Longer ys zs → Longer xs zs
longer_twice xs ys zs g h = record {
  more = g.more ++ h.more;
  is = h.is ∙ ap (λ z. z ++ h.more) g.is ∙ append_assoc xs g.more h.more;
}

pub longer_get : (xs ys : List Operand) (k : ℕ) (o : Operand) → Longer xs ys → slice_get xs k ≡ Some o → slice_get ys k ≡ Some o
longer_get xs ys k o g h = subst (λ z. slice_get z k ≡ Some o) (sym g.is) (get_more xs g.more k o h)

pub reads_grown : (c d : Lists) (scope : Variables) (o : Operand) (e : Expression) → Grows c.nodes d.nodes → Reads c scope o e → Reads d scope o e
reads_grown c d scope o e g h =
    let l = linked_grown c.nodes d.nodes scope (record { operand = o; is_boolean = is_boolean e }) e g
    (record { links = h.links; below = h.below; sort = refl }) in
    record { links = l.links; below = l.below }

pub added_none : (c : Lists) → Added c c
added_none c = record { same = refl; nodes = grows_none c.nodes c.nodes refl; actuals = longer_none c.actuals c.actuals refl }

pub added_twice : (c d e : Lists) → Added c d → Added d e → Added c e
added_twice c d e g h = record {
  same = h.same ∙ g.same;
  nodes = grows_twice c.nodes d.nodes e.nodes g.nodes h.nodes;
  actuals = longer_twice c.actuals d.actuals e.actuals g.actuals h.actuals;
}

pub filled_added : (a b : ℕ) (c d : Lists) → Added c d → Filled a b c d
filled_added a b c d g = record {
  long = ap length g.same;
  others = λ k side. ap (λ z. slice_get z k) g.same;
  nodes = g.nodes;
  actuals = g.actuals;
}

outside : (k lo hi a b : ℕ) → lo ≤ a → b ≤ hi → (k < lo) ⊎ (hi ≤ k) → (k < a) ⊎ (b ≤ k)
outside k lo hi a b low high (inl h) = inl (omega (arith, low, h))
outside k lo hi a b low high (inr h) = inr (omega (arith, high, h))

-- fillings of two parts
pub filled_then : (a b p q lo hi : ℕ) (c d e : Lists) → Filled a b c d → Filled p q d e → lo ≤ a → b ≤ hi → lo ≤ p → q ≤ hi → Filled lo hi c e
filled_then a b p q lo hi c d e f g la hb lp hq = record {
  long = g.long ∙ f.long;
  others = λ k side. g.others k (outside k lo hi p q lp hq side) ∙ f.others k (outside k lo hi a b la hb side);
  nodes = grows_twice c.nodes d.nodes e.nodes f.nodes g.nodes;
  actuals = longer_twice c.actuals d.actuals e.actuals f.actuals g.actuals;
}

pub filled_none : (a b : ℕ) (c : Lists) → Filled a b c c
filled_none a b c = filled_added a b c c (added_none c)

pub keeps_narrow : (a b lo hi : ℕ) (c d : Lists) → lo ≤ a → b ≤ hi → Keeps lo hi c d → Keeps a b c d
keeps_narrow a b lo hi c d low high k = record {
  same = λ i ge lt. k.same i (omega (arith, low, ge)) (omega (arith, high, lt));
  nodes = k.nodes;
  actuals = k.actuals;
}

beside : (i a b from to : ℕ) → (to ≤ a) ⊎ (b ≤ from) → from ≤ i → i < to → (i < a) ⊎ (b ≤ i)
beside i a b from to (inl h) ge lt = inl (omega (arith, h, lt))
beside i a b from to (inr h) ge lt = inr (omega (arith, h, ge))

-- what is kept after another part was filled was kept before
pub keeps_filled : (a b from to : ℕ) (c d e : Lists) → Filled a b c d → (to ≤ a) ⊎ (b ≤ from) → Keeps from to d e → Keeps from to c e
keeps_filled a b from to c d e f side k = record {
  same = λ i ge lt. k.same i ge lt ∙ f.others i (beside i a b from to side ge lt);
  nodes = grows_twice c.nodes d.nodes e.nodes f.nodes k.nodes;
  actuals = longer_twice c.actuals d.actuals e.actuals f.actuals k.actuals;
}

-- what was filled in stays
pub kept_there : (at lo hi : ℕ) (i : Ins) (c d e : Lists) → Fills at i c d → lo ≤ at → at < hi → Keeps lo hi d e → slice_get e.ins at ≡ Some i
kept_there at lo hi i c d e f low high k = k.same at low high ∙ f.there

-- what stood before others that were added
pub get_before : {A : Type 0} (xs ys : List A) (k : ℕ) → k < length xs → slice_get (xs ++ ys) k ≡ slice_get xs k
get_before [] ys k lt = absurd (omega (arith, lt))
get_before (x ∷ xs) ys k lt =
    get_more (x ∷ xs) ys k _ (slice_get-get_or (x ∷ xs) k x lt) ∙ sym (slice_get-get_or (x ∷ xs) k x lt)

set_same : (xs : List Ins) (at : ℕ) (i : Ins) → at < length xs → slice_get (set xs at i) at ≡ Some i
set_same xs at i lt =
    slice_get-get_or (set xs at i) at i (omega (arith, lt, length-set xs at i)) ∙ ap (λ z. Some z) (get_or-set_same xs at i i lt)

set_beside : (xs : List Ins) (at : ℕ) (i : Ins) (k : ℕ) → (k < length xs) ⊎ (length xs ≤ k) → (k < at) ⊎ (suc at ≤ k)
    → slice_get (set xs at i) k ≡ slice_get xs k
set_beside xs at i k (inl lt) (inl h) =
    slice_get-get_or (set xs at i) k i (omega (arith, lt, length-set xs at i)) ∙ ap (λ z. Some z) (get_or-set_other xs at k i i (omega (arith, h)))
    ∙ sym (slice_get-get_or xs k i lt)
set_beside xs at i k (inl lt) (inr h) =
    slice_get-get_or (set xs at i) k i (omega (arith, lt, length-set xs at i)) ∙ ap (λ z. Some z) (get_or-set_other xs at k i i (omega (arith, h)))
    ∙ sym (slice_get-get_or xs k i lt)
set_beside xs at i k (inr le) side =
    slice_get_past (set xs at i) k (omega (arith, le, length-set xs at i)) ∙ sym (slice_get_past xs k le)

-- one place was set
pub fills_set : (c d : Lists) (at : ℕ) (i : Ins) → at < length c.ins → d.ins ≡ set c.ins at i → d.nodes ≡ c.nodes → d.actuals ≡ c.actuals
    → Fills at i c d
fills_set c d at i lt is nodes actuals = record {
  filled = record {
    long = ap length is ∙ length-set c.ins at i;
    others = λ k side. ap (λ z. slice_get z k) is ∙ set_beside c.ins at i k (cases_lt k (length c.ins)) side;
    nodes = grows_none c.nodes d.nodes nodes;
    actuals = longer_none c.actuals d.actuals actuals;
  };
  there = ap (λ z. slice_get z at) is ∙ set_same c.ins at i lt;
}
