-- The names of bodies and threads, with what they cost beside them, tell the first that is too dear.
use Rattle.std.proofs.Common.{◌≡◌, ℕ, min, Bool, true, false, List, [], ◌∷◌, ◌++◌, map, refl, ap, ◌∙◌, sym, arith, Option, Some, None, option_map}
use Rattle.std.proofs.Common.{slice_get, suc, ◌+◌}
use Rattle.std.specs.Prelude.{find, nat_lt, nat_le, flat_map}
use Rattle.std.proofs.lemmas.List.{map-append}
use Rattle.seq_tree.specs.Limits.{tick_limit}
use Rattle.seq_tree.specs.Names.{Name}
use Rattle.seq_tree.specs.Operations.{Operation}
use Rattle.ods_tree.specs.Flats.{Library, Guarded, Thread, Flat}
use Rattle.rt_block.specs.Bases.{thread_cost}
use Rattle.rt_block.specs.PartCosts.{body_cost, part_costs}
use Rattle.call_graph.specs.Prices.{cap}
use Rattle.law_scaling.specs.Parts.{Part, most_ticks, body_part, thread_part, parts, first_dear}
use Rattle.law_scaling.proofs.Shared.Ranks.{map-map}
use Rattle.scaling.specs.PartNames.{PartName, body_name, thread_name, part_names, dear_among}
use Rattle.scaling.specs.Failures.{IsCheap, IsDear, IsNamed}
use Rattle.scaling.specs.declared.margin.Next.{Next}
use Rattle.scaling.specs.declared.margin.Next.TheVariants.{Limit, Cost, Miss}

abbrev pub named : Part → PartName
named p = (p.object, p.op)

abbrev pub cut : Part → ℕ
cut p = min cap p.ticks

module _ (g : Flat) where
  -- what is made of operations is made of their parts
  libraries-by : {B : Type 0} (t : Part → B) (h : Name → Operation → B) (ls : List Library)
      → ((object : Name) (o : Operation) → t (body_part g object o) ≡ h object o)
      → map t (flat_map (λ l. map (body_part g l.name) l.ops) ls) ≡ flat_map (λ l. map (h l.name) l.ops) ls
  libraries-by t h [] same = refl
  libraries-by t h (l ∷ ls) same =
      map-append t (map (body_part g l.name) l.ops) (flat_map (λ l. map (body_part g l.name) l.ops) ls)
      ∙ ap (λ xs. xs ++ map t (flat_map (λ l. map (body_part g l.name) l.ops) ls)) (map-map t (body_part g l.name) (h l.name) l.ops (same l.name))
      ∙ ap (λ xs. map (h l.name) l.ops ++ xs) (libraries-by t h ls same)

  guarded-by : {B : Type 0} (t : Part → B) (h : Name → Operation → B) (gs : List Guarded)
      → ((object : Name) (o : Operation) → t (body_part g object o) ≡ h object o)
      → map t (flat_map (λ l. map (body_part g l.name) l.ops) gs) ≡ flat_map (λ l. map (h l.name) l.ops) gs
  guarded-by t h [] same = refl
  guarded-by t h (l ∷ ls) same =
      map-append t (map (body_part g l.name) l.ops) (flat_map (λ l. map (body_part g l.name) l.ops) ls)
      ∙ ap (λ xs. xs ++ map t (flat_map (λ l. map (body_part g l.name) l.ops) ls)) (map-map t (body_part g l.name) (h l.name) l.ops (same l.name))
      ∙ ap (λ xs. map (h l.name) l.ops ++ xs) (guarded-by t h ls same)

  all-by : {B : Type 0} (t : Part → B) (h : Name → Operation → B) (k : Thread → B)
      → ((object : Name) (o : Operation) → t (body_part g object o) ≡ h object o) → ((u : Thread) → t (thread_part g u) ≡ k u)
      → map t (parts g)
      ≡ flat_map (λ l. map (h l.name) l.ops) g.passive ++ (flat_map (λ l. map (h l.name) l.ops) g.shared ++ map k g.threads)
  all-by t h k same each =
      let ls = flat_map (λ l. map (body_part g l.name) l.ops) g.passive in
      let gs = flat_map (λ l. map (body_part g l.name) l.ops) g.shared in
      map-append t ls (gs ++ map (thread_part g) g.threads)
      ∙ ap (λ xs. xs ++ map t (gs ++ map (thread_part g) g.threads)) (libraries-by t h g.passive same)
      ∙ ap (λ xs. flat_map (λ l. map (h l.name) l.ops) g.passive ++ xs)
      (map-append t gs (map (thread_part g) g.threads)
      ∙ ap (λ xs. xs ++ map t (map (thread_part g) g.threads)) (guarded-by t h g.shared same)
      ∙ ap (λ xs. flat_map (λ l. map (h l.name) l.ops) g.shared ++ xs) (map-map t (thread_part g) k g.threads each))

  names-are : map named (parts g) ≡ part_names g
  names-are = all-by named body_name thread_name (λ object o. refl) (λ u. refl)

  costs-are : map cut (parts g) ≡ part_costs g
  costs-are = all-by cut (λ object. body_cost g) (thread_cost g) (λ object o. refl) (λ u. refl)

-- whether a number is over the most is told when it is cut too
cheap-of : (n : ℕ) → nat_lt most_ticks n ≡ false → nat_le (min cap n) tick_limit ≡ true
cheap-of n e = grind (arith, e)

dear-of : (n : ℕ) → nat_lt most_ticks n ≡ true → nat_le (min cap n) tick_limit ≡ false
dear-of n e = grind (arith, e)

among-is : (ps : List Part) → dear_among (map named ps) (map cut ps) ≡ option_map named (find (λ p. nat_lt most_ticks p.ticks) ps)
among-is [] = refl
among-is (p ∷ ps) = by (nat_lt most_ticks p.ticks) refl (among-is ps)
  where
    further : (n : ℕ) → slice_get (named p ∷ map named ps) (1 + n) ≡ slice_get (map named ps) n
    further n = let more : 1 + n ≡ suc n = omega arith in ap (slice_get (named p ∷ map named ps)) more

    by : (b : Bool) → nat_lt most_ticks p.ticks ≡ b
        → dear_among (map named ps) (map cut ps) ≡ option_map named (find (λ p. nat_lt most_ticks p.ticks) ps)
        → dear_among (map named (p ∷ ps)) (map cut (p ∷ ps)) ≡ option_map named (find (λ p. nat_lt most_ticks p.ticks) (p ∷ ps))
    by true e rest = rw (e, dear-of p.ticks e) refl
    by false e rest = rw (e, cheap-of p.ticks e) (further _ ∙ rest)

-- the first that is too dear, by its names
pub dear-is : (g : Flat) → dear_among (part_names g) (part_costs g) ≡ option_map named (first_dear g)
dear-is g = ap (λ ns. dear_among ns (part_costs g)) (sym (names-are g)) ∙ ap (dear_among (map named (parts g))) (sym (costs-are g)) ∙ among-is (parts g)

pub none-dear : (g : Flat) → dear_among (part_names g) (part_costs g) ≡ None → first_dear g ≡ None
none-dear g e = by (first_dear g) (sym (dear-is g) ∙ e)
  where
    by : (o : Option Part) → option_map named o ≡ None → o ≡ None
    by None h = refl
    by (Some p) h = absurd (cc)

pub one-dear : (g : Flat) (n : PartName) (name : Name) (part : Option Name) → dear_among (part_names g) (part_costs g) ≡ Some n → name ≡ n.0
    → part ≡ n.1 → IsDear g name part
one-dear g n name part e first second = by (first_dear g) (sym (dear-is g) ∙ e)
  where
    by : (o : Option Part) → option_map named o ≡ Some n
        → (ticks : ℕ) × (o ≡ Some (record { object = name; op = part; ticks = ticks }))
    by None h = absurd (cc)
    by (Some p) h =
        let object : p.object ≡ name = ap (λ q. q.0) (some-same (named p) n h) ∙ sym first in
        let op : p.op ≡ part = ap (λ q. q.1) (some-same (named p) n h) ∙ sym second in (
          p.ticks,
          ap (λ (x : Name). let q : Part = record { object = x; op = p.op; ticks = p.ticks } in Some q) object
              ∙ ap (λ (x : Option Name). let q : Part = record { object = name; op = x; ticks = p.ticks } in Some q) op,
        )
      where
        some-same : (a b : PartName) → Some a ≡ Some b → a ≡ b
        some-same a b h = cc

pub named-dear : (g : Flat) (n : PartName) (next : Next) → dear_among (part_names g) (part_costs g) ≡ Some n → IsNamed n next → IsCheap g (Some next)
named-dear g n Limit e h = absurd h
named-dear g n (Cost name part) e h = one-dear g n name part e h.0 h.1
named-dear g n (Miss thread miss) e h = absurd h

-- lists that are those of a flat design
pub read-names : (g : Flat) (ns : List PartName) (cs : List ℕ) → ns ≡ part_names g → cs ≡ part_costs g
    → dear_among (part_names g) (part_costs g) ≡ dear_among ns cs
read-names g ns cs e h = sym (ap (λ xs. dear_among xs cs) e ∙ ap (dear_among (part_names g)) h)
