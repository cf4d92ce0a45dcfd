-- Priorities and ceilings of a program that meets the rules are at least 1.
use Rattle.std.specs.Prelude.{◌≡◌, ℕ, ◌≤◌, ◌||◌, false, nat_lt, Some, option_map, unwrap_or}
use Rattle.std.proofs.Common.{sym, ◌∙◌, ap, arith}
use Rattle.std.proofs.lemmas.Bool.{or_parts}
use Rattle.std.proofs.lemmas.Option.{none-some, same_Some}
use Rattle.seq_tree.specs.Limits.{tick_limit}
use Rattle.seq_tree.specs.Names.{Name, same_name}
use Rattle.seq_tree.specs.Lists.{Each}
use Rattle.ods_tree.specs.Flats.{Guarded}
use Rattle.ada_tree.specs.Programs.{Form, Unit, Program, Passive, Shared, Cyclic, Sporadic}
use Rattle.ada_tree.specs.Ranges.{is_outside, jitter_breaks, numbers_break}
use Rattle.ada_tree.specs.Rules.{MeetsRules}
use Rattle.guarantee.specs.Software.{Task, guarded_by, task_by, program_software}
use Rattle.guarantee.specs.ResponseLaw.{Ranked, ranked, priority_of, ceiling_of, ceiling_named}
use Rattle.law_calls.proofs.Shared.Apart.{one-unit}
use Rattle.law_calls.proofs.Shared.UnitRules.{numbers-kept}
use Rattle.law_lists.proofs.Shared.Facts.{same-self, same-is}
use Rattle.law_lists.proofs.Shared.Lists.{IsIn, each-in, in-made, found-in, place-of}
use Rattle.law_designs.proofs.Shared.Lists.{found-some}

some : (n : ℕ) → is_outside 1 60 n ≡ false → 1 ≤ n
some n e = let h : nat_lt n 1 ≡ false = (or_parts (nat_lt n 1) (nat_lt 60 n) e).0 in grind arith

module _ (p : Program) (meets : MeetsRules p) where
  numbers : (u : Unit) → IsIn u p.units → numbers_break u.form ≡ false
  numbers u h = let k = place-of u p.units h in numbers-kept p meets k.0 u k.1

  pub priorities-some : Each (λ u. 1 ≤ u.priority) (ranked p)
  priorities-some = each-in (λ u. 1 ≤ u.priority) (ranked p) (λ u h.
      let r = in-made (λ w. option_map (λ t. let z : Ranked = record { task = t; priority = priority_of w.form } in z)
      (task_by w.name w.form)) p.units u h in
      by r.0.name r.0.form u (numbers r.0 r.1) r.2)
    where
      same : (t : Task) (n : ℕ) (u : Ranked) → Some (let z : Ranked = record { task = t; priority = n } in z) ≡ Some u → is_outside 1 60 n ≡ false
          → 1 ≤ u.priority
      same t n u e h =
          let q : n ≡ u.priority = ap (λ (z : Ranked). z.priority) (same_Some (let z : Ranked = record { task = t; priority = n } in z) u e) in
          let l = some n h in omega (arith, q, l)

      by : (name : Name) (f : Form) (u : Ranked) → numbers_break f ≡ false
          → option_map (λ t. let z : Ranked = record { task = t; priority = priority_of f } in z) (task_by name f) ≡ Some u → 1 ≤ u.priority
      by name (Passive ops) u h e = absurd (none-some u e)
      by name (Shared ceiling vars ops) u h e = absurd (none-some u e)
      by name (Cyclic priority offset period vars block) u h e =
          let one = or_parts (is_outside 1 60 priority || is_outside 1 tick_limit period) (nat_lt tick_limit offset) h in
          same _ priority u e (or_parts (is_outside 1 60 priority) (is_outside 1 tick_limit period) one.0).0
      by name (Sporadic priority ceiling op separation jitter external vars block) u h e =
          let a = or_parts (is_outside 1 60 priority || is_outside 1 60 ceiling || is_outside 1 tick_limit separation
          || jitter_breaks external separation jitter) (nat_lt ceiling priority) h in
          let c = or_parts (is_outside 1 60 priority || is_outside 1 60 ceiling || is_outside 1 tick_limit separation)
          (jitter_breaks external separation jitter) a.0 in
          let d = or_parts (is_outside 1 60 priority || is_outside 1 60 ceiling) (is_outside 1 tick_limit separation) c.0 in
          same _ priority u e (or_parts (is_outside 1 60 priority) (is_outside 1 60 ceiling) d.0).0

  pub ceilings-some : Each (λ g. 1 ≤ ceiling_named p g.name) (program_software p).shared
  ceilings-some = each-in (λ g. 1 ≤ ceiling_named p g.name) (program_software p).shared (λ g h.
      let r = in-made (λ w. guarded_by w.name w.form) p.units g h in by r.0 g r.1 r.2)
    where
      named : (name : Name) (f : Form) (g : Guarded) → guarded_by name f ≡ Some g → name ≡ g.name
      named name (Passive ops) g e = absurd (none-some g e)
      named name (Shared ceiling vars ops) g e = ap (λ (z : Guarded). z.name) (same_Some _ g e)
      named name (Cyclic priority offset period vars block) g e = absurd (none-some g e)
      named name (Sporadic priority ceiling op separation jitter external vars block) g e = absurd (none-some g e)

      least : (name : Name) (f : Form) (g : Guarded) → guarded_by name f ≡ Some g → numbers_break f ≡ false → 1 ≤ ceiling_of f
      least name (Passive ops) g e h = absurd (none-some g e)
      least name (Shared ceiling vars ops) g e h = some ceiling h
      least name (Cyclic priority offset period vars block) g e h = absurd (none-some g e)
      least name (Sporadic priority ceiling op separation jitter external vars block) g e h = absurd (none-some g e)

      by : (u : Unit) (g : Guarded) → IsIn u p.units → guarded_by u.name u.form ≡ Some g → 1 ≤ ceiling_named p g.name
      by u g h e =
          let n = named u.name u.form g e in
          let f = found-some (λ (w : Unit). same_name w.name g.name) p.units u h (ap (λ m. same_name m g.name) n ∙ same-self g.name) in
          let i = found-in (λ (w : Unit). same_name w.name g.name) p.units f.0 f.1 in
          let one : f.0 ≡ u = one-unit p meets f.0 u i.0 h (same-is f.0.name g.name i.1 ∙ sym n) in
          let l = least u.name u.form g e (numbers u h) in
          let q : ceiling_named p g.name ≡ ceiling_of u.form =
          ap (λ o. unwrap_or (option_map (λ (w : Unit). ceiling_of w.form) o) 0) f.1 ∙ ap (λ (w : Unit). ceiling_of w.form) one in
          omega (arith, q, l)
