-- A design that holds at so many per mille holds at less, and a sound one is nowhere too dear at one per mille.
use Rattle.std.proofs.Common.{◌≡◌, ◌≤◌, ℕ, Bool, true, false, List, [], ◌∷◌, map, refl, ap, ◌∙◌, Option, Some, None, le_refl}
use Rattle.std.specs.Prelude.{if◌then◌else◌}
use Rattle.seq_tree.specs.Names.{Name, same_name}
use Rattle.seq_tree.specs.Statements.{Statements}
use Rattle.seq_tree.specs.Operations.{Operation}
use Rattle.ods_tree.specs.Flats.{Library, Guarded, Thread, Flat}
use Rattle.analysis.specs.Sound.{IsSound}
use Rattle.analysis.specs.Tables.{table}
use Rattle.law_scaling.specs.Working.{reworked_op, reworked_library, reworked_guarded, reworked_thread, reworked}
use Rattle.law_scaling.specs.Scaling.{scaled_in, ticks_at, work_of}
use Rattle.law_scaling.specs.Parts.{first_dear}
use Rattle.law_scaling.specs.Holding.{HoldsIn, HoldsWith}
use Rattle.law_scaling.proofs.Shared.Blocks.{block-same}
use Rattle.law_scaling.proofs.Ticks.{ticks-grow, ticks-least}
use Rattle.law_scaling.proofs.Shared.Cheap.{cheap-less, sound-cheap}
use Rattle.law_scaling.proofs.Tables.{table-more}
use Rattle.law_scaling.proofs.Solutions.{fits-less}

map-same : {A : Type 0} (g : A → A) (xs : List A) → ((x : A) → g x ≡ x) → map g xs ≡ xs
map-same g [] same = refl
map-same g (x ∷ xs) same = ap (λ y. y ∷ map g xs) (same x) ∙ ap (λ z. x ∷ z) (map-same g xs same)

-- a design whose `work` is as it was is the same
abbrev as_it_was : Name → ℕ → ℕ
as_it_was object ticks = ticks

op-same : (o : Operation) → reworked_op (λ n. n) o ≡ o
op-same o = ap (λ (b : Statements). let p : Operation = record { sig = o.sig; locals = o.locals; block = b } in p) (block-same o.block)

library-same : (l : Library) → reworked_library as_it_was l ≡ l
library-same l = ap (λ (os : List Operation). let m : Library = record { name = l.name; ops = os } in m) (map-same (reworked_op (λ n. n)) l.ops op-same)

guarded-same : (g : Guarded) → reworked_guarded as_it_was g ≡ g
guarded-same g =
    ap (λ (os : List Operation). let h : Guarded = record { name = g.name; vars = g.vars; ops = os } in h) (map-same (reworked_op (λ n. n)) g.ops op-same)

thread-same : (t : Thread) → reworked_thread as_it_was t ≡ t
thread-same t =
    ap (λ (b : Statements). let u : Thread = record { name = t.name; timing = t.timing; deadline = t.deadline; vars = t.vars; block = b } in u)
    (block-same t.block)

pub design-same : (f : Flat) → reworked as_it_was f ≡ f
design-same f =
    let made : List Library → List Guarded → List Thread → Flat =
    λ ls gs ts. record { name = f.name; costs = f.costs; passive = ls; shared = gs; threads = ts } in
    ap (λ ls. made ls (map (reworked_guarded as_it_was) f.shared) (map (reworked_thread as_it_was) f.threads))
    (map-same (reworked_library as_it_was) f.passive library-same)
    ∙ ap (λ gs. made f.passive gs (map (reworked_thread as_it_was) f.threads)) (map-same (reworked_guarded as_it_was) f.shared guarded-same)
    ∙ ap (made f.passive f.shared) (map-same (reworked_thread as_it_was) f.threads thread-same)

-- the change at less per mille is nowhere above, and that at one per mille takes no more than the design itself
chosen-grows : (j k : ℕ) (b : Bool) (n : ℕ) → j ≤ k → ticks_at (if b then Some j else None) n ≤ ticks_at (if b then Some k else None) n
chosen-grows j k true n less = ticks-grow j k n less
chosen-grows j k false n less = le_refl n

pub work-grows : (only : Option Name) (j k : ℕ) → j ≤ k → (object : Name) (n : ℕ) → work_of only j object n ≤ work_of only k object n
work-grows None j k less object n = ticks-grow j k n less
work-grows (Some name) j k less object n = chosen-grows j k (same_name object name) n less

chosen-least : (b : Bool) (n : ℕ) → ticks_at (if b then Some 1 else None) n ≤ n
chosen-least true n = ticks-least n
chosen-least false n = le_refl n

work-least : (only : Option Name) (object : Name) (n : ℕ) → work_of only 1 object n ≤ n
work-least None object n = ticks-least n
work-least (Some name) object n = chosen-least (same_name object name) n

pub least-cheap : (only : Option Name) (f : Flat) → IsSound f → first_dear (scaled_in only 1 f) ≡ None
least-cheap only f sound = cheap-less f (work_of only 1) as_it_was (work-least only) (ap first_dear (design-same f) ∙ sound-cheap f sound)

-- less `work` holds where more does
pub holds-below : (f : Flat) (v w : Name → ℕ → ℕ) → ((object : Name) (n : ℕ) → v object n ≤ w object n) → HoldsWith f w → HoldsWith f v
holds-below f v w less h = record {
  cheap = cheap-less f v w less h.cheap;
  bounds = h.bounds;
  fits = fits-less (table (reworked v f)).rows (table (reworked w f)).rows h.bounds (table-more f v w less) h.fits;
}

pub holds-less : (only : Option Name) (f : Flat) (j k : ℕ) → j ≤ k → HoldsIn only f k → HoldsIn only f j
holds-less only f j k less h = holds-below f (work_of only j) (work_of only k) (work-grows only j k less) h
