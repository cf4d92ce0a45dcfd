-- Examples of what a page gathers, with a page that loses a byte, of how runs end, and of files that are held.
use Rattle.std.proofs.Common.{◌≡◌, ◌++◌, length, Some, refl, sym, ap, subst, arith}
use Rattle.std.specs.Prelude.{List, [], ◌∷◌, ◌≤◌, codes, None}
use Rattle.ada_tree.specs.Programs.{Program}
use Rattle.trace_tree.specs.declared.event.Event.{Event}
use Rattle.trace_tree.specs.declared.event.Event.TheVariants as event
use Rattle.trace_tree.specs.Lines.{unit_name}
use Rattle.hrthood_top.specs.declared.file_kind.FileKind.TheVariants.{Ada}
use Rattle.hrthood_top.specs.Files.{File, AreHeld}
use Rattle.hrthood_top.specs.Streaming.{IsGathered}
use Rattle.hrthood_top.specs.Violations.{EndsAt, RunsOut}

-- what a page held and a piece: the front is written, and the page holds the rest
gathered : IsGathered (codes "ab") (codes "cd") (codes "d") (Some []) (Some (codes "abc"))
gathered = (codes "abc", refl, refl)

-- a byte is neither written nor held
lost : IsGathered (codes "ab") (codes "cd") (codes "d") (Some []) (Some (codes "ab")) → ⊥
lost h =
    let front : codes "ab" ≡ h.0 = (cc) in
    let whole : codes "abd" ≡ codes "abcd" = subst (λ z. z ++ codes "d" ≡ codes "abcd") (sym front) h.2 in
    omega (arith, ap length whole)

-- a run that comes to its horizon has no stop
out : RunsOut (event.Release 0 0 None ∷ event.Horizon 5 ∷ [])
out = (tt, (tt, tt))

-- one that stops has
not_out : RunsOut (event.Release 0 0 None ∷ event.Stop 5 0 1 2 1 ∷ []) → ⊥
not_out h = h.1.0

-- the violation that a stop at the end tells
stopped : (p : Program) → EndsAt p (event.Release 0 0 None ∷ event.Stop 5 0 1 2 1 ∷ [])
    (record { time = 5; task = unit_name p 0; object = unit_name p 1; priority = 2; ceiling = 1 })
stopped p = record { front = event.Release 0 0 None ∷ []; task = 0; object = 1; last = refl; task_name = refl; object_name = refl }

-- its priority is not the ceiling
not_so : (p : Program) → EndsAt p (event.Stop 5 0 1 2 1 ∷ []) (record {
  time = 5;
  task = unit_name p 0;
  object = unit_name p 1;
  priority = 1;
  ceiling = 1;
}) → ⊥
not_so p h = by h.front h.last
  where
    by : (front : List Event) → event.Stop 5 0 1 2 1 ∷ [] ≡ front ++ event.Stop 5 h.task h.object 1 1 ∷ [] → ⊥
    by [] e = cc
    by (f ∷ []) e = cc
    by (f ∷ g ∷ front) e = cc

-- a file, on a shelf where each name has two bytes, and on one where none has any
abbrev ada : File
ada = record { kind = Ada; name = codes "a" }

held : AreHeld (Some (record { files = λ name. Some (codes "ab"); log = [] })) (ada ∷ [])
held = (λ kind. codes "ab", ((refl, (let few : length (codes "ab") ≤ 16777216 = omega arith in few)), tt))

not_held : AreHeld (Some (record { files = λ name. None; log = [] })) (ada ∷ []) → ⊥
not_held h = absurd (cc h.1.0.0)
