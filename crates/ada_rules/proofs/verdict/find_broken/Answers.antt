use Rattle.std.proofs.Common.{◌≡◌, false, true, Option, sym, subst, ◌∙◌}
use Rattle.ada_tree.specs.Rules.{Naming, Uses, Rings, Bodies, Ranges, Externals}
use Rattle.ada_tree.specs.Trees.{program_of}
use Rattle.ada_rules.specs.Verdicts.{FirstSays}
use Rattle.ada_rules.specs.declared.verdict.Found.{Found}
use Rattle.ada_rules.proofs.VerdictLaws.{none_clear, next, first_broken, whole_broken, meets, fault_first}
use Rattle.ada_rules.proofs.verdict.find_broken.Goals as goal

pub returns-in-Some : goal.returns-in-Some
returns-in-Some c =
    let Says : Option Found → Type 0 = FirstSays (program_of c.args.program.now) in
    subst Says (sym c.broken_at.ensures) (
      first_broken (program_of c.args.program.now) Naming c.in-Some.place
          (none_clear (program_of c.args.program.now))
          (λ h. h) (rw c.in-Some.is at c.in_ok-first_by_names.ensures),
      tt,
    )

pub returns-in-Some-2 : goal.returns-in-Some-2
returns-in-Some-2 c =
    let Says : Option Found → Type 0 = FirstSays (program_of c.args.program.now) in
    subst Says (sym c.broken_at-in-Some-2.ensures) (
      first_broken (program_of c.args.program.now) Uses c.in-Some-2.place
          (next (program_of c.args.program.now) Naming (λ h. h) (rw c.in-None.is at c.in_ok-first_by_names.ensures)
          (none_clear (program_of c.args.program.now)))
          (λ h. h) (rw c.in-Some-2.is at c.in_ok-first_by_uses.ensures),
      tt,
    )

pub returns-in-Some-3 : goal.returns-in-Some-3
returns-in-Some-3 c =
    let Says : Option Found → Type 0 = FirstSays (program_of c.args.program.now) in
    subst Says (sym c.broken_at-in-Some-3.ensures) (
      first_broken (program_of c.args.program.now) Rings c.in-Some-3.place
          (next (program_of c.args.program.now) Uses (λ h. h) (rw c.in-None-2.is at c.in_ok-first_by_uses.ensures)
          (next (program_of c.args.program.now) Naming (λ h. h) (rw c.in-None.is at c.in_ok-first_by_names.ensures)
          (none_clear (program_of c.args.program.now))))
          (λ h. h) (rw c.in-Some-3.is at c.in_ok-first_by_rings.ensures),
      tt,
    )

pub returns-in-Some-4 : goal.returns-in-Some-4
returns-in-Some-4 c =
    let Says : Option Found → Type 0 = FirstSays (program_of c.args.program.now) in
    let first = rw c.in-Some-4.is at c.in_ok-first_by_bodies.ensures in
    subst Says (sym c.broken_at-in-Some-4.ensures) (
      first_broken (program_of c.args.program.now) Bodies c.in-Some-4.at.place
          (next (program_of c.args.program.now) Rings (λ h. h) (rw c.in-None-3.is at c.in_ok-first_by_rings.ensures)
          (next (program_of c.args.program.now) Uses (λ h. h) (rw c.in-None-2.is at c.in_ok-first_by_uses.ensures)
          (next (program_of c.args.program.now) Naming (λ h. h) (rw c.in-None.is at c.in_ok-first_by_names.ensures)
          (none_clear (program_of c.args.program.now)))))
          (λ h. h) (fault_first (program_of c.args.program.now) c.in-Some-4.at first),
      (first.0, first.1, first.2),
    )

pub returns-then-whole_breaks : goal.returns-then-whole_breaks
returns-then-whole_breaks c = (
  whole_broken (program_of c.args.program.now) Ranges
      (next (program_of c.args.program.now) Bodies (λ h. h) (rw c.in-None-4.is at c.in_ok-first_by_bodies.ensures)
      (next (program_of c.args.program.now) Rings (λ h. h) (rw c.in-None-3.is at c.in_ok-first_by_rings.ensures)
      (next (program_of c.args.program.now) Uses (λ h. h) (rw c.in-None-2.is at c.in_ok-first_by_uses.ensures)
      (next (program_of c.args.program.now) Naming (λ h. h) (rw c.in-None.is at c.in_ok-first_by_names.ensures)
      (none_clear (program_of c.args.program.now))))))
      (sym c.whole_breaks.ensures ∙ c.if-whole_breaks.true),
  tt,
)

pub returns-in-Some-5 : goal.returns-in-Some-5
returns-in-Some-5 c =
    let Says : Option Found → Type 0 = FirstSays (program_of c.args.program.now) in
    subst Says (sym c.broken_at-in-Some-5.ensures) (
      first_broken (program_of c.args.program.now) Ranges c.in-Some-5.place
          (next (program_of c.args.program.now) Bodies (λ h. h) (rw c.in-None-4.is at c.in_ok-first_by_bodies.ensures)
          (next (program_of c.args.program.now) Rings (λ h. h) (rw c.in-None-3.is at c.in_ok-first_by_rings.ensures)
          (next (program_of c.args.program.now) Uses (λ h. h) (rw c.in-None-2.is at c.in_ok-first_by_uses.ensures)
          (next (program_of c.args.program.now) Naming (λ h. h) (rw c.in-None.is at c.in_ok-first_by_names.ensures)
          (none_clear (program_of c.args.program.now))))))
          (λ h. let z : false ≡ true = sym c.if-whole_breaks.false ∙ c.whole_breaks.ensures ∙ h
          in cc) (rw c.in-Some-5.is at c.in_ok-first_by_ranges.ensures),
      tt,
    )

pub returns-in-Some-6 : goal.returns-in-Some-6
returns-in-Some-6 c =
    let Says : Option Found → Type 0 = FirstSays (program_of c.args.program.now) in
    subst Says (sym c.broken_at-in-Some-6.ensures) (
      first_broken (program_of c.args.program.now) Externals c.in-Some-6.place
          (next (program_of c.args.program.now) Ranges (λ h. let z : false ≡ true = sym c.if-whole_breaks.false ∙ c.whole_breaks.ensures ∙ h
          in cc) (rw c.in-None-5.is at c.in_ok-first_by_ranges.ensures)
          (next (program_of c.args.program.now) Bodies (λ h. h) (rw c.in-None-4.is at c.in_ok-first_by_bodies.ensures)
          (next (program_of c.args.program.now) Rings (λ h. h) (rw c.in-None-3.is at c.in_ok-first_by_rings.ensures)
          (next (program_of c.args.program.now) Uses (λ h. h) (rw c.in-None-2.is at c.in_ok-first_by_uses.ensures)
          (next (program_of c.args.program.now) Naming (λ h. h) (rw c.in-None.is at c.in_ok-first_by_names.ensures)
          (none_clear (program_of c.args.program.now)))))))
          (λ h. h) (rw c.in-Some-6.is at c.in_ok-first_by_externals.ensures),
      tt,
    )

pub returns : goal.returns
returns c =
    meets (program_of c.args.program.now)
    (next (program_of c.args.program.now) Externals (λ h. h) (rw c.in-None-6.is at c.in_ok-first_by_externals.ensures)
    (next (program_of c.args.program.now) Ranges (λ h. let z : false ≡ true = sym c.if-whole_breaks.false ∙ c.whole_breaks.ensures ∙ h
    in cc) (rw c.in-None-5.is at c.in_ok-first_by_ranges.ensures)
    (next (program_of c.args.program.now) Bodies (λ h. h) (rw c.in-None-4.is at c.in_ok-first_by_bodies.ensures)
    (next (program_of c.args.program.now) Rings (λ h. h) (rw c.in-None-3.is at c.in_ok-first_by_rings.ensures)
    (next (program_of c.args.program.now) Uses (λ h. h) (rw c.in-None-2.is at c.in_ok-first_by_uses.ensures)
    (next (program_of c.args.program.now) Naming (λ h. h) (rw c.in-None.is at c.in_ok-first_by_names.ensures)
    (none_clear (program_of c.args.program.now))))))))
