-- The faults of bodies, in the scopes that the code makes.
use Rattle.std.proofs.Common.{◌≡◌, ℕ, ◌<◌, List, [], ◌∷◌, map, flat_map, length, Option, Some, None, slice_get, refl, sym, ap, subst, ◌+◌, ◌∙◌}
use Rattle.std.proofs.Math.ListN.{get_or}
use Rattle.seq_tree.specs.Operations.{Offer}
use Rattle.seq_tree.specs.Faults as faults
use Rattle.seq_tree.specs.Faults.{or_else, block_fault}
use Rattle.ada_tree.specs.Programs.{Form, Unit, Program}
use Rattle.ada_tree.specs.Bodies.{Body, bodies, data_of, offers, scope, bodies_fault, unit_fault}
use Rattle.ada_tree.specs.Trees.{form_of, program_of, unit_of}
use Rattle.ada_tree.specs.declared.program.Unit as code
use Rattle.ada_tree.specs.declared.program.AdaProgram.{AdaProgram}
use Rattle.seq_check.specs.declared.fault.BodyFault as codes
use Rattle.ada_rules.specs.Firsts.{NoneBefore}
use Rattle.ada_rules.specs.FaultsTold.{HasFault, IsToldAs, IsFirstFault, bodies_fault_at, unit_offers}
use Rattle.ada_rules.proofs.FirstLaws.{none_more, unit_at}

-- the faults of bodies, with all that can be called
pub faults_at : (p : Program) (form : Form) (bs : List Body) → bodies_fault_at (offers p) (data_of form) bs ≡ bodies_fault p form bs
faults_at p form [] = refl
faults_at p form (b ∷ bs) = ap (or_else (block_fault (scope p form b) b.block)) (faults_at p form bs)

-- the first fault of a unit, with what can be called
pub unit_fault_at : (p : AdaProgram) (us : List code.Unit) (calls : List Offer) (u : Unit) → us ≡ p.units.items
    → calls ≡ flat_map unit_offers (map unit_of us) →
    bodies_fault_at calls (data_of u.form) (bodies u.form) ≡ unit_fault (program_of p) u
unit_fault_at p us calls u same offered =
    ap (λ cs. bodies_fault_at cs (data_of u.form) (bodies u.form)) (offered ∙ ap (λ vs. flat_map unit_offers (map unit_of vs)) same) ∙ faults_at
    (program_of p) u.form (bodies u.form)

-- a unit without a fault
pub no_fault : (p : AdaProgram) (us : List code.Unit) (calls : List Offer) (i : ℕ) (x : code.Unit) → us ≡ p.units.items → i < length us
    → x ≡ get_or us i x → calls ≡ flat_map unit_offers (map unit_of us) →
    bodies_fault_at calls (data_of (form_of x.form)) (bodies (form_of x.form)) ≡ None
    → NoneBefore (λ place u. HasFault (program_of p) u) (map unit_of us) i →
    NoneBefore (λ place u. HasFault (program_of p) u) (map unit_of us) (i + 1)
no_fault p us calls i x same inside at offered none before =
    none_more (λ place u. HasFault (program_of p) u) (map unit_of us) i (unit_of x) (unit_at us i x inside at)
    (λ (f, has). let h : None ≡ Some f = sym none ∙ unit_fault_at p us calls (unit_of x) same offered ∙ has in cc) before

-- the first unit with a fault
pub first_fault : (p : AdaProgram) (us : List code.Unit) (calls : List Offer) (i : ℕ) (x : code.Unit) (e : codes.BodyFault) → us ≡ p.units.items
    → i < length us → x ≡ get_or us i x →
    calls ≡ flat_map unit_offers (map unit_of us) → IsToldAs e (bodies_fault_at calls (data_of (form_of x.form)) (bodies (form_of x.form))) →
    NoneBefore (λ place u. HasFault (program_of p) u) (map unit_of us) i → IsFirstFault (program_of p) (Some (record { place = i; fault = e }))
first_fault p us calls i x e same inside at offered told before =
    let Told : Option faults.BodyFault → Type 0 = IsToldAs e in
    let At : List code.Unit → Type 0 = λ vs. slice_get (map unit_of vs) i ≡ Some (unit_of x) in
    let Before : List code.Unit → Type 0 = λ vs. NoneBefore (λ place u. HasFault (program_of p) u) (map unit_of vs) i in (
      unit_of x,
      subst At same (unit_at us i x inside at),
      subst Told (unit_fault_at p us calls (unit_of x) same
          offered) told,
      subst Before same before,
    )
