-- Worked margins: how far the `work` of a design may grow and what fails at the next per mille, and why a design has none.
use Rattle.std.specs.Prelude.{◌≡◌, ◌==◌, ℕ, true, false, [], ◌∷◌, Option, Some, None, Ok, Err, codes, is_some, option_map, refl}
use Rattle.std.proofs.Common.{ap, le_refl, zero-le, arith}
use Rattle.seq_tree.specs.Names.{same_name}
use Rattle.seq_tree.specs.Statements.{Null, Work}
use Rattle.ods_tree.specs.Flats.{Flat}
use Rattle.ods_tree.specs.Flattening.{flat}
use Rattle.ods_tree.proofs.Shared.Short.{cyc, pas, design, several}
use Rattle.rt_response.specs.declared.rows.Limit.TheVariants.{Deadline}
use Rattle.rt_response.specs.declared.rows.Miss as rows
use Rattle.rt_response.specs.declared.excess.Excess.{Excess}
use Rattle.rt_response.specs.Rounds.{IsMiss}
use Rattle.rt_response.proofs.Shared.Least.{miss-none_fits}
use Rattle.design_bounds.specs.Analyses.{IsMissed}
use Rattle.law_scaling.specs.Parts.{Part}
use Rattle.law_scaling.specs.Scaling.{scaled}
use Rattle.law_scaling.specs.Holding.{Holds, HoldsIn, IsGreatest, scaled_rows}
use Rattle.law_scaling.proofs.Shared.Holding.{holds-less}
use Rattle.scaling.specs.Failures.{Fails, FailsIn, IsFailureIn, IsNamed}
use Rattle.scaling.specs.Margins.{IsNext, IsMargin, IsMarginIn, HasNoMargin, Scales}
use Rattle.scaling.specs.declared.margin.Next.TheVariants.{Limit, Cost, Miss}
use Rattle.scaling.specs.declared.margin.ScaleFault.TheVariants as fault

-- a cyclic thread whose `work` may become three times as long, and is late by a tick then
abbrev one : Flat
one = flat (design (cyc (codes "a") 10 10 (Work 3 ∷ [])))

abbrev late : rows.Miss
late = record { index = 0; which = Deadline; value = 11; limit = 10; round = 0 }

one-holds : Holds one 3000
one-holds = record {
  cheap = refl;
  bounds = record { jitter = 0; response = 10 } ∷ [];
  fits = ((refl, ((zero-le, le_refl 10), tt)), ((le_refl 10, le_refl 10), tt));
}

one-holds-at-1 : Holds one 1
one-holds-at-1 = holds-less None one 1 3000 (omega arith) one-holds

one-miss : IsMiss (scaled_rows one 3001) late
one-miss = record { earlier = λ k h. absurd (omega (arith, h)); over = refl }

abbrev one-excess : Option Excess
one-excess = Some (record { index = 0; which = Deadline; value = 11; limit = 10 })

one-fails : Holds one 3001 → ⊥
one-fails h = miss-none_fits (scaled_rows one 3001) late h.bounds one-miss h.fits

one-missed : IsMissed (scaled 3001 one) (codes "a") late
one-missed = record { first = one-miss; called = refl; none = λ v fits. miss-none_fits (scaled_rows one 3001) late v one-miss fits }

one-greatest : IsGreatest one 3000
one-greatest = record {
  within = (omega arith, omega arith);
  holds = one-holds;
  above = λ n less most h. one-fails (holds-less None one 3001 n less h);
}

-- THE MARGIN
one-next : IsNext None one 3000 (Miss (codes "a") late)
one-next = (omega arith, (refl, one-missed))

one-margin : IsMargin one (record { per_mille = 3000; next = Miss (codes "a") late })
one-margin = record { greatest = one-greatest; next = one-next }

one-scales : Scales one (Ok (record { per_mille = 3000; next = Miss (codes "a") late }))
one-scales = (one-margin, one-holds-at-1)

-- a per mille less, where it holds at the next one, or a per mille more, where it doesn't
less : IsMargin one (record { per_mille = 2999; next = Miss (codes "a") late }) → ⊥
less h = h.greatest.above 3000 (omega arith) (omega arith) one-holds

more : IsMargin one (record { per_mille = 3001; next = Miss (codes "a") late }) → ⊥
more h = one-fails h.greatest.holds

-- another thread, another value, a cost that isn't too dear, or no next per mille
names-differ : Some (codes "a") ≡ Some (codes "b") → ⊥
names-differ e = let told : Some true ≡ Some false = ap (option_map (λ n. same_name n (codes "a"))) e in cc

other_thread : IsNext None one 3000 (Miss (codes "b") late) → ⊥
other_thread h = names-differ h.1.1.called

values-differ : one-excess ≡ Some (record { index = 0; which = Deadline; value = 12; limit = 10 }) → ⊥
values-differ e = let told : Some true ≡ Some false = ap (option_map (λ x. x.value == 11)) e in cc

other_value : IsNext None one 3000 (Miss (codes "a") (record { index = 0; which = Deadline; value = 12; limit = 10; round = 0 })) → ⊥
other_value h = values-differ h.1.1.first.over

no_cost : IsNext None one 3000 (Cost (codes "a") None) → ⊥
no_cost h = let e = h.1.1 in cc

no_limit : IsNext None one 3000 Limit → ⊥
no_limit h = omega (arith, h)

-- a thread without `work`, at the greatest per mille
abbrev idle : Flat
idle = flat (design (cyc (codes "a") 10 10 (Null ∷ [])))

idle-margin : IsMargin idle (record { per_mille = 1000000; next = Limit })
idle-margin = record {
  greatest = record {
    within = (omega arith, omega arith);
    holds = record {
      cheap = refl;
      bounds = record { jitter = 0; response = 2 } ∷ [];
      fits = ((refl, ((zero-le, le_refl 2), tt)), ((omega arith, omega arith), tt));
    };
    above = λ n less most h. omega (arith, less, most);
  };
  next = refl;
}

-- NO MARGIN
-- a thread that is late at one per mille already
abbrev never : Flat
never = flat (design (cyc (codes "a") 5 5 (Null ∷ Null ∷ Null ∷ Null ∷ Work 1 ∷ [])))

abbrev always_late : rows.Miss
always_late = record { index = 0; which = Deadline; value = 6; limit = 5; round = 0 }

never-miss : IsMiss (scaled_rows never 1) always_late
never-miss = record { earlier = λ k h. absurd (omega (arith, h)); over = refl }

no-margin : HasNoMargin never (Miss (codes "a") always_late)
no-margin = record {
  fails = (
    refl,
    record { first = never-miss; called = refl; none = λ v fits. miss-none_fits (scaled_rows never 1) always_late v never-miss fits },
  );
  holds = λ h. miss-none_fits (scaled_rows never 1) always_late h.bounds never-miss h.fits;
}

never-scales : Scales never (Err (fault.Miss (codes "a") always_late))
never-scales = no-margin

some_margin : HasNoMargin one (Miss (codes "a") late) → ⊥
some_margin h = h.holds one-holds-at-1

no_memory : Scales one (Err fault.NoMemory)
no_memory = tt

-- WHAT FAILS
-- a body that no thread calls is too dear
abbrev unused : Flat
unused = flat (several (cyc (codes "a") 10 10 (Null ∷ []) ∷ pas (codes "p") (codes "f") (Work 1000000 ∷ Work 1000000 ∷ []) ∷ []))

abbrev unused-dear : Option Part
unused-dear = Some (record { object = codes "p"; op = Some (codes "f"); ticks = 1000002000 })

dear : Fails unused 500001 (Cost (codes "p") (Some (codes "f")))
dear = (1000002000, refl)

bodies-differ : (ticks : ℕ) → unused-dear ≡ Some (record { object = codes "p"; op = None; ticks = ticks }) → ⊥
bodies-differ ticks e = let told : Some true ≡ Some false = ap (option_map (λ p. is_some p.op)) e in cc

not_a_thread : Fails unused 500001 (Cost (codes "p") None) → ⊥
not_a_thread h = bodies-differ h.0 h.1

objects-differ : (ticks : ℕ) → unused-dear ≡ Some (record { object = codes "a"; op = Some (codes "f"); ticks = ticks }) → ⊥
objects-differ ticks e = let told : Some true ≡ Some false = ap (option_map (λ p. same_name p.object (codes "p"))) e in cc

not_that_object : Fails unused 500001 (Cost (codes "a") (Some (codes "f"))) → ⊥
not_that_object h = objects-differ h.0 h.1

not_yet : Fails unused 500000 (Cost (codes "p") (Some (codes "f"))) → ⊥
not_yet h = let e = h.1 in cc

no_failure : IsFailureIn None one 3000 None
no_failure = one-holds

a_failure : IsFailureIn None one 3001 None → ⊥
a_failure = one-fails

named : IsNamed (codes "p", Some (codes "f")) (Cost (codes "p") (Some (codes "f")))
named = (refl, refl)

otherwise_named : IsNamed (codes "p", None) (Cost (codes "p") (Some (codes "f"))) → ⊥
otherwise_named h = let e = h.1 in cc

-- OF ONE OBJECT ALONE
-- that body alone is too dear as before, and the thread alone, which has no `work`, may grow without end
dear_alone : FailsIn (Some (codes "p")) unused 500001 (Cost (codes "p") (Some (codes "f")))
dear_alone = (1000002000, refl)

not_by_the_thread : FailsIn (Some (codes "a")) unused 500001 (Cost (codes "p") (Some (codes "f"))) → ⊥
not_by_the_thread h = let e = h.1 in cc

not_next : IsNext (Some (codes "a")) unused 500000 (Cost (codes "p") (Some (codes "f"))) → ⊥
not_next h = let e = h.1.1 in cc

thread-holds : HoldsIn (Some (codes "a")) unused 1000000
thread-holds = record {
  cheap = refl;
  bounds = record { jitter = 0; response = 2 } ∷ [];
  fits = ((refl, ((zero-le, le_refl 2), tt)), ((omega arith, omega arith), tt));
}

no_failure_alone : IsFailureIn (Some (codes "a")) unused 1000000 None
no_failure_alone = thread-holds

thread-margin : IsMarginIn (Some (codes "a")) unused (record { per_mille = 1000000; next = Limit })
thread-margin = record {
  greatest = record {
    within = (omega arith, omega arith);
    holds = thread-holds;
    above = λ n less most h. omega (arith, less, most);
  };
  next = refl;
}
