-- A worked example: the mine pump, twelve objects with six threads, one started inside and one requested from outside. Its every run is right.
use Rattle.std.specs.Prelude.{List, [], ◌∷◌, Some, refl}
use Rattle.std.proofs.Common.{lit≤, arith, inl, inr}
use Rattle.seq_tree.specs.Proper.{within_limits}
use Rattle.ods_tree.specs.Words.{is_design_name}
use Rattle.ods_tree.specs.Proper.{IsProperDesign}
use Rattle.ods_tree.specs.Flattening.{flat}
use Rattle.ods_tree.proofs.Shared.Mine.{mine}
use Rattle.design_rules.specs.Rules.{MeetsRules}
use Rattle.design_rules.proofs.Shared.WorkedRules.{meets-where-nothing-told}
use Rattle.ada_tree.specs.Words.{is_ada_name}
use Rattle.arrivals_tree.specs.Arriving.{Arrivals}
use Rattle.arrivals_tree.specs.Acceptance.{IsAccepted}
use Rattle.trace_tree.specs.Lines.{unit_name}
use Rattle.rt_response.specs.declared.rows.Bound.{Bound}
use Rattle.rt_response.specs.Response.{IsLeastVector}
use Rattle.analysis.specs.Sound.{IsSound, IsSpaced}
use Rattle.analysis.specs.Tables.{table}
use Rattle.guarantee.specs.Arrivals.{named_arrivals, KeepsSeparations}
use Rattle.guarantee.specs.Guaranteed.{IsRight}
use Rattle.guarantee.specs.MachineLaw.{IsReadable}
use Rattle.guarantee.specs.Programs.{program}
use Rattle.law_designs.proofs.Shared.ReadablePrograms.{program-readable}
use Rattle.law_designs.proofs.Shared.SoundDesigns.{flat-sound, flat-spaced}
use Rattle.law_runs.proofs.Shared.DesignLaw.{designs-are-right}
use Rattle.law_designs.proofs.Shared.TabledTasks.{sound-tabled}
use Rattle.law_designs.specs.TabledDesigns.{IsTabledDesign}
use Rattle.law_runs.proofs.Shared.Worked.{bound}
use Rattle.law_runs.proofs.Shared.WorkedBounds.{round-least}

abbrev bounds : List Bound
bounds = bound 0 23 ∷ bound 23 29 ∷ bound 0 45 ∷ bound 0 55 ∷ bound 5 72 ∷ bound 0 128 ∷ []

proper : IsProperDesign (within_limits is_design_name) mine
unfolding is_design_name
proper = search (inl, inr, lit≤) parts 60

meets : MeetsRules mine
unfolding is_ada_name
meets = meets-where-nothing-told mine (record { version = refl; before = refl; after = refl; steps = 4; calls = refl; objects = refl; starts = refl })

least : IsLeastVector (table (flat mine)).rows bounds
least = round-least (table (flat mine)).rows 6 refl refl refl

-- the water is high after 50 ticks, and low 6000 ticks later; the flow sensor's first `work` takes three ticks
abbrev arrivals : Arrivals
arrivals = record {
  until = 7000;
  work = record { task = 4; ticks = 3 ∷ [] } ∷ [];
  items = record { time = 50; task = 3; value = Some 1 } ∷ record { time = 6050; task = 3; value = Some 0 } ∷ [];
}

keeps : KeepsSeparations 1000000 mine (named_arrivals (program mine) arrivals)
unfolding unit_name
keeps = record {
  horizon = lit≤ tt;
  durations = ((refl, (lit≤ tt, tt)), tt);
  times = (lit≤ tt, (lit≤ tt, tt));
  external = (tt, (tt, tt));
  separations = ((lit≤ tt, (lit≤ tt, tt)), (tt, (tt, (tt, (tt, (tt, tt))))));
}

right : IsRight mine bounds (program mine) arrivals
right = designs-are-right 1000000 mine bounds proper meets least.fits arrivals keeps

-- so the laws on programs and on flat designs hold of it too
sound : IsSound (flat mine)
sound = flat-sound mine mine meets

spaced : IsSpaced (flat mine)
spaced = flat-spaced mine mine meets

readable : IsReadable (program mine)
readable = program-readable mine proper meets

accepted : IsAccepted 1000000 (program mine) arrivals
accepted = refl

tabled : IsTabledDesign mine
tabled = sound-tabled mine sound spaced

-- arrivals that come too close keep no separation
abbrev close : Arrivals
close = record {
  until = 7000;
  work = [];
  items = record { time = 50; task = 3; value = Some 1 } ∷ record {
    time = 100;
    task = 3;
    value = Some 0;
  } ∷ [];
}

close-not_kept : KeepsSeparations 1000000 mine (named_arrivals (program mine) close) → ⊥
unfolding unit_name
close-not_kept h = let early = h.separations.0.1.0 in omega (arith, early)
