-- Systems whose protected objects call each other in no ring: ranks fall along calls, so that no task enters an object twice; and systems
-- whose calls enter sections of ceilings of at least the caller's, in which no run stops. A body may enter other objects and request tasks;
-- passive bodies call passive operations alone.
use Rattle.std.specs.Prelude.{◌≡◌, ◌≤◌, ℕ, Bool, true, false, List, slice_get, Some, ⊤, ◌<◌, suc, length, refl}
use Rattle.seq_tree.specs.Names.{Name}
use Rattle.seq_tree.specs.Lists.{Each}
use Rattle.arrivals_tree.specs.declared.arrivals.Arrival.{Arrival}
use Rattle.machine.specs.Systems.{System, TaskUnit, ProtectedUnit, CallTarget, Plain, Protected, Request, Unknown, callee}
use Rattle.machine.specs.States.{Object, Control}
use Rattle.machine.specs.Effects.{ceiling_of}
use Rattle.law_ceilings.specs.Bodies.{BlockFits}
use Rattle.law_ceilings.specs.Ceilings.{Reach, IsMadeFrom, RisesTo, IsCeiled}
use Rattle.law_ceilings.specs.Premises.{IsElsewhere, IsCovered, Ranking, IsMadeWithin, IsMadeBelow, FallsTo, MayExclude}
use Rattle.std.proofs.Common.{arith}
use Rattle.std.proofs.lemmas.Option.{slice_get_within}
use Rattle.seq_tree.specs.Statements.{Statements}
use Rattle.law_ceilings.proofs.Shared.Fitting.{block-weaken}
use Rattle.law_calls.proofs.Shared.Systems.{LeadsTo, leads-to, IsUnprotected}
use Rattle.seq_tree.specs.Rings.{IsOnRing}
use Rattle.law_ceilings.proofs.Rankings.{rank, rank-falls}

-- a call that enters only objects that this one calls
abbrev pub LeadsOn : (ℕ → ℕ → Bool) → ℕ → CallTarget → Type 0
LeadsOn leads object (Plain o) = ⊤
LeadsOn leads object (Protected other op g o) = leads object other ≡ true
LeadsOn leads object (Request task) = ⊤
LeadsOn leads object Unknown = ⊤

-- a made call that enters nothing, and one that enters only objects that this one calls
abbrev pub IsPassiveCall : System → (Name → Name → Bool) → Name → Name → Type 0
IsPassiveCall y made unit op = (made unit op ≡ true) × IsUnprotected (callee y unit op)

abbrev pub IsInnerCall : System → (Name → Name → Bool) → (ℕ → ℕ → Bool) → ℕ → Name → Name → Type 0
IsInnerCall y made leads object unit op = (made unit op ≡ true) × LeadsOn leads object (callee y unit op)

-- what a made call leads to
abbrev pub StaysInLayers : System → List Arrival → (Name → Name → Bool) → (ℕ → ℕ → Bool) → CallTarget → Type 0
StaysInLayers y as' made leads (Plain o) = BlockFits (IsPassiveCall y made) false o.block
StaysInLayers y as' made leads (Protected object op g o) = BlockFits (IsInnerCall y made leads object) false o.block
StaysInLayers y as' made leads (Request task) = Each (IsElsewhere y task) as'
StaysInLayers y as' made leads Unknown = ⊤

-- a system whose objects call each other in no ring
pub record IsLayered (y : System) (as' : List Arrival) : Type 0 where
  pub made : Name → Name → Bool
  pub leads : ℕ → ℕ → Bool
  pub no_ring : (object : ℕ) → IsOnRing (λ x z. leads x z ≡ true) object → ⊥
  pub tasks : (i : ℕ) (t : TaskUnit) → slice_get y.threads i ≡ Some t → BlockFits (λ unit op. made unit op ≡ true) false t.block
  pub calls : (unit op : Name) → made unit op ≡ true → StaysInLayers y as' made leads (callee y unit op)
  pub covered : (i : ℕ) (t : TaskUnit) → slice_get y.threads i ≡ Some t → IsCovered t.priority t.timing
  pub objects : (i j : ℕ) (g h : ProtectedUnit) → slice_get y.objects i ≡ Some g → slice_get y.objects j ≡ Some h → g.unit ≡ h.unit → i ≡ j
  pub units : (i j : ℕ) (t u : TaskUnit) → slice_get y.threads i ≡ Some t → slice_get y.threads j ≡ Some u → t.unit ≡ u.unit → i ≡ j

-- a call that enters no section of a ceiling below this
abbrev pub EntersAbove : System → ℕ → CallTarget → Type 0
EntersAbove y n (Plain o) = ⊤
EntersAbove y n (Protected object op g o) = n ≤ ceiling_of y (Object object)
EntersAbove y n (Request task) = n ≤ ceiling_of y (Control task)
EntersAbove y n Unknown = ⊤

-- a made call that does so
abbrev pub IsCallAbove : System → (Name → Name → Bool) → ℕ → Name → Name → Type 0
IsCallAbove y made n unit op = (made unit op ≡ true) × EntersAbove y n (callee y unit op)

-- what a made call leads to: passive bodies call passive operations, protected bodies enter sections of ceilings of at least their own
abbrev pub StaysAbove : System → (Name → Name → Bool) → CallTarget → Type 0
StaysAbove y made (Plain o) = BlockFits (IsPassiveCall y made) false o.block
StaysAbove y made (Protected object op g o) = BlockFits (IsCallAbove y made (ceiling_of y (Object object))) false o.block
StaysAbove y made (Request task) = ⊤
StaysAbove y made Unknown = ⊤

-- a system in which tasks call at ceilings of at least their priority, and protected bodies at ceilings of at least their own
pub record KeepsCeilings (y : System) : Type 0 where
  pub made : Name → Name → Bool
  -- a number that no priority and no ceiling of an object is above
  pub top : ℕ
  pub priorities : (i : ℕ) (t : TaskUnit) → slice_get y.threads i ≡ Some t → t.priority ≤ top
  pub ceilings : (i : ℕ) (g : ProtectedUnit) → slice_get y.objects i ≡ Some g → ceiling_of y (Object i) ≤ top
  pub tasks : (i : ℕ) (t : TaskUnit) → slice_get y.threads i ≡ Some t → BlockFits (IsCallAbove y made t.priority) false t.block
  pub calls : (unit op : Name) → made unit op ≡ true → StaysAbove y made (callee y unit op)

module _ (y : System) (as' : List Arrival) (l : IsLayered y as') where
  abbrev object_rank : ℕ → ℕ
  object_rank x = suc (rank l.leads (length y.objects) x)

  abbrev rank_by : CallTarget → ℕ
  rank_by (Plain o) = 0
  rank_by (Protected object j g o) = object_rank object
  rank_by (Request task) = 0
  rank_by Unknown = 0

  abbrev ranking : Ranking
  ranking = record { made = l.made; rank = λ unit op. rank_by (callee y unit op); object_rank = object_rank }

  nothing-rank : (c : CallTarget) → IsUnprotected c → rank_by c ≡ 0
  nothing-rank (Plain o) h = refl
  nothing-rank (Protected object j g o) h = absurd h
  nothing-rank (Request task) h = absurd h
  nothing-rank Unknown h = refl

  -- an object that another calls has a lower rank
  inner-rank : (unit op : Name) (object : ℕ) → object < length y.objects → (c : CallTarget) → LeadsTo y unit op c → LeadsOn l.leads object c
      → rank_by c < object_rank object
  inner-rank unit op object below (Plain o) there on = omega arith
  inner-rank unit op object below (Protected other j g o) there on =
      let falls = rank-falls l.leads (length y.objects) l.no_ring object other below (slice_get_within y.objects other g there.stands) on in
      omega (arith, falls)
  inner-rank unit op object below (Request task) there on = omega arith
  inner-rank unit op object below Unknown there on = omega arith

  pub layered-excludes : MayExclude y as'
  layered-excludes = record {
    ranking = ranking;
    tasks = l.tasks;
    calls = λ unit op made. by unit op (callee y unit op) (leads-to y unit op) (l.calls unit op made);
    covered = l.covered;
    objects = l.objects;
    units = l.units;
  }
    where
      by : (unit op : Name) (c : CallTarget) → LeadsTo y unit op c → StaysInLayers y as' l.made l.leads c → FallsTo y as' ranking (rank_by c) c
      by unit op (Plain o) there stays =
          block-weaken (IsPassiveCall y l.made) (IsMadeWithin ranking 0)
          (λ unit' op' h. (h.0, (let none : rank_by (callee y unit' op') ≡ 0 = nothing-rank (callee y unit' op') h.1 in omega (arith, none)))) false
          o.block stays
      by unit op (Protected object j g o) there stays = (
        (let same : object_rank object ≤ object_rank object = omega arith in same),
        block-weaken (IsInnerCall y l.made l.leads object) (IsMadeBelow ranking (object_rank object))
            (λ unit' op' h. (
              h.0,
              inner-rank unit' op' object (slice_get_within y.objects object g there.stands) (callee y unit' op') (leads-to y
                  unit' op') h.1,
            )) false o.block stays,
      )
      by unit op (Request task) there stays = stays
      by unit op Unknown there stays = tt

  -- what it says is made, is made
  pub layered-made : (unit op : Name) → layered-excludes.ranking.made unit op ≡ l.made unit op
  unfolding layered-excludes
  layered-made unit op = refl

-- where calls enter sections of ceilings of at least the caller's no run stops
module _ (y : System) (k : KeepsCeilings y) where
  abbrev low_by : CallTarget → ℕ
  low_by (Plain o) = k.top
  low_by (Protected object j g o) = ceiling_of y (Object object)
  low_by (Request task) = ceiling_of y (Control task)
  low_by Unknown = k.top

  abbrev reach : Reach
  reach = record { made = k.made; low = λ unit op. low_by (callee y unit op) }

  above-low : (n : ℕ) → n ≤ k.top → (c : CallTarget) → EntersAbove y n c → n ≤ low_by c
  above-low n small (Plain o) h = small
  above-low n small (Protected object j g o) h = h
  above-low n small (Request task) h = h
  above-low n small Unknown h = small

  nothing-low : (c : CallTarget) → IsUnprotected c → k.top ≤ low_by c
  nothing-low (Plain o) h = omega arith
  nothing-low (Protected object j g o) h = absurd h
  nothing-low (Request task) h = absurd h
  nothing-low Unknown h = omega arith

  calls-above : (n : ℕ) → n ≤ k.top → (b : Statements) → BlockFits (IsCallAbove y k.made n) false b → BlockFits (IsMadeFrom reach n) false b
  calls-above n small b fits = block-weaken (IsCallAbove y k.made n) (IsMadeFrom reach n)
      (λ unit op h. (h.0, above-low n small (callee y unit op) h.1)) false b fits

  pub layered-ceiled : IsCeiled y
  layered-ceiled = record {
    reach = reach;
    tasks = λ i t at. calls-above t.priority (k.priorities i t at) t.block (k.tasks i t at);
    calls = λ unit op made. by unit op (callee y unit op) (leads-to y unit op) (k.calls unit op made);
  }
    where
      by : (unit op : Name) (c : CallTarget) → LeadsTo y unit op c → StaysAbove y k.made c → RisesTo y reach (low_by c) c
      by unit op (Plain o) there stays =
          block-weaken (IsPassiveCall y k.made) (IsMadeFrom reach k.top) (λ unit' op' h. (h.0, nothing-low (callee y unit' op') h.1)) false
          o.block stays
      by unit op (Protected object j g o) there stays = (
        (let same : ceiling_of y (Object object) ≤ ceiling_of y (Object object) = omega arith in same),
        calls-above (ceiling_of y (Object object)) (k.ceilings object g there.stands) o.block stays,
      )
      by unit op (Request task) there stays = let same : ceiling_of y (Control task) ≤ ceiling_of y (Control task) = omega arith in same
      by unit op Unknown there stays = tt
