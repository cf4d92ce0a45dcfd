-- The law of renumbering: two states that differ in order numbers alone, ranked alike, tell the same from there on.
use Rattle.std.specs.Prelude.{◌≡◌, ◌↔◌, ℕ, zero, suc, ◌+◌, ◌-◌, ◌<◌, Bool, true, false, ◌&&◌, List, [], ◌∷◌, ◌++◌, fold, length, nat_lt, ◌==◌}
use Rattle.std.specs.Prelude.{if◌then◌else◌, Option, Some, None, ℤ, pos, int_lt, ◌+ℤ◌, ◌-ℤ◌, ◌≤ℤ◌, slice_get, ⊤, refl}
use Rattle.std.specs.Int.{int_max, int_min}
use Rattle.std.proofs.Common.{sym, ◌∙◌, ap, subst, arith}
use Rattle.std.proofs.lemmas.Int.{ints, int_max_is, int_min_is}
use Rattle.std.proofs.lemmas.Option.{none-some, same_Some, slice_get_within}
use Rattle.seq_tree.specs.Lists.{change, first_where}
use Rattle.seq_tree.specs.Variables.{Variables}
use Rattle.arrivals_tree.specs.declared.arrivals.Arrival.{Arrival}
use Rattle.trace_tree.specs.declared.event.Event.{Event}
use Rattle.trace_tree.specs.declared.event.Event.TheVariants as event
use Rattle.machine.specs.Systems.{System, ReleasePattern, Periodic, Requested}
use Rattle.machine.specs.Pieces.{Piece}
use Rattle.machine.specs.Deeds.{PieceOutcome, Act, Silent, Print, Enter, Leave, Ask, Keep, Open, Ended, Finish, done}
use Rattle.machine.specs.States.{State, Task, Resource, Object, Control, Phase, Effects, Delays, Arriving, Use, Ready}
use Rattle.machine.specs.Dispatch.{dispatched, put_last, put_first}
use Rattle.machine.specs.Releases.{Next, after, going, release, release_task, released, serve, serve_task, is_waiting}
use Rattle.machine.specs.Effects.{acted, ceiling_of, ended, entered_at, entry, exit, go, inside_now, lent, object_unit, outside_now, resting}
use Rattle.machine.specs.Effects.{stopped_at, takes_effect, task_unit}
use Rattle.machine.specs.Steps.{step, step_in, goes_to, effect_step, effect_at, effect_of, delay_step, arrival_step, arrive_at, horizon_step}
use Rattle.machine.specs.Steps.{use_step, is_due}
use Rattle.machine.specs.Meanings.{run, Rest}
use Rattle.law_dispatching.specs.Renumbering.{AreRivals, HasNumber, RankAlike, DifferInOrders}
use Rattle.law_dispatching.proofs.Orders.{SameOrder, Beside, Alike, SameAll, dispatched-alike, alike-set}

-- a state with other numbers
abbrev renumber : List ℤ → State → State
renumber ps s = record s { orders = ps }

-- what two states come to that differ in numbers alone
record Twin (n m : Next) : Type 0 where
  state : m.0 ≡ renumber m.0.orders n.0
  alike : Alike n.0.tasks n.0.orders m.0.orders
  told : n.1 ≡ m.1

-- numbers that rank tasks alike rank them alike the other way round, and after a change that makes no new rivals
beside-sym : (t : Task) (o p : ℤ) (ts : List Task) (os ps : List ℤ) → Beside t o p ts os ps → Beside t p o ts ps os
beside-sym t o p [] [] [] h = tt
beside-sym t o p [] [] (y ∷ ys) h = absurd h
beside-sym t o p [] (x ∷ xs) ps h = absurd h
beside-sym t o p (u ∷ us) [] ps h = absurd h
beside-sym t o p (u ∷ us) (x ∷ xs) [] h = absurd h
beside-sym t o p (u ∷ us) (x ∷ xs) (y ∷ ys) h = (λ r. (sym (h.0 r).0, sym (h.0 r).1), beside-sym t o p us xs ys h.1)

alike-sym : (ts : List Task) (os ps : List ℤ) → Alike ts os ps → Alike ts ps os
alike-sym [] [] [] h = tt
alike-sym [] [] (p ∷ ps) h = absurd h
alike-sym [] (o ∷ os) ps h = absurd h
alike-sym (t ∷ ts) [] ps h = absurd h
alike-sym (t ∷ ts) (o ∷ os) [] h = absurd h
alike-sym (t ∷ ts) (o ∷ os) (p ∷ ps) h = (beside-sym t o p ts os ps h.0, alike-sym ts os ps h.1)

-- a change after which a task has no rival that it had not before
abbrev Tames : (Task → Task) → Type 0
Tames f = (t u : Task) → AreRivals (f t) u → AreRivals t u

rivals-sym : (t u : Task) → AreRivals t u → AreRivals u t
rivals-sym t u r = (r.1, r.0, sym r.2)

beside-first : (f : Task → Task) (t : Task) (o p : ℤ) (ts : List Task) (os ps : List ℤ) → Tames f → Beside t o p ts os ps → Beside (f t) o p ts os ps
beside-first f t o p [] [] [] tames h = tt
beside-first f t o p [] [] (y ∷ ys) tames h = absurd h
beside-first f t o p [] (x ∷ xs) ps tames h = absurd h
beside-first f t o p (u ∷ us) [] ps tames h = absurd h
beside-first f t o p (u ∷ us) (x ∷ xs) [] tames h = absurd h
beside-first f t o p (u ∷ us) (x ∷ xs) (y ∷ ys) tames h = (λ r. h.0 (tames t u r), beside-first f t o p us xs ys tames h.1)

beside-change : (i : ℕ) (f : Task → Task) (t : Task) (o p : ℤ) (ts : List Task) (os ps : List ℤ) → Tames f → Beside t o p ts os ps
    → Beside t o p (change i f ts) os ps
beside-change i f t o p [] [] [] tames h = tt
beside-change i f t o p [] [] (y ∷ ys) tames h = absurd h
beside-change i f t o p [] (x ∷ xs) ps tames h = absurd h
beside-change i f t o p (u ∷ us) [] ps tames h = absurd h
beside-change i f t o p (u ∷ us) (x ∷ xs) [] tames h = absurd h
beside-change zero f t o p (u ∷ us) (x ∷ xs) (y ∷ ys) tames h = (λ r. h.0 (rivals-sym u t (tames u t (rivals-sym t (f u) r))), h.1)
beside-change (suc i) f t o p (u ∷ us) (x ∷ xs) (y ∷ ys) tames h = (h.0, beside-change i f t o p us xs ys tames h.1)

alike-change : (i : ℕ) (f : Task → Task) (ts : List Task) (os ps : List ℤ) → Tames f → Alike ts os ps → Alike (change i f ts) os ps
alike-change i f [] [] [] tames h = tt
alike-change i f [] [] (p ∷ ps) tames h = absurd h
alike-change i f [] (o ∷ os) ps tames h = absurd h
alike-change i f (t ∷ ts) [] ps tames h = absurd h
alike-change i f (t ∷ ts) (o ∷ os) [] tames h = absurd h
alike-change zero f (t ∷ ts) (o ∷ os) (p ∷ ps) tames h = (beside-first f t o p ts os ps tames h.0, h.1)
alike-change (suc i) f (t ∷ ts) (o ∷ os) (p ∷ ps) tames h = (beside-change i f t o p ts os ps tames h.0, alike-change i f ts os ps tames h.1)

-- a number above all others, and one below all others
abbrev pub Below : ℤ → List ℤ → Type 0
Below v [] = ⊤
Below v (x ∷ xs) = ((int_lt x v ≡ true) × (int_lt v x ≡ false)) × Below v xs

abbrev pub Above : ℤ → List ℤ → Type 0
Above v [] = ⊤
Above v (x ∷ xs) = ((int_lt x v ≡ false) × (int_lt v x ≡ true)) × Above v xs

same-below : (v w : ℤ) (ts : List Task) (os ps : List ℤ) → Alike ts os ps → Below v os → Below w ps → SameAll v w os ps
same-below v w [] [] [] alike a b = tt
same-below v w [] [] (p ∷ ps) alike a b = absurd alike
same-below v w [] (o ∷ os) ps alike a b = absurd alike
same-below v w (t ∷ ts) [] ps alike a b = absurd alike
same-below v w (t ∷ ts) (o ∷ os) [] alike a b = absurd alike
same-below v w (t ∷ ts) (o ∷ os) (p ∷ ps) alike a b = (a.0.0 ∙ sym b.0.0, a.0.1 ∙ sym b.0.1, same-below v w ts os ps alike.1 a.1 b.1)

same-above : (v w : ℤ) (ts : List Task) (os ps : List ℤ) → Alike ts os ps → Above v os → Above w ps → SameAll v w os ps
same-above v w [] [] [] alike a b = tt
same-above v w [] [] (p ∷ ps) alike a b = absurd alike
same-above v w [] (o ∷ os) ps alike a b = absurd alike
same-above v w (t ∷ ts) [] ps alike a b = absurd alike
same-above v w (t ∷ ts) (o ∷ os) [] alike a b = absurd alike
same-above v w (t ∷ ts) (o ∷ os) (p ∷ ps) alike a b = (a.0.0 ∙ sym b.0.0, a.0.1 ∙ sym b.0.1, same-above v w ts os ps alike.1 a.1 b.1)

-- each number is at most the greatest, and at least the least
below-more : (v w : ℤ) (xs : List ℤ) → v ≤ℤ w → Below (v +ℤ pos 1) xs → Below (w +ℤ pos 1) xs
below-more v w [] le h = tt
below-more v w (x ∷ xs) le h = (below x h.0.0, below-more v w xs le h.1)
  where
    below : (x : ℤ) → int_lt x (v +ℤ pos 1) ≡ true → (int_lt x (w +ℤ pos 1) ≡ true) × (int_lt (w +ℤ pos 1) x ≡ false)
    below x e = (grind (arith, ints), grind (arith, ints))

above-more : (v w : ℤ) (xs : List ℤ) → w ≤ℤ v → Above (v -ℤ pos 1) xs → Above (w -ℤ pos 1) xs
above-more v w [] le h = tt
above-more v w (x ∷ xs) le h = (above x h.0.1, above-more v w xs le h.1)
  where
    above : (x : ℤ) → int_lt (v -ℤ pos 1) x ≡ true → (int_lt x (w -ℤ pos 1) ≡ false) × (int_lt (w -ℤ pos 1) x ≡ true)
    above x e = (grind (arith, ints), grind (arith, ints))

pub greatest : (o : ℤ) (os : List ℤ) → (o ≤ℤ fold int_max o os) × Below (fold int_max o os +ℤ pos 1) os
greatest o [] = (omega (arith, ints), tt)
greatest o (x ∷ xs) =
    let more : (int_max o x ≤ℤ fold int_max (int_max o x) xs) × Below (fold int_max (int_max o x) xs +ℤ pos 1) xs = greatest (int_max o x) xs in
    let m : ℤ = fold int_max (int_max o x) xs in
    (first o x m more.0, (second o x m more.0, more.1))
  where
    first : (a b m : ℤ) → int_max a b ≤ℤ m → a ≤ℤ m
    first a b m h = omega (arith, ints, int_max_is a b)

    second : (a b m : ℤ) → int_max a b ≤ℤ m → (int_lt b (m +ℤ pos 1) ≡ true) × (int_lt (m +ℤ pos 1) b ≡ false)
    second a b m h = let k : b ≤ℤ m = omega (arith, ints, int_max_is a b) in (grind (arith, ints), grind (arith, ints))

pub least : (o : ℤ) (os : List ℤ) → (fold int_min o os ≤ℤ o) × Above (fold int_min o os -ℤ pos 1) os
least o [] = (omega (arith, ints), tt)
least o (x ∷ xs) =
    let more : (fold int_min (int_min o x) xs ≤ℤ int_min o x) × Above (fold int_min (int_min o x) xs -ℤ pos 1) xs = least (int_min o x) xs in
    let m : ℤ = fold int_min (int_min o x) xs in
    (first o x m more.0, (second o x m more.0, more.1))
  where
    first : (a b m : ℤ) → m ≤ℤ int_min a b → m ≤ℤ a
    first a b m h = omega (arith, ints, int_min_is a b)

    second : (a b m : ℤ) → m ≤ℤ int_min a b → (int_lt b (m -ℤ pos 1) ≡ false) × (int_lt (m -ℤ pos 1) b ≡ true)
    second a b m h = let k : m ≤ℤ b = omega (arith, ints, int_min_is a b) in (grind (arith, ints), grind (arith, ints))

pub above_all : (o m : ℤ) → o ≤ℤ m → (int_lt o (m +ℤ pos 1) ≡ true) × (int_lt (m +ℤ pos 1) o ≡ false)
above_all o m h = (grind (arith, ints), grind (arith, ints))

pub below_all : (o m : ℤ) → m ≤ℤ o → (int_lt o (m -ℤ pos 1) ≡ false) × (int_lt (m -ℤ pos 1) o ≡ true)
below_all o m h = (grind (arith, ints), grind (arith, ints))

-- a task that goes behind all others, or before them
alike-last : (i : ℕ) (f : Task → Task) (ts : List Task) (os ps : List ℤ) → Alike ts os ps → Alike (change i f ts) (put_last i os) (put_last i ps)
alike-last i f [] [] [] h = tt
alike-last i f [] [] (p ∷ ps) h = absurd h
alike-last i f [] (o ∷ os) ps h = absurd h
alike-last i f (t ∷ ts) [] ps h = absurd h
alike-last i f (t ∷ ts) (o ∷ os) [] h = absurd h
alike-last i f (t ∷ ts) (o ∷ os) (p ∷ ps) h =
    let v : ℤ = fold int_max o os +ℤ pos 1 in
    let w : ℤ = fold int_max p ps +ℤ pos 1 in
    alike-set i f v w (t ∷ ts) (o ∷ os) (p ∷ ps) h
    (same-below v w (t ∷ ts) (o ∷ os) (p ∷ ps) h (above_all o (fold int_max o os) (greatest o os).0, (greatest o os).1)
    (above_all p (fold int_max p ps) (greatest p ps).0, (greatest p ps).1))

alike-first : (i : ℕ) (f : Task → Task) (ts : List Task) (os ps : List ℤ) → Alike ts os ps → Alike (change i f ts) (put_first i os) (put_first i ps)
alike-first i f [] [] [] h = tt
alike-first i f [] [] (p ∷ ps) h = absurd h
alike-first i f [] (o ∷ os) ps h = absurd h
alike-first i f (t ∷ ts) [] ps h = absurd h
alike-first i f (t ∷ ts) (o ∷ os) [] h = absurd h
alike-first i f (t ∷ ts) (o ∷ os) (p ∷ ps) h =
    let v : ℤ = fold int_min o os -ℤ pos 1 in
    let w : ℤ = fold int_min p ps -ℤ pos 1 in
    alike-set i f v w (t ∷ ts) (o ∷ os) (p ∷ ps) h
    (same-above v w (t ∷ ts) (o ∷ os) (p ∷ ps) h (below_all o (fold int_min o os) (least o os).0, (least o os).1)
    (below_all p (fold int_min p ps) (least p ps).0, (least p ps).1))

-- changes that leave what a task is dispatched by
going-tames : (y : System) (vars : Variables) (ps : List Piece) → Tames (going y.costs vars ps)
going-tames y vars [] t u r = r
going-tames y vars (p ∷ ps) t u r = r

ended-tames : (vars : Variables) → Tames (ended vars)
ended-tames vars t u r = absurd (never t.thread.timing t.next r.0)
  where
    never : (timing : ReleasePattern) (next : ℕ) → resting timing next ≡ Ready → ⊥
    never (Periodic offset period) next e = cc
    never (Requested op ceiling separation jitter external) next e = cc

-- the parts of a step
after-twin : (told : List Event) (n m : Next) → Twin n m → Twin (after told n) (after told m)
after-twin told n m t = record { state = t.state; alike = t.alike; told = ap (λ es. told ++ es) t.told }

release-twin : (y : System) (i : ℕ) (s : State) (ps : List ℤ) → Alike s.tasks s.orders ps → Twin (release y i s) (release y i (renumber ps s))
release-twin y i s ps h = by_task (slice_get s.tasks i)
  where
    by_task : (o : Option Task) → Twin (release_task y i o s) (release_task y i o (renumber ps s))
    by_task None = record { state = refl; alike = h; told = refl }
    by_task (Some t) = record { state = refl; alike = alike-last i (released y.costs) s.tasks s.orders ps h; told = refl }

serve-twin : (y : System) (i : ℕ) (s : State) (ps : List ℤ) → Alike s.tasks s.orders ps → Twin (serve y i s) (serve y i (renumber ps s))
serve-twin y i s ps h = by_task (slice_get s.tasks i)
  where
    by_test : (b : Bool) → Twin (if b then release y i s else (s, [])) (if b then release y i (renumber ps s) else (renumber ps s, []))
    by_test true = release-twin y i s ps h
    by_test false = record { state = refl; alike = h; told = refl }

    by_task : (o : Option Task) → Twin (serve_task y i o s) (serve_task y i o (renumber ps s))
    by_task None = record { state = refl; alike = h; told = refl }
    by_task (Some t) = by_test (is_waiting t.readiness && t.gate.open')

entry-twin : (y : System) (i : ℕ) (t : Task) (section : Resource) (told : List Event) (vars : Variables) (pieces : List Piece) (s : State)
    (ps : List ℤ)
    → Alike s.tasks s.orders ps → Twin (entry y i t section told vars pieces s) (entry y i t section told vars pieces (renumber ps s))
entry-twin y i t (Object object) told vars pieces s ps h = by_test (nat_lt (ceiling_of y (Object object)) t.active)
  where
    by_test : (b : Bool) → Twin (if b then stopped_at y t (Object object) s else entered_at y i (Object object) told vars pieces s)
        (if b then stopped_at y t (Object object) (renumber ps s) else entered_at y i (Object object) told vars pieces (renumber ps s))
    by_test true = record { state = refl; alike = h; told = refl }
    by_test false = record {
      state = refl;
      alike = alike-first i (λ u. going y.costs (lent (Object object) s vars) pieces
          (inside_now (Object object) (ceiling_of y (Object object)) u)) s.tasks s.orders ps h;
      told = refl;
    }
entry-twin y i t (Control task) told vars pieces s ps h = by_test (nat_lt (ceiling_of y (Control task)) t.active)
  where
    by_test : (b : Bool) → Twin (if b then stopped_at y t (Control task) s else entered_at y i (Control task) told vars pieces s)
        (if b then stopped_at y t (Control task) (renumber ps s) else entered_at y i (Control task) told vars pieces (renumber ps s))
    by_test true = record { state = refl; alike = h; told = refl }
    by_test false = record {
      state = refl;
      alike = alike-first i (λ u. going y.costs vars pieces (inside_now (Control task) (ceiling_of y (Control task)) u)) s.tasks s.orders ps h;
      told = refl;
    }

exit-alike : (y : System) (i : ℕ) (vars : Variables) (pieces : List Piece) (s : State) (ps : List ℤ) → Alike s.tasks s.orders ps
    → Alike (exit y i vars pieces s).tasks (exit y i vars pieces s).orders (put_first i ps)
exit-alike y i vars pieces s ps h = alike-first i (λ u. going y.costs vars pieces (outside_now u)) s.tasks s.orders ps h

go-alike : (y : System) (i : ℕ) (vars : Variables) (pieces : List Piece) (s : State) (ps : List ℤ) → Alike s.tasks s.orders ps
    → Alike (go y i vars pieces s).tasks s.orders ps
go-alike y i vars pieces s ps h = alike-change i (going y.costs vars pieces) s.tasks s.orders ps (going-tames y vars pieces) h

acted-twin : (y : System) (i : ℕ) (t : Task) (act : Act) (vars : Variables) (pieces : List Piece) (s : State) (ps : List ℤ)
    → Alike s.tasks s.orders ps
    → Twin (acted y i t act vars pieces s) (acted y i t act vars pieces (renumber ps s))
acted-twin y i t Silent vars pieces s ps h = record { state = refl; alike = go-alike y i vars pieces s ps h; told = refl }
acted-twin y i t (Print v) vars pieces s ps h = record { state = refl; alike = go-alike y i vars pieces s ps h; told = refl }
acted-twin y i t (Enter object op values) vars pieces s ps h =
    entry-twin y i t (Object object) (event.Enter s.time t.thread.unit (object_unit y object) op values ∷ []) vars pieces s ps h
acted-twin y i t (Leave object op values data') vars pieces s ps h = record { state = refl; alike = exit-alike y i vars pieces s ps h; told = refl }
acted-twin y i t (Ask task) vars pieces s ps h = entry-twin y i t (Control task) [] vars pieces s ps h
acted-twin y i t (Keep task v) vars pieces s ps h = record {
  state = refl;
  alike = alike-change task (λ u. record u { gate = record u.gate { value = v } }) (go y i vars pieces s).tasks s.orders ps (λ a b r.
      r) (go-alike y i vars pieces s ps h);
  told = refl;
}
acted-twin y i t (Open task) vars pieces s ps h = record {
  state = refl;
  alike = alike-change task (λ u. record u { gate = record u.gate { open' = true } }) (go y i vars pieces s).tasks s.orders ps (λ a b r.
      r) (go-alike y i vars pieces s ps h);
  told = refl;
}
acted-twin y i t (Ended task v) vars pieces s ps h =
    after-twin (event.Request s.time t.thread.unit (task_unit y task) v ∷ []) (serve y task (exit y i vars pieces s))
    (serve y task (exit y i vars pieces (renumber ps s)))
    (serve-twin y task (exit y i vars pieces s) (put_first i ps) (exit-alike y i vars pieces s ps h))
acted-twin y i t Finish vars pieces s ps h =
    let s' : State = record s { tasks = change i (ended vars) s.tasks } in
    after-twin (event.End s.time t.thread.unit t.used ∷ []) (serve y i s') (serve y i (renumber ps s'))
    (serve-twin y i s' ps (alike-change i (ended vars) s.tasks s.orders ps (ended-tames vars) h))

goes-twin : (phase : Phase) (s : State) (ps : List ℤ) → Alike s.tasks s.orders ps → Twin (goes_to phase s) (goes_to phase (renumber ps s))
goes-twin phase s ps h = record { state = refl; alike = h; told = refl }

effect-twin : (y : System) (ran : Option ℕ) (s : State) (ps : List ℤ) → Alike s.tasks s.orders ps
    → Twin (effect_step y ran s) (effect_step y ran (renumber ps s))
effect-twin y None s ps h = goes-twin Delays s ps h
effect-twin y (Some i) s ps h = by_task (slice_get s.tasks i)
  where
    by_pieces : (t : Task) (pieces : List Piece) → Twin (effect_of y i t pieces s) (effect_of y i t pieces (renumber ps s))
    by_pieces t [] = goes-twin Delays s ps h
    by_pieces t (p ∷ rest) = by_left (t.left == 0)
      where
        by_left : (b : Bool) → Twin (if b then takes_effect y i t (done y p t.vars rest) s else goes_to Delays s)
            (if b then takes_effect y i t (done y p t.vars rest) (renumber ps s) else goes_to Delays (renumber ps s))
        by_left true = let d : PieceOutcome = done y p t.vars rest in acted-twin y i t d.act d.vars d.pieces s ps h
        by_left false = goes-twin Delays s ps h

    by_task : (o : Option Task) → Twin (effect_at y i o s) (effect_at y i o (renumber ps s))
    by_task None = goes-twin Delays s ps h
    by_task (Some t) = by_pieces t t.pieces

horizon-twin : (y : System) (s : State) (ps : List ℤ) → Alike s.tasks s.orders ps → Twin (horizon_step y s) (horizon_step y (renumber ps s))
horizon-twin y s ps h = by_time (s.time == y.until)
  where
    by_time : (b : Bool) → Twin (if b then (record s { stopped = true }, event.Horizon s.time ∷ []) else goes_to Use s)
        (if b then (record (renumber ps s) { stopped = true }, event.Horizon s.time ∷ []) else goes_to Use (renumber ps s))
    by_time true = record { state = refl; alike = h; told = refl }
    by_time false = goes-twin Use s ps h

arrival-twin : (y : System) (arrivals : List Arrival) (s : State) (ps : List ℤ) → Alike s.tasks s.orders ps
    → Twin (arrival_step y arrivals s) (arrival_step y arrivals (renumber ps s))
arrival-twin y [] s ps h = horizon-twin y s ps h
arrival-twin y (a ∷ others) s ps h = by_time (a.time == s.time)
  where
    s' : State
    s' = record s { arrivals = others }

    by_task : (o : Option (ℕ × Task))
        → Twin (arrive_at y a o (record s { arrivals = others })) (arrive_at y a o (record (renumber ps s) { arrivals = others }))
    by_task None = record { state = refl; alike = h; told = refl }
    by_task (Some t) =
        let f : Task → Task = λ u. record u { gate = record { value = a.value; open' = true } } in
        let s'' : State = record s { arrivals = others; tasks = change t.0 f s.tasks } in
        after-twin (event.Arrive s.time a.task a.value ∷ []) (serve y t.0 s'') (serve y t.0 (renumber ps s''))
        (serve-twin y t.0 s'' ps (alike-change t.0 f s.tasks s.orders ps (λ b c r. r) h))

    by_time : (b : Bool) → Twin (if b then arrive_at y a (first_where (λ t. t.thread.unit == a.task) s.tasks)
        (record s { arrivals = others }) else horizon_step y s)
        (if b then arrive_at y a (first_where (λ t. t.thread.unit == a.task) s.tasks) (record (renumber ps s) { arrivals = others }) else horizon_step
        y (renumber ps s))
    by_time true = by_task (first_where (λ t. t.thread.unit == a.task) s.tasks)
    by_time false = horizon-twin y s ps h

use-twin : (y : System) (o : Option ℕ) (s : State) (ps : List ℤ) → Alike s.tasks s.orders ps → Twin (use_step y o s) (use_step y o (renumber ps s))
use-twin y None s ps h = record { state = refl; alike = h; told = refl }
use-twin y (Some i) s ps h =
    record {
      state = refl;
      alike = alike-change i (λ t. record t { left = t.left - 1; used = t.used + 1 }) s.tasks s.orders ps (λ a b r. r) h;
      told = refl;
    }

phase-twin : (y : System) (phase : Phase) (s : State) (ps : List ℤ) → Alike s.tasks s.orders ps
    → Twin (step_in phase y s) (step_in phase y (renumber ps s))
phase-twin y Effects s ps h = effect-twin y s.ran s ps h
phase-twin y Delays s ps h = by_sleeper (first_where (λ t. is_due s.time t.readiness) s.tasks)
  where
    by_sleeper : (o : Option (ℕ × Task)) → Twin (delay_step y o s) (delay_step y o (renumber ps s))
    by_sleeper None = goes-twin Arriving s ps h
    by_sleeper (Some t) = release-twin y t.0 s ps h
phase-twin y Arriving s ps h = arrival-twin y s.arrivals s ps h
phase-twin y Use s ps h =
    subst (λ (o : Option ℕ). Twin (use_step y (dispatched s.tasks s.orders) s) (use_step y o (renumber ps s)))
    (dispatched-alike s.tasks s.orders ps h)
    (use-twin y (dispatched s.tasks s.orders) s ps h)

step-twin : (y : System) (s : State) (ps : List ℤ) → Alike s.tasks s.orders ps → Twin (step y s) (step y (renumber ps s))
step-twin y s ps h = by_stopped s.stopped
  where
    by_stopped : (b : Bool) → Twin (if b then (s, []) else step_in s.phase y s) (if b then (renumber ps s, []) else step_in s.phase y (renumber ps s))
    by_stopped true = record { state = refl; alike = h; told = refl }
    by_stopped false = phase-twin y s.phase s ps h

run-twin : (y : System) (n : ℕ) (s : State) (ps : List ℤ) → Alike s.tasks s.orders ps → Twin (run y n s) (run y n (renumber ps s))
run-twin y zero s ps h = record { state = refl; alike = h; told = refl }
run-twin y (suc n) s ps h =
    let a : Next = step y s in
    let b : Next = step y (renumber ps s) in
    let first : Twin a b = step-twin y s ps h in
    let more : Twin (run y n a.0) (run y n b.0) =
    subst (λ (z : State). Twin (run y n a.0) (run y n z)) (sym first.state) (run-twin y n a.0 b.0.orders first.alike) in
    record {
      state = more.state;
      alike = more.alike;
      told = ap (λ es. es ++ (run y n a.0).1) first.told ∙ ap (λ es. b.1 ++ es) more.told;
    }

rest-renumbered : (y : System) (s : State) (ps : List ℤ) (told : List Event) → Alike s.tasks s.orders ps → Rest y s told → Rest y (renumber ps s) told
rest-renumbered y s ps told h r =
    let t : Twin (run y r.steps s) (run y r.steps (renumber ps s)) = run-twin y r.steps s ps h in
    record { steps = r.steps; stops = ap (λ z. z.stopped) t.state ∙ r.stops; tells = sym t.told ∙ r.tells }

-- numbers that rank tasks alike by their places
beside-of : (t : Task) (o p : ℤ) (us : List Task) (xs ys : List ℤ) → length xs ≡ length us → length ys ≡ length us
    → ((j : ℕ) (u : Task) (x y : ℤ) → slice_get us j ≡ Some u → AreRivals t u → HasNumber xs j x → HasNumber ys j y → SameOrder o x p y)
    → Beside t o p us xs ys
beside-of t o p [] [] [] a b h = tt
beside-of t o p [] [] (y ∷ ys) a b h = absurd (omega arith)
beside-of t o p [] (x ∷ xs) ys a b h = absurd (omega arith)
beside-of t o p (u ∷ us) [] ys a b h = absurd (omega arith)
beside-of t o p (u ∷ us) (x ∷ xs) [] a b h = absurd (omega arith)
beside-of t o p (u ∷ us) (x ∷ xs) (y ∷ ys) a b h =
    (λ r. h 0 u x y refl r refl refl, beside-of t o p us xs ys (omega arith) (omega arith) (λ j v z w at r hz hw. h (suc j) v z w at r hz hw))

no_length : (k : ℕ) → suc k ≡ 0 → ⊥
no_length k e = omega arith

alike-of : (ts : List Task) (os ps : List ℤ) → RankAlike ts os ps → Alike ts os ps
alike-of [] [] [] h = tt
alike-of [] [] (p ∷ ps) h = absurd (no_length (length ps) h.renumbered)
alike-of [] (o ∷ os) ps h = absurd (no_length (length os) h.numbered)
alike-of (t ∷ ts) [] ps h = absurd (no_length (length ts) (sym h.numbered))
alike-of (t ∷ ts) (o ∷ os) [] h = absurd (no_length (length ts) (sym h.renumbered))
alike-of (t ∷ ts) (o ∷ os) (p ∷ ps) h =
    let a : length os ≡ length ts = less (length os) (length ts) h.numbered in
    let b : length ps ≡ length ts = less (length ps) (length ts) h.renumbered in (
      beside-of t o p ts os ps a b
          (λ j u x y at r hx hy. (
            h.alike (suc j) 0 u t x o y p at refl (r.1, r.0, sym r.2) hx refl hy refl,
            h.alike 0 (suc
                j) t u o x p y refl at r refl hx refl hy,
          )),
      alike-of ts os ps (record {
        numbered = a;
        renumbered = b;
        alike = λ i j t' u' o' x p' y hi hj r ho hx hp hy. h.alike (suc i) (suc j) t' u' o' x p' y hi hj r ho hx hp hy;
      }),
    )
  where
    less : (k m : ℕ) → suc k ≡ suc m → k ≡ m
    less k m e = omega arith

-- the law
pub renumbered_tells : (y : System) (s t : State) (told : List Event) → DifferInOrders s t → Rest y s told ↔ Rest y t told
renumbered_tells y s t told d =
    let h : Alike s.tasks s.orders t.orders = alike-of s.tasks s.orders t.orders d.ranks in
    let there : renumber t.orders s ≡ t = sym d.same in
    let back : renumber s.orders t ≡ s = ap (renumber s.orders) d.same in
    let h' : Alike t.tasks t.orders s.orders = subst (λ (ts : List Task). Alike ts t.orders s.orders) (ap (λ z. z.tasks) there)
    (alike-sym s.tasks s.orders t.orders h) in (
      λ r. subst (λ (z : State). Rest y z told) there (rest-renumbered y s t.orders told h r),
      λ r. subst (λ (z : State). Rest y z told) back (rest-renumbered y t s.orders told h' r),
    )

-- and by places where they do so one after another
beside-at : (t : Task) (o p : ℤ) (us : List Task) (xs ys : List ℤ) (j : ℕ) (u : Task) (x y : ℤ) → Beside t o p us xs ys → slice_get us j ≡ Some u
    → HasNumber xs j x → HasNumber ys j y → AreRivals t u → SameOrder o x p y
beside-at t o p [] xs ys j u x y h at hx hy r = absurd (none-some u at)
beside-at t o p (v ∷ vs) [] ys j u x y h at hx hy r = absurd (none-some x hx)
beside-at t o p (v ∷ vs) (z ∷ zs) [] j u x y h at hx hy r = absurd (none-some y hy)
beside-at t o p (v ∷ vs) (z ∷ zs) (w ∷ ws) zero u x y h at hx hy r =
    subst (λ a. SameOrder o a p y) (same_Some z x hx)
    (subst (λ b. SameOrder o z p b) (same_Some w y hy) (h.0 (subst (AreRivals t) (sym (same_Some v u at)) r)))
beside-at t o p (v ∷ vs) (z ∷ zs) (w ∷ ws) (suc j) u x y h at hx hy r = beside-at t o p vs zs ws j u x y h.1 at hx hy r

never : (o : ℤ) → int_lt o o ≡ false
never o = grind (arith, ints)

ranks-at : (ts : List Task) (os ps : List ℤ) → Alike ts os ps → (i j : ℕ) (t u : Task) (o x p y : ℤ) → slice_get ts i ≡ Some t → slice_get ts j ≡ Some u
    → AreRivals t u → HasNumber os i o → HasNumber os j x → HasNumber ps i p → HasNumber ps j y → int_lt o x ≡ int_lt p y
ranks-at [] os ps h i j t u o x p y at at' r ho hx hp hy = absurd (none-some t at)
ranks-at (v ∷ vs) [] ps h i j t u o x p y at at' r ho hx hp hy = absurd (none-some o ho)
ranks-at (v ∷ vs) (a ∷ as') [] h i j t u o x p y at at' r ho hx hp hy = absurd (none-some p hp)
ranks-at (v ∷ vs) (a ∷ as') (b ∷ bs) h zero zero t u o x p y at at' r ho hx hp hy =
    ap (int_lt o) (sym (same_Some a x hx) ∙ same_Some a o ho) ∙ never o ∙ sym (never p) ∙ ap (int_lt p) (sym (same_Some b p hp) ∙ same_Some b y hy)
ranks-at (v ∷ vs) (a ∷ as') (b ∷ bs) h zero (suc j) t u o x p y at at' r ho hx hp hy =
    (beside-at t o p vs as' bs j u x y
    (subst (λ n. Beside t n p vs as' bs) (same_Some a o ho)
    (subst (λ n. Beside t a n vs as' bs) (same_Some b p hp) (subst (λ w. Beside w a b vs as' bs) (same_Some v t at) h.0)))
    at' hx hy r).1
ranks-at (v ∷ vs) (a ∷ as') (b ∷ bs) h (suc i) zero t u o x p y at at' r ho hx hp hy =
    (beside-at u x y vs as' bs i t o p
    (subst (λ n. Beside u n y vs as' bs) (same_Some a x hx)
    (subst (λ n. Beside u a n vs as' bs) (same_Some b y hy) (subst (λ w. Beside w a b vs as' bs) (same_Some v u at') h.0)))
    at ho hp (rivals-sym t u r)).0
ranks-at (v ∷ vs) (a ∷ as') (b ∷ bs) h (suc i) (suc j) t u o x p y at at' r ho hx hp hy =
    ranks-at vs as' bs h.1 i j t u o x p y at at' r ho hx hp hy

alike-lengths : (ts : List Task) (os ps : List ℤ) → Alike ts os ps → (length os ≡ length ts) × (length ps ≡ length ts)
alike-lengths [] [] [] h = (refl, refl)
alike-lengths [] [] (p ∷ ps) h = absurd h
alike-lengths [] (o ∷ os) ps h = absurd h
alike-lengths (t ∷ ts) [] ps h = absurd h
alike-lengths (t ∷ ts) (o ∷ os) [] h = absurd h
alike-lengths (t ∷ ts) (o ∷ os) (p ∷ ps) h = let more = alike-lengths ts os ps h.1 in (ap suc more.0, ap suc more.1)

rank-of : (ts : List Task) (os ps : List ℤ) → Alike ts os ps → RankAlike ts os ps
rank-of ts os ps h = record {
  numbered = (alike-lengths ts os ps h).0;
  renumbered = (alike-lengths ts os ps h).1;
  alike = ranks-at ts os ps h;
}

-- two states that differ in order numbers alone do so after any number of steps
pub renumbered_runs : (y : System) (n : ℕ) (s t : State) → DifferInOrders s t → DifferInOrders (run y n s).0 (run y n t).0
renumbered_runs y n s t d =
    let twin : Twin (run y n s) (run y n (renumber t.orders s)) = run-twin y n s t.orders (alike-of s.tasks s.orders t.orders d.ranks) in
    let D : State → Type 0 = λ z. DifferInOrders (run y n s).0 (run y n z).0 in
    subst D (sym d.same) (record {
      same = twin.state;
      ranks = rank-of (run y n s).0.tasks (run y n s).0.orders (run y n (renumber t.orders s)).0.orders twin.alike;
    })

-- each place among so many has a number
number-there : (os : List ℤ) (i : ℕ) → i < length os → (o : ℤ) × HasNumber os i o
number-there [] i h = absurd (omega arith)
number-there (o ∷ os) zero h = (o, refl)
number-there (o ∷ os) (suc i) h = number-there os i (omega arith)

-- one state differs from itself in order numbers alone, where each task has one; and so do states one after another
pub renumbered_none : (s : State) → length s.orders ≡ length s.tasks → DifferInOrders s s
renumbered_none s numbered = record {
  same = refl;
  ranks = record {
    numbered = numbered;
    renumbered = numbered;
    alike = λ i j t u o x p y at at' r ho hx hp hy.
        ap (int_lt o) (same_Some x y (sym hx ∙ hy)) ∙ ap (λ n. int_lt n y) (same_Some o p (sym ho ∙ hp));
  };
}

pub renumbered_then : (s t u : State) → DifferInOrders s t → DifferInOrders t u → DifferInOrders s u
renumbered_then s t u a b = record {
  same = b.same ∙ ap (renumber u.orders) a.same;
  ranks = record {
    numbered = a.ranks.numbered;
    renumbered = b.ranks.renumbered ∙ ap length tasks;
    alike = λ i j v w o x p y at at' r ho hx hp hy.
        let n = number-there t.orders i (within i v at) in
        let m = number-there t.orders j (within j w at') in
        a.ranks.alike i j v w o x n.0 m.0 at at' r ho hx n.1 m.1
        ∙ b.ranks.alike i j v w n.0 m.0 p y (subst (λ ts. slice_get ts i ≡ Some v) (sym tasks) at)
        (subst (λ ts. slice_get ts j ≡ Some w) (sym tasks) at') r n.1 m.1 hp hy;
  };
}
  where
    tasks : t.tasks ≡ s.tasks
    tasks = ap (λ z. z.tasks) a.same

    within : (i : ℕ) (v : Task) → slice_get s.tasks i ≡ Some v → i < length t.orders
    within i v at = let k : i < length s.tasks = slice_get_within s.tasks i v at in let l : length t.orders ≡ length s.tasks = a.ranks.renumbered in omega arith
