-- Accounts of tasks: which are running, and the ticks used so far. What they will still use before a time is at most the ticks up to it.
-- One account changes at a time: it opens at a release, it closes at an end, and it takes one tick.
use Rattle.std.specs.Prelude.{◌≡◌, ◌≢◌, ◌⊎◌, ℕ, zero, suc, ◌+◌, ◌-◌, ◌≤◌, ◌<◌, Bool, true, false, ◌&&◌, nat_le, List, [], ◌∷◌, ◌++◌, map, slice_get}
use Rattle.std.specs.Prelude.{Option, Some, None, if◌then◌else◌, refl}
use Rattle.std.proofs.Common.{sym, ◌∙◌, ap, subst, arith, inl, inr}
use Rattle.std.proofs.lemmas.Bool.{cases_lt}
use Rattle.std.proofs.lemmas.Option.{none-some, same_Some}
use Rattle.seq_tree.specs.Lists.{change}
use Rattle.law_lists.proofs.Shared.Places.{map-at}
use Rattle.law_one_processor.specs.Demand.{Ended, demand}
use Rattle.law_one_processor.specs.Activations.{ended_by}

-- what is counted of a task
pub record Account : Type 0 where
  pub unit : ℕ
  pub runs : Bool
  pub used : ℕ

-- an account after a release, an end and a tick
abbrev pub opened : Account → Account
opened c = record c { runs = true; used = 0 }

abbrev pub closed : Account → Account
closed c = record c { runs = false }

abbrev pub ticked : Account → Account
ticked c = record c { used = c.used + 1 }

-- the next end of the task of each unit, where there is one: its time and the ticks used
abbrev pub NextEnds : Type 0
NextEnds = ℕ → Option (ℕ × ℕ)

-- the ticks that an activation will still use, where it ends by a time
abbrev pub rest_of : ℕ → ℕ → Option (ℕ × ℕ) → ℕ
rest_of b used None = 0
rest_of b used (Some end) = if nat_le end.0 b then end.1 - used else 0

abbrev pub due : ℕ → NextEnds → Account → ℕ
due b next c = if c.runs then rest_of b c.used (next c.unit) else 0

abbrev pub dues : ℕ → NextEnds → List Account → ℕ
dues b next [] = 0
dues b next (c ∷ cs) = due b next c + dues b next cs

-- the ticks of the activations that end by a time
abbrev pub ending : ℕ → List Ended → ℕ
ending b [] = 0
ending b (w ∷ ws) = (if nat_le w.ended b then w.used else 0) + ending b ws

-- what is claimed at a time, with the next ends and the activations that are still to come: the ticks that are used up to any later time are
-- at most the ticks up to it, each end is to come, and no interval has a demand above its length
pub record Owes (now : ℕ) (cs : List Account) (next : NextEnds) (ws : List Ended) : Type 0 where
  pub most : (b : ℕ) → dues b next cs + ending b ws ≤ b - now
  pub late : (unit : ℕ) (end : ℕ × ℕ) → next unit ≡ Some end → now ≤ end.0
  pub fit : (a b : ℕ) → demand a b ws ≤ b - a

-- nothing to come
dues-none : (b : ℕ) (cs : List Account) → dues b (λ unit. None) cs ≡ 0
dues-none b [] = refl
dues-none b (c ∷ cs) = by c.runs (dues-none b cs)
  where
    by : (runs : Bool) → dues b (λ unit. None) cs ≡ 0 → (if runs then 0 else 0) + dues b (λ unit. None) cs ≡ 0
    by true e = omega arith
    by false e = omega arith

pub owes-nothing : (now : ℕ) (cs : List Account) → Owes now cs (λ unit. None) []
owes-nothing now cs = record {
  most = λ b. (let none = dues-none b cs in omega arith);
  late = λ unit end is. absurd (none-some end is);
  fit = λ a b. omega arith;
}

-- a tick that no task uses
pub owes-idle : (now : ℕ) (cs : List Account) (next : NextEnds) (ws : List Ended) → Owes (now + 1) cs next ws → Owes now cs next ws
owes-idle now cs next ws h = record {
  most = λ b. (let most = h.most b in omega arith);
  late = λ unit end is. (let late = h.late unit end is in omega arith);
  fit = h.fit;
}

-- a tick that one task uses
rest-ticked : (b used : ℕ) (o : Option (ℕ × ℕ)) → rest_of b used o ≤ rest_of b (used + 1) o + 1
rest-ticked b used None = omega arith
rest-ticked b used (Some end) = by (nat_le end.0 b)
  where
    by : (t : Bool) → (if t then end.1 - used else 0) ≤ (if t then end.1 - (used + 1) else 0) + 1
    by true = omega arith
    by false = omega arith

due-ticked : (b : ℕ) (next : NextEnds) (c : Account) → due b next c ≤ due b next (ticked c) + 1
due-ticked b next c = by c.runs
  where
    by : (runs : Bool) → (if runs then rest_of b c.used (next c.unit) else 0) ≤ (if runs then rest_of b (c.used + 1) (next c.unit) else 0) + 1
    by true = rest-ticked b c.used (next c.unit)
    by false = omega arith

dues-ticked : (b : ℕ) (next : NextEnds) (i : ℕ) (cs : List Account) → dues b next cs ≤ dues b next (change i ticked cs) + 1
dues-ticked b next i [] = omega arith
dues-ticked b next zero (c ∷ cs) = let one = due-ticked b next c in omega arith
dues-ticked b next (suc i) (c ∷ cs) = let more = dues-ticked b next i cs in omega arith

-- up to a time that has passed nothing is due
rest-late : (b now used : ℕ) (o : Option (ℕ × ℕ)) → b ≤ now → ((end : ℕ × ℕ) → o ≡ Some end → now + 1 ≤ end.0) → rest_of b used o ≡ 0
rest-late b now used None h late = refl
rest-late b now used (Some end) h late = by (nat_le end.0 b) refl (late end refl)
  where
    by : (t : Bool) → nat_le end.0 b ≡ t → now + 1 ≤ end.0 → (if t then end.1 - used else 0) ≡ 0
    by true e l = absurd (grind arith)
    by false e l = refl

dues-late : (b now : ℕ) (next : NextEnds) (cs : List Account) → b ≤ now → ((unit : ℕ) (end : ℕ × ℕ) → next unit ≡ Some end → now + 1 ≤ end.0)
    → dues b next cs ≡ 0
dues-late b now next [] h late = refl
dues-late b now next (c ∷ cs) h late = by c.runs (rest-late b now c.used (next c.unit) h (late c.unit)) (dues-late b now next cs h late)
  where
    by : (runs : Bool) → rest_of b c.used (next c.unit) ≡ 0 → dues b next cs ≡ 0
        → (if runs then rest_of b c.used (next c.unit) else 0) + dues b next cs ≡ 0
    by true none more = omega arith
    by false none more = omega arith

pub owes-tick : (now i : ℕ) (cs : List Account) (next : NextEnds) (ws : List Ended) → Owes (now + 1) (change i ticked cs) next ws
    → Owes now cs next ws
owes-tick now i cs next ws h = record {
  most = λ b. by b (cases_lt now b);
  late = λ unit end is. (let late = h.late unit end is in omega arith);
  fit = h.fit;
}
  where
    by : (b : ℕ) → (now < b) ⊎ (b ≤ now) → dues b next cs + ending b ws ≤ b - now
    by b (inl l) = let most = h.most b in let one = dues-ticked b next i cs in omega arith
    by b (inr l) = let most = h.most b in let none = dues-late b now next cs l h.late in omega arith

-- a release: the account opens
due-opened : (b : ℕ) (next : NextEnds) (c : Account) (n : ℕ) → c.runs ≡ false
    → due b next (opened c) + n ≡ (due b next c + n) + rest_of b 0 (next c.unit)
due-opened b next c n shut =
    let none : due b next c ≡ 0 = ap (λ t. if t then rest_of b c.used (next c.unit) else 0) shut in
    omega arith

dues-opened : (b : ℕ) (next : NextEnds) (i : ℕ) (cs : List Account) (c : Account) → slice_get cs i ≡ Some c → c.runs ≡ false
    → dues b next (change i opened cs) ≡ dues b next cs + rest_of b 0 (next c.unit)
dues-opened b next i [] c at shut = absurd (none-some c at)
dues-opened b next zero (d ∷ cs) c at shut =
    let P : Account → Type 0 = λ x. dues b next (opened x ∷ cs) ≡ dues b next (x ∷ cs) + rest_of b 0 (next c.unit) in
    subst P (sym (same_Some d c at)) (due-opened b next c (dues b next cs) shut)
dues-opened b next (suc i) (d ∷ cs) c at shut = let more = dues-opened b next i cs c at shut in omega arith

ending-released : (b now : ℕ) (o : Option (ℕ × ℕ)) (ws : List Ended) → ending b (ended_by now o ++ ws) ≡ rest_of b 0 o + ending b ws
ending-released b now None ws = omega arith
ending-released b now (Some end) ws = by (nat_le end.0 b)
  where
    by : (t : Bool) → (if t then end.1 else 0) + ending b ws ≡ (if t then end.1 - 0 else 0) + ending b ws
    by true = omega arith
    by false = refl

demand-ending : (a b : ℕ) (ws : List Ended) → demand a b ws ≤ ending b ws
demand-ending a b [] = omega arith
demand-ending a b (w ∷ ws) = by (nat_le a w.released) (nat_le w.ended b) (demand-ending a b ws)
  where
    by : (s t : Bool) → demand a b ws ≤ ending b ws
        → (if s && t then w.used else 0) + demand a b ws ≤ (if t then w.used else 0) + ending b ws
    by true true h = omega arith
    by true false h = omega arith
    by false true h = omega arith
    by false false h = omega arith

demand-before : (a b now : ℕ) (o : Option (ℕ × ℕ)) (ws : List Ended) → now < a → demand a b (ended_by now o ++ ws) ≡ demand a b ws
demand-before a b now None ws h = refl
demand-before a b now (Some end) ws h = by (nat_le a now) refl
  where
    by : (s : Bool) → nat_le a now ≡ s → (if s && nat_le end.0 b then end.1 else 0) + demand a b ws ≡ demand a b ws
    by true e = absurd (grind arith)
    by false e = omega arith

pub owes-release : (now i : ℕ) (cs : List Account) (c : Account) (next : NextEnds) (ws : List Ended) → slice_get cs i ≡ Some c → c.runs ≡ false
    → Owes now (change i opened cs) next ws → Owes now cs next (ended_by now (next c.unit) ++ ws)
owes-release now i cs c next ws at shut h = record { most = most; late = h.late; fit = λ a b. fit a b (cases_lt now a) }
  where
    most : (b : ℕ) → dues b next cs + ending b (ended_by now (next c.unit) ++ ws) ≤ b - now
    most b =
        let was = h.most b in
        let opens = dues-opened b next i cs c at shut in
        let ends = ending-released b now (next c.unit) ws in
        omega arith

    fit : (a b : ℕ) → (now < a) ⊎ (a ≤ now) → demand a b (ended_by now (next c.unit) ++ ws) ≤ b - a
    fit a b (inl l) = let before = demand-before a b now (next c.unit) ws l in let was = h.fit a b in omega arith
    fit a b (inr l) = let less = demand-ending a b (ended_by now (next c.unit) ++ ws) in let all = most b in omega arith

-- which units count as one
module _ (alike : ℕ → ℕ → Bool) (alike-self : (unit : ℕ) → alike unit unit ≡ true) where
  -- units at different places that don't count as one
  abbrev pub AreApart : List ℕ → Type 0
  AreApart us = (i j unit other : ℕ) → slice_get us i ≡ Some unit → slice_get us j ≡ Some other → alike unit other ≡ true → i ≡ j

  -- the next ends before an end
  abbrev pub with_end : ℕ → ℕ → ℕ → NextEnds → NextEnds
  with_end now task used next unit = if alike task unit then Some (now, used) else next unit

  due-other : (b now task used : ℕ) (next : NextEnds) (c : Account) → alike task c.unit ≡ false
      → due b (with_end now task used next) c ≡ due b next c
  due-other b now task used next c e = ap (λ t. if c.runs then rest_of b c.used (if t then Some (now, used) else next c.unit) else 0) e

  due-own : (b now : ℕ) (next : NextEnds) (c : Account) → due b (with_end now c.unit c.used next) c ≡ 0
  due-own b now next c =
      ap (λ t. if c.runs then rest_of b c.used (if t then Some (now, c.used) else next c.unit) else 0) (alike-self c.unit)
      ∙ by c.runs (nat_le now b)
    where
      by : (runs t : Bool) → (if runs then if t then c.used - c.used else 0 else 0) ≡ 0
      by true true = omega arith
      by true false = refl
      by false t = refl

  dues-others : (b now task used : ℕ) (next : NextEnds) (cs : List Account)
      → ((j : ℕ) (d : Account) → slice_get cs j ≡ Some d → alike task d.unit ≡ false)
      → dues b (with_end now task used next) cs ≡ dues b next cs
  dues-others b now task used next [] other = refl
  dues-others b now task used next (c ∷ cs) other =
      let one = due-other b now task used next c (other zero c refl) in
      let more = dues-others b now task used next cs (λ j. other (suc j)) in
      omega arith

  dues-closed : (b now i : ℕ) (next : NextEnds) (cs : List Account) (c : Account) → slice_get cs i ≡ Some c
      → ((j : ℕ) (d : Account) → slice_get cs j ≡ Some d → j ≢ i → alike c.unit d.unit ≡ false)
      → dues b (with_end now c.unit c.used next) cs ≡ dues b next (change i closed cs)
  dues-closed b now i next [] c at other = absurd (none-some c at)
  dues-closed b now zero next (d ∷ cs) c at other =
      let P : Account → Type 0 = λ x. due b (with_end now c.unit c.used next) x ≡ 0 in
      let own = subst P (sym (same_Some d c at)) (due-own b now next c) in
      let more = dues-others b now c.unit c.used next cs (λ j e there. other (suc j) e there (λ is. absurd (omega arith))) in
      omega arith
  dues-closed b now (suc i) next (d ∷ cs) c at other =
      let one = due-other b now c.unit c.used next d (other zero d refl (λ is. absurd (omega arith))) in
      let more = dues-closed b now i next cs c at (λ j e there differs. other (suc j) e there (λ is. differs (omega arith))) in
      omega arith

  -- an end: the account closes
  pub owes-end : (now i : ℕ) (cs : List Account) (c : Account) (next : NextEnds) (ws : List Ended) → AreApart (map (λ d. d.unit) cs)
      → slice_get cs i ≡ Some c → Owes now (change i closed cs) next ws → Owes now cs (with_end now c.unit c.used next) ws
  owes-end now i cs c next ws apart at h = record {
    most = λ b. (let was = h.most b in let closes = dues-closed b now i next cs c at others in omega arith);
    late = λ unit end. late unit end (alike c.unit unit);
    fit = h.fit;
  }
    where
      others : (j : ℕ) (d : Account) → slice_get cs j ≡ Some d → j ≢ i → alike c.unit d.unit ≡ false
      others j d there differs = by (alike c.unit d.unit) refl
        where
          by : (t : Bool) → alike c.unit d.unit ≡ t → t ≡ false
          by true e = absurd (differs (sym (apart i j c.unit d.unit (map-at (λ x. x.unit) cs i c at) (map-at (λ x. x.unit) cs j d there) e)))
          by false e = refl

      late : (unit : ℕ) (end : ℕ × ℕ) (t : Bool) → (if t then Some (now, c.used) else next unit) ≡ Some end → now ≤ end.0
      late unit end true is = let same = ap (λ e. e.0) (same_Some (now, c.used) end is) in omega arith
      late unit end false is = h.late unit end is
