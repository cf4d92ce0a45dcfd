-- What stands behind a deed: it is no more than all that stands there, it begins with a deed of the task, and the exit from the operation outside
-- stands behind the exit from that inside. Walks from event to event come nearer to the end.
use Rattle.std.proofs.Common.{◌≡◌, ℕ, zero, suc, ◌<◌, ◌≤◌, List, [], ◌∷◌, length, drop, Option, Some, None, refl, sym, ap, ◌∙◌, arith}
use Rattle.std.specs.Prelude.{◌==◌, ◌-◌, Bool, true, false, if◌then◌else◌}
use Rattle.std.proofs.lemmas.Bool.{eqb-true, eq-eqb, ne_eqb}
use Rattle.std.proofs.lemmas.List.{length-drop}
use Rattle.trace_tree.specs.declared.event.Event.{Event}
use Rattle.trace_tree.specs.declared.event.Event.TheVariants as event
use Rattle.trace_read.specs.declared.deeds.Part.{Part}
use Rattle.trace_read.specs.declared.deeds.Part.TheVariants.{Other, Plain, Opens, Closes}
use Rattle.trace_read.specs.Deeds.{part_of, task_of, own_by, from_own, exit_by, from_exit, Reads, Reaches}

-- LISTS from an index on
pub drop-next : {X : Type 0} (xs : List X) (k : ℕ) (y : X) (ys : List X) → drop k xs ≡ y ∷ ys → ys ≡ drop (suc k) xs
drop-next [] zero y ys e = absurd (let z : [] ≡ y ∷ ys = e in (cc))
drop-next [] (suc k) y ys e = absurd (let z : [] ≡ y ∷ ys = e in (cc))
drop-next (x ∷ xs) zero y ys e = let z : x ∷ xs ≡ y ∷ ys = e in cc
drop-next (x ∷ xs) (suc k) y ys e = drop-next xs k y ys e

pub drop-some : {X : Type 0} (xs : List X) (k : ℕ) (y : X) (ys : List X) → drop k xs ≡ y ∷ ys → k < length xs
drop-some [] zero y ys e = absurd (let z : [] ≡ y ∷ ys = e in (cc))
drop-some [] (suc k) y ys e = absurd (let z : [] ≡ y ∷ ys = e in (cc))
drop-some (x ∷ xs) zero y ys e = omega arith
drop-some (x ∷ xs) (suc k) y ys e = let h = drop-some xs k y ys e in omega (arith, h)

-- an index of these, which are fewer than those from another index on, stands behind that
pub stands-later : {X : Type 0} (xs ys : List X) (index at : ℕ) → index ≤ length xs → drop index xs ≡ ys → length ys < length (drop at xs)
    → at < index
stands-later xs ys index at within is fewer =
    let here : length (drop index xs) ≡ length xs - index = length-drop index xs in
    let there : length (drop at xs) ≡ length xs - at = length-drop at xs in
    let same : length (drop index xs) ≡ length ys = ap length is in
    omega (arith, here, there, same, within, fewer)

-- PARTS of a task
-- what an event is to the task whose deed it is
abbrev deed_part : Event → Part
deed_part (event.Release time task value) = Plain
deed_part (event.Arrive time task value) = Plain
deed_part (event.Enter time task unit op values) = Opens
deed_part (event.Leave time task unit op values) = Closes
deed_part (event.Request time task target value) = Plain
deed_part (event.Print time task value) = Plain
deed_part (event.End time task used) = Plain
deed_part (event.Stop time task unit priority ceiling) = Plain
deed_part (event.Horizon time) = Plain

abbrev part_by : ℕ → Option ℕ → Part → Part
part_by task None part = Other
part_by task (Some own) part = if own == task then part else Other

part-is : (task : ℕ) (e : Event) → part_of task e ≡ part_by task (task_of e) (deed_part e)
part-is task (event.Release time own value) = refl
part-is task (event.Arrive time own value) = refl
part-is task (event.Enter time own unit op values) = refl
part-is task (event.Leave time own unit op values) = refl
part-is task (event.Request time own target value) = refl
part-is task (event.Print time own value) = refl
part-is task (event.End time own used) = refl
part-is task (event.Stop time own unit priority ceiling) = refl
part-is task (event.Horizon time) = refl

deed-some : (e : Event) → deed_part e ≡ Other → ⊥
deed-some (event.Release time own value) h = absurd (let z : Plain ≡ Other = h in (cc))
deed-some (event.Arrive time own value) h = absurd (let z : Plain ≡ Other = h in (cc))
deed-some (event.Enter time own unit op values) h = absurd (let z : Opens ≡ Other = h in (cc))
deed-some (event.Leave time own unit op values) h = absurd (let z : Closes ≡ Other = h in (cc))
deed-some (event.Request time own target value) h = absurd (let z : Plain ≡ Other = h in (cc))
deed-some (event.Print time own value) h = absurd (let z : Plain ≡ Other = h in (cc))
deed-some (event.End time own used) h = absurd (let z : Plain ≡ Other = h in (cc))
deed-some (event.Stop time own unit priority ceiling) h = absurd (let z : Plain ≡ Other = h in (cc))
deed-some (event.Horizon time) h = absurd (let z : Plain ≡ Other = h in (cc))

-- an event that is something to a task is its deed
by-own : (task : ℕ) (o : Option ℕ) (part : Part) → (part_by task o part ≡ Other → ⊥) → o ≡ Some task
by-own task None part h = absurd (h refl)
by-own task (Some own) part h = by (own == task) refl
  where
    by : (b : Bool) → (own == task) ≡ b → Some own ≡ Some task
    by true e = ap Some (eqb-true own task e)
    by false e = absurd (h (ap (λ z. if z then part else Other) e))

pub part-own : (task : ℕ) (e : Event) → (part_of task e ≡ Other → ⊥) → task_of e ≡ Some task
part-own task e h = by-own task (task_of e) (deed_part e) (λ z. h (part-is task e ∙ z))

-- a deed is something to its task, and nothing to others
pub own-part : (task : ℕ) (e : Event) → task_of e ≡ Some task → part_of task e ≡ Other → ⊥
own-part task e own h =
    deed-some e (
    sym (ap (λ (b : Bool). if b then deed_part e else Other) (eq-eqb task task refl))
    ∙ sym (ap (λ o. part_by task o (deed_part e)) own) ∙ sym (part-is task e) ∙ h
    )

pub other-part : (task own : ℕ) (e : Event) → task_of e ≡ Some own → (own ≡ task → ⊥) → part_of task e ≡ Other
other-part task own e is other =
    part-is task e ∙ ap (λ o. part_by task o (deed_part e)) is ∙ ap (λ (b : Bool). if b then deed_part e else Other) (ne_eqb own task other)

pub no-part : (task : ℕ) (e : Event) → task_of e ≡ None → part_of task e ≡ Other
no-part task e none = part-is task e ∙ ap (λ o. part_by task o (deed_part e)) none

-- another part than none
plain-some : {part : Part} → part ≡ Plain → part ≡ Other → ⊥
plain-some is other = let z : Plain ≡ Other = sym is ∙ other in absurd (cc)

opens-some : {part : Part} → part ≡ Opens → part ≡ Other → ⊥
opens-some is other = let z : Opens ≡ Other = sym is ∙ other in absurd (cc)

closes-some : {part : Part} → part ≡ Closes → part ≡ Other → ⊥
closes-some is other = let z : Closes ≡ Other = sym is ∙ other in absurd (cc)

-- the first of these is a deed
here-first : (task : ℕ) (e y : Event) (es ys : List Event) → (part_of task e ≡ Other → ⊥) → e ∷ es ≡ y ∷ ys → task_of y ≡ Some task
here-first task e y es ys some is = let same : e ≡ y = cc in ap task_of (sym same) ∙ part-own task e some

-- FROM THE NEXT DEED on
own-fewer-by : (e : Event) (es more : List Event) → length more ≤ length es → (part : Part) → length (own_by part (e ∷ es) more) ≤ length (e ∷ es)
own-fewer-by e es more h Other = omega (arith, h)
own-fewer-by e es more h Plain = omega arith
own-fewer-by e es more h Opens = omega arith
own-fewer-by e es more h Closes = omega arith

pub own-fewer : (task : ℕ) (es : List Event) → length (from_own task es) ≤ length es
unfolding from_own
own-fewer task [] = omega arith
own-fewer task (e ∷ es) = own-fewer-by e es (from_own task es) (own-fewer task es) (part_of task e)

module _ (task : ℕ) (e y : Event) (es more ys : List Event) (step : more ≡ y ∷ ys → task_of y ≡ Some task) where
  own-first-by : (part : Part) → part_of task e ≡ part → own_by part (e ∷ es) more ≡ y ∷ ys → task_of y ≡ Some task
  own-first-by Other is g = step g
  own-first-by Plain is g = here-first task e y es ys (plain-some is) g
  own-first-by Opens is g = here-first task e y es ys (opens-some is) g
  own-first-by Closes is g = here-first task e y es ys (closes-some is) g

pub own-first : (task : ℕ) (es : List Event) (y : Event) (ys : List Event) → from_own task es ≡ y ∷ ys → task_of y ≡ Some task
unfolding from_own
own-first task [] y ys h = absurd (let z : [] ≡ y ∷ ys = h in (cc))
own-first task (e ∷ es) y ys h = own-first-by task e y es (from_own task es) ys (own-first task es y ys) (part_of task e) refl h

-- FROM THE EXIT on
module _ (e : Event) (es : List Event) (more : ℕ → List Event) where
  exit-fewer-by : ((d : ℕ) → length (more d) ≤ length es) → (part : Part) (d : ℕ) → length (exit_by part d (e ∷ es) more) ≤ length (e ∷ es)
  exit-fewer-by h Other d = let g = h d in omega (arith, g)
  exit-fewer-by h Plain d = let g = h d in omega (arith, g)
  exit-fewer-by h Opens d = let g = h (suc d) in omega (arith, g)
  exit-fewer-by h Closes zero = omega arith
  exit-fewer-by h Closes (suc d) = let g = h d in omega (arith, g)

  exit-first-by : (task : ℕ) (y : Event) (ys : List Event) → ((d : ℕ) → more d ≡ y ∷ ys → task_of y ≡ Some task) → (part : Part) (d : ℕ)
      → part_of task e ≡ part → exit_by part d (e ∷ es) more ≡ y ∷ ys → task_of y ≡ Some task
  exit-first-by task y ys step Other d is g = step d g
  exit-first-by task y ys step Plain d is g = step d g
  exit-first-by task y ys step Opens d is g = step (suc d) g
  exit-first-by task y ys step Closes zero is g = here-first task e y es ys (closes-some is) g
  exit-first-by task y ys step Closes (suc d) is g = step d g

pub exit-fewer : (task : ℕ) (es : List Event) (depth : ℕ) → length (from_exit task es depth) ≤ length es
unfolding from_exit
exit-fewer task [] depth = omega arith
exit-fewer task (e ∷ es) depth = exit-fewer-by e es (from_exit task es) (exit-fewer task es) (part_of task e) depth

pub exit-first : (task : ℕ) (es : List Event) (depth : ℕ) (y : Event) (ys : List Event) → from_exit task es depth ≡ y ∷ ys → task_of y ≡ Some task
unfolding from_exit
exit-first task [] depth y ys h = absurd (let z : [] ≡ y ∷ ys = h in (cc))
exit-first task (e ∷ es) depth y ys h =
    exit-first-by e es (from_exit task es) task y ys (λ d. exit-first task es d y ys) (part_of task e) depth refl h

-- the exit from the operation outside stands behind that from the one inside
abbrev pub out_of : ℕ → List Event → List Event
out_of task [] = []
out_of task (y ∷ ys) = from_exit task ys 0

module _ (task : ℕ) (e : Event) (es : List Event) (step : (d : ℕ) → from_exit task es (suc d) ≡ out_of task (from_exit task es d)) where
  exit-outer-by : (part : Part) (d : ℕ)
      → exit_by part (suc d) (e ∷ es) (from_exit task es) ≡ out_of task (exit_by part d (e ∷ es) (from_exit task es))
  exit-outer-by Other d = step d
  exit-outer-by Plain d = step d
  exit-outer-by Opens d = step (suc d)
  exit-outer-by Closes zero = refl
  exit-outer-by Closes (suc d) = step d

pub exit-outer : (task : ℕ) (es : List Event) (depth : ℕ) → from_exit task es (suc depth) ≡ out_of task (from_exit task es depth)
unfolding from_exit
exit-outer task [] depth = refl
exit-outer task (e ∷ es) depth = exit-outer-by task e es (exit-outer task es) (part_of task e) depth

-- WALKS come nearer to the end
pub reads-shorter : (es : List Event) (at behind : ℕ) (e : Event) → Reads es at behind (Some e) → length (drop behind es) < length (drop at es)
reads-shorter es at behind e is =
    let long : length (drop at es) ≡ suc (length (drop behind es)) = ap length is.0 in omega (arith, long)

pub reaches-shorter : (es these : List Event) (last index : ℕ) (e : Event) → Reaches es these last index (Some e)
    → length (drop index es) < length (drop last es)
reaches-shorter es these last index e is =
    let here : length (drop index es) ≡ length es - index = length-drop index es in
    let there : length (drop last es) ≡ length es - last = length-drop last es in
    let long : length (drop index es) ≡ suc (length (drop (suc index) es)) = ap length (is.0 ∙ is.1) in
    let later = is.2 in
    omega (arith, here, there, long, later)
