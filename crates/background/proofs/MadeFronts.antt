-- What is made of a flat design whose slow threads are calm, from its parts; and what is made of the flat design of a hard part that was checked.
use Rattle.std.proofs.Common.{◌≡◌, ℕ, ◌<◌, List, [], ◌∷◌, length, take, None, Result, Ok, Err, refl, sym, ap, subst, ◌∙◌}
use Rattle.std.specs.Prelude.{max}
use Rattle.std.proofs.lemmas.List.{length-map}
use Rattle.seq_tree.specs.Limits.{ada_limit}
use Rattle.rt_response.specs.Response.{IsLeastVector}
use Rattle.design_bounds.proofs.Shared.TablePlaces.{ranks-long}
use Rattle.analysis.specs.Priorities.{priorities_of}
use Rattle.ods_tree.specs.Designs.{Design}
use Rattle.ods_tree.specs.Flats.{Thread, Flat}
use Rattle.ods_tree.specs.Flattening.{flat}
use Rattle.ods_tree.specs.Ticks.{first_priority}
use Rattle.design_rules.specs.Rules.{AreMet}
use Rattle.rt_response.specs.Tables.{IsTable}
use Rattle.rt_response.specs.declared.rows.Bound.{Bound}
use Rattle.rt_response.specs.declared.rows.ThreadRow.{ThreadRow}
use Rattle.analysis.specs.Ceilings.{Ranks, control_ceiling, numbered, ranks}
use Rattle.analysis.specs.Tables.{ThreadTable, table}
use Rattle.design_bounds.proofs.Shared.CheckedDesigns.{flat-of}
use Rattle.ods_index.specs.Judging.{head_of}
use Rattle.background_designs.specs.Programs.{raised}
use Rattle.background.specs.Fronts.{slow_count, front_count, front_rows, front_places, slow_requests, at_once, restless_flat, restless_text}
use Rattle.background.specs.Fronts.{restless_bounds}
use Rattle.background.specs.Makes.{Finishes, HasRoom, Makes, MakesCalm, IsStopped, IsUnbounded, bounds_for, text_for}
use Rattle.background.specs.Told.{IsTold}
use Rattle.background.specs.declared.delivery.Background.{Background}
use Rattle.background.specs.declared.delivery.BackgroundRefusal.{BackgroundRefusal}
use Rattle.background.specs.declared.delivery.BackgroundRefusal.TheVariants as refusal
use Rattle.background.proofs.RaisedRooms.{room-raised}

-- the first rows of a table, and their places
pub cut-rows : (f : Flat) (t : ThreadTable) (k : ℕ) (rows : List ThreadRow) → t ≡ table f → k ≡ front_count f → rows ≡ take k t.rows
    → rows ≡ front_rows f
cut-rows f t k rows e count h = h ∙ ap (λ n. take n t.rows) count ∙ ap (λ s. take (front_count f) s.rows) e

pub cut-places : (f : Flat) (t : ThreadTable) (k : ℕ) (places : List ℕ) → t ≡ table f → k ≡ front_count f → places ≡ take k t.places
    → places ≡ front_places f
cut-places f t k places e count h = h ∙ ap (λ n. take n t.places) count ∙ ap (λ s. take (front_count f) s.places) e

-- what stops the bounds stops the text
pub stops : (first : ℕ) (f : Flat) (e : BackgroundRefusal) → IsUnbounded f e → IsStopped first f e
stops first f (refusal.Rule rule) h = h
stops first f (refusal.Broken broken) h = h
stops first f (refusal.Miss thread miss) h = h
stops first f refusal.Long h = absurd h
stops first f refusal.NoMemory h = h

module _ (first : ℕ) (f g : Flat) (set : g ≡ restless_flat f) (r : Ranks) (up : r ≡ raised (slow_count f) (ranks f)) (places : List ℕ)
    (front : places ≡ front_places f) (rows : List ThreadRow) (same : rows ≡ front_rows f) (v : List Bound)
    (least : IsLeastVector (front_rows f) v) where
  text-same : text_for first g r places v ≡ restless_text first f v
  text-same =
      ap (λ h. text_for first h r places v) set ∙ ap (λ s. text_for first (restless_flat f) s places v) up
      ∙ ap (λ ps. text_for first (restless_flat f) (raised (slow_count f) (ranks f)) ps v) front

  named-same : bounds_for first g r places rows v ≡ restless_bounds first f v
  named-same =
      ap (λ h. bounds_for first h r places rows v) set
      ∙ ap (λ s. bounds_for first (restless_flat f) s places rows v) up
      ∙ ap (λ ps. bounds_for first (restless_flat f) (raised (slow_count f) (ranks f)) ps rows v) front
      ∙ ap (λ rs. bounds_for first (restless_flat f) (raised (slow_count f) (ranks f)) (front_places f) rs v) same

  -- what is finished is what is made
  pub finished : (a : Result Background BackgroundRefusal) → Finishes first g r places rows v a → MakesCalm first f a
  finished (Ok d) h = record {
    bounds = v;
    least = least;
    made = h.made ∙ text-same;
    short = h.short;
    named = h.named ∙ named-same;
    ceilings = h.ceilings ∙ ap (λ s. numbered first s.shared) up;
  }
  finished (Err (refusal.Rule rule)) h = absurd h
  finished (Err (refusal.Broken broken)) h = absurd h
  finished (Err (refusal.Miss thread miss)) h = absurd h
  finished (Err refusal.Long) h =
      record { bounds = v; least = least; long = (let L : List ℕ → Type 0 = λ t. ada_limit < length t in subst L text-same h) }
  finished (Err refusal.NoMemory) h = tt

-- a set flat design and raised numbers have as many entries as before
pub set-threads : (f g : Flat) → g ≡ restless_flat f → length g.threads ≡ length f.threads
set-threads f g set = ap (λ h. length h.threads) set ∙ length-map f.threads at_once

pub raised-threads : (f : Flat) (r : Ranks) (least : ℕ) → r ≡ raised least (ranks f) → length r.threads ≡ length f.threads
raised-threads f r least up = ap (λ s. length s.threads) up ∙ length-map (ranks f).threads (max least) ∙ ranks-long f (ranks f) refl

pub raised-obcs : (f : Flat) (r : Ranks) (least : ℕ) → r ≡ raised least (ranks f) → length r.obcs ≡ length f.threads
raised-obcs f r least up =
    ap (λ s. length s.obcs) up ∙ length-map (ranks f).obcs (max least)
    ∙ length-map f.threads (λ (t : Thread). control_ceiling f (priorities_of f) t.name t.timing)

none-at-all : {A : Type 0} (xs : List A) → head_of xs ≡ None → xs ≡ []
none-at-all [] e = refl
none-at-all (x ∷ xs) e = absurd (cc)

module _ (x y : Design) (same : y ≡ x) (met : AreMet y y) (first : ℕ) (written : first ≡ first_priority y) (f : Flat) (flattened : f ≡ flat x) where
  pub room-of : HasRoom first (raised (slow_count f) (ranks f))
  room-of =
      let P : ℕ → Type 0 = λ n. HasRoom n (raised (slow_count (flat y)) (ranks (flat y))) in
      let Q : Flat → Type 0 = λ g. HasRoom first (raised (slow_count g) (ranks g)) in
      subst Q (sym (flat-of x y same met first written f flattened)) (subst P (sym written) (room-raised y met))

  calm-of : head_of (slow_requests f) ≡ None → slow_requests (flat x) ≡ []
  calm-of none = ap slow_requests (sym flattened) ∙ none-at-all (slow_requests f) none

  pub front-of : (slow_requests (flat x) ≡ [] → IsTable (front_rows (flat x))) → head_of (slow_requests f) ≡ None → IsTable (front_rows f)
  front-of front none = (let T : Flat → Type 0 = λ g. IsTable (front_rows g) in subst T (sym flattened) (front (calm-of none)))

  calm-made : (n : ℕ) (g : Flat) (r : Result Background BackgroundRefusal) → slow_requests g ≡ [] → MakesCalm n g r → Makes n g r
  calm-made n g (Ok d) calm h = (calm, h)
  calm-made n g (Err (refusal.Rule rule)) calm h = absurd h
  calm-made n g (Err (refusal.Broken broken)) calm h = absurd h
  calm-made n g (Err (refusal.Miss thread miss)) calm h = (calm, h)
  calm-made n g (Err refusal.Long) calm h = (calm, h)
  calm-made n g (Err refusal.NoMemory) calm h = tt

  -- what is made where no request is told
  pub made-of : (r : Result Background BackgroundRefusal) → head_of (slow_requests f) ≡ None → MakesCalm first f r
      → Makes (first_priority x) (flat x) r
  made-of r none h =
      let P : ℕ → Type 0 = λ n. MakesCalm n (flat x) r in
      let Q : Flat → Type 0 = λ g. MakesCalm first g r in
      calm-made (first_priority x) (flat x) r (calm-of none) (subst P (written ∙ ap first_priority same) (subst Q flattened h))

  told-made : (n : ℕ) (g : Flat) (e : BackgroundRefusal) → IsTold e (head_of (slow_requests g)) → Makes n g (Err e)
  told-made n g (refusal.Rule rule) h = h
  told-made n g (refusal.Broken broken) h = h
  told-made n g (refusal.Miss thread miss) h = absurd h
  told-made n g refusal.Long h = absurd h
  told-made n g refusal.NoMemory h = tt

  -- and what is told where one is
  pub told-of : (e : BackgroundRefusal) → IsTold e (head_of (slow_requests f)) → Makes (first_priority x) (flat x) (Err e)
  told-of e h =
      let T : Flat → Type 0 = λ g. IsTold e (head_of (slow_requests g)) in told-made (first_priority x) (flat x) e (subst T flattened h)
