-- The first rows of a table: as many as their places, at which threads stand; a value over its limit is that of one of them.
use Rattle.std.proofs.Common.{◌≡◌, ℕ, zero, suc, ◌+◌, ◌<◌, List, [], ◌∷◌, ◌++◌, length, take, Some, slice_get}
use Rattle.std.proofs.Common.{refl, sym, ap, ◌∙◌, arith}
use Rattle.std.specs.Prelude.{option_map, option_and_then}
use Rattle.seq_tree.specs.Layout.{layout}
use Rattle.seq_tree.specs.Lists.{Each}
use Rattle.seq_tree.specs.Names.{Name}
use Rattle.ods_tree.specs.Flats.{Thread, Flat}
use Rattle.ada_tree.specs.Programs.{Program}
use Rattle.ada_tree.specs.Spelling.{program_lines}
use Rattle.rt_response.specs.declared.rows.Bound.{Bound}
use Rattle.rt_response.specs.Response.{Fits}
use Rattle.rt_response.specs.Rounds.{IsMiss, round}
use Rattle.rt_response.specs.declared.rows.Miss as rows
use Rattle.analysis.specs.Ceilings.{Ranks, written_ranks}
use Rattle.analysis.specs.Tables.{table}
use Rattle.guarantee.specs.Programs.{head, program_for}
use Rattle.law_lists.proofs.Shared.Places.{all-at}
use Rattle.design_bounds.proofs.Shared.TablePlaces.{places-stand, rows-long, excess-at}
use Rattle.background.specs.Fronts.{front_count, front_rows, front_places, name_at, front_name}
use Rattle.background.specs.Makes.{text_for}

-- the fronts of lists of one length have one length
take-long : {A B : Type 0} (k : ℕ) (xs : List A) (ys : List B) → length xs ≡ length ys → length (take k xs) ≡ length (take k ys)
take-long zero xs ys e = refl
take-long (suc k) [] [] e = refl
take-long (suc k) [] (y ∷ ys) e = absurd (omega (arith, e))
take-long (suc k) (x ∷ xs) [] e = absurd (omega (arith, e))
take-long (suc k) (x ∷ xs) (y ∷ ys) e = ap suc (take-long k xs ys (omega (arith, e)))

each-take : {A : Type 0} (P : A → Type 0) (k : ℕ) (xs : List A) → Each P xs → Each P (take k xs)
each-take P zero xs h = tt
each-take P (suc k) [] h = tt
each-take P (suc k) (x ∷ xs) h = (h.0, each-take P k xs h.1)

module _ (f : Flat) where
  front-long : length (front_rows f) ≡ length (front_places f)
  front-long = take-long (front_count f) (table f).rows (table f).places (rows-long f)

  -- at each of these places a thread stands
  pub front-stand : Each (λ at. at < length f.threads) (front_places f)
  front-stand = each-take (λ at. at < length f.threads) (front_count f) (table f).places (places-stand f)

  -- a vector that fits has a bound for each place
  pub front-bounds : (v : List Bound) → Fits (front_rows f) v → length v ≡ length (front_places f)
  front-bounds v fits = fits.0.0 ∙ front-long

  -- a value over its limit is that of a row with a place
  pub miss-inside : (m : rows.Miss) (places : List ℕ) → places ≡ front_places f → IsMiss (front_rows f) m → m.index < length places
  miss-inside m places same h =
      let inside = excess-at 0 (front_rows f) (round (front_rows f) m.round) _ h.over in
      omega (arith, inside, front-long, ap length same)

  pub place-inside : (places : List ℕ) (index place : ℕ) → places ≡ front_places f → slice_get places index ≡ Some place → place < length f.threads
  place-inside places index place same at =
      all-at (λ p. p < length f.threads) (front_places f) index place front-stand (ap (λ ps. slice_get ps index) (sym same) ∙ at)

  -- the name of the thread of a row
  pub called-at : (places : List ℕ) (index place : ℕ) (thread : Thread) (name : Name) → places ≡ front_places f → slice_get places index ≡ Some place
      → slice_get f.threads place ≡ Some thread → name ≡ thread.name → front_name f index ≡ Some name
  called-at places index place thread name same at h k =
      ap (λ ps. name_at f.threads ps index) (sym same)
      ∙ ap (option_and_then (λ p. option_map (λ t. t.name) (slice_get f.threads p))) at ∙ ap (option_map (λ t. t.name)) h ∙ ap Some (sym k)

-- the text for these priorities, these places and these bounds
pub made-text : (first : ℕ) (f : Flat) (r : Ranks) (places : List ℕ) (v : List Bound) (p : Program) (before behind : List ℕ)
    → before ≡ head f (written_ranks first r) places v → p ≡ program_for f (written_ranks first r) → behind ≡ before ++ layout (program_lines p)
    → behind ≡ text_for first f r places v
made-text first f r places v p before behind headed made printed =
    printed ∙ ap (λ q. before ++ layout (program_lines q)) made
    ∙ ap (λ b. b ++ layout (program_lines (program_for f (written_ranks first r)))) headed
