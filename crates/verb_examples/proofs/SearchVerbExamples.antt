-- Examples: `search` as a verb: what it makes of a design, when it can be done, why it is refused, and the lines of both. Each definition holds of
-- all its parts, and without one of them it doesn't.
use Rattle.std.specs.Prelude.{◌≡◌, ℕ, true, false, List, [], ◌∷◌, ◌++◌, map, Option, Some, None, option_map, codes, refl}
use Rattle.std.proofs.Common.{ap, subst, sym}
use Rattle.std.proofs.lemmas.Option.{same_Some}
use Rattle.seq_tree.specs.Expressions.{Number}
use Rattle.seq_tree.specs.Names.{Name, same_name}
use Rattle.seq_tree.specs.Statements.{Null, Call, Work}
use Rattle.ods_tree.specs.Designs.{Design}
use Rattle.ods_tree.specs.Flats.{Flat}
use Rattle.ods_tree.specs.Flattening.{flat}
use Rattle.ods_tree.specs.Ticks.{first_priority}
use Rattle.ods_tree.proofs.Shared.Short.{cyc, spo, several}
use Rattle.rt_response.specs.Response.{IsLeastVector}
use Rattle.rt_response.specs.declared.rows.Bound.{Bound}
use Rattle.law_orders.specs.Orders.{AllExternal, IsOrder, rows_by, Passes, IsFilled}
use Rattle.priority_search.specs.Searches.{IsRefuted}
use Rattle.bridge.specs.Taking.{IsTakenAs, RefusesTaking}
use Rattle.bridge.specs.declared.taking.Untaken.{Untaken}
use Rattle.hrthood_top.specs.declared.file_kind.FileKind.TheVariants as kind
use Rattle.hrthood_top.specs.declared.search.SearchRefusal.TheVariants as refusal
use Rattle.hrthood_top.specs.Checks.{check_line}
use Rattle.hrthood_top.specs.Files.{Texts}
use Rattle.hrthood_top.specs.Searches.{name_at, names_at, names_text, report_by, IsOrdered, IsInternal, HasNoOrder, RefusesOrder, IsSearched, RefusesSearch}
use Rattle.hrthood_top.specs.Searches.{search_line, CanSearch, searches}
use Rattle.verb_examples.proofs.EmptyExamples.{empty, no_design}

-- THE VERB
files : (searches (codes "d")).files ≡ record { kind = kind.Design; name = codes "d" } ∷ []
files = refl

-- NAMES AT PLACES
abbrev two : Flat
two = flat (several (cyc (codes "a") 10 10 (Null ∷ []) ∷ cyc (codes "b") 20 20 (Null ∷ []) ∷ []))

first_name : name_at two 0 ≡ Some (codes "a")
first_name = refl

behind_the_last : name_at two 2 ≡ None
behind_the_last = refl

in_this_order : names_at two (1 ∷ 0 ∷ []) ≡ codes "b" ∷ codes "a" ∷ []
in_this_order = refl

those_that_are_there : names_at two (2 ∷ 0 ∷ []) ≡ codes "a" ∷ []
those_that_are_there = refl

-- AN ORDER AND ITS LINES
module _ (first : ℕ) (f : Flat) (lines : List ℕ) where
  ordered : (order : List ℕ) (v : List Bound) → AllExternal f → IsOrder f order → IsFilled f order → IsLeastVector (rows_by f order) v
      → lines ≡ report_by first f order v → IsOrdered first f lines
  ordered order v e o i l t = record { external = e; order = order; is_order = o; filled = i; bounds = v; least = l; told = t }

  some_started : ¬ AllExternal f → IsOrdered first f lines → ⊥
  some_started never h = never h.external

  no_order : ((order : List ℕ) → IsOrder f order → ⊥) → IsOrdered first f lines → ⊥
  no_order never h = never h.order h.is_order

  not_filled : ((order : List ℕ) → IsOrder f order → IsFilled f order → ⊥) → IsOrdered first f lines → ⊥
  not_filled never h = never h.order h.is_order h.filled

  not_least : ((order : List ℕ) (v : List Bound) → IsOrder f order → IsLeastVector (rows_by f order) v → ⊥) → IsOrdered first f lines → ⊥
  not_least never h = never h.order h.bounds h.is_order h.least

  other_lines : ((order : List ℕ) (v : List Bound) → IsOrder f order → IsLeastVector (rows_by f order) v → lines ≡ report_by first f order v → ⊥)
      → IsOrdered first f lines → ⊥
  other_lines never h = never h.order h.bounds h.is_order h.least h.told

-- A THREAD THAT IS REQUESTED BY THREADS
abbrev started : Flat
started = flat (several (cyc (codes "p") 50 50 (Call (codes "s") (codes "start") (Number 7 ∷ []) ∷ []) ∷ spo (codes "s") 50 20 (Work 4 ∷ []) ∷ []))

internal : IsInternal started (codes "s")
internal = record { place = 1; first = refl; called = refl }

names-differ : Some (codes "s") ≡ Some (codes "p") → ⊥
names-differ e = let told : Some true ≡ Some false = ap (option_map (λ n. same_name n (codes "s"))) e in cc

-- not its starter
starter : IsInternal started (codes "p") → ⊥
starter h = names-differ (subst (λ k. name_at started k ≡ Some (codes "p")) (sym (same_Some 1 h.place h.first)) h.called)

-- none of two cyclic threads
cyclic_alone : (n : Name) → IsInternal two n → ⊥
cyclic_alone n h = let e = h.first in cc

-- NO ORDER
module _ (f : Flat) (threads : List Name) where
  without_order : (places : List ℕ) → IsRefuted f places → threads ≡ names_at f places → HasNoOrder f threads
  without_order places r c = record { places = places; refuted = r; called = c }

  not_refuted : ((places : List ℕ) → IsRefuted f places → ⊥) → HasNoOrder f threads → ⊥
  not_refuted never h = never h.places h.refuted

  other_names : ((places : List ℕ) → IsRefuted f places → threads ≡ names_at f places → ⊥) → HasNoOrder f threads → ⊥
  other_names never h = never h.places h.refuted h.called

-- the causes of a flat design: that nothing was taken is none
started_told : RefusesOrder started (refusal.Started (codes "s"))
started_told = internal

untaken_told : (c : Untaken) → RefusesOrder started (refusal.Untaken c) → ⊥
untaken_told c h = h

none_told : (f : Flat) (threads : List Name) → ¬ HasNoOrder f threads → RefusesOrder f (refusal.None threads) → ⊥
none_told f threads never h = never h

-- A DESIGN
module _ (texts : Texts) (lines : List ℕ) where
  made : (x : Design) → IsTakenAs (texts kind.Design) x → IsOrdered (first_priority x) (flat x) lines → (searches (codes "d")).Makes texts lines
  made x t o = (x, t, o)

  of_no_design : ((x : Design) → IsTakenAs (texts kind.Design) x → ⊥) → (searches (codes "d")).Makes texts lines → ⊥
  of_no_design never h = never h.0 h.1

  without_an_order : ((x : Design) → IsTakenAs (texts kind.Design) x → IsOrdered (first_priority x) (flat x) lines → ⊥)
      → (searches (codes "d")).Makes texts lines → ⊥
  without_an_order never h = never h.0 h.1 h.2

module _ (bytes : List ℕ) where
  can : (x : Design) (order : List ℕ) → IsTakenAs bytes x → AllExternal (flat x) → IsOrder (flat x) order → Passes (flat x) order → CanSearch bytes
  can x order t e o p = record { design = x; taken = t; external = e; order = order; is_order = o; passes = p }

  cannot_take : ((x : Design) → IsTakenAs bytes x → ⊥) → CanSearch bytes → ⊥
  cannot_take never h = never h.design h.taken

  cannot_start : ((x : Design) → IsTakenAs bytes x → AllExternal (flat x) → ⊥) → CanSearch bytes → ⊥
  cannot_start never h = never h.design h.taken h.external

  cannot_order : ((x : Design) (order : List ℕ) → IsTakenAs bytes x → IsOrder (flat x) order → ⊥) → CanSearch bytes → ⊥
  cannot_order never h = never h.design h.order h.taken h.is_order

  cannot_pass : ((x : Design) (order : List ℕ) → IsTakenAs bytes x → Passes (flat x) order → ⊥) → CanSearch bytes → ⊥
  cannot_pass never h = never h.design h.order h.taken h.passes

-- WHY IT IS REFUSED
module _ (texts : Texts) (n : Name) (ns : List Name) where
  untaken : (c : Untaken) → RefusesTaking (texts kind.Design) c → (searches (codes "d")).Refuses texts (refusal.Untaken c)
  untaken c h = h

  by_a_start : (x : Design) → IsTakenAs (texts kind.Design) x → IsInternal (flat x) n → (searches (codes "d")).Refuses texts (refusal.Started n)
  by_a_start x t i = (x, t, i)

  not_by_a_start : ((x : Design) → IsTakenAs (texts kind.Design) x → IsInternal (flat x) n → ⊥)
      → (searches (codes "d")).Refuses texts (refusal.Started n) → ⊥
  not_by_a_start never h = never h.0 h.1 h.2

  by_threads : (x : Design) → IsTakenAs (texts kind.Design) x → HasNoOrder (flat x) ns → (searches (codes "d")).Refuses texts (refusal.None ns)
  by_threads x t h = (x, t, h)

  not_by_threads : ((x : Design) → IsTakenAs (texts kind.Design) x → HasNoOrder (flat x) ns → ⊥)
      → (searches (codes "d")).Refuses texts (refusal.None ns) → ⊥
  not_by_threads never h = never h.0 h.1 h.2

-- THE LINES
names_told : names_text (codes "a" ∷ codes "b" ∷ []) ≡ codes " a b"
names_told = refl

lines_told : map search_line (refusal.Started (codes "s") ∷ refusal.None (codes "a" ∷ codes "b" ∷ []) ∷ refusal.None [] ∷ [])
    ≡ codes "refused P1 s\n" ∷ codes "refused P2 a b\n" ∷ codes "refused P2\n" ∷ []
lines_told = refl

check_told : (c : Untaken) → (searches (codes "d")).line (refusal.Untaken c) ≡ check_line c
check_told c = refl

-- A FILE WITHOUT A BYTE
not_made : (lines : List ℕ) → (searches (codes "d")).Makes empty lines → ⊥
not_made lines h = no_design h.1.design h.1.reads

cannot : (searches (codes "d")).CanDo empty → ⊥
cannot h = no_design h.taken.design h.taken.reads
