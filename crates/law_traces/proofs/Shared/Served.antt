-- An object's operations, one passage at a time, are those that are asked all at once; and the ways of an object that is served are those
-- that are computed of the whole trace.
use Rattle.std.proofs.Common.{◌≡◌, ℕ, Bool, true, false, not, ◌&&◌, ◌||◌, List, [], ◌∷◌, ◌++◌, drop, Option, Some, None}
use Rattle.std.proofs.Common.{refl, sym, ap, ◌∙◌}
use Rattle.std.specs.Prelude.{bytes_eq, if◌then◌else◌}
use Rattle.std.specs.List.{cons_option}
use Rattle.std.proofs.lemmas.Slice.Eq.{bytes_eq-Decides}
use Rattle.std.proofs.Math.Bool.{and-false}
use Rattle.seq_tree.specs.Names.{Name, same_name}
use Rattle.seq_tree.specs.Operations.{Operation, out_names}
use Rattle.seq_tree.specs.Variables.{Variables, written, kept, reads, opened}
use Rattle.seq_tree.specs.Runs.{Path}
use Rattle.ods_tree.specs.Flats.{Guarded}
use Rattle.ods_tree.specs.Walk.{only_if}
use Rattle.guarantee.specs.Software.{Software}
use Rattle.guarantee.specs.Events.{Deed, Release, Arrive, Enter, Leave, Request, Print, End, Stop, Event, By, Horizon}
use Rattle.guarantee.specs.Steps.{moments, first_way, steps_of, inside}
use Rattle.guarantee.specs.Passages.{Passage, Into, Out, passages}
use Rattle.law_traces.specs.Checks.{scripted, run_along, begins_along, run_of, begins, op_named, body_by, begun_by, out_by}
use Rattle.law_traces.specs.Checks.{one_by_one, is_passed, is_nil}
use Rattle.law_traces.specs.Checks.{serves, ways}
use Rattle.law_traces.proofs.Shared.Pairs.{inside-same}
use Rattle.law_traces.specs.Entries.{Entry, entry_at, entries_in}
use Rattle.law_traces.specs.Services.{Service, Free, Inside, Last, Broken, is_sound, inside_by, last_by, ran_by, entered_by, entered_in, left_in}
use Rattle.law_traces.specs.Services.{served_from}

pub wrong : {A : Type 0} → true ≡ false → A
wrong e = absurd (cc)

module _ (w : Software) (depth : ℕ) (g : Guarded) where
  -- what the passages that are left say of an object
  abbrev value_of : Service → List Passage → Bool
  value_of (Free d) ps = one_by_one w depth g d ps
  value_of (Inside thread op gives after) [] = true
  value_of (Inside thread op gives after) (Out other same results ∷ more) =
      (same_name thread other && same_name op same && bytes_eq results gives) && one_by_one w depth g after more
  value_of (Inside thread op gives after) (Into other another values does body ∷ more) = false
  value_of Last [] = true
  value_of Last (p ∷ ps) = false
  value_of Broken ps = false

  and-four : (a b c d : Bool) → (a && b && (c && d)) ≡ ((a && b && c) && d)
  and-four true true c d = refl
  and-four true false c d = refl
  and-four false b c d = refl

  last-value : (b : Bool) → b ≡ value_of (last_by b) []
  last-value true = refl
  last-value false = refl

  -- AN ENTRY
  value-last : (thread op : Name) (values : List ℕ) (does : List Deed) (d : Variables) (e : Entry) (o : Option Operation)
      → e.script ≡ scripted w does → e.again ≡ false
      → begun_by w depth d values does o ≡ value_of (entered_by w depth g thread op values d e o) []
  unfolding begins
  value-last thread op values does d e None i j = refl
  value-last thread op values does d e (Some o) i j =
      let vars : Variables = opened o values ++ d in
      ap (begins_along w depth o.block vars) (sym i) ∙ last-value (begins_along w depth o.block vars e.script)
      ∙ ap (λ z. value_of (ran_by w depth g thread op o vars e.script z) []) (sym j)

  value-left : (thread op : Name) (values : List ℕ) (does : List Deed) (d : Variables) (e : Entry) (o : Option Operation)
      (other same : Name) (results : List ℕ) (more : List Passage) → e.script ≡ scripted w does → e.again ≡ true
      → (same_name thread other && same_name op same
      && out_by g results o (body_by w depth d values does o) (λ x. one_by_one w depth g x more))
      ≡ value_of (entered_by w depth g thread op values d e o) (Out other same results ∷ more)
  unfolding run_of
  value-left thread op values does d e None other same results more i j = and-false (same_name thread other && same_name op same)
  value-left thread op values does d e (Some o) other same results more i j =
      let vars : Variables = opened o values ++ d in
      ap (λ z. same_name thread other && same_name op same
      && out_by g results (Some o) (run_along w depth o.block vars z) (λ x. one_by_one w depth g x more)) (sym i)
      ∙ by (run_along w depth o.block vars e.script)
      ∙ ap (λ z. value_of (ran_by w depth g thread op o vars e.script z) (Out other same results ∷ more)) (sym j)
    where
      by : (p : Option Path)
          → (same_name thread other && same_name op same && out_by g results (Some o) p (λ x. one_by_one w depth g x more))
          ≡ value_of (inside_by g thread op o p) (Out other same results ∷ more)
      by None = and-false (same_name thread other && same_name op same)
      by (Some p) =
          and-four (same_name thread other) (same_name op same) (bytes_eq results (reads (out_names o.sig.params) p.vars))
          (one_by_one w depth g (kept g.vars p.vars) more)

  value-again : (thread op : Name) (values : List ℕ) (d : Variables) (e : Entry) (o : Option Operation)
      (other another : Name) (values' : List ℕ) (does' : List Deed) (body' : Path) (more : List Passage) → e.again ≡ true
      → false ≡ value_of (entered_by w depth g thread op values d e o) (Into other another values' does' body' ∷ more)
  value-again thread op values d e None other another values' does' body' more j = refl
  value-again thread op values d e (Some o) other another values' does' body' more j =
      let vars : Variables = opened o values ++ d in
      by (run_along w depth o.block vars e.script)
      ∙ ap (λ z. value_of (ran_by w depth g thread op o vars e.script z) (Into other another values' does' body' ∷ more)) (sym j)
    where
      by : (p : Option Path) → false ≡ value_of (inside_by g thread op o p) (Into other another values' does' body' ∷ more)
      by None = refl
      by (Some p) = refl

  value-enter : (thread op : Name) (values : List ℕ) (does : List Deed) (body : Path) (e : Entry) (s : Service) (ps : List Passage)
      → e.script ≡ scripted w does → e.again ≡ not (is_nil ps)
      → value_of s (Into thread op values does body ∷ ps) ≡ value_of (entered_in w depth g thread op values e s) ps
  value-enter thread op values does body e (Free d) [] i j = value-last thread op values does d e (op_named g op) i j
  value-enter thread op values does body e (Free d) (Out other same results ∷ more) i j =
      value-left thread op values does d e (op_named g op) other same results more i j
  value-enter thread op values does body e (Free d) (Into other another values' does' body' ∷ more) i j =
      value-again thread op values d e (op_named g op) other another values' does' body' more j
  value-enter thread op values does body e (Inside other same gives after) ps i j = refl
  value-enter thread op values does body e Last ps i j = refl
  value-enter thread op values does body e Broken ps i j = refl

  -- AN EXIT
  value-leave : (thread op : Name) (results : List ℕ) (s : Service) (ps : List Passage)
      → value_of s (Out thread op results ∷ ps) ≡ value_of (left_in thread op results s) ps
  value-leave thread op results (Free d) ps = refl
  value-leave thread op results (Inside other same gives after) ps =
      by (same_name other thread && same_name same op && bytes_eq results gives)
    where
      by : (b : Bool) → (b && one_by_one w depth g after ps) ≡ value_of (if b then Free after else Broken) ps
      by true = refl
      by false = refl
  value-leave thread op results Last ps = refl
  value-leave thread op results Broken ps = refl

  -- EVENTS
  value-end : (s : Service) → value_of s [] ≡ is_sound s
  value-end (Free d) = refl
  value-end (Inside thread op gives after) = refl
  value-end Last = refl
  value-end Broken = refl

  abbrev ps_of : List Event → List Path → List Passage
  ps_of told bodies = passages g.name (moments told bodies)

  some-cons : (b : Bool) (p : Passage) (ps : List Passage) → (b || not (is_nil ps)) ≡ not (is_nil (cons_option (only_if b p) ps))
  some-cons true p ps = refl
  some-cons false p ps = refl

  passed : (told : List Event) (bodies : List Path) → is_passed g.name told ≡ not (is_nil (ps_of told bodies))
  passed [] bodies = refl
  passed (By time task (Enter name values) ∷ told) bodies =
      ap (λ z. same_name name.object g.name || z) (passed told (drop 1 bodies))
      ∙ some-cons (same_name name.object g.name) (Into task name.op values (inside (steps_of task (moments told (drop 1 bodies)))) (first_way bodies))
      (ps_of told (drop 1 bodies))
  passed (By time task (Leave name values) ∷ told) bodies =
      ap (λ z. same_name name.object g.name || z) (passed told (drop 1 bodies))
      ∙ some-cons (same_name name.object g.name) (Out task name.op values) (ps_of told (drop 1 bodies))
  passed (By time task (Release v) ∷ told) bodies = passed told (drop 1 bodies)
  passed (By time task (Arrive v) ∷ told) bodies = passed told (drop 1 bodies)
  passed (By time task (Request target v) ∷ told) bodies = passed told (drop 1 bodies)
  passed (By time task (Print v) ∷ told) bodies = passed told (drop 1 bodies)
  passed (By time task (End used) ∷ told) bodies = passed told (drop 1 bodies)
  passed (By time task (Stop object priority ceiling) ∷ told) bodies = passed told (drop 1 bodies)
  passed (Horizon time ∷ told) bodies = passed told (drop 1 bodies)

  abbrev Serving : List Event → Type 0
  Serving told = (bodies : List Path) (s : Service)
      → value_of s (ps_of told bodies) ≡ is_sound (served_from w depth g told (entries_in w told) s)

  serving : (told : List Event) → Serving told
  serving [] bodies s = value-end s
  serving (By time task (Enter name values) ∷ told) bodies s =
      by (same_name name.object g.name) refl (serving told)
    where
      x : Entry
      x = entry_at w (By time task (Enter name values)) told

      does : List Deed
      does = inside (steps_of task (moments told (drop 1 bodies)))

      by : (b : Bool) → same_name name.object g.name ≡ b → Serving told
          → value_of s (cons_option (only_if b (Into task name.op values does (first_way bodies))) (ps_of told (drop 1 bodies)))
          ≡ is_sound (served_from w depth g told (entries_in w told) (if b then entered_in w depth g task name.op values x s else s))
      by true e more =
          let again : x.again ≡ not (is_nil (ps_of told (drop 1 bodies))) =
          ap (λ z. is_passed z told) ((bytes_eq-Decides name.object g.name).0 e) ∙ passed told (drop 1 bodies) in
          value-enter task name.op values does (first_way bodies) x s (ps_of told (drop 1 bodies))
          (ap (scripted w) (inside-same task told [] (drop 1 bodies))) again
          ∙ more (drop 1 bodies) (entered_in w depth g task name.op values x s)
      by false e more = more (drop 1 bodies) s
  serving (By time task (Leave name values) ∷ told) bodies s = by (same_name name.object g.name) (serving told)
    where
      by : (b : Bool) → Serving told
          → value_of s (cons_option (only_if b (Out task name.op values)) (ps_of told (drop 1 bodies)))
          ≡ is_sound (served_from w depth g told (entries_in w told) (if b then left_in task name.op values s else s))
      by true more = value-leave task name.op values s (ps_of told (drop 1 bodies)) ∙ more (drop 1 bodies) (left_in task name.op values s)
      by false more = more (drop 1 bodies) s
  serving (By time task (Release v) ∷ told) bodies s = serving told (drop 1 bodies) s
  serving (By time task (Arrive v) ∷ told) bodies s = serving told (drop 1 bodies) s
  serving (By time task (Request target v) ∷ told) bodies s = serving told (drop 1 bodies) s
  serving (By time task (Print v) ∷ told) bodies s = serving told (drop 1 bodies) s
  serving (By time task (End used) ∷ told) bodies s = serving told (drop 1 bodies) s
  serving (By time task (Stop object priority ceiling) ∷ told) bodies s = serving told (drop 1 bodies) s
  serving (Horizon time ∷ told) bodies s = serving told (drop 1 bodies) s

  -- an object is served where its passages are sound
  pub served-sound : (trace : List Event)
      → serves w depth trace g ≡ is_sound (served_from w depth g trace (entries_in w trace) (Free (written g.vars)))
  unfolding serves
  served-sound trace = serving trace (ways w depth trace) (Free (written g.vars))

  -- one that is broken stays so
  pub broken-stays : (told : List Event) (xs : List Entry) → is_sound (served_from w depth g told xs Broken) ≡ false
  broken-stays [] xs = refl
  broken-stays (e ∷ told) [] = refl
  broken-stays (By time task (Enter name values) ∷ told) (x ∷ xs) = by (same_name name.object g.name) (broken-stays told xs)
    where
      by : (b : Bool) → is_sound (served_from w depth g told xs Broken) ≡ false
          → is_sound (served_from w depth g told xs (if b then Broken else Broken)) ≡ false
      by true h = h
      by false h = h
  broken-stays (By time task (Leave name values) ∷ told) (x ∷ xs) = by (same_name name.object g.name) (broken-stays told xs)
    where
      by : (b : Bool) → is_sound (served_from w depth g told xs Broken) ≡ false
          → is_sound (served_from w depth g told xs (if b then Broken else Broken)) ≡ false
      by true h = h
      by false h = h
  broken-stays (By time task (Release v) ∷ told) (x ∷ xs) = broken-stays told xs
  broken-stays (By time task (Arrive v) ∷ told) (x ∷ xs) = broken-stays told xs
  broken-stays (By time task (Request target v) ∷ told) (x ∷ xs) = broken-stays told xs
  broken-stays (By time task (Print v) ∷ told) (x ∷ xs) = broken-stays told xs
  broken-stays (By time task (End used) ∷ told) (x ∷ xs) = broken-stays told xs
  broken-stays (By time task (Stop object priority ceiling) ∷ told) (x ∷ xs) = broken-stays told xs
  broken-stays (Horizon time ∷ told) (x ∷ xs) = broken-stays told xs
