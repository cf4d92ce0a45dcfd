-- What the passes over a trace tell is the verdict on it.
use Rattle.std.proofs.Common.{◌≡◌, ℕ, Bool, true, false, List, [], ◌∷◌, length, Option, Some, None, Ok, Err, refl, sym, ap, subst, ◌∙◌}
use Rattle.std.specs.Prelude.{IfSome, not, find, option_map, cond}
use Rattle.std.specs.Bool.{Decides}
use Rattle.seq_tree.specs.Lists.{Each}
use Rattle.seq_tree.specs.Names.{Name}
use Rattle.ods_tree.specs.Designs.{Design}
use Rattle.ada_tree.specs.Programs.{Program}
use Rattle.ada_tree.specs.Rules.{MeetsRules}
use Rattle.trace_tree.specs.Placed.{IsPlaced}
use Rattle.trace_tree.specs.declared.event.Event as machine
use Rattle.design_rules.specs.Rules.{AreMet}
use Rattle.law_designs.proofs.Shared.SoundDesigns.{flat-sound}
use Rattle.guarantee.specs.Arrivals.{Arrivals}
use Rattle.guarantee.specs.Events.{Event, named}
use Rattle.guarantee.specs.Programs.{program}
use Rattle.guarantee.specs.Software.{Software, program_software, software}
use Rattle.guarantee.proofs.Shared.Same.{program-software}
use Rattle.law_traces.specs.Told.{HasPlainNames, IsEvent}
use Rattle.law_traces.proofs.Shared.Events.{tells-events}
use Rattle.law_traces.specs.Checks.{follows, serves}
use Rattle.law_traces.specs.Clear.{IsClear}
use Rattle.law_traces.specs.Laws.{AreDecided}
use Rattle.law_traces.specs.Parts.{Serves, Follows}
use Rattle.law_traces.specs.Verdicts as verdict
use Rattle.law_traces.specs.Verdicts.{Verdict, IsFirstWithout, IsVerdict}
use Rattle.law_traces.proofs.Shared.Joins.{all-decided}
use Rattle.law_clear_programs.proofs.Shared.Clear.{clear}
use Rattle.trace_read.specs.Lines.{Tells}
use Rattle.trace_read.specs.Gathered.{AreLines, Gathers}
use Rattle.trace_read.specs.declared.gather.Unread.{Unread}
use Rattle.trace_read.specs.declared.gather.Unread.TheVariants as unread
use Rattle.trace_checks.specs.Meanings.{KeepParts, Means}
use Rattle.trace_checks.specs.declared.broken.Broken.{Broken}
use Rattle.trace_checks.specs.declared.broken.Broken.TheVariants as broken
use Rattle.design_accepts.specs.declared.unaccepted.Unaccepted.{Unaccepted}
use Rattle.design_accepts.specs.declared.unaccepted.Unaccepted.TheVariants as why
use Rattle.design_accepts.specs.Answers.{refusal_verdict}
use Rattle.design_accepts.specs.Refusals.{refusal_of, unread_of}
use Rattle.design_accepts.specs.Units.{SaysOf, IsQuick, astray, unserved}
use Rattle.design_accepts.proofs.Composing.{all-hold, script-broken, object-broken}
use Rattle.design_accepts.proofs.Ticks.{program-quick}

-- the first for which a test fails, or that it holds of all
abbrev FirstIs : {A : Type 0} → (A → Name) → (A → Type 0) → List A → Option Name → Type 0
FirstIs name P xs None = Each P xs
FirstIs {A} name P xs (Some n) = (x : A) × IsFirstWithout P xs x × (n ≡ name x)

first-more : {A : Type 0} (name : A → Name) (P : A → Type 0) (x : A) (xs : List A) (o : Option Name) → P x → FirstIs name P xs o
    → FirstIs name P (x ∷ xs) o
first-more name P x xs None h f = (h, f)
first-more name P x xs (Some n) h f =
    (f.0, record { front = x ∷ f.1.front; back = f.1.back; split = ap (λ zs. x ∷ zs) f.1.split; before = (h, f.1.before); broken = f.1.broken }, f.2)

first-is : {A : Type 0} (name : A → Name) (test : A → Bool) (P : A → Type 0) (xs : List A) → Each (λ x. Decides (test x) (P x)) xs
    → FirstIs name P xs (option_map name (find (λ x. not (test x)) xs))
first-is name test P [] d = tt
first-is {A} name test P (x ∷ xs) d = by (test x) d.0 (first-is name test P xs d.1)
  where
    by : (b : Bool) → Decides b (P x) → FirstIs name P xs (option_map name (find (λ u. not (test u)) xs))
        → FirstIs name P (x ∷ xs) (option_map name (cond (not b) (Some x) (find (λ u. not (test u)) xs)))
    by true e more = first-more name P x xs (option_map name (find (λ u. not (test u)) xs)) (e.0 refl) more
    by false e more = (x, record { front = []; back = xs; split = refl; before = tt; broken = λ h. never (e.1 h) }, refl)
      where
        never : false ≡ true → ⊥
        never z = cc

module _ (p : Program) (meets : MeetsRules p) (plain : HasPlainNames p) (r : Arrivals) (text : List ℕ) where
  abbrev w : Software
  w = program_software p

  abbrev IsTold : Verdict → Type 0
  IsTold v = IsVerdict w p r text v

  -- the first pass
  pub parts-refused : (b : Broken) → Means p r text (Err b) → IfSome (refusal_verdict (refusal_of b)) IsTold
  parts-refused (broken.Line line) h = h
  parts-refused broken.Times h = h
  parts-refused (broken.Cyclic thread) h = h
  parts-refused broken.Arrivals h = h
  parts-refused (broken.Requests thread) h = h
  parts-refused broken.NoMemory h = tt

  -- the list of events
  pub lines-refused : (u : Unread) → Gathers {V = List machine.Event} (λ v. v) p text (Err u) → IfSome (refusal_verdict (unread_of u)) IsTold
  lines-refused (unread.Line line) h = h
  lines-refused unread.NoMemory h = tt

  module _ (es : List machine.Event) (are : AreLines p text es) where
    abbrev told : List Event
    told = named p es

    tells : Tells p text told
    tells = (es, are.0, are.1, refl)

    decided : AreDecided w (clear p meets).depth r told
    decided = all-decided w (clear p meets) r told

    threads : (o : Option Name) → astray w (clear p meets).depth told ≡ o → FirstIs (λ t. t.name) (Follows w told) w.tasks o
    threads o e =
        subst (FirstIs (λ t. t.name) (Follows w told) w.tasks) e
        (first-is (λ t. t.name) (follows w (clear p meets).depth told) (Follows w told) w.tasks decided.scripts)

    objects : (o : Option Name) → unserved w (clear p meets).depth told ≡ o → FirstIs (λ g. g.name) (Serves w told) w.shared o
    objects o e =
        subst (FirstIs (λ g. g.name) (Serves w told) w.shared) e
        (first-is (λ g. g.name) (serves w (clear p meets).depth told) (Serves w told) w.shared decided.objects)

    -- threads and objects
    refused-by : KeepParts w r told → (u : Unaccepted) → SaysOf w (clear p meets).depth told (Err u) → IfSome (refusal_verdict u) IsTold
    refused-by parts (why.Script thread) h =
        let found = threads (Some thread) h in
        subst (λ n. IsTold (verdict.Script n)) (sym found.2) (script-broken p meets r text told found.0 tells parts found.1)
    refused-by parts (why.Shared object) h =
        let found = objects (Some object) h.1 in
        subst (λ n. IsTold (verdict.Shared n)) (sym found.2) (object-broken p meets r text told found.0 tells parts (threads None h.0) found.1)
    refused-by parts why.NoMemory h = tt
    refused-by parts (why.Line line) h = absurd h
    refused-by parts why.Times h = absurd h
    refused-by parts (why.Cyclic thread) h = absurd h
    refused-by parts why.Arrivals h = absurd h
    refused-by parts (why.Requests thread) h = absurd h

    -- what the first pass was told of is these events
    same : (n : ℕ) (h : Means p r text (Ok n)) → h.0 ≡ told
    same n h =
        let t : Tells p text h.0 = h.1 in
        t.3 ∙ (tells-events p plain t.0 es t.1 are.0 (sym t.2 ∙ are.1)).0

    kept : (n : ℕ) (h : Means p r text (Ok n)) → KeepParts w r told × (n ≡ length told)
    kept n h = (subst (KeepParts w r) (same n h) h.3, h.2 ∙ ap length (same n h))

    pub units-refused : (n : ℕ) → Means p r text (Ok n) → (u : Unaccepted) → ((c : IsClear w) → SaysOf w c.depth told (Err u))
        → IfSome (refusal_verdict u) IsTold
    units-refused n h u says = refused-by (kept n h).0 u (says (clear p meets))

    pub units-hold : (n : ℕ) → Means p r text (Ok n) → ((c : IsClear w) → SaysOf w c.depth told (Ok tt)) → IsTold (verdict.Accepted n)
    units-hold n h says =
        let k = kept n h in
        let s = says (clear p meets) in
        all-hold p meets r text told n tells k.1 k.0 (threads None s.0) (objects None s.1)

    pub all-placed : Each (IsPlaced p) es
    all-placed = each-first es are.0
      where
        each-first : (fs : List machine.Event) → Each (IsEvent p) fs → Each (IsPlaced p) fs
        each-first [] h = tt
        each-first (f ∷ fs) h = (h.0.0, each-first fs h.1)

-- THE PROGRAM OF A DESIGN
pub design-quick : (x : Design) (p : Program) → AreMet x x → p ≡ program x → MeetsRules p → IsQuick p
design-quick x p met is meets = subst IsQuick (sym is) (program-quick x (flat-sound x x met) (subst MeetsRules is meets))

pub design-told : (x : Design) (p : Program) (r : Arrivals) (text : List ℕ) (o : Option Verdict) → p ≡ program x
    → IfSome o (λ v. IsVerdict (program_software p) p r text v) → IfSome o (λ v. IsVerdict (software x) p r text v)
design-told x p r text o is h =
    subst (λ w. IfSome o (λ v. IsVerdict w p r text v)) (ap program_software is ∙ program-software x) h

-- the same of a program that a table names
pub table-lines : (q p : Program) (text : List ℕ) (es : List machine.Event) → q ≡ p → AreLines q text es → AreLines p text es
table-lines q p text es same h = subst (λ z. AreLines z text es) same h

pub table-refused : (q p : Program) (meets : MeetsRules p) (plain : HasPlainNames p) (r : Arrivals) (text : List ℕ) (u : Unread) → q ≡ p
    → Gathers {V = List machine.Event} (λ v. v) q text (Err u) → IfSome (refusal_verdict (unread_of u)) (λ v. IsVerdict (program_software p) p r text v)
table-refused q p meets plain r text u same h =
    lines-refused p meets plain r text u (subst (λ z. Gathers {V = List machine.Event} (λ v. v) z text (Err u)) same h)
