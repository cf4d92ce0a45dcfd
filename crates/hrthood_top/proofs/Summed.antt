-- The summary of a sample: its design is never refused, its events are counted one turn after another, and what is counted of its run is told.
use Rattle.std.proofs.Common.{◌≡◌, ℕ, zero, suc, ◌+◌, ◌<◌, ◌≤◌, true, List, [], ◌∷◌, ◌++◌, length, take, get_or, Option, Result, Ok}
use Rattle.std.proofs.Common.{Err, refl, sym, ap, subst, ◌∙◌, arith, append_assoc, append-nil, add-one, inl}
use Rattle.std.specs.Prelude.{IfOk}
use Rattle.seq_tree.specs.Lists.{Each}
use Rattle.ods_tree.specs.Layout.{design_text}
use Rattle.ods_tree.specs.Ticks.{in_ticks}
use Rattle.ada_tree.specs.Programs.{Program}
use Rattle.arrivals_tree.specs.Arriving.{Arrivals}
use Rattle.arrivals_tree.specs.Arrived.{Arrives, horizon_limit}
use Rattle.arrivals_read.specs.Answers as arriving
use Rattle.arrivals_read.specs.declared.fault.ArrivalFault.{ArrivalFault}
use Rattle.arrivals_read.proofs.Shared.Refusals.{refused-nothing}
use Rattle.guarantee.specs.Programs.{program}
use Rattle.bridge.specs.Delivers.{IsDelivered, IsTextFor}
use Rattle.bridge.specs.declared.delivery.Delivery.{Delivery}
use Rattle.hood_io.specs.Shelves.{Told}
use Rattle.machine.specs.Meanings.{Running, Tells, Meaning, begun}
use Rattle.trace_tree.specs.declared.event.Event.{Event}
use Rattle.trace_tree.specs.declared.event.Event.TheVariants as event
use Rattle.trace_tree.specs.Lines.{lines}
use Rattle.trace_tree.specs.Placed.{IsPlaced}
use Rattle.trace_text.specs.declared.bound.NamedBound.{NamedBound}
use Rattle.trace_text.specs.Summaries.{summary}
use Rattle.trace_text.specs.Tallies.{IsBelow, Tallies, tallies, tallies_from}
use Rattle.sample_design.specs.Requests.{sample_arrivals}
use Rattle.sample_design.specs.Samples.{sample_design}
use Rattle.law_samples.specs.Laws.{IsValid, sample_bounds}
use Rattle.law_samples.proofs.Shared.Valid.{sample-valid}
use Rattle.hrthood_top.specs.declared.status.Status.{Status}
use Rattle.hrthood_top.specs.declared.status.Status.TheVariants as status
use Rattle.hrthood_top.specs.Ends.{EndsVerb, outside}
use Rattle.hrthood_top.specs.Files.{Texts}
use Rattle.hrthood_top.specs.Generates.{CanGenerate}
use Rattle.hrthood_top.specs.Replays.{SaysProgram, SaysArrivals}
use Rattle.hrthood_top.specs.Samples.{IsSummary, IsSummed, SummaryEnds, samples, text_bounds}
use Rattle.hrthood_top.specs.Verifies.{trace_mark}
use Rattle.hrthood_top.specs.Writing.{Finishes, Streams, TellsMemory}
use Rattle.hrthood_top.proofs.Ending.{ends-streamed}
use Rattle.hrthood_top.proofs.Fetching.{held-none, grown-nothing}
use Rattle.hrthood_top.proofs.OneDesign.{one-design}
use Rattle.hrthood_top.proofs.Replaying.{accepted_text}
use Rattle.hrthood_top.proofs.Verified.{verified}

-- THE TEXTS OF A SAMPLE

-- a text can be made of the design of a sample
pub sample-delivered : (n : ℕ) (design : List ℕ) → 1 ≤ n → n ≤ 30 → design ≡ design_text (sample_design n) → CanGenerate design
sample-delivered n design low high e =
    let v : IsValid n = sample-valid n low high in
    subst CanGenerate (sym e)
    (record { design = sample_design n; reads = v.reads; meets = v.rules; bounds = sample_bounds n; least = v.bounds; short = v.short })

-- the arrivals of a sample are accepted for the program of its text
pub sample-arrives : (n : ℕ) (design arrivals made : List ℕ) (p : Program) → 1 ≤ n → n ≤ 30 → design ≡ design_text (sample_design n)
    → arrivals ≡ sample_arrivals n → IsTextFor design made
    → SaysProgram made p → (a : Arrivals) × Arrives horizon_limit arrivals p a
sample-arrives n design arrivals made p low high e f w says =
    let v : IsValid n = sample-valid n low high in
    let R : List ℕ → Type 0 = λ z. IsTextFor z made in
    let own : IsTextFor (design_text (sample_design n)) made = subst R e w in
    let one : own.design ≡ sample_design n = one-design (design_text (sample_design n)) own.design (sample_design n) own.reads v.reads in
    let same : program (in_ticks (sample_design n)) ≡ p =
    ap (λ x. program (in_ticks x)) (sym one) ∙ says.alone (program (in_ticks own.design)) (accepted_text (design_text (sample_design n)) made own) in
    let A : Program → Type 0 = λ q. Arrives horizon_limit (sample_arrivals n) q v.arrivals in
    let B : List ℕ → Type 0 = λ z. Arrives horizon_limit z p v.arrivals in
    (v.arrivals, subst B (sym f) (subst A same v.arrives))

-- arrivals that are accepted are not refused
pub arrivals-unrefused : (arrivals : List ℕ) (p : Program) (found : ArrivalFault) → (a : Arrivals) × Arrives horizon_limit arrivals p a
    → arriving.Refuses arrivals p found → ⊥
arrivals-unrefused arrivals p found (a, h) r = refused-nothing arrivals p found r a h

-- EVENTS THAT ARE COUNTED

-- what a program's event releases or ends is one of its tasks
placed-below : (p : Program) (e : Event) → IsPlaced p e → IsBelow (length p.units) e
placed-below p (event.Release time task value) h = h
placed-below p (event.Arrive time task value) h = tt
placed-below p (event.Enter time task unit op values) h = tt
placed-below p (event.Leave time task unit op values) h = tt
placed-below p (event.Request time task target value) h = tt
placed-below p (event.Print time task value) h = tt
placed-below p (event.End time task used) h = h
placed-below p (event.Stop time task unit priority ceiling) h = tt
placed-below p (event.Horizon time) h = tt

pub each-below : (p : Program) (es : List Event) → Each (IsPlaced p) es → Each (IsBelow (length p.units)) es
each-below p [] h = tt
each-below p (e ∷ es) h = (placed-below p e h.0, each-below p es h.1)

-- so many tallies are kept
tallies-long : (place size : ℕ) (told : List Event) → length (tallies_from place size told) ≡ size
tallies-long place zero told = refl
tallies-long place (suc size) told = ap suc (tallies-long (suc place) size told)

each-at : {A : Type 0} (P : A → Type 0) (xs : List A) (i : ℕ) (x : A) → i < length xs → x ≡ get_or xs i x → Each P xs → P x
each-at P [] i x h is each = absurd (omega (arith, h))
each-at P (y ∷ xs) zero x h is each = subst P (sym is) each.0
each-at P (y ∷ xs) (suc i) x h is each = each-at P xs i x (omega (arith, h)) is each.1

take-next : {A : Type 0} (xs : List A) (i : ℕ) (x : A) → i < length xs → x ≡ get_or xs i x → take i xs ++ x ∷ [] ≡ take (suc i) xs
take-next [] i x h is = absurd (omega (arith, h))
take-next (y ∷ xs) zero x h is = ap (λ z. z ∷ []) is
take-next (y ∷ xs) (suc i) x h is = ap (λ zs. y ∷ zs) (take-next xs i x (omega (arith, h)) is)

take-all : {A : Type 0} (xs : List A) (i : ℕ) → length xs ≤ i → take i xs ≡ xs
take-all [] zero h = refl
take-all [] (suc i) h = refl
take-all (x ∷ xs) zero h = absurd (omega (arith, h))
take-all (x ∷ xs) (suc i) h = ap (λ zs. x ∷ zs) (take-all xs i (omega (arith, h)))

-- events up to a place are counted
pub record AreNoted (es : List Event) (i : ℕ) (before now : Tallies) : Type 0 where
  pub after : (size : ℕ) (told : List Event) → before ≡ tallies size told → now ≡ tallies size (told ++ take i es)

pub none-noted : (es : List Event) (kept : Tallies) → AreNoted es 0 kept kept
none-noted es kept = record { after = λ size told h. let T : List Event → Type 0 = λ z. kept ≡ tallies size z in subst T (sym (append-nil told)) h }

-- the next event is of a task that is counted
pub next-below : (es : List Event) (i : ℕ) (e : Event) (before now : Tallies) → i < length es → e ≡ get_or es i e
    → (size : ℕ) × (told : List Event) × (before ≡ tallies size told) × Each (IsBelow size) es → AreNoted es i before now
    → IsBelow (length now.tasks) e
next-below es i e before now h at (size, told, is, each) noted =
    let long : length now.tasks ≡ size = ap (λ (t : Tallies). length t.tasks) (noted.after size told is) ∙ tallies-long 0 size (told ++ take i es) in
    subst (λ n. IsBelow n e) (sym long) (each-at (IsBelow size) es i e h at each)

-- one more event is counted
pub one-noted : (es : List Event) (i : ℕ) (e : Event) (before now next : Tallies) → i < length es → e ≡ get_or es i e → AreNoted es i before now
    → ((size : ℕ) (told : List Event) → now ≡ tallies size told → next ≡ tallies size (told ++ e ∷ [])) → AreNoted es (i + 1) before next
one-noted es i e before now next h at noted more = record {
  after = λ size told is.
      let all : (told ++ take i es) ++ e ∷ [] ≡ told ++ take (i + 1) es
      = append_assoc told (take i es) (e ∷ []) ∙ ap (λ z. told ++ z) (take-next es i e h at ∙ ap (λ n. take n es) (sym (add-one i))) in
      more size (told ++ take i es) (noted.after size told is) ∙ ap (tallies size) all;
}

-- all events are counted
pub all-noted : (es : List Event) (i : ℕ) (before now : Tallies) → length es ≤ i → AreNoted es i before now
    → (size : ℕ) (told : List Event) → before ≡ tallies size told → now ≡ tallies size (told ++ es)
all-noted es i before now h noted size told is = noted.after size told is ∙ ap (λ z. tallies size (told ++ z)) (take-all es i h)

-- TURNS THAT ARE COUNTED

-- what was told so far is counted, and what is told from here on comes behind it
pub record IsCounted (size : ℕ) (first now : Running) (kept : Tallies) : Type 0 where
  pub told : List Event
  pub is : kept ≡ tallies size told
  pub behind : (more : List Event) → Tells now more → Tells first (told ++ more)

pub none-counted : (size : ℕ) (r : Running) (kept : Tallies) → kept ≡ tallies size [] → IsCounted size r r kept
none-counted size r kept e = record { told = []; is = e; behind = λ more t. t }

-- one more turn
pub one-counted : (size : ℕ) (first now next : Running) (kept kept' : Tallies) (es : List Event) → IsCounted size first now kept
    → ((n : ℕ) (told : List Event) → kept ≡ tallies n told → kept' ≡ tallies n (told ++ es))
    → ((more : List Event) → Tells next more → Tells now (es ++ more))
    → IsCounted size first next kept'
one-counted size first now next kept kept' es s noted after = record {
  told = s.told ++ es;
  is = noted size s.told s.is;
  behind = λ more t. rw append_assoc (s.behind (es ++ more) (after more t));
}

-- a run that has stopped is counted whole
pub all-counted : (size : ℕ) (first now : Running) (kept : Tallies) → IsCounted size first now kept → now.state.stopped ≡ true
    → (told : List Event) × Tells first told × (kept ≡ tallies size told)
all-counted size first now kept s stopped =
    let nothing : Tells now [] = record { steps = 0; stops = stopped; tells = refl } in
    (s.told, subst (Tells first) (append-nil s.told) (s.behind [] nothing), s.is)

-- THE SUMMARY

-- what is told of a run of a text is its summary
is-summary : (design arrivals made : List ℕ) (w : IsTextFor design made) (bounds : List NamedBound) (p : Program) (a : Arrivals) (told : List Event)
    (written : List ℕ)
    → bounds ≡ text_bounds design made w → SaysProgram made p → SaysArrivals arrivals p a → Meaning p a told → written ≡ summary p bounds told
    → IsSummary design arrivals written
is-summary design arrivals made w bounds p a told written named says arriving means is = record {
  verified = (made ++ trace_mark) ++ lines p told;
  run = verified design arrivals made p a told w says arriving means;
  whole = is ∙ ap (λ z. summary p z told) named;
}

-- that of a sample
of-sample : (n : ℕ) (design arrivals written : List ℕ) → design ≡ design_text (sample_design n) → arrivals ≡ sample_arrivals n
    → IsSummary design arrivals written → IsSummed n written
of-sample n design arrivals written e f s =
    let D : List ℕ → Type 0 = λ z. IsSummary z arrivals written in
    let R : List ℕ → Type 0 = λ z. IsSummary (design_text (sample_design n)) z written in
    subst R f (subst D e s)

-- what was made of the texts of a sample
pub is-summed : {X E : Type 0} (view : X → List ℕ) (n : ℕ) (design arrivals made : List ℕ) (bounds : List NamedBound) (d : Delivery) (p : Program)
    (a : Arrivals) (m : Running) (kept : Tallies) (r : Result X E)
    → design ≡ design_text (sample_design n) → arrivals ≡ sample_arrivals n → IsDelivered design d → made ≡ d.text.items → bounds ≡ d.bounds.items
    → SaysProgram made p → SaysArrivals arrivals p a
    → m ≡ begun p a → (told : List Event) × Tells m told × (kept ≡ tallies (length p.units) told)
    → ((told : List Event) → kept ≡ tallies (length p.units) told → IfOk r (λ t. view t ≡ summary p bounds told)) → IfOk r (λ t. IsSummed n (view t))
is-summed {X} {E} view n design arrivals made bounds d p a m kept r e f w same all says arriving opens (told, tells, is) text = by r (text told is)
  where
    says' : SaysProgram d.text.items p
    says' = subst (λ z. SaysProgram z p) same says

    means : Meaning p a told
    means = subst (λ (y : Running). Tells y told) opens tells

    by : (s : Result X E) → IfOk s (λ t. view t ≡ summary p bounds told) → IfOk s (λ t. IsSummed n (view t))
    by (Ok t) h = of-sample n design arrivals (view t) e f (is-summary design arrivals d.text.items w.whole bounds p a told (view t)
        (all ∙ w.named) says' arriving means h)
    by (Err x) h = tt

-- HOW A SAMPLE ENDS

sample-streams : {X E : Type 0} (view : X → List ℕ) (n : ℕ) (texts : Texts) (ended : Status) (made : Result X E) (out out' : Option (List ℕ))
    (faults faults' : ℕ) (err err' : Option (List ℕ)) (told told' : ℕ)
    → IfOk made (λ x. IsSummed n (view x)) → Finishes view (λ e. TellsMemory) made ended out out' faults faults' err err' told told'
    → Streams (samples n) texts ended out out' faults faults' err err' told told'
sample-streams view n texts status.Done (Ok x) out out' faults faults' err err' told told' m f = (view x, m, f.0, f.1)
sample-streams view n texts status.WriteFault (Ok x) out out' faults faults' err err' told told' m f = (view x, inl m, f)
sample-streams view n texts status.Refused (Ok x) out out' faults faults' err err' told told' m f = absurd f
sample-streams view n texts status.Usage (Ok x) out out' faults faults' err err' told told' m f = absurd f
sample-streams view n texts status.ReadFault (Ok x) out out' faults faults' err err' told told' m f = absurd f
sample-streams view n texts status.NoMemory (Ok x) out out' faults faults' err err' told told' m f = absurd f
sample-streams view n texts ended (Err e) out out' faults faults' err err' told told' m f =
    let S : Status → Type 0 = λ z. Streams (samples n) texts z out out' faults faults' err err' told told' in
    subst S (sym f.1.0) (f.0, f.1.1)

pub sample-ends : {X E : Type 0} (view : X → List ℕ) (n : ℕ) (ended : Status) (made : Result X E) (out out' : Option (List ℕ)) (faults faults' : ℕ)
    (err err' : Option (List ℕ)) (told told' : ℕ)
    → IfOk made (λ x. IsSummed n (view x)) → Finishes view (λ e. TellsMemory) made ended out out' faults faults' err err' told told'
    → (shelf : Option Told) (reads : ℕ)
    → EndsVerb ended (samples n) (outside shelf reads out faults err told) (outside shelf reads out' faults' err' told')
sample-ends view n ended made out out' faults faults' err err' told told' m f shelf reads =
    let none : Texts = λ kind. [] in
    ends-streamed (samples n) ended none (outside shelf reads out faults err told) (outside shelf reads out' faults' err' told')
    (held-none shelf none) (grown-nothing shelf)
    (sample-streams view n none ended made out out' faults faults' err err' told told' m f)

pub summary-ends : {X E : Type 0} (view : X → List ℕ) (n : ℕ) (ended : Status) (made : Result X E) (out out' : Option (List ℕ)) (faults faults' : ℕ)
    (err err' : Option (List ℕ)) (told told' : ℕ)
    → IfOk made (λ x. IsSummed n (view x)) → Finishes view (λ e. TellsMemory) made ended out out' faults faults' err err' told told'
    → SummaryEnds n ended out out'
summary-ends view n status.Done (Ok x) out out' faults faults' err err' told told' m f = (view x, m, f.0)
summary-ends view n status.WriteFault (Ok x) out out' faults faults' err err' told told' m f = (view x, m, f.0, f.1, f.2)
summary-ends view n status.Refused (Ok x) out out' faults faults' err err' told told' m f = absurd f
summary-ends view n status.Usage (Ok x) out out' faults faults' err err' told told' m f = absurd f
summary-ends view n status.ReadFault (Ok x) out out' faults faults' err err' told told' m f = absurd f
summary-ends view n status.NoMemory (Ok x) out out' faults faults' err err' told told' m f = absurd f
summary-ends view n ended (Err e) out out' faults faults' err err' told told' m f =
    let S : Status → Type 0 = λ z. SummaryEnds n z out out' in
    subst S (sym f.1.0) f.0
