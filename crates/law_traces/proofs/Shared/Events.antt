-- The words of a line give its event back, by names.
use Rattle.std.proofs.Common.{◌≡◌, ℕ, zero, suc, List, [], ◌∷◌, ◌++◌, map, length, Option, Some, None, refl, sym, ap, subst, ◌∙◌, arith}
use Rattle.std.proofs.Common.{append_assoc}
use Rattle.std.specs.Prelude.{◌≤◌, decimal, codes, slice_get, unwrap_or, option_map, bytes_eq, if◌then◌else◌}
use Rattle.std.specs.Char.{digit_value}
use Rattle.std.specs.List.{join_with_byte}
use Rattle.std.specs.Str.Parse.{digits_value}
use Rattle.std.proofs.lemmas.List.Concat.{flat_map-cons}
use Rattle.std.proofs.lemmas.List.{append_cancel_left}
use Rattle.std.proofs.lemmas.Option.{same_Some, none-some}
use Rattle.seq_tree.specs.Lists.{Each}
use Rattle.seq_tree.specs.Names.{Name}
use Rattle.seq_tree.specs.declared.tree.OpName.{OpName}
use Rattle.ada_tree.specs.Programs.{Unit, Program}
use Rattle.ada_tree.specs.Bodies.{heads}
use Rattle.trace_tree.specs.Lines.{unit_name, unit_ops, op_name, value_words, option_words, words, line, lines}
use Rattle.trace_tree.specs.declared.event.Event as machine
use Rattle.trace_tree.specs.declared.event.Event.TheVariants as event
use Rattle.guarantee.specs.Events.{Deed, Release, Arrive, Enter, Leave, Request, Print, End, Stop, Event, By, Horizon, op_at, named, named_event}
use Rattle.law_traces.specs.Told.{Lacks, IsPlain, HasPlainNames, IsTicks, IsWord, IsWordWhere, HasItsNumbers, IsEvent}
use Rattle.law_traces.specs.Cuts.{cut}
use Rattle.law_traces.proofs.Shared.Words.{cut-front, cut-last, cut-join, lacks-append, lacks-join, decimal-lacks, number-back}

-- a number by its digits
abbrev number : List ℕ → ℕ
number ds = digits_value 10 ds

-- the first of some words as a number
abbrev pub first_number : List (List ℕ) → Option ℕ
first_number [] = None
first_number (w ∷ ws) = Some (number w)

-- an operation by its object's name and its own
abbrev named_op : List (List ℕ) → OpName
named_op (object ∷ op ∷ ws) = record { object = object; op = op }
named_op _ = record { object = []; op = [] }

-- what a line is of
data Kind : Type 0 where
  Released Arrived Entered Left Asked Printed Ended Stopped : Kind

kind_of : List ℕ → Option Kind
kind_of w =
    if bytes_eq w (codes "release") then Some Released
    else if bytes_eq w (codes "arrive") then Some Arrived
    else if bytes_eq w (codes "enter") then Some Entered
    else if bytes_eq w (codes "leave") then Some Left
    else if bytes_eq w (codes "request") then Some Asked
    else if bytes_eq w (codes "put") then Some Printed
    else if bytes_eq w (codes "end") then Some Ended
    else if bytes_eq w (codes "stop") then Some Stopped
    else None

-- the deed that the words behind a task's name tell
abbrev deed_of : Kind → List (List ℕ) → Deed
deed_of Released ws = Release (first_number ws)
deed_of Arrived ws = Arrive (first_number ws)
deed_of Entered (op ∷ ws) = Enter (named_op (cut 46 op)) (map number ws)
deed_of Left (op ∷ ws) = Leave (named_op (cut 46 op)) (map number ws)
deed_of Asked (target ∷ ws) = Request target (first_number ws)
deed_of Printed (v ∷ ws) = Print (number v)
deed_of Ended (word ∷ used ∷ ws) = End (number used)
deed_of Stopped (unit ∷ word ∷ priority ∷ another ∷ ceiling ∷ ws) = Stop unit (number priority) (number ceiling)
deed_of _ _ = Release None

abbrev event_by : ℕ → Option Kind → List (List ℕ) → Event
event_by time (Some k) (task ∷ ws) = By time task (deed_of k ws)
event_by time _ _ = Horizon time

-- the event that words tell
abbrev event_of : List (List ℕ) → Event
event_of (time ∷ kind ∷ ws) = event_by (number time) (kind_of kind) ws
event_of _ = Horizon 0

-- NUMBERS
ticks-back : (n : ℕ) → IsTicks n → number (decimal n) ≡ n
ticks-back n h = number-back n h

word-ticks : (n : ℕ) → IsWord n → IsTicks n
word-ticks n h = omega (arith, h)

word-back : (n : ℕ) → IsWord n → number (decimal n) ≡ n
word-back n h = number-back n (word-ticks n h)

value-back : (v : Option ℕ) → IsWordWhere v → first_number (option_words v) ≡ v
value-back None h = refl
value-back (Some n) h = ap Some (word-back n h)

values-back : (ns : List ℕ) → Each IsWord ns → map number (value_words ns) ≡ ns
values-back [] h = refl
values-back (n ∷ ns) h = ap (λ z. z ∷ map number (value_words ns)) (word-back n h.0) ∙ ap (λ zs. n ∷ zs) (values-back ns h.1)

decimal-plain : (n : ℕ) → IsTicks n → IsPlain (decimal n)
decimal-plain n h = (decimal-lacks 10 n (omega arith) h, decimal-lacks 32 n (omega arith) h, decimal-lacks 46 n (omega arith) h)

-- NAMES
pub each-at : {A : Type 0} (P : A → Type 0) (xs : List A) (i : ℕ) (x : A) → Each P xs → slice_get xs i ≡ Some x → P x
each-at P [] i x h e = absurd (none-some x e)
each-at P (y ∷ ys) zero x h e = subst P (same_Some y x e) h.0
each-at P (y ∷ ys) (suc i) x h e = each-at P ys i x h.1 e

abbrev IsPlainUnit : Unit → Type 0
IsPlainUnit u = IsPlain u.name × Each (λ h. IsPlain h.name) (heads u.form)

plain-by : {A : Type 0} (name : A → Name) (o : Option A) → ((x : A) → o ≡ Some x → IsPlain (name x)) → IsPlain (unwrap_or (option_map name o) [])
plain-by name None one = (refl, refl, refl)
plain-by name (Some x) one = one x refl

module _ (p : Program) (plain : HasPlainNames p) where
  pub unit-plain : (k : ℕ) → IsPlain (unit_name p k)
  unfolding unit_name
  unit-plain k = plain-by (λ u. u.name) (slice_get p.units k) (λ u e. (each-at IsPlainUnit p.units k u plain e).0)

  ops-plain : (o : Option Unit) → ((u : Unit) → o ≡ Some u → IsPlainUnit u)
      → Each (λ h. IsPlain h.name) (unwrap_or (option_map (λ u. heads u.form) o) [])
  ops-plain None one = tt
  ops-plain (Some u) one = (one u refl).1

  pub op-plain : (unit op : ℕ) → IsPlain (unwrap_or (option_map (λ o. o.name) (slice_get (unit_ops p unit) op)) [])
  unfolding unit_ops
  op-plain unit op =
      plain-by (λ o. o.name) (slice_get (unit_ops p unit) op)
      (λ h e. each-at (λ g. IsPlain g.name) (unit_ops p unit) op h
      (ops-plain (slice_get p.units unit) (λ u i. each-at IsPlainUnit p.units unit u plain i)) e)

  -- an operation by its names
  pub op-back : (unit op : ℕ) → named_op (cut 46 (op_name p unit op)) ≡ op_at p unit op
  unfolding op_name
  op-back unit op =
      let name : Name = unwrap_or (option_map (λ o. o.name) (slice_get (unit_ops p unit) op)) [] in
      ap named_op (cut-front 46 (unit_name p unit) name (unit-plain unit).2 ∙ ap (λ ws. unit_name p unit ∷ ws) (cut-last 46 name (op-plain unit op).2))

  op-lacks : (c : ℕ) → Lacks c (codes ".") → (unit op : ℕ) → Lacks c (unit_name p unit)
      → Lacks c (unwrap_or (option_map (λ o. o.name) (slice_get (unit_ops p unit) op)) []) → Lacks c (op_name p unit op)
  unfolding op_name
  op-lacks c dot unit op h i =
      lacks-append c (unit_name p unit) _ h (lacks-append c (codes ".") _ dot i)

  -- THE WORDS of an event give it back
  words-back : (e : machine.Event) → HasItsNumbers e → event_of (words p e) ≡ named_event p e
  unfolding words kind_of
  words-back (event.Release time task v) h =
      ap (λ t. By t (unit_name p task) (Release (first_number (option_words v)))) (ticks-back time h.0)
      ∙ ap (λ x. By time (unit_name p task) (Release x)) (value-back v h.1)
  words-back (event.Arrive time task v) h =
      ap (λ t. By t (unit_name p task) (Arrive (first_number (option_words v)))) (ticks-back time h.0)
      ∙ ap (λ x. By time (unit_name p task) (Arrive x)) (value-back v h.1)
  words-back (event.Enter time task unit op values) h =
      ap (λ t. By t (unit_name p task) (Enter (named_op (cut 46 (op_name p unit op))) (map number (value_words values)))) (ticks-back time h.0)
      ∙ ap (λ n. By time (unit_name p task) (Enter n (map number (value_words values)))) (op-back unit op)
      ∙ ap (λ x. By time (unit_name p task) (Enter (op_at p unit op) x)) (values-back values h.1.1)
  words-back (event.Leave time task unit op values) h =
      ap (λ t. By t (unit_name p task) (Leave (named_op (cut 46 (op_name p unit op))) (map number (value_words values)))) (ticks-back time h.0)
      ∙ ap (λ n. By time (unit_name p task) (Leave n (map number (value_words values)))) (op-back unit op)
      ∙ ap (λ x. By time (unit_name p task) (Leave (op_at p unit op) x)) (values-back values h.1.1)
  words-back (event.Request time task target v) h =
      ap (λ t. By t (unit_name p task) (Request (unit_name p target) (first_number (option_words v)))) (ticks-back time h.0)
      ∙ ap (λ x. By time (unit_name p task) (Request (unit_name p target) x)) (value-back v h.1)
  words-back (event.Print time task v) h =
      ap (λ t. By t (unit_name p task) (Print (number (decimal v)))) (ticks-back time h.0)
      ∙ ap (λ x. By time (unit_name p task) (Print x)) (word-back v h.1)
  words-back (event.End time task used) h =
      ap (λ t. By t (unit_name p task) (End (number (decimal used)))) (ticks-back time h.0)
      ∙ ap (λ x. By time (unit_name p task) (End x)) (ticks-back used h.1)
  words-back (event.Stop time task unit priority ceiling) h =
      ap (λ t. By t (unit_name p task) (Stop (unit_name p unit) (number (decimal priority)) (number (decimal ceiling)))) (ticks-back time h.0)
      ∙ ap (λ x. By time (unit_name p task) (Stop (unit_name p unit) x (number (decimal ceiling)))) (word-back priority h.1)
      ∙ ap (λ x. By time (unit_name p task) (Stop (unit_name p unit) priority x)) (word-back ceiling h.2)
  words-back (event.Horizon time) h = ap Horizon (ticks-back time h)

  -- no word of an event has a space or a line feed in it
  abbrev pub Clear : ℕ → Type 0
  Clear c = (10 ≤ digit_value c) × Lacks c (codes ".") × ((k : ℕ) → Lacks c (unit_name p k))
      × ((unit op : ℕ) → Lacks c (op_name p unit op))

  clear-feed : Clear 10
  clear-feed = (omega arith, refl, (λ k. (unit-plain k).0), (λ unit op. op-lacks 10 refl unit op (unit-plain unit).0 (op-plain unit op).0))

  pub clear-space : Clear 32
  clear-space = (omega arith, refl, (λ k. (unit-plain k).1), (λ unit op. op-lacks 32 refl unit op (unit-plain unit).1 (op-plain unit op).1))

  option-lacks : (c : ℕ) → Clear c → (v : Option ℕ) → IsWordWhere v → Each (Lacks c) (option_words v)
  option-lacks c k None h = tt
  option-lacks c k (Some n) h = (decimal-lacks c n k.0 (word-ticks n h), tt)

  values-lack : (c : ℕ) → Clear c → (ns : List ℕ) → Each IsWord ns → Each (Lacks c) (value_words ns)
  values-lack c k [] h = tt
  values-lack c k (n ∷ ns) h = (decimal-lacks c n k.0 (word-ticks n h.0), values-lack c k ns h.1)

  -- the fixed words lack it
  abbrev pub AllFixed : ℕ → Type 0
  AllFixed c = Each (Lacks c) (codes "release" ∷ codes "arrive" ∷ codes "enter" ∷ codes "leave" ∷ codes "request" ∷ codes "put" ∷ codes "end"
      ∷ codes "used" ∷ codes "stop" ∷ codes "priority" ∷ codes "ceiling" ∷ codes "horizon" ∷ [])

  pub words-lack : (c : ℕ) → Clear c → AllFixed c → (e : machine.Event) → HasItsNumbers e → Each (Lacks c) (words p e)
  unfolding words
  words-lack c k f (event.Release time task v) h = (decimal-lacks c time k.0 h.0, (f.0, (k.2 task, option-lacks c k v h.1)))
  words-lack c k f (event.Arrive time task v) h = (decimal-lacks c time k.0 h.0, (f.1.0, (k.2 task, option-lacks c k v h.1)))
  words-lack c k f (event.Enter time task unit op values) h =
      (decimal-lacks c time k.0 h.0, (f.1.1.0, (k.2 task, (k.3 unit op, values-lack c k values h.1.1))))
  words-lack c k f (event.Leave time task unit op values) h =
      (decimal-lacks c time k.0 h.0, (f.1.1.1.0, (k.2 task, (k.3 unit op, values-lack c k values h.1.1))))
  words-lack c k f (event.Request time task target v) h =
      (decimal-lacks c time k.0 h.0, (f.1.1.1.1.0, (k.2 task, (k.2 target, option-lacks c k v h.1))))
  words-lack c k f (event.Print time task v) h =
      (decimal-lacks c time k.0 h.0, (f.1.1.1.1.1.0, (k.2 task, (decimal-lacks c v k.0 (word-ticks v h.1), tt))))
  words-lack c k f (event.End time task used) h =
      (decimal-lacks c time k.0 h.0, (f.1.1.1.1.1.1.0, (k.2 task, (f.1.1.1.1.1.1.1.0, (decimal-lacks c used k.0 h.1, tt)))))
  words-lack c k f (event.Stop time task unit priority ceiling) h = (
    decimal-lacks c time k.0 h.0,
    (
      f.1.1.1.1.1.1.1.1.0,
      (
        k.2 task,
        (
          k.2 unit,
          (
            f.1.1.1.1.1.1.1.1.1.0,
            (decimal-lacks c priority k.0 (word-ticks priority h.1), (f.1.1.1.1.1.1.1.1.1.1.0, (decimal-lacks c ceiling k.0 (word-ticks ceiling h.2), tt))),
          ),
        ),
      ),
    ),
  )
  words-lack c k f (event.Horizon time) h = (decimal-lacks c time k.0 h, (f.1.1.1.1.1.1.1.1.1.1.1.0, tt))

  fixed-feed : AllFixed 10
  fixed-feed = (refl, (refl, (refl, (refl, (refl, (refl, (refl, (refl, (refl, (refl, (refl, (refl, tt))))))))))))

  pub fixed-space : AllFixed 32
  fixed-space = (refl, (refl, (refl, (refl, (refl, (refl, (refl, (refl, (refl, (refl, (refl, (refl, tt))))))))))))

  -- THE LINE of an event, without its line feed
  abbrev pub text : machine.Event → List ℕ
  text e = join_with_byte 32 (words p e)

  pub some-words : (e : machine.Event) → (w : List ℕ) × (ws : List (List ℕ)) × (words p e ≡ w ∷ ws)
  unfolding words
  some-words (event.Release time task v) = (_, _, refl)
  some-words (event.Arrive time task v) = (_, _, refl)
  some-words (event.Enter time task unit op values) = (_, _, refl)
  some-words (event.Leave time task unit op values) = (_, _, refl)
  some-words (event.Request time task target v) = (_, _, refl)
  some-words (event.Print time task v) = (_, _, refl)
  some-words (event.End time task used) = (_, _, refl)
  some-words (event.Stop time task unit priority ceiling) = (_, _, refl)
  some-words (event.Horizon time) = (_, _, refl)

  text-back : (e : machine.Event) → HasItsNumbers e → event_of (cut 32 (text e)) ≡ named_event p e
  text-back e h =
      let s = some-words e in
      let apart : Each (Lacks 32) (s.0 ∷ s.1) = subst (Each (Lacks 32)) s.2 (words-lack 32 clear-space fixed-space e h) in
      ap (λ ws. event_of (cut 32 (join_with_byte 32 ws))) s.2 ∙ ap event_of (cut-join 32 s.0 s.1 apart) ∙ ap event_of (sym s.2) ∙ words-back e h

  pub text-lacks : (e : machine.Event) → HasItsNumbers e → Lacks 10 (text e)
  text-lacks e h = lacks-join 32 10 refl (words p e) (words-lack 10 clear-feed fixed-feed e h)

  -- a line in front of others
  pub line-cut : (e : machine.Event) (more : List ℕ) → HasItsNumbers e → cut 10 (line p e ++ more) ≡ text e ∷ cut 10 more
  unfolding line
  line-cut e more h =
      ap (cut 10) (append_assoc (text e) (codes "\n") more) ∙ cut-front 10 (text e) more (text-lacks e h)

  cons-parts : {A : Type 0} {x y : A} {xs ys : List A} → x ∷ xs ≡ y ∷ ys → (x ≡ y) × (xs ≡ ys)
  cons-parts e = (cc, cc)

  same-text : (e f : machine.Event) → text e ≡ text f → line p e ≡ line p f
  unfolding line
  same-text e f same = ap (λ t. t ++ codes "\n") same

  pub tells-event : (e f : machine.Event) (more others : List ℕ) → IsEvent p e → IsEvent p f → line p e ++ more ≡ line p f ++ others
      → (named_event p e ≡ named_event p f) × (more ≡ others)
  tells-event e f more others h i same =
      let cuts : text e ∷ cut 10 more ≡ text f ∷ cut 10 others =
      sym (line-cut e more h.1) ∙ ap (cut 10) same ∙ line-cut f others i.1 in
      let texts : text e ≡ text f = (cons-parts cuts).0 in (
        sym (text-back e h.1) ∙ ap (λ t. event_of (cut 32 t)) texts ∙ text-back f i.1,
        append_cancel_left (line p e) more others (same ∙ ap (λ l. l ++ others) (sym (same-text e f texts))),
      )

  -- a line is some bytes
  pub line-some : (e : machine.Event) (more : List ℕ) → [] ≡ line p e ++ more → ⊥
  unfolding line
  line-some e more h = absurd (never (text e) h)
    where
      never : (t : List ℕ) → [] ≡ (t ++ codes "\n") ++ more → ⊥
      never [] h = cc
      never (b ∷ t) h = cc

  pub tells-events : (es fs : List machine.Event) → Each (IsEvent p) es → Each (IsEvent p) fs → lines p es ≡ lines p fs
      → (named p es ≡ named p fs) × (length es ≡ length fs)
  tells-events [] [] h i same = (refl, refl)
  tells-events [] (f ∷ fs) h i same = absurd (line-some f (lines p fs) (same ∙ flat_map-cons (line p) f fs))
  tells-events (e ∷ es) [] h i same = absurd (line-some e (lines p es) (sym same ∙ flat_map-cons (line p) e es))
  tells-events (e ∷ es) (f ∷ fs) h i same =
      let one = tells-event e f (lines p es) (lines p fs) h.0 i.0
      (sym (flat_map-cons (line p) e es) ∙ same ∙ flat_map-cons (line p) f fs) in
      let more = tells-events es fs h.1 i.1 one.1 in
      (ap (λ z. z ∷ named p es) one.0 ∙ ap (λ zs. named_event p f ∷ zs) more.0, ap suc more.1)
