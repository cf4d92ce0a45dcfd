-- Lines of events one after another, with the bytes at which they begin.
use Rattle.std.proofs.Common.{◌≡◌, ℕ, zero, suc, ◌+◌, ◌<◌, ◌≤◌, List, [], ◌∷◌, ◌++◌, length, drop, get_or}
use Rattle.std.proofs.Common.{refl, sym, ap, subst, ◌∙◌, append_assoc, arith}
use Rattle.std.specs.Prelude.{Bool, true, false, ◌-◌, ◌==◌}
use Rattle.std.proofs.lemmas.Bool.{eqb-true, eqb-false}
use Rattle.std.proofs.lemmas.List.{append-nil, drop-append-le, get_or_append_left, get_or_push, length-append, drop_at}
use Rattle.seq_tree.specs.Lists.{Each}
use Rattle.ada_tree.specs.Programs.{Program}
use Rattle.ada_tree.specs.Rules.{MeetsRules}
use Rattle.trace_tree.specs.Lines.{line, lines}
use Rattle.trace_tree.specs.declared.event.Event.{Event}
use Rattle.law_lists.proofs.Shared.Lists.{each-append}
use Rattle.law_traces.specs.Told.{HasPlainNames, IsEvent}
use Rattle.law_traces.specs.Verdicts.{BeginsNoLine}
use Rattle.trace_read.specs.Chains.{AreStarts}
use Rattle.trace_read.specs.Gathered.{AreLines, IsNoLine}
use Rattle.trace_read.specs.Telling.{events_in}
use Rattle.trace_read.proofs.Fronts.{told-lines}
use Rattle.trace_read.proofs.Shared.Nexts.{lines-push, next-shorter}

-- the line of an event begins at this byte, and behind the lines from it on are these bytes
pub record Begins (p : Program) (text left : List ℕ) (events : List Event) (start index : ℕ) : Type 0 where
  pub within : start ≤ length text
  pub lines_from : drop start text ≡ lines p (drop index events) ++ left

-- a text that begins with lines of events, which begin at these bytes, and then has these bytes left
pub record Counted (p : Program) (text left starts : List ℕ) : Type 0 where
  pub events : List Event
  pub each : Each (IsEvent p) events
  pub split : text ≡ lines p events ++ left
  pub counted : length starts ≡ length events
  pub within : length starts + length left ≤ length text
  pub begins : (k : ℕ) → k < length starts → Begins p text left events (get_or starts k 0) k

pub counted-none : (p : Program) (text left : List ℕ) → left ≡ text → Counted p text left []
counted-none p text left same = record {
  events = [];
  each = tt;
  split = sym same;
  counted = refl;
  within = subst (λ z. 0 + length z ≤ length text) (sym same) (omega arith);
  begins = λ k less. absurd (omega (arith, less));
}

-- how many bytes are before those that are left
pub start-next : (p : Program) (text left starts : List ℕ) → Counted p text left starts → drop (length text - length left) text ≡ left
start-next p text left starts so-far =
    let front : List ℕ = lines p so-far.events in
    let long : length text ≡ length front + length left = ap length so-far.split ∙ length-append front left in
    let size : length front ≡ length text - length left = omega (arith, long) in
    ap (drop (length text - length left)) so-far.split ∙ drop_at front left (length text - length left) size

-- one line more
module _ (p : Program) (plain : HasPlainNames p) (text left rest : List ℕ) (e : Event) (is : IsEvent p e) (same : left ≡ line p e ++ rest) where
  begins-before : (events : List Event) (start index : ℕ) → index ≤ length events → Begins p text left events start index
      → Begins p text rest (events ++ e ∷ []) start index
  begins-before events start index few before = record {
    within = before.within;
    lines_from = before.lines_from ∙ ap (λ z. lines p (drop index events) ++ z) same
        ∙ sym (append_assoc (lines p (drop index events)) (line p e) rest)
        ∙ ap (λ z. z ++ rest) (sym (ap (lines p) (drop-append-le index events (e ∷ []) few) ∙ lines-push p (drop index events) e));
  }

  begins-last : (events : List Event) (start index : ℕ) → index ≡ length events → start ≤ length text → drop start text ≡ left
      → Begins p text rest (events ++ e ∷ []) start index
  begins-last events start index last within from = record {
    within = within;
    lines_from = from ∙ same ∙ ap (λ z. z ++ rest) (sym (ap (lines p) (drop_at events (e ∷ []) index (sym last)) ∙ lines-push p [] e));
  }

  pub counted-next : (starts later : List ℕ) (start : ℕ) → later ≡ starts ++ start ∷ [] → start ≤ length text → drop start text ≡ left
      → Counted p text left starts → Counted p text rest later
  counted-next starts later start pushed fits from so-far = subst (Counted p text rest) (sym pushed) (record {
    events = so-far.events ++ e ∷ [];
    each = each-append (IsEvent p) so-far.events (e ∷ []) so-far.each (is, tt);
    split = so-far.split ∙ ap (λ z. lines p so-far.events ++ z) same ∙ sym (append_assoc (lines p so-far.events) (line p e) rest)
        ∙ ap (λ z. z ++ rest) (sym (lines-push p so-far.events e));
    counted = (
        let longer : length (so-far.events ++ e ∷ []) ≡ length so-far.events + 1 = length-append so-far.events (e ∷ []) in
        let more : length (starts ++ start ∷ []) ≡ length starts + 1 = length-append starts (start ∷ []) in
        let counted = so-far.counted in
        omega (arith, longer, more, counted)
        );
    within = (
        let shorter : length rest < length left = next-shorter p plain e left rest same in
        let more : length (starts ++ start ∷ []) ≡ length starts + 1 = length-append starts (start ∷ []) in
        let within = so-far.within in
        omega (arith, shorter, more, within)
        );
    begins = λ k less. by k less (k == length starts) refl;
  })
    where
      by : (k : ℕ) → k < length (starts ++ start ∷ []) → (b : Bool) → (k == length starts) ≡ b
          → Begins p text rest (so-far.events ++ e ∷ []) (get_or (starts ++ start ∷ []) k 0) k
      by k less true last =
          let end : k ≡ length starts = eqb-true k (length starts) last in
          let index : k ≡ length so-far.events = end ∙ so-far.counted in
          subst (λ s. Begins p text rest (so-far.events ++ e ∷ []) s k) (sym (get_or_push starts start 0 k (sym end)))
          (begins-last so-far.events start k index fits from)
      by k less false other =
          let more : length (starts ++ start ∷ []) ≡ length starts + 1 = length-append starts (start ∷ []) in
          let differ = eqb-false k (length starts) other in
          let fewer : k < length starts = omega (arith, less, more, differ) in
          let counted = so-far.counted in
          subst (λ s. Begins p text rest (so-far.events ++ e ∷ []) s k) (sym (get_or_append_left starts (start ∷ []) 0 k fewer))
          (begins-before so-far.events (get_or starts k 0) k (omega (arith, fewer, counted)) (so-far.begins k fewer))

-- no line there
pub counted-fault : (p : Program) (text left starts : List ℕ) → Counted p text left starts → BeginsNoLine p left → IsNoLine p text (length starts + 1)
counted-fault p text left starts so-far none =
    let counted = so-far.counted in
    (so-far.events, left, so-far.each, so-far.split, none, omega (arith, counted))

-- no line left
each-drop : {X : Type 0} (P : X → Type 0) (k : ℕ) (xs : List X) → Each P xs → Each P (drop k xs)
each-drop P zero xs each = each
each-drop P (suc k) [] each = tt
each-drop P (suc k) (x ∷ xs) each = each-drop P k xs each.1

module _ (p : Program) (plain : HasPlainNames p) (meets : MeetsRules p) (text left starts : List ℕ) (so-far : Counted p text left starts)
    (none : left ≡ []) where
  whole : text ≡ lines p so-far.events
  whole = so-far.split ∙ ap (λ z. lines p so-far.events ++ z) none ∙ append-nil (lines p so-far.events)

  told : events_in p text ≡ so-far.events
  told = ap (events_in p) whole ∙ told-lines p plain meets so-far.events so-far.each

  pub counted-all : (es : List Event) → es ≡ events_in p text → AreLines p text es
  counted-all es is = subst (AreLines p text) (sym (is ∙ told)) (so-far.each, whole)

  pub counted-starts : length text < 4294967296 → AreStarts p text starts
  counted-starts short = record {
    few = (let within = so-far.within in omega (arith, within, short));
    count = so-far.counted ∙ ap length (sym told);
    within = λ k less. (so-far.begins k less).within;
    start = λ k less.
        ap (events_in p) (
        (so-far.begins k less).lines_from ∙ ap (λ z. lines p (drop k so-far.events) ++ z) none ∙ append-nil (lines p (drop k so-far.events))
        )
        ∙ told-lines p plain meets (drop k so-far.events) (each-drop (IsEvent p) k so-far.events so-far.each) ∙ ap (drop k) (sym told);
  }

pub ruleset counting = (counted-fault)
