-- What words tell is an event of the program: its places are places of the program, and its numbers fit their types.
use Rattle.std.proofs.Common.{◌≡◌, ℕ, List, [], ◌∷◌, Option, Some, None, refl, sym, subst}
use Rattle.std.specs.Prelude.{IfSome, option_map, option_and_then}
use Rattle.std.proofs.lemmas.Option.{none-some, same_Some}
use Rattle.ada_tree.specs.Programs.{Program}
use Rattle.trace_tree.specs.Placed.{IsUnit, IsOp}
use Rattle.trace_tree.specs.declared.event.Event.{Event}
use Rattle.trace_tree.specs.declared.event.Event.TheVariants as event
use Rattle.law_traces.specs.Told.{IsTicks, IsWord, IsWordWhere, AreWords, IsEvent}
use Rattle.law_traces.specs.Cuts.{cut}
use Rattle.trace_read.specs.declared.kind.Kind.{Kind}
use Rattle.trace_read.specs.declared.kind.Kind.TheVariants.{Release, Arrive, Enter, Leave, Request, Print, End, Stop, Horizon}
use Rattle.trace_read.specs.Names.{unit_of_name, op_of_name}
use Rattle.trace_read.specs.Reading.{Bytes, with_word, number_of, value_of, maybe_value, values_of, kind_of, op_of, passage_of, request_of, used_of}
use Rattle.trace_read.specs.Reading.{level_of, stop_of}
use Rattle.trace_read.specs.Reading.{deed_of, happens, event_of}
use Rattle.trace_read.proofs.Numerals.{number-fits, value-fits, values-fit, maybe-fits}
use Rattle.trace_read.proofs.Placing.{unit-below, op-below}

-- what an answer came from
and-some : {A B : Type 0} (f : A → Option B) (o : Option A) (y : B) → option_and_then f o ≡ Some y → (x : A) × (o ≡ Some x) × (f x ≡ Some y)
and-some f None y e = absurd (none-some y e)
and-some f (Some x) y e = (x, refl, e)

map-some : {A B : Type 0} (f : A → B) (o : Option A) (y : B) → option_map f o ≡ Some y → (x : A) × (o ≡ Some x) × (f x ≡ y)
map-some f None y e = absurd (none-some y e)
map-some f (Some x) y e = (x, refl, same_Some (f x) y e)

word-some : {A : Type 0} (ws : List Bytes) (f : Bytes → List Bytes → Option A) (y : A) → with_word ws f ≡ Some y
    → (w : Bytes) × (more : List Bytes) × (f w more ≡ Some y)
word-some [] f y e = absurd (none-some y e)
word-some (w ∷ ws) f y e = (w, ws, e)

module _ (p : Program) where
  op-fits : (w : Bytes) (x : ℕ × ℕ) → op_of p w ≡ Some x → IsUnit p x.0 × IsOp p x.0 x.1
  unfolding op_of
  op-fits w x e =
      let a = word-some (cut 46 w) _ x e in
      let b = and-some _ (unit_of_name p a.0) x a.2 in
      let c = word-some a.1 _ x b.2 in
      let d = map-some (λ o. (b.0, o)) (op_of_name p b.0 c.0) x c.2 in
      let P : ℕ × ℕ → Type 0 = λ z. IsUnit p z.0 × IsOp p z.0 z.1 in
      subst P d.2 (unit-below p b.0 a.0 b.1, op-below p b.0 d.0 c.0 d.1)

  abbrev Passed : (ℕ × ℕ) × List ℕ → Type 0
  Passed x = IsUnit p x.0.0 × IsOp p x.0.0 x.0.1 × AreWords x.1

  passage-fits : (ws : List Bytes) (x : (ℕ × ℕ) × List ℕ) → passage_of p ws ≡ Some x → Passed x
  unfolding passage_of
  passage-fits ws x e =
      let a = word-some ws _ x e in
      let b = and-some _ (op_of p a.0) x a.2 in
      let c = map-some (λ values. (b.0, values)) (values_of a.1) x b.2 in
      let o = op-fits a.0 b.0 b.1 in
      subst Passed c.2 (o.0, o.1, values-fit a.1 c.0 c.1)

  abbrev Asked : ℕ × Option ℕ → Type 0
  Asked x = IsUnit p x.0 × IsWordWhere x.1

  request-fits : (ws : List Bytes) (x : ℕ × Option ℕ) → request_of p ws ≡ Some x → Asked x
  unfolding request_of
  request-fits ws x e =
      let a = word-some ws _ x e in
      let b = and-some _ (unit_of_name p a.0) x a.2 in
      let c = map-some (λ v. (b.0, v)) (maybe_value a.1) x b.2 in
      subst Asked c.2 (unit-below p b.0 a.0 b.1, maybe-fits a.1 c.0 c.1)

  used-fits : (ws : List Bytes) (n : ℕ) → used_of ws ≡ Some n → IsTicks n
  unfolding used_of
  used-fits ws n e =
      let a = word-some ws _ n e in
      let b = word-some a.1 _ n a.2 in number-fits b.0 n b.2

  level-fits : (ws : List Bytes) (x : ℕ × List Bytes) → level_of ws ≡ Some x → IsWord x.0
  unfolding level_of
  level-fits ws x e =
      let a = word-some ws _ x e in
      let b = word-some a.1 _ x a.2 in
      let c = map-some (λ n. (n, b.1)) (value_of b.0) x b.2 in
      let P : ℕ × List Bytes → Type 0 = λ z. IsWord z.0 in subst P c.2 (value-fits b.0 c.0 c.1)

  abbrev Stopped : ℕ × ℕ × ℕ → Type 0
  Stopped s = IsUnit p s.0 × IsWord s.1 × IsWord s.2

  stop-fits : (ws : List Bytes) (s : ℕ × ℕ × ℕ) → stop_of p ws ≡ Some s → Stopped s
  unfolding stop_of
  stop-fits ws s e =
      let a = word-some ws _ s e in
      let b = and-some _ (unit_of_name p a.0) s a.2 in
      let c = and-some _ (level_of a.1) s b.2 in
      let d = map-some (λ (second : ℕ × List Bytes). (b.0, c.0.0, second.0)) (level_of c.0.1) s c.2 in
      subst Stopped d.2 (unit-below p b.0 a.0 b.1, level-fits a.1 c.0 c.1, level-fits c.0.1 d.0 d.1)

  deed-fits : (time task : ℕ) (k : Kind) (ws : List Bytes) (e : Event) → IsTicks time → IsUnit p task → deed_of p time task k ws ≡ Some e → IsEvent p e
  unfolding deed_of
  deed-fits time task Release ws e t u h = let a = map-some _ (maybe_value ws) e h in subst (IsEvent p) a.2 (u, (t, maybe-fits ws a.0 a.1))
  deed-fits time task Arrive ws e t u h = let a = map-some _ (maybe_value ws) e h in subst (IsEvent p) a.2 (u, (t, maybe-fits ws a.0 a.1))
  deed-fits time task Enter ws e t u h =
      let a = map-some _ (passage_of p ws) e h in let f = passage-fits ws a.0 a.1 in subst (IsEvent p) a.2 ((u, f.0, f.1), (t, f.2))
  deed-fits time task Leave ws e t u h =
      let a = map-some _ (passage_of p ws) e h in let f = passage-fits ws a.0 a.1 in subst (IsEvent p) a.2 ((u, f.0, f.1), (t, f.2))
  deed-fits time task Request ws e t u h =
      let a = map-some _ (request_of p ws) e h in let f = request-fits ws a.0 a.1 in subst (IsEvent p) a.2 ((u, f.0), (t, f.1))
  deed-fits time task Print ws e t u h =
      let a = word-some ws _ e h in let b = map-some _ (value_of a.0) e a.2 in subst (IsEvent p) b.2 (u, (t, value-fits a.0 b.0 b.1))
  deed-fits time task End ws e t u h = let a = map-some _ (used_of ws) e h in subst (IsEvent p) a.2 (u, (t, used-fits ws a.0 a.1))
  deed-fits time task Stop ws e t u h =
      let a = map-some _ (stop_of p ws) e h in let f = stop-fits ws a.0 a.1 in subst (IsEvent p) a.2 ((u, f.0), (t, f.1, f.2))
  deed-fits time task Horizon ws e t u h = absurd (none-some e h)

  by-task : (time : ℕ) (k : Kind) (ws : List Bytes) (e : Event) → IsTicks time
      → with_word ws (λ w more. option_and_then (λ task. deed_of p time task k more) (unit_of_name p w)) ≡ Some e → IsEvent p e
  by-task time k ws e t h =
      let a = word-some ws _ e h in
      let b = and-some _ (unit_of_name p a.0) e a.2 in deed-fits time b.0 k a.1 e t (unit-below p b.0 a.0 b.1) b.2

  happens-fits : (time : ℕ) (k : Kind) (ws : List Bytes) (e : Event) → IsTicks time → happens p time k ws ≡ Some e → IsEvent p e
  unfolding happens
  happens-fits time Release ws e t h = by-task time Release ws e t h
  happens-fits time Arrive ws e t h = by-task time Arrive ws e t h
  happens-fits time Enter ws e t h = by-task time Enter ws e t h
  happens-fits time Leave ws e t h = by-task time Leave ws e t h
  happens-fits time Request ws e t h = by-task time Request ws e t h
  happens-fits time Print ws e t h = by-task time Print ws e t h
  happens-fits time End ws e t h = by-task time End ws e t h
  happens-fits time Stop ws e t h = by-task time Stop ws e t h
  happens-fits time Horizon ws e t h = subst (IsEvent p) (same_Some (event.Horizon time) e h) (tt, t)

  pub event-fits : (ws : List Bytes) (e : Event) → event_of p ws ≡ Some e → IsEvent p e
  unfolding event_of
  event-fits ws e h =
      let a = word-some ws _ e h in
      let b = and-some _ (number_of a.0) e a.2 in
      let c = word-some a.1 _ e b.2 in
      let d = and-some _ (kind_of c.0) e c.2 in
      happens-fits b.0 d.0 c.1 e (number-fits a.0 b.0 b.1) d.2

  pub event-where : (ws : List Bytes) (o : Option Event) → o ≡ event_of p ws → IfSome o (IsEvent p)
  event-where ws None is = tt
  event-where ws (Some e) is = event-fits ws e (sym is)
