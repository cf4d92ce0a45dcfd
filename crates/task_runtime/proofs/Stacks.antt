-- Calls under way, one after another: the innermost is added behind the others and taken off there, with the slots of its caller.
use Rattle.std.proofs.Common.{◌≡◌, ◌≤◌, ℕ, ◌-◌, List, [], ◌∷◌, ◌++◌, Option, length, take, drop, refl, ap, sym, subst, ◌∙◌, arith, append_assoc}
use Rattle.std.proofs.lemmas.List.{append-nil, drop-append-le, length-drop, length-take, take-append-drop, take-append-le, take_all}
use Rattle.std.proofs.Math.Seq.{drop-length}
use Rattle.seq_tree.specs.Names.{Name}
use Rattle.machine.specs.Systems.{System}
use Rattle.linker.specs.Callees.{body_of}
use Rattle.linker.specs.Leads.{Leads}
use Rattle.linker.specs.Standing.{Lists}
use Rattle.linker.specs.declared.code.Ins.{Ins}
use Rattle.linker.specs.declared.code.Ins.TheVariants as ins
use Rattle.task_runtime.specs.Bodies.{Body, into, running}
use Rattle.task_runtime.specs.Sounds.{AreSound, IsCall, IsSound, owner_by}
use Rattle.task_runtime.specs.declared.piece.Frame.{Frame}

-- the last instruction of the body that runs
abbrev pub last_by : Ins → List Frame → Ins
last_by last [] = last
last_by last (f ∷ fs) = last_by ins.Return fs

-- the room that is left inside calls
abbrev pub room_by : ℕ → List Frame → ℕ
room_by room [] = room
room_by room (f ∷ fs) = room_by (room - f.away) fs

pub last_pushed : (last : Ins) (fs : List Frame) (f : Frame) → last_by last (fs ++ f ∷ []) ≡ ins.Return
last_pushed last [] f = refl
last_pushed last (g ∷ fs) f = last_pushed ins.Return fs f

pub room_pushed : (room : ℕ) (fs : List Frame) (f : Frame) → room_by room (fs ++ f ∷ []) ≡ room_by room fs - f.away
room_pushed room [] f = refl
room_pushed room (g ∷ fs) f = room_pushed (room - g.away) fs f

pub owner_pushed : (o : Option (ℕ × ℕ)) (fs : List Frame) (f : Frame) → owner_by o (fs ++ f ∷ []) ≡ (body_of f.body).owner
owner_pushed o [] f = refl
owner_pushed o (g ∷ fs) f = owner_pushed (body_of g.body).owner fs f

-- a part that is as long as it should be
long_part : (n : ℕ) (xs : List ℕ) → length (take n xs) ≡ n → n ≤ length xs
long_part n xs e = let m = length-take n xs in omega (arith, e, m)

taken_whole : (n : ℕ) (xs : List ℕ) → length xs ≡ n → take n xs ≡ xs
taken_whole n xs e = take_all n xs (omega (arith, e))

dropped_whole : (n : ℕ) (xs : List ℕ) → length xs ≡ n → drop n xs ≡ []
dropped_whole n xs e = ap (λ k. drop k xs) (sym e) ∙ drop-length xs

module _ (y : System) (leads : Name → Name → Leads) (t : Lists) where
  -- the body that runs is sound
  pub sound_here : (last : Ins) (room : ℕ) (r : Body) (fs : List Frame) (away : List ℕ) → AreSound y leads t last room r fs away
      → IsSound y leads t (last_by last fs) (room_by room fs) (running r fs away)
  sound_here last room r [] away h = h.0
  sound_here last room r (f ∷ fs) away h = sound_here ins.Return (room - f.away) (into r f (take f.away away)) fs (drop f.away away) h.2

  -- callers have as many slots as their calls say
  pub room_away : (all : ℕ) (last : Ins) (room : ℕ) (r : Body) (fs : List Frame) (away : List ℕ) → AreSound y leads t last room r fs away
      → room_by all fs ≡ all - length away
  room_away all last room r [] away h = let e = ap length h.1 in omega (arith, e)
  room_away all last room r (f ∷ fs) away h =
      let rest = room_away (all - f.away) ins.Return (room - f.away) (into r f (take f.away away)) fs (drop f.away away) h.2 in
      let le = long_part f.away away h.1.long in
      let long = length-drop f.away away in
      omega (arith, rest, le, long)

  pub room_is : (last : Ins) (room : ℕ) (r : Body) (fs : List Frame) (away : List ℕ) → AreSound y leads t last room r fs away
      → room_by room fs ≡ room - length away
  room_is last room r fs away h = room_away room last room r fs away h

  -- a call more
  pub running_pushed : (last : Ins) (room : ℕ) (r : Body) (fs : List Frame) (f : Frame) (away slots : List ℕ)
      → AreSound y leads t last room r fs away → length slots ≡ f.away
      → running r (fs ++ f ∷ []) (away ++ slots) ≡ into (running r fs away) f slots
  running_pushed last room r [] f away slots h long =
      let none : away ++ slots ≡ slots = ap (λ z. z ++ slots) h.1 in
      ap (λ z. into r f (take f.away z)) none ∙ ap (into r f) (taken_whole f.away slots long)
  running_pushed last room r (g ∷ fs) f away slots h long =
      let le = long_part g.away away h.1.long in
      ap (λ z. running (into r g z) (fs ++ f ∷ []) (drop g.away (away ++ slots))) (take-append-le g.away away slots le)
      ∙ ap (running (into r g (take g.away away)) (fs ++ f ∷ [])) (drop-append-le g.away away slots le)
      ∙ running_pushed ins.Return (room - g.away) (into r g (take g.away away)) fs f (drop g.away away) slots h.2 long

  pub sound_pushed : (last : Ins) (room : ℕ) (r : Body) (fs : List Frame) (f : Frame) (away slots : List ℕ)
      → AreSound y leads t last room r fs away → IsCall y t (running r fs away) f slots
      → IsSound y leads t ins.Return (room_by room fs - f.away) (into (running r fs away) f slots)
      → AreSound y leads t last room r (fs ++ f ∷ []) (away ++ slots)
  sound_pushed last room r [] f away slots h c s =
      let none : away ++ slots ≡ slots = ap (λ z. z ++ slots) h.1 in
      let first : take f.away (away ++ slots) ≡ slots = ap (take f.away) none ∙ taken_whole f.away slots c.long in
      let rest : drop f.away (away ++ slots) ≡ [] = ap (drop f.away) none ∙ dropped_whole f.away slots c.long in (
        h.0,
        subst (IsCall y t r f) (sym first) (subst (λ z. IsCall y t (running r [] z) f slots) h.1 c),
        (
          subst (λ z. IsSound y leads t ins.Return (room - f.away) (into r f z)) (sym first)
              (subst (λ z. IsSound y leads t ins.Return (room - f.away) (into (running r [] z) f slots)) h.1 s),
          rest,
        ),
      )
  sound_pushed last room r (g ∷ fs) f away slots h c s =
      let le = long_part g.away away h.1.long in
      let first = take-append-le g.away away slots le in (
        h.0,
        subst (IsCall y t r g) (sym first) h.1,
        subst (λ z. AreSound y leads t ins.Return (room - g.away) (into r g z) (fs ++ f ∷ []) (drop g.away (away ++ slots))) (sym first)
            (subst (AreSound y leads t ins.Return (room - g.away) (into r g (take g.away away)) (fs ++ f ∷ []))
            (sym (drop-append-le g.away away slots le))
            (sound_pushed ins.Return (room - g.away) (into r g (take g.away away)) fs f (drop g.away away) slots h.2 c s)),
      )

  -- a call less: what its caller has are the last of the slots that are away
  pub record Popped (last : Ins) (room : ℕ) (r : Body) (fs : List Frame) (f : Frame) (away : List ℕ) : Type 0 where
    pub before : List ℕ
    pub slots : List ℕ
    pub parts : away ≡ before ++ slots
    pub call : IsCall y t (running r fs before) f slots
    pub sound : AreSound y leads t last room r fs before
    pub here : IsSound y leads t ins.Return (room_by room fs - f.away) (into (running r fs before) f slots)

  -- the slots of a caller, and those of the calls inside it
  module _ (n : ℕ) (xs before : List ℕ) (long : length xs ≡ n) where
    first_part : take n (xs ++ before) ≡ xs
    first_part = take-append-le n xs before (omega (arith, long)) ∙ taken_whole n xs long

    other_part : drop n (xs ++ before) ≡ before
    other_part = drop-append-le n xs before (omega (arith, long)) ∙ ap (λ z. z ++ before) (dropped_whole n xs long)

  pub sound_popped : (last : Ins) (room : ℕ) (r : Body) (fs : List Frame) (f : Frame) (away : List ℕ)
      → AreSound y leads t last room r (fs ++ f ∷ []) away → Popped last room r fs f away
  sound_popped last room r [] f away h = record {
    before = [];
    slots = take f.away away;
    parts = sym (take-append-drop f.away away) ∙ ap (λ z. take f.away away ++ z) h.2.1 ∙ append-nil (take f.away away);
    call = h.1;
    sound = (h.0, refl);
    here = h.2.0;
  }
  sound_popped last room r (g ∷ fs) f away h =
      let xs = take g.away away in
      let p = sound_popped ins.Return (room - g.away) (into r g xs) fs f (drop g.away away) h.2 in
      let first = sym (first_part g.away xs p.before h.1.long) in
      let rest = sym (other_part g.away xs p.before h.1.long) in
      record {
        before = xs ++ p.before;
        slots = p.slots;
        parts = sym (take-append-drop g.away away) ∙ ap (λ z. xs ++ z) p.parts ∙ sym (append_assoc xs p.before p.slots);
        call = subst (λ z. IsCall y t (running (into r g z) fs (drop g.away (xs ++ p.before))) f p.slots) first
            (subst (λ z. IsCall y t (running (into r g xs) fs z) f p.slots) rest p.call);
        sound = (
          h.0,
          subst (IsCall y t r g) first h.1,
          subst (λ z. AreSound y leads t ins.Return (room - g.away) (into r g z) fs (drop g.away (xs ++ p.before))) first
              (subst (AreSound y leads t ins.Return (room - g.away) (into r g xs) fs) rest p.sound),
        );
        here = subst (λ z. IsSound y leads t ins.Return (room_by (room - g.away) fs - f.away)
            (into (running (into r g z) fs (drop g.away (xs ++ p.before))) f p.slots)) first
            (subst (λ z. IsSound y leads t ins.Return (room_by (room - g.away) fs - f.away) (into (running
            (into r g xs) fs z) f p.slots)) rest p.here);
      }
