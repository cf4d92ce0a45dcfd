-- The reader of designs within its limits: what it reads is a text, and where it stops is the fault of the tokens.
use Rattle.std.proofs.Common.{◌≡◌, ℕ, zero, suc, ◌+◌, ◌-◌, ◌<◌, ◌≤◌, nat_le, Bool, true, false, cond, codes, List, [], ◌∷◌, ◌++◌, length, take}
use Rattle.std.proofs.Common.{Result, Ok, Err, ◌⊎◌, inl, inr, subst, append-nil, append_assoc, refl, sym, ap, ◌∙◌, arith, length-append}
use Rattle.std.proofs.Math.Seq.{take-length}
use Rattle.std.proofs.lemmas.List.{length-map}
use Rattle.std.proofs.lemmas.Bool.Decides.{leb_tells}
use Rattle.grammar.specs.Reading.{Halt, Syntax, TooDeep, left_of, Read, first, Reads, Widens, GoesOn, all_taken, all_of, whole_at}
use Rattle.grammar.proofs.Shared.Laws.{reads-same}
use Rattle.grammar.proofs.Shared.Widening.{widens-fewer}
use Rattle.grammar.proofs.Shared.Whole.{whole-found, whole-only, whole-fault}
use Rattle.seq_tree.specs.Limits.{text_limit}
use Rattle.seq_tree.specs.Reach.{IsReach, Begins, IsSyntaxFault, IsDepthFault}
use Rattle.seq_tree.specs.Reach as reach
use Rattle.seq_tree.specs.Proper.{within_limits}
use Rattle.seq_tree.specs.Lexis.{tokens, plain, Misread, Stray, Great}
use Rattle.seq_tree.specs.Lexis as lexis
use Rattle.seq_tree.specs.declared.text_fault.TextFault.{TextFault}
use Rattle.seq_tree.specs.declared.text_fault.TextFault.TheVariants as text
use Rattle.seq_tree.specs.declared.token.Token.{Token}
use Rattle.seq_tree.specs.declared.token.Token.TheVariants.{Word}
use Rattle.seq_tree.specs.declared.token.Spanned.{Spanned}
use Rattle.seq_tree.specs.declared.token.Place.{Place}
use Rattle.ods_tree.specs.Designs.{Design}
use Rattle.ods_tree.specs.Words.{is_design_name}
use Rattle.ods_tree.specs.Proper.{IsProperDesign}
use Rattle.ods_tree.specs.Spelling.{design_tokens}
use Rattle.ods_tree.specs.Reading as reading
use Rattle.token_read.specs.Words.{bare, same_token}
use Rattle.token_read.proofs.Shared.TokenLaws.{Any, same_self}
use Rattle.seq_read.specs.Places.{place_at}
use Rattle.seq_read.proofs.Shared.ChainLevels.{bounds}
use Rattle.seq_read.proofs.Shared.Reaches as reaches
use Rattle.ods_read.specs.ObjectReaders.{next_is_object, children_at, over_at}
use Rattle.ods_read.specs.DesignReaders.{design_with, design_at}
use Rattle.ods_read.specs.Answers.{SomeDesign, AnyDesign, Keeps, IsFaultyAt, Faults}
use Rattle.ods_read.proofs.TreeLaws.{closed_at}
use Rattle.ods_read.proofs.DesignLaws.{IsDesign, reads-design}
use Rattle.ods_read.proofs.LineTokens.{design_joined}
use Rattle.ods_read.proofs.DesignBounds.{extent_tree, bound-design, free-design}
use Rattle.ods_read.proofs.WideningLaws.{closed-last, over-last, widens-design}
use Rattle.ods_read.proofs.WordLaws.{Right}
use Rattle.ods_read.proofs.LastLaws.{Later, told_of, told-design}

-- THE READER THAT STOPS AT THE WORD OF A SECTION, within the limits and within wider ones
abbrev strict_at : List Token → Read Token Design
strict_at = design_with closed_at 32 63

abbrev wide_at : ℕ → List Token → Read Token Design
wide_at n = design_with closed_at (suc n) n

-- a design that is proper within limits, with its tokens
abbrev IsIn : ℕ → Design → List Token → Type 0
IsIn n x ts = IsProperDesign (bounds is_design_name (suc n) (suc n)) x × (ts ≡ design_tokens x)

pub record IsTextOf (x : Design) (ts : List Token) : Type 0 where
  pub proper : IsProperDesign (within_limits is_design_name) x
  pub spelled : ts ≡ design_tokens x

reads_in : (nests deeper most : ℕ) → nests ≡ suc deeper → 0 < most
    → Reads (λ x ts. IsProperDesign (bounds is_design_name (suc deeper) most) x × (ts ≡ design_tokens x)) Any (design_with closed_at most deeper)
reads_in nests deeper most e room = reads-same (IsDesign (suc deeper) most) (λ x ts. IsProperDesign (bounds is_design_name (suc deeper) most) x
    × (ts ≡ design_tokens x)) Any (design_with closed_at most deeper)
    (λ x ts g. (g.0, g.1 ∙ design_joined x)) (λ x ts g. (g.0, g.1 ∙ sym (design_joined x))) (reads-design most deeper room)

reads_strict : Reads IsTextOf Any strict_at
reads_strict = reads-same _ IsTextOf Any strict_at (λ x ts g. record { proper = g.0; spelled = g.1 }) (λ x ts g. (g.proper, g.spelled))
    (reads_in 64 63 32 refl (omega arith))

reads_wide : (n : ℕ) → 64 < n → Reads (IsIn n) Any (wide_at n)
reads_wide n h = reads_in (suc n) n (suc n) refl (omega arith)

widens_strict : (n : ℕ) → 64 < n → Widens (n - 64) strict_at (wide_at n)
widens_strict n h = widens-design closed_at 32 (suc n) (omega (arith, h)) (omega arith) (λ units. closed-last (suc n) (omega arith) units) 63 n
    (n - 64) (omega (arith, h)) (omega arith) (omega arith)

widens_design : (n : ℕ) → 64 < n → Widens (n - 64) design_at (wide_at n)
widens_design n h = widens-design (children_at over_at) 32 (suc n) (omega (arith, h)) (omega arith)
    (λ units. over-last (suc n) (omega arith) units) 63 n (n - 64) (omega (arith, h)) (omega arith) (omega arith)

widens_wide : (n m : ℕ) → 64 < n → n < m → Widens (m - 64) (wide_at n) (wide_at m)
widens_wide n m h k = widens-design closed_at (suc n) (suc m) (omega (arith, k)) (omega arith) (λ units. closed-last (suc m) (omega arith) units) n m
    (m - 64) k (omega arith) (omega arith)

design_in : (ts : List Token) → AnyDesign ts → (n : ℕ) × ((m : ℕ) → n ≤ m → (x : Design) × IsIn m x ts)
design_in ts d = (extent_tree d.0.root, λ m h. (d.0, (bound-design (suc m) d.0 (omega (arith, h)) d.1, d.2)))

design_out : (n : ℕ) (x : Design) (ts : List Token) → 64 < n → IsIn n x ts → AnyDesign ts
design_out n x ts h g = (x, free-design (suc n) (suc n) x g.0, g.1)

strict-faulty : (ts : List Token) (left : ℕ) → whole_at strict_at ts ≡ Err (Syntax left) → IsSyntaxFault AnyDesign SomeDesign ts (length ts - left)
strict-faulty = reaches.syntax-fault Any (λ x. tt) IsTextOf strict_at reads_strict IsIn wide_at 64 reads_wide widens_strict widens_wide
    AnyDesign SomeDesign
    (λ ts d. (d.0, record { proper = d.1; spelled = d.2 })) (λ x ts g. (x, g.proper, g.spelled)) design_in design_out

strict-deep : (ts : List Token) (left : ℕ) → whole_at strict_at ts ≡ Err (TooDeep left) → IsDepthFault AnyDesign SomeDesign ts (length ts - left)
strict-deep = reaches.whole-too-deep Any (λ x. tt) IsTextOf strict_at reads_strict IsIn wide_at 64 reads_wide widens_strict widens_wide
    AnyDesign SomeDesign
    (λ ts d. (d.0, record { proper = d.1; spelled = d.2 })) (λ x ts g. (x, g.proper, g.spelled)) design_in design_out

-- TOKENS THAT KEEP THE LIMITS
begins_less : (P : List Token → Type 0) (ts more : List Token) → Begins P (ts ++ more) → Begins P ts
begins_less P ts more b = (more ++ b.0, (let Q : List Token → Type 0 = P in subst Q (append_assoc ts more b.0) b.1))

some_any : (ts : List Token) → SomeDesign ts → AnyDesign ts
some_any ts d = (d.0, free-design 64 32 d.0 d.1, d.2)

keeps_any : (ts : List Token) → Keeps ts → Begins AnyDesign ts
keeps_any ts k = elim k [ inl d ↦ ([], (let P : List Token → Type 0 = AnyDesign in subst P (sym (append-nil ts)) (some_any ts d))) | inr w ↦ w.3 ]

begins_keeps_any : (ts : List Token) → Begins Keeps ts → Begins AnyDesign ts
begins_keeps_any ts b = begins_less AnyDesign ts b.0 (keeps_any (ts ++ b.0) b.1)

-- the beginning of a list that ends with a token: of what stands before it, or the whole list
prefix_of : (ts more front : List Token) (u : Token) → ts ++ more ≡ front ++ u ∷ [] → ((rest : List Token) × (front ≡ ts ++ rest))
    ⊎ (ts ≡ front ++ u ∷ [])
prefix_of [] more front u e = inl (front, refl)
prefix_of (t ∷ ts) more [] u e = inr (nil_tail t ts more u e) where
  nil_tail : (v : Token) (vs rest : List Token) (w : Token) → v ∷ (vs ++ rest) ≡ w ∷ [] → v ∷ vs ≡ w ∷ []
  nil_tail v [] rest w h = ap (λ x. x ∷ []) (let same : v ≡ w = cc in same)
  nil_tail v (x ∷ vs) rest w h = absurd (let no : x ∷ (vs ++ rest) ≡ [] = cc in cc)
prefix_of (t ∷ ts) more (f ∷ front) u e =
    let tail : ts ++ more ≡ front ++ u ∷ [] = cc in
    let same : t ≡ f = cc in
    elim (prefix_of ts more front u tail) [
      | inl r ↦ inl (r.0, ap (λ v. v ∷ front) (sym same) ∙ ap (λ us. t ∷ us) r.1)
      | inr w ↦ inr (ap (λ v. v ∷ ts) same ∙ ap (λ us. f ∷ us) w)
    ]

-- so many tokens from the front, cut at one of them
cut_at : (front back : List Token) (u : Token) → take (length front) (front ++ u ∷ back) ≡ front
cut_at [] back u = refl
cut_at (f ∷ front) back u = ap (λ us. f ∷ us) (cut_at front back u)

cut_past : (front back : List Token) (u : Token) → take (suc (length front)) (front ++ u ∷ back) ≡ front ++ u ∷ []
cut_past [] back u = refl
cut_past (f ∷ front) back u = ap (λ us. f ∷ us) (cut_past front back u)

length_taken : (n : ℕ) (ts : List Token) → n ≤ length ts → length (take n ts) ≡ n
length_taken zero ts h = refl
length_taken (suc n) [] h = absurd (omega arith)
length_taken (suc n) (t ∷ ts) h = ap suc (length_taken n ts (omega (arith, h)))

take_less : (n : ℕ) (ts front : List Token) (u : Token) → take n ts ≡ front ++ u ∷ [] → take (length front) ts ≡ front
take_less zero ts front u e = absurd (omega (arith, ap length e, length-append front (u ∷ [])))
take_less (suc n) [] front u e = absurd (omega (arith, ap length e, length-append front (u ∷ [])))
take_less (suc n) (t ∷ ts) [] u e = refl
take_less (suc n) (t ∷ ts) (f ∷ front) u e =
    let tail : take n ts ≡ front ++ u ∷ [] = cc in
    let same : t ≡ f = cc in
    ap (λ us. t ∷ us) (take_less n ts front u tail) ∙ ap (λ v. v ∷ front) same

-- how far tokens that keep the limits go, past the reach of the designs within them
record Past (ts : List Token) (place n : ℕ) : Type 0 where
  pub front : List Token
  pub here : take n ts ≡ front ++ Word (codes "objects") ∷ []
  pub count : n ≡ suc place

keeps_past : (ts : List Token) (place n : ℕ) → IsReach SomeDesign ts place → n ≤ length ts → Begins Keeps (take n ts) → (n ≤ place) ⊎ Past ts place n
keeps_past ts place n reach within b =
    elim b.1 [
      | inl d ↦ inl (reach.greatest n within (b.0, d))
      | inr w ↦ elim (prefix_of (take n ts) b.0 w.0 (Word (codes "objects")) w.1) [
        | inl r ↦ inl (reach.greatest n within (begins_less SomeDesign (take n ts) r.0 (let P : List Token → Type 0 = Begins SomeDesign
            in subst P r.1 w.2)))
        | inr whole ↦ past w.0 whole w.2
      ]
    ] where
      by_least : (front : List Token) → take n ts ≡ front ++ Word (codes "objects") ∷ [] → n ≡ suc (length front) → length front ≤ place
          → ((nat_le n place ≡ true) × (n ≤ place)) ⊎ ((nat_le n place ≡ false) × (place < n)) → (n ≤ place) ⊎ Past ts place n
      by_least front whole count shorter t
          = elim t [ inl y ↦ inl y.1 | inr g ↦ inr (record { front = front; here = whole; count = omega (arith, count, shorter, g.1) }) ]

      past : (front : List Token) → take n ts ≡ front ++ Word (codes "objects") ∷ [] → Begins SomeDesign front → (n ≤ place) ⊎ Past ts place n
      past front whole begins =
          let count : n ≡ suc (length front)
          = omega (arith, length_taken n ts within, ap length whole, length-append front (Word (codes "objects") ∷ [])) in
          let shorter : length front ≤ place =
          reach.greatest (length front) (omega (arith, within, count)) (let P : List Token → Type 0 = Begins SomeDesign
          in subst P (sym (take_less n ts front (Word (codes "objects")) whole)) begins) in
          by_least front whole count shorter (leb_tells n place)

some_keeps : (ts : List Token) → Begins SomeDesign ts → Begins Keeps ts
some_keeps ts b = (b.0, inl b.1)

-- a fault of syntax, which both readers tell
syntax_keeps : (ts : List Token) (place : ℕ) → IsSyntaxFault AnyDesign SomeDesign ts place → IsSyntaxFault AnyDesign Keeps ts place
syntax_keeps ts place f = record {
  reach = f.reach;
  limited = record {
    within = f.reach.within;
    begins = some_keeps (take place ts) f.limited.begins;
    greatest = λ n h b. f.reach.greatest n h (begins_keeps_any (take n ts) b);
  };
  none = f.none;
}

-- a fault of depth at another token than the word of a section
deep_keeps : (ts : List Token) (place : ℕ) → IsDepthFault AnyDesign SomeDesign ts place → ((n : ℕ) → n ≤ length ts → Past ts place n → ⊥)
    → IsDepthFault AnyDesign Keeps ts place
deep_keeps ts place f never = record {
  reach = record {
    within = f.reach.within;
    begins = some_keeps (take place ts) f.reach.begins;
    greatest = λ n h b. elim (keeps_past ts place n f.reach h b) [ inl y ↦ y | inr past ↦ absurd (never n h past) ];
  };
  goes_on = f.goes_on;
}

-- THE WIDE READERS, by themselves
pub record WideText (k : ℕ) (ts : List Token) : Type 0 where
  pub tree : Design
  pub text : IsIn k tree ts

module _ (k : ℕ) (h : 64 < k) where
  stuck_reach : (ts : List Token) (left : ℕ) → wide_at k ts ≡ Err (Syntax left) → IsReach AnyDesign ts (length ts - left)
  stuck_reach = reaches.stuck-reach Any (λ x. tt) (IsIn k) (wide_at k) (reads_wide k h) IsIn wide_at k (λ n g. reads_wide n (omega (arith, h, g)))
      (λ n g. widens-fewer (n - 64) (n - k) (omega (arith, h)) (widens_wide k n h g))
      (λ n m g j. widens-fewer (m - 64) (m - k) (omega (arith, h)) (widens_wide n m (omega (arith, h, g)) j))
      AnyDesign (WideText k) (λ ts w. (w.tree, w.text)) (λ x ts g. record { tree = x; text = g }) design_in
      (λ n x ts g i. design_out n x ts (omega (arith, h, g)) i)

  found_reach : (ts : List Token) (x : Design) (rest : List Token) → wide_at k ts ≡ Ok (x, rest) → IsReach AnyDesign ts (length ts - length rest)
  found_reach ts x rest e = (reaches.longest Any (λ x. tt) (IsIn k) (wide_at k) (reads_wide k h) IsIn wide_at k
      (λ n g. reads_wide n (omega (arith, h, g)))
      (λ n g. widens-fewer (n - 64) (n - k) (omega (arith, h)) (widens_wide k n h g))
      (λ n m g j. widens-fewer (m - 64) (m - k) (omega (arith, h)) (widens_wide n m (omega (arith, h, g)) j))
      AnyDesign (WideText k) (λ ts w. (w.tree, w.text)) (λ x ts g. record { tree = x; text = g }) design_in
      (λ n x ts g i. design_out n x ts (omega (arith, h, g)) i) ts x rest e).reach

-- how far some design goes, past a limit
goes_past : (ts : List Token) (left : ℕ) → left ≤ length ts → design_at ts ≡ Err (TooDeep left)
    → (further : ℕ) × IsReach AnyDesign ts further × (length ts - left < further)
goes_past ts left within e = of (wide_at k ts) refl where
  k : ℕ
  k = suc (64 + length ts)

  over : 64 < k
  over = omega arith

  on : GoesOn left (wide_at k ts)
  on = (widens_design k over ts).deep left e

  never : (l : ℕ) → wide_at k ts ≡ Err (TooDeep l) → ⊥
  never l = (widens_design k over ts).enough l (omega arith)

  of : (q : Read Token Design) → wide_at k ts ≡ q → (further : ℕ) × IsReach AnyDesign ts further × (length ts - left < further)
  of (Ok x) h =
      let P : Read Token Design → Type 0 = λ q. GoesOn left q in
      let less : length x.1 < left = subst P h on in
      (length ts - length x.1, found_reach k over ts x.0 x.1 h, omega (arith, less, within))
  of (Err (Syntax l)) h =
      let P : Read Token Design → Type 0 = λ q. GoesOn left q in
      let less : l < left = subst P h on in
      (length ts - l, stuck_reach k over ts l h, omega (arith, less, within))
  of (Err (TooDeep l)) h = absurd (never l h)

-- a fault of syntax is one of every wide reader, so that the tokens are those of no design
no_design : (ts : List Token) (left : ℕ) → design_at ts ≡ Err (Syntax left) → AnyDesign ts → ⊥
no_design ts left e d =
    let x = design_in ts d in
    let k = suc (64 + x.0) in
    let g = x.1 k (omega arith) in
    let reads = whole-only (IsIn k) Any (wide_at k) (reads_wide k (omega arith)) (λ y. tt) ts g.0 g.1 in
    let fails : whole_at (wide_at k) ts ≡ Err (Syntax left) = ap all_of ((widens_design k (omega arith) ts).syntax left e) in
    let no : Ok g.0 ≡ Err (Syntax left) = sym reads ∙ fails in cc

-- BEHIND THE LAST WORD OF A SECTION
take_more : (m k : ℕ) (ts : List Token) → m ≤ k → (rest : List Token) × (take k ts ≡ take m ts ++ rest)
take_more zero k ts h = (take k ts, refl)
take_more (suc m) zero ts h = absurd (omega arith)
take_more (suc m) (suc k) [] h = ([], refl)
take_more (suc m) (suc k) (t ∷ ts) h = let r = take_more m k ts (omega (arith, h)) in (r.0, ap (λ us. t ∷ us) r.1)

module _ (ts : List Token) (l : Later ts (strict_at ts) (design_at ts)) where
  abbrev last_place : ℕ
  last_place = suc (length l.front)

  deep : IsDepthFault AnyDesign SomeDesign ts (length ts - suc (length l.back))
  deep = strict-deep ts (suc (length l.back)) (ap all_of l.deep)

  counted : length ts ≡ length l.front + suc (length l.back)
  counted = ap length l.split ∙ length-append l.front (Word (codes "objects") ∷ l.back)

  before : length ts - suc (length l.back) ≡ length l.front
  before = omega (arith, counted)

  cut_front : take (length l.front) ts ≡ l.front
  cut_front = ap (take (length l.front)) l.split ∙ cut_at l.front l.back (Word (codes "objects"))

  cut_here : take last_place ts ≡ l.front ++ Word (codes "objects") ∷ []
  cut_here = ap (take last_place) l.split ∙ cut_past l.front l.back (Word (codes "objects"))

  some_front : Begins SomeDesign l.front
  some_front =
      let P : ℕ → Type 0 = λ n. Begins SomeDesign (take n ts) in
      let Q : List Token → Type 0 = Begins SomeDesign in
      subst Q cut_front (subst P before deep.reach.begins)

  any_here : Begins AnyDesign (take last_place ts)
  any_here =
      let g = deep.goes_on in
      let more = take_more last_place g.0 ts (omega (arith, g.2, before)) in
      begins_less AnyDesign (take last_place ts) more.0 (let P : List Token → Type 0 = Begins AnyDesign in subst P more.1 g.1.begins)

  keeps_here : Begins Keeps (take last_place ts)
  keeps_here = (
    [],
    inr (
      l.front,
      append-nil (take last_place ts) ∙ cut_here,
      some_front,
      (let P : List Token → Type 0 = Begins AnyDesign
          in subst P (sym (append-nil (take last_place ts))) any_here),
    ),
  )

  limited : IsReach Keeps ts last_place
  limited = record {
    within = omega (arith, counted);
    begins = keeps_here;
    greatest = λ n h b. elim (keeps_past ts (length ts - suc (length l.back)) n deep.reach h b) [
      | inl y ↦ omega (arith, y, before)
      | inr past ↦ omega
          (arith, past.count, before)
    ];
  }

  at_place : (left : ℕ) → length l.back ≡ left → last_place ≡ length ts - left
  at_place left e = omega (arith, counted, e)

  later_syntax : (left : ℕ) → design_at ts ≡ Err (Syntax left) → length l.back ≡ left → IsSyntaxFault AnyDesign Keeps ts (length ts - left)
  later_syntax left e same =
      let P : ℕ → Type 0 = IsReach Keeps ts in
      record {
        reach = stuck_reach 65 (omega arith) ts left ((widens_design 65 (omega arith) ts).syntax left e);
        limited = subst P (at_place left same) limited;
        none = no_design ts left e;
      }

  later_deep : (left : ℕ) → design_at ts ≡ Err (TooDeep left) → length l.back ≡ left → IsDepthFault AnyDesign Keeps ts (length ts - left)
  later_deep left e same =
      let P : ℕ → Type 0 = IsReach Keeps ts in
      record { reach = subst P (at_place left same) limited; goes_on = goes_past ts left (omega (arith, counted, same)) e }

  told_syntax : (left : ℕ) (b : Bool) → cond b (TooDeep (length l.back)) (Syntax (length l.back)) ≡ Syntax left → length l.back ≡ left
  told_syntax left true e = absurd (cc)
  told_syntax left false e = cc

  told_deep : (left : ℕ) (b : Bool) → cond b (TooDeep (length l.back)) (Syntax (length l.back)) ≡ TooDeep left → length l.back ≡ left
  told_deep left true e = cc
  told_deep left false e = absurd (cc)

  told_halt : (halt : Halt) → whole_at design_at ts ≡ Err halt → told_of l.back ≡ halt
  told_halt halt e = let same : (let q : Result Design Halt = Err (told_of l.back) in q) ≡ Err halt = sym (ap all_of l.told) ∙ e in cc

-- WHERE BOTH READERS STOP
whole_deep : (q : Read Token Design) (left : ℕ) → all_of q ≡ Err (TooDeep left) → q ≡ Err (TooDeep left)
whole_deep (Err halt) left e = ap Err (let h : (let q : Result Design Halt = Err halt in q) ≡ Err (TooDeep left) = e in cc)
whole_deep (Ok x) left e = absurd (taken x.0 x.1 e) where
  taken : (y : Design) (rest : List Token) → all_taken y rest ≡ Err (TooDeep left) → ⊥
  taken y [] k = cc
  taken y (u ∷ us) k = let p : (let q : Result Design Halt = Err (Syntax (suc (length us))) in q) ≡ Err (TooDeep left) = k
      in let s : Syntax (suc (length us)) ≡ TooDeep left = cc in cc

last_same : (one two : List Token) (u v : Token) → one ++ u ∷ [] ≡ two ++ v ∷ [] → u ≡ v
last_same [] [] u v e = cc
last_same [] (y ∷ two) u v e = absurd (omega (arith, ap length e, length-append two (v ∷ [])))
last_same (x ∷ one) [] u v e = absurd (omega (arith, ap length e, length-append one (u ∷ [])))
last_same (x ∷ one) (y ∷ two) u v e = last_same one two u v (let tail : one ++ u ∷ [] ≡ two ++ v ∷ [] = cc in tail)

never_past : (ts : List Token) (left n : ℕ) → Right ts left → Past ts (length ts - left) n → ⊥
never_past ts left n r past =
    let counted : length ts ≡ length r.front + suc (length r.back) = ap length r.split ∙ length-append r.front (r.token ∷ r.back) in
    let count : n ≡ suc (length r.front) = omega (arith, past.count, counted, r.place) in
    let whole : r.front ++ r.token ∷ [] ≡ past.front ++ Word (codes "objects") ∷ [] =
    sym (cut_past r.front r.back r.token) ∙ sym (ap (take (suc (length r.front))) r.split) ∙ ap (λ m. take m ts) (sym count) ∙ past.here in
    let same : r.token ≡ Word (codes "objects") = last_same r.front past.front r.token (Word (codes "objects")) whole in
    let other = r.other in
    let self : same_token r.token (Word (codes "objects")) ≡ true = rw same (same_self (Word (codes "objects"))) in cc

pub tokens-faulty : (ts : List Token) (left : ℕ) → whole_at design_at ts ≡ Err (Syntax left) → IsSyntaxFault AnyDesign Keeps ts (length ts - left)
tokens-faulty ts left e =
    elim (told-design 32 63 (omega arith) ts) [
      | inl s ↦ syntax_keeps ts (length ts - left) (strict-faulty ts left (sym (ap all_of s.0) ∙ e))
      | inr l ↦
          let halt = told_halt ts l (Syntax left) e in
          later_syntax ts l left (l.told ∙ ap Err halt) (told_syntax ts l left (next_is_object (first l.back)) halt)
    ]

pub tokens-deep : (ts : List Token) (left : ℕ) → whole_at design_at ts ≡ Err (TooDeep left) → IsDepthFault AnyDesign Keeps ts (length ts - left)
tokens-deep ts left e =
    elim (told-design 32 63 (omega arith) ts) [
      | inl s ↦
          let fails : whole_at strict_at ts ≡ Err (TooDeep left) = sym (ap all_of s.0) ∙ e in
          deep_keeps ts (length ts - left) (strict-deep ts left fails)
          (λ n h past. never_past ts left n (s.1 left (whole_deep (strict_at ts) left fails)) past)
      | inr l ↦
          let halt = told_halt ts l (TooDeep left) e in
          later_deep ts l left (l.told ∙ ap Err halt) (told_deep ts l left (next_is_object (first l.back)) halt)
    ]

-- THE READER OF DESIGNS
at_told : (ts : List Token) (x : Design) → whole_at design_at ts ≡ Ok x → whole_at strict_at ts ≡ Ok x
at_told ts x e =
    elim (told-design 32 63 (omega arith) ts) [
      | inl s ↦ sym (ap all_of s.0) ∙ e
      | inr l ↦ absurd (let no : (let q : Result Design Halt = Err (told_of l.back) in q) ≡ Ok x = sym (ap all_of l.told) ∙ e in cc)
    ]

told_back : (ts : List Token) (x : Design) → whole_at strict_at ts ≡ Ok x → whole_at design_at ts ≡ Ok x
told_back ts x e =
    elim (told-design 32 63 (omega arith) ts) [
      | inl s ↦ ap all_of s.0 ∙ e
      | inr l ↦ absurd (let no : (let q : Result Design Halt = Err (TooDeep (suc (length l.back))) in q) ≡ Ok x = sym (ap all_of l.deep) ∙ e in cc)
    ]

-- what is read has these tokens, and what has these tokens is read
pub whole-design : (ts : List Token) (x : Design) → whole_at design_at ts ≡ Ok x → IsTextOf x ts
whole-design ts x e = whole-found IsTextOf Any strict_at reads_strict (λ y. tt) ts x (at_told ts x e)

pub only-design : (ts : List Token) (x : Design) → IsTextOf x ts → whole_at design_at ts ≡ Ok x
only-design ts x g = told_back ts x (whole-only IsTextOf Any strict_at reads_strict (λ y. tt) ts x g)

-- FROM TOKENS TO THEIR TEXT
pub reads-as : (bytes : List ℕ) (ts : List Spanned) (x : Design) → length bytes ≤ text_limit → tokens bytes ≡ Ok ts
    → whole_at design_at (bare ts) ≡ Ok x → reading.Reads bytes x
reads-as bytes ts x short e h =
    let a = whole-design (bare ts) x h in
    record { within = short; proper = a.proper; spelled = ap plain e ∙ ap Ok a.spelled }

bare_spelled : (bytes : List ℕ) (ts : List Spanned) (x : Design) → tokens bytes ≡ Ok ts → reading.Reads bytes x → bare ts ≡ design_tokens x
bare_spelled bytes ts x e r = let same : Ok (bare ts) ≡ Ok (design_tokens x) = sym (ap plain e) ∙ r.spelled in cc

pub reads-only : (bytes : List ℕ) (ts : List Spanned) (x : Design) → tokens bytes ≡ Ok ts → reading.Reads bytes x
    → whole_at design_at (bare ts) ≡ Ok x
reads-only bytes ts x e r = only-design (bare ts) x (record { proper = r.proper; spelled = bare_spelled bytes ts x e r })

-- what is answered of tokens with a fault
place_from : (bytes : List ℕ) (ts : List Spanned) (left : ℕ) (place : Place) → left ≤ length (bare ts) → place ≡ place_at bytes ts left
    → place ≡ place_at bytes ts (length ts - (length (bare ts) - left))
place_from bytes ts left place within here =
    let same : left ≡ length ts - (length (bare ts) - left) = omega (arith, within, length-map ts (λ (s : Spanned). s.token)) in
    here ∙ ap (place_at bytes ts) same

-- no more tokens are left than there were
left_within : (ts : List Token) (halt : Halt) → whole_at design_at ts ≡ Err halt → left_of halt ≤ length ts
left_within ts halt e =
    elim (told-design 32 63 (omega arith) ts) [
      | inl s ↦
          let f = whole-fault IsTextOf Any strict_at reads_strict (λ y. tt) ts halt (sym (ap all_of s.0) ∙ e) in
          omega (arith, ap length f.split, length-append f.front f.back, f.place)
      | inr l ↦ told_within ts l halt (told_halt ts l halt e)
    ] where
      told_within : (us : List Token) (l : Later us (strict_at us) (design_at us)) (k : Halt) → told_of l.back ≡ k → left_of k ≤ length us
      told_within us l k h = omega (
        arith,
        sym (ap left_of h) ∙ told_left (next_is_object
            (first l.back)) l.back,
        ap length l.split,
        length-append l.front (Word (codes "objects") ∷ l.back),
      )
        where
          told_left : (b : Bool) (back : List Token) → left_of (cond b (TooDeep (length back)) (Syntax (length back))) ≡ length back
          told_left true back = refl
          told_left false back = refl

pub faulty-at : (bytes : List ℕ) (ts : List Spanned) (left : ℕ) (place : Place) → length bytes ≤ text_limit → tokens bytes ≡ Ok ts
    → whole_at design_at (bare ts) ≡ Err (Syntax left) → place ≡ place_at bytes ts left → IsFaultyAt bytes place reach.Syntax
faulty-at bytes ts left place short e h here = record {
  short = short;
  found = ts;
  read = e;
  index = length (bare ts) - left;
  fault = tokens-faulty (bare ts) left h;
  here = place_from bytes ts left place (left_within (bare ts) (Syntax left) h) here;
}

pub deep-at : (bytes : List ℕ) (ts : List Spanned) (left : ℕ) (place : Place) → length bytes ≤ text_limit → tokens bytes ≡ Ok ts
    → whole_at design_at (bare ts) ≡ Err (TooDeep left) → place ≡ place_at bytes ts left → IsFaultyAt bytes place reach.TooDeep
deep-at bytes ts left place short e h here = record {
  short = short;
  found = ts;
  read = e;
  index = length (bare ts) - left;
  fault = tokens-deep (bare ts) left h;
  here = place_from bytes ts left place (left_within (bare ts) (TooDeep left) h) here;
}

-- A TEXT THAT READS AS A DESIGN HAS NO FAULT
not_misread : (bytes : List ℕ) (x : Design) (misread : Misread) → reading.Reads bytes x → tokens bytes ≡ Err misread → ⊥
not_misread bytes x misread r e = let same : Err misread ≡ Ok (design_tokens x) = sym (ap plain e) ∙ r.spelled in cc

not_faulty : (bytes : List ℕ) (x : Design) (place : Place) → reading.Reads bytes x → IsFaultyAt bytes place reach.Syntax → ⊥
not_faulty bytes x place r h = h.fault.none (x, free-design 64 32 x r.proper, bare_spelled bytes h.found x h.read r)

not_deep : (bytes : List ℕ) (x : Design) (place : Place) → reading.Reads bytes x → IsFaultyAt bytes place reach.TooDeep → ⊥
not_deep bytes x place r h =
    let ts = bare h.found in
    let P : List Token → Type 0 = SomeDesign in
    let whole : SomeDesign (take (length ts) ts ++ [])
    = subst P (sym (append-nil (take (length ts) ts) ∙ take-length ts)) (x, r.proper, bare_spelled bytes h.found x h.read r) in
    let most = h.fault.reach.greatest (length ts) (omega arith) ([], inl whole) in
    let within = h.fault.goes_on.1.within in
    let less = h.fault.goes_on.2 in
    omega (arith, most, within, less)

-- want of memory apart
pub reads-unfaulty : (bytes : List ℕ) (x : Design) (f : TextFault) → reading.Reads bytes x → Faults bytes f → f ≡ text.NoMemory
reads-unfaulty bytes x (text.Byte place) r h = absurd (not_misread bytes x (Stray place) r h.1)
reads-unfaulty bytes x (text.Number place) r h = absurd (not_misread bytes x (Great place) r h.1)
reads-unfaulty bytes x (text.Long place) r h = absurd (not_misread bytes x (lexis.Long place) r h.1)
reads-unfaulty bytes x (text.Syntax place) r h = absurd (not_faulty bytes x place r h)
reads-unfaulty bytes x (text.TooDeep place) r h = absurd (not_deep bytes x place r h)
reads-unfaulty bytes x text.FileTooLong r h = let short = r.within in absurd (omega (arith, short, h))
reads-unfaulty bytes x text.NoMemory r h = refl
