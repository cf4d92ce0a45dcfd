-- A text has at most one fault, and one that reads as a tree within the limits has none.
use Rattle.std.proofs.Common.{◌≡◌, ℕ, ◌<◌, ◌≤◌, ◌-◌, List, [], ◌++◌, length, take, Ok, Err, ◌⊎◌, inl, inr, refl, sym, ap, subst, ◌∙◌, arith}
use Rattle.std.proofs.Common.{append-nil}
use Rattle.std.proofs.Math.Seq.{take-length}
use Rattle.seq_tree.specs.Lexis.{Misread, Stray, Great, Long, tokens, plain}
use Rattle.seq_tree.specs.Reach.{IsReach, Fault, Syntax, TooDeep, IsFault}
use Rattle.seq_tree.specs.declared.token.Token.{Token}
use Rattle.seq_tree.specs.declared.token.Place.{Place}
use Rattle.seq_tree.specs.declared.token.Spanned.{Spanned}
use Rattle.seq_tree.specs.declared.text_fault.TextFault.{TextFault}
use Rattle.seq_tree.specs.declared.text_fault.TextFault.TheVariants as fault
use Rattle.token_read.specs.Words.{bare}
use Rattle.seq_read.specs.Places.{place_at}
use Rattle.seq_read.specs.TextFaults.{IsFaultyAt, Faults}

-- a reach is one number, and so is a fault of tokens
one_reach : (Text : List Token → Type 0) (ts : List Token) (a b : ℕ) → IsReach Text ts a → IsReach Text ts b → a ≡ b
one_reach Text ts a b r q = let up : a ≤ b = q.greatest a r.within r.begins in let down : b ≤ a = r.greatest b q.within q.begins in omega arith

one_fault : (Any Within : List Token → Type 0) (ts : List Token) (a b : Fault) → IsFault Any Within ts a → IsFault Any Within ts b → a ≡ b
one_fault Any Within ts (Syntax a) (Syntax b) f g = ap Syntax (one_reach Any ts a b f.reach g.reach)
one_fault Any Within ts (TooDeep a) (TooDeep b) f g = ap TooDeep (one_reach Within ts a b f.reach g.reach)
one_fault Any Within ts (Syntax a) (TooDeep b) f g =
    let same : a ≡ b = one_reach Within ts a b f.limited g.reach in
    let further : a ≡ g.goes_on.0 = one_reach Any ts a g.goes_on.0 f.reach g.goes_on.1 in
    let more = g.goes_on.2 in absurd (omega arith)
one_fault Any Within ts (TooDeep a) (Syntax b) f g =
    let same : a ≡ b = one_reach Within ts a b f.reach g.limited in
    let further : b ≡ f.goes_on.0 = one_reach Any ts b f.goes_on.0 g.reach f.goes_on.1 in
    let more = f.goes_on.2 in absurd (omega arith)

-- bytes have one list of tokens
one_list : (bytes : List ℕ) (a b : List Spanned) → tokens bytes ≡ Ok a → tokens bytes ≡ Ok b → a ≡ b
one_list bytes a b e f = let same : Ok a ≡ Ok b = sym e ∙ f in cc

-- a fault of tokens as it is told, and its index
abbrev told_as : Place → Fault → TextFault
told_as place (Syntax index) = fault.Syntax place
told_as place (TooDeep index) = fault.TooDeep place

abbrev index_of : Fault → ℕ
index_of (Syntax index) = index
index_of (TooDeep index) = index

-- a lexical fault as it is told
abbrev lexical : Misread → TextFault
lexical (Stray place) = fault.Byte place
lexical (Great place) = fault.Number place
lexical (Long place) = fault.Long place

-- the three sorts of faults: lexical, of tokens, of length
record IsLexical (limit : ℕ) (bytes : List ℕ) (f : TextFault) : Type 0 where
  pub misread : Misread
  pub short : length bytes ≤ limit
  pub read : tokens bytes ≡ Err misread
  pub is : f ≡ lexical misread

record IsOfTokens (Any Within : List Token → Type 0) (limit : ℕ) (bytes : List ℕ) (f : TextFault) : Type 0 where
  pub place : Place
  pub kind : Fault
  pub short : length bytes ≤ limit
  pub found : List Spanned
  pub read : tokens bytes ≡ Ok found
  pub of : IsFault Any Within (bare found) kind
  pub here : place ≡ place_at bytes found (length found - index_of kind)
  pub is : f ≡ told_as place kind

abbrev IsOneOf : (List Token → Type 0) → (List Token → Type 0) → ℕ → List ℕ → TextFault → Type 0
IsOneOf Any Within limit bytes f = IsLexical limit bytes f ⊎ (IsOfTokens Any Within limit bytes f
    ⊎ ((limit < length bytes) × (f ≡ fault.FileTooLong)))

one_of : (Any Within : List Token → Type 0) (limit : ℕ) (bytes : List ℕ) (f : TextFault) → Faults Any Within limit bytes f
    → IsOneOf Any Within limit bytes f
one_of Any Within limit bytes (fault.Byte place) h = inl (record { misread = Stray place; short = h.0; read = h.1; is = refl })
one_of Any Within limit bytes (fault.Number place) h = inl (record { misread = Great place; short = h.0; read = h.1; is = refl })
one_of Any Within limit bytes (fault.Long place) h = inl (record { misread = Long place; short = h.0; read = h.1; is = refl })
one_of Any Within limit bytes (fault.Syntax place) h =
    inr (inl (record {
      place = place;
      kind = Syntax h.index;
      short = h.short;
      found = h.found;
      read = h.read;
      of = h.fault;
      here = h.here;
      is = refl;
    }))
one_of Any Within limit bytes (fault.TooDeep place) h =
    inr (inl (record {
      place = place;
      kind = TooDeep h.index;
      short = h.short;
      found = h.found;
      read = h.read;
      of = h.fault;
      here = h.here;
      is = refl;
    }))
one_of Any Within limit bytes fault.FileTooLong h = inr (inr (h, refl))
one_of Any Within limit bytes fault.NoMemory h = absurd h

one_stop : (Any Within : List Token → Type 0) (limit : ℕ) (bytes : List ℕ) (f g : TextFault) → IsOfTokens Any Within limit bytes f
    → IsOfTokens Any Within limit bytes g → f ≡ g
one_stop Any Within limit bytes f g a b =
    let found = one_list bytes a.found b.found a.read b.read in
    let P : List Spanned → Type 0 = λ z. IsFault Any Within (bare z) a.kind in
    let kind = one_fault Any Within (bare b.found) a.kind b.kind (subst P found a.of) b.of in
    let place : a.place ≡ b.place = a.here ∙ ap (λ z. place_at bytes z (length z - index_of a.kind)) found
    ∙ ap (λ z. place_at bytes b.found (length b.found - index_of z)) kind ∙ sym b.here in
    a.is ∙ ap (λ z. told_as z a.kind) place ∙ ap (told_as b.place) kind ∙ sym b.is

one : (Any Within : List Token → Type 0) (limit : ℕ) (bytes : List ℕ) (f g : TextFault) → IsOneOf Any Within limit bytes f
    → IsOneOf Any Within limit bytes g → f ≡ g
one Any Within limit bytes f g (inl a) (inl b) =
    let same : Err a.misread ≡ Err b.misread = sym a.read ∙ b.read in
    let misread : a.misread ≡ b.misread = cc in a.is ∙ ap lexical misread ∙ sym b.is
one Any Within limit bytes f g (inl a) (inr (inl b)) = let same : Err a.misread ≡ Ok b.found = sym a.read ∙ b.read in absurd cc
one Any Within limit bytes f g (inl a) (inr (inr b)) = let short = a.short in let long = b.0 in absurd (omega arith)
one Any Within limit bytes f g (inr (inl a)) (inl b) = let same : Err b.misread ≡ Ok a.found = sym b.read ∙ a.read in absurd cc
one Any Within limit bytes f g (inr (inl a)) (inr (inl b)) = one_stop Any Within limit bytes f g a b
one Any Within limit bytes f g (inr (inl a)) (inr (inr b)) = let short = a.short in let long = b.0 in absurd (omega arith)
one Any Within limit bytes f g (inr (inr a)) (inl b) = let short = b.short in let long = a.0 in absurd (omega arith)
one Any Within limit bytes f g (inr (inr a)) (inr (inl b)) = let short = b.short in let long = a.0 in absurd (omega arith)
one Any Within limit bytes f g (inr (inr a)) (inr (inr b)) = a.1 ∙ sym b.1

-- a text has at most one fault
pub one-text-fault : (Any Within : List Token → Type 0) (limit : ℕ) (bytes : List ℕ) (f g : TextFault) → Faults Any Within limit bytes f
    → Faults Any Within limit bytes g → f ≡ g
one-text-fault Any Within limit bytes f g a b = one Any Within limit bytes f g (one_of Any Within limit bytes f a) (one_of Any Within limit bytes g b)

-- TEXTS WITHOUT A FAULT
bare-spelled : (bytes : List ℕ) (ts : List Spanned) (text : List Token) → tokens bytes ≡ Ok ts → plain (tokens bytes) ≡ Ok text → bare ts ≡ text
bare-spelled bytes ts text e r = let same : Ok (bare ts) ≡ Ok text = sym (ap plain e) ∙ r in cc

not_misread : (bytes : List ℕ) (text : List Token) (misread : Misread) → plain (tokens bytes) ≡ Ok text → tokens bytes ≡ Err misread → ⊥
not_misread bytes text misread r e = let same : Err misread ≡ Ok text = sym (ap plain e) ∙ r in cc

not_syntax : (Any Within : List Token → Type 0) (limit : ℕ) (bytes : List ℕ) (text : List Token) (place : Place) → plain (tokens bytes) ≡ Ok text
    → Any text → IsFaultyAt Any Within limit bytes place Syntax → ⊥
not_syntax Any Within limit bytes text place r any h = h.fault.none (subst Any (sym (bare-spelled bytes h.found text h.read r)) any)

not_deep : (Any Within : List Token → Type 0) (limit : ℕ) (bytes : List ℕ) (text : List Token) (place : Place) → plain (tokens bytes) ≡ Ok text
    → Within text → IsFaultyAt Any Within limit bytes place TooDeep → ⊥
not_deep Any Within limit bytes text place r within h =
    let ts = bare h.found in
    let whole : Within ts = subst Within (sym (bare-spelled bytes h.found text h.read r)) within in
    let begins : Within (take (length ts) ts ++ []) = subst Within (sym (append-nil (take (length ts) ts) ∙ take-length ts)) whole in
    let most = h.fault.reach.greatest (length ts) (omega arith) ([], begins) in
    let inside = h.fault.goes_on.1.within in
    let less = h.fault.goes_on.2 in
    omega (arith, most, inside, less)

-- bytes that are few enough, with the tokens of a text within the limits
pub no-text-fault : (Any Within : List Token → Type 0) (limit : ℕ) (bytes : List ℕ) (text : List Token) (f : TextFault) →
    length bytes ≤ limit → plain (tokens bytes) ≡ Ok text → Any text → Within text → Faults Any Within limit bytes f → ⊥
no-text-fault Any Within limit bytes text (fault.Byte place) short r any within h = not_misread bytes text (Stray place) r h.1
no-text-fault Any Within limit bytes text (fault.Number place) short r any within h = not_misread bytes text (Great place) r h.1
no-text-fault Any Within limit bytes text (fault.Long place) short r any within h = not_misread bytes text (Long place) r h.1
no-text-fault Any Within limit bytes text (fault.Syntax place) short r any within h = not_syntax Any Within limit bytes text place r any h
no-text-fault Any Within limit bytes text (fault.TooDeep place) short r any within h = not_deep Any Within limit bytes text place r within h
no-text-fault Any Within limit bytes text fault.FileTooLong short r any within h = omega (arith, short, h)
no-text-fault Any Within limit bytes text fault.NoMemory short r any within h = h
