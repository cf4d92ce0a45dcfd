-- What a verb has written and told, where it made nothing, and where it made a text that was then written.
use Rattle.std.proofs.Common.{◌≡◌, ℕ, List, Option, Result, Ok, Err, sym, subst, inl}
use Rattle.std.specs.Prelude.{⊤}
use Rattle.hrthood_top.specs.declared.file_kind.FileKind.TheVariants.{Design}
use Rattle.hrthood_top.specs.declared.status.Status.{Status}
use Rattle.hrthood_top.specs.declared.status.Status.TheVariants as status
use Rattle.bridge.specs.declared.halt.Halt.{Halt}
use Rattle.bridge.specs.declared.halt.Halt.TheVariants.{Refused, NoMemory}
use Rattle.hrthood_top.specs.Files.{Texts}
use Rattle.hrthood_top.specs.Verbs.{OfDesign, Verb, on_design}
use Rattle.hrthood_top.specs.Writing.{Finishes, IsMade, Streams, TellsHalt}

-- a verb that makes nothing has a reason for it
abbrev pub IsHalted : {R : Type 0} → (R → Type 0) → Halt R → Type 0
IsHalted Refuses (Refused refusal) = Refuses refusal
IsHalted Refuses NoMemory = ⊤

-- what was not made has a reason
pub made-halted : {X R : Type 0} (view : X → List ℕ) (Makes : List ℕ → Type 0) (Refuses : R → Type 0) (why : Halt R)
    → IsMade view Makes Refuses (Err why) → IsHalted Refuses why
made-halted view Makes Refuses (Refused refusal) h = h
made-halted view Makes Refuses NoMemory h = tt

-- nothing was made
pub streams-halted : (v : Verb) (texts : Texts) (why : Halt v.Refusal) (ended : Status) (out out' : Option (List ℕ)) (faults faults' : ℕ)
    (err err' : Option (List ℕ)) (told told' : ℕ)
    → IsHalted (v.Refuses texts) why → out' ≡ out → TellsHalt v.line why ended err err' told told'
    → Streams v texts ended out out' faults faults' err err' told told'
streams-halted v texts (Refused refusal) ended out out' faults faults' err err' told told' h same t =
    let S : Status → Type 0 = λ z. Streams v texts z out out' faults faults' err err' told told' in
    subst S (sym t.0) (inl (refusal, h, same, t.1))
streams-halted v texts NoMemory ended out out' faults faults' err err' told told' h same t =
    let S : Status → Type 0 = λ z. Streams v texts z out out' faults faults' err err' told told' in
    subst S (sym t.0) (same, t.1)

-- something was made, and written
pub streams-made : {X : Type 0} (view : X → List ℕ) (v : Verb) (texts : Texts) (made : Result X (Halt v.Refusal)) (ended : Status)
    (out out' : Option (List ℕ)) (faults faults' : ℕ) (err err' : Option (List ℕ)) (told told' : ℕ)
    → IsMade view (v.Makes texts) (v.Refuses texts) made → Finishes view (TellsHalt v.line) made ended out out' faults faults' err err' told told'
    → Streams v texts ended out out' faults faults' err err' told told'
streams-made view v texts (Ok x) status.Done out out' faults faults' err err' told told' m f = (view x, m, f.0, f.1)
streams-made view v texts (Ok x) status.WriteFault out out' faults faults' err err' told told' m f = (view x, inl m, f)
streams-made view v texts (Ok x) status.Refused out out' faults faults' err err' told told' m f = absurd f
streams-made view v texts (Ok x) status.Usage out out' faults faults' err err' told told' m f = absurd f
streams-made view v texts (Ok x) status.ReadFault out out' faults faults' err err' told told' m f = absurd f
streams-made view v texts (Ok x) status.NoMemory out out' faults faults' err err' told told' m f = absurd f
streams-made view v texts (Err why) ended out out' faults faults' err err' told told' m f =
    let halted = made-halted view (v.Makes texts) (v.Refuses texts) why m in
    streams-halted v texts why ended out out' faults faults' err err' told told' halted f.0 f.1

-- the same of a verb on a design alone, of whose bytes it was made
pub design-streams : {X : Type 0} (view : X → List ℕ) (of : OfDesign) (bytes : List ℕ) (made : Result X (Halt of.Refusal)) (ended : Status)
    (out out' : Option (List ℕ)) (faults faults' : ℕ) (err err' : Option (List ℕ)) (told told' : ℕ)
    → IsMade view (of.Makes bytes) (of.Refuses bytes) made → Finishes view (TellsHalt of.line) made ended out out' faults faults' err err' told told'
    → (name : List ℕ) (texts : Texts) → texts Design ≡ bytes
    → Streams (on_design of name) texts ended out out' faults faults' err err' told told'
design-streams view of bytes made ended out out' faults faults' err err' told told' m f name texts same =
    let M : List ℕ → Type 0 = λ z. IsMade view (of.Makes z) (of.Refuses z) made in
    streams-made view (on_design of name) texts made ended out out' faults faults' err err' told told' (subst M (sym same) m) f
