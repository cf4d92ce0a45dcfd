use Rattle.std.proofs.Common.{ℕ, List, Err, refl, arith, subst, Vec, Global}
use Rattle.ada_tree.specs.Trees.{program_of}
use Rattle.arrivals_read.specs.Answers.{Says}
use Rattle.bridge.specs.Delivers.{IsTextFor}
use Rattle.ceil_runtime.specs.Shown.{running_of}
use Rattle.bridge.specs.declared.halt.Halt.TheVariants.{NoMemory}
use Rattle.hrthood_top.specs.Fetches.{texts_of}
use Rattle.hrthood_top.specs.Generates.{RefusesDesign}
use Rattle.hrthood_top.specs.Verifies.{verifies}
use Rattle.hrthood_top.specs.Writing.{IsMade}
use Rattle.hrthood_top.proofs.Replayed.{texts-replayable}
use Rattle.hrthood_top.proofs.ReplayLaws.{few-units}
use Rattle.hrthood_top.proofs.Streamed.{made-halted, streams-halted}
use Rattle.hrthood_top.proofs.Verified.{arrivals-unsaid, design-halted, said-arrivals, streams-verified}
use Rattle.hrthood_top.proofs.verify.verify_texts.Goals as goal

pub returns-in-Err : goal.returns-in-Err
returns-in-Err g c = λ design arrivals.
    let d = c.args.texts.now.design.items in
    let M : List ℕ → Type 0 = λ z. IsMade (λ (v : Vec ℕ Global). v.items) (IsTextFor z) (RefusesDesign z) (Err c.in-Err.why) in
    let reason = made-halted (λ (v : Vec ℕ Global). v.items) (IsTextFor d) (RefusesDesign d) c.in-Err.why
    (subst M c.deref.ensures.value c.in-Err.ensures) in
    streams-halted (verifies design arrivals) (texts_of c.args.texts.now) c.design_halt.result _ _ _ _ _ _ _ _ _
    (rw c.design_halt.ensures (design-halted d c.args.texts.now.arrivals.items c.in-Err.why reason)) refl c.tell_halt.ensures

pub read_made-requires : goal.read_made-requires
read_made-requires g c = (c.args.texts.now.design.items, rw c.deref-2.ensures.value (rw c.deref.ensures.value at c.in-Ok.ensures))

pub read_arrivals-requires : goal.read_arrivals-requires
read_arrivals-requires g c = let few = few-units (program_of c.in-Ok-read_made.program) c.in-Ok-read_made.ensures.meets in omega (arith, few)

pub returns-in-Err-read_made : goal.returns-in-Err-read_made
returns-in-Err-read_made g c = λ design arrivals.
    streams-halted (verifies design arrivals) (texts_of c.args.texts.now) NoMemory _ _ _ _ _ _ _ _ _ tt refl c.tell_halt-in-Err-read_made.ensures

pub returns-in-Err-read_arrivals : goal.returns-in-Err-read_arrivals
returns-in-Err-read_arrivals g c = λ design arrivals.
    let S : List ℕ → Type 0 = λ z. Says z (program_of c.in-Ok-read_made.program) (Err c.in-Err-read_arrivals.fault) in
    streams-halted (verifies design arrivals) (texts_of c.args.texts.now) c.arrivals_halt.result _ _ _ _ _ _ _ _ _
    (rw c.arrivals_halt.ensures (arrivals-unsaid c.args.texts.now.design.items c.args.texts.now.arrivals.items c.in-Ok.text.items
    (program_of c.in-Ok-read_made.program) c.in-Err-read_arrivals.fault
    (rw c.deref.ensures.value at c.in-Ok.ensures) (rw c.deref-2.ensures.value at c.in-Ok-read_made.ensures.says)
    (subst S c.deref-3.ensures.value c.in-Err-read_arrivals.ensures.says)))
    refl c.tell_halt-in-Err-read_arrivals.ensures

pub new-requires : goal.new-requires
new-requires g c =
    texts-replayable c.in-Ok.text.items c.args.texts.now.arrivals.items (program_of c.in-Ok-read_made.program) _
    (rw c.deref-2.ensures.value at c.in-Ok-read_made.ensures.says)
    (said-arrivals c.args.texts.now.arrivals.items (program_of c.in-Ok-read_made.program) _
    (rw c.deref-3.ensures.value at c.in-Ok-read_arrivals.ensures.says) (rw c.deref-3.ensures.value at c.in-Ok-read_arrivals.ensures.only))

pub returns-in-Ok-new : goal.returns-in-Ok-new
returns-in-Ok-new g c = λ design arrivals.
    streams-verified design arrivals (texts_of c.args.texts.now) c.in-Ok.text.items (program_of c.in-Ok-read_made.program) _
    (running_of c.in-Ok-new.machine) c.put_verified.result _ _ _ _ _ _ _ _ _
    (rw c.deref.ensures.value at c.in-Ok.ensures) (rw c.deref-2.ensures.value at c.in-Ok-read_made.ensures.says)
    (said-arrivals c.args.texts.now.arrivals.items (program_of c.in-Ok-read_made.program) _
    (rw c.deref-3.ensures.value at c.in-Ok-read_arrivals.ensures.says) (rw c.deref-3.ensures.value at c.in-Ok-read_arrivals.ensures.only))
    c.in-Ok-new.ensures.opens (rw c.deref-in-Ok-new.ensures.value at c.put_verified.ensures.puts) c.put_verified.ensures.cause c.tell_ending.ensures
