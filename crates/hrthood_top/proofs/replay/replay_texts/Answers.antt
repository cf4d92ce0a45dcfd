use Rattle.std.proofs.Common.{refl}
use Rattle.ceil_runtime.specs.Shown.{running_of}
use Rattle.hrthood_top.specs.Fetches.{texts_of}
use Rattle.hrthood_top.specs.Replays.{replays}
use Rattle.hrthood_top.proofs.Replayed.{ada-halted, arrivals-halted, texts-replayable, streams-run}
use Rattle.hrthood_top.proofs.Streamed.{streams-halted}
use Rattle.hrthood_top.proofs.replay.replay_texts.Goals as goal

pub returns-in-Err : goal.returns-in-Err
returns-in-Err g c = λ ada arrivals.
    streams-halted (replays ada arrivals) (texts_of c.args.texts.now) c.in-Err.why _ _ _ _ _ _ _ _ _
    (ada-halted c.args.texts.now.ada.items c.args.texts.now.arrivals.items c.in-Err.why (rw c.deref.ensures.value at c.in-Err.ensures.says)) refl
    c.tell_halt.ensures

pub returns-in-Err-read_under : goal.returns-in-Err-read_under
returns-in-Err-read_under g c = λ ada arrivals.
    streams-halted (replays ada arrivals) (texts_of c.args.texts.now) c.in-Err-read_under.why _ _ _ _ _ _ _ _ _
    (arrivals-halted c.args.texts.now.ada.items c.args.texts.now.arrivals.items _ c.in-Err-read_under.why
    (rw c.deref.ensures.value at c.in-Ok.ensures.says)
    (rw c.deref-2.ensures.value at c.in-Err-read_under.ensures c.args.texts.now.ada.items)) refl c.tell_halt-in-Err-read_under.ensures

pub new-requires : goal.new-requires
new-requires g c =
    texts-replayable c.args.texts.now.ada.items c.args.texts.now.arrivals.items _ _ (rw c.deref.ensures.value at c.in-Ok.ensures.says)
    (rw c.deref-2.ensures.value at c.in-Ok-read_under.ensures c.args.texts.now.ada.items)

pub returns-in-Ok-new : goal.returns-in-Ok-new
returns-in-Ok-new g c = λ ada arrivals.
    streams-run ada arrivals (texts_of c.args.texts.now) _ _ (running_of c.in-Ok-new.machine) c.put_trace.result _ _ _ _ _ _ _ _ _
    (rw c.deref.ensures.value at c.in-Ok.ensures.says)
    (rw c.deref-2.ensures.value at c.in-Ok-read_under.ensures c.args.texts.now.ada.items) c.in-Ok-new.ensures.opens c.put_trace.ensures.puts
    c.put_trace.ensures.cause c.tell_ending.ensures
