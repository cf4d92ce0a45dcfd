-- How a command ends, from what was fetched, made and told.
use Rattle.std.proofs.Common.{◌≡◌, ℕ, List, length, take, Option, Err, sym, ap, subst, ◌∙◌, inl, inr}
use Rattle.std.proofs.Math.Seq.{take-length}
use Rattle.std.specs.Prelude.{IfSome, ◌⊎◌}
use Rattle.hood_io.specs.Shelves.{Told}
use Rattle.hrthood_top.specs.declared.status.Status.{Status}
use Rattle.hrthood_top.specs.declared.status.Status.TheVariants as status
use Rattle.hrthood_top.specs.declared.fetch.Stop.{Stop}
use Rattle.hrthood_top.specs.declared.fetch.Stop.TheVariants as stop
use Rattle.hrthood_top.specs.declared.file_kind.FileKind.{FileKind}
use Rattle.hrthood_top.specs.Files.{File, Texts, HoldsAll, AreHeld, IsTooLong, fetched, grown}
use Rattle.hrthood_top.specs.Messages.{too_long_line, fault_line}
use Rattle.hrthood_top.specs.Verbs.{Verb}
use Rattle.hrthood_top.specs.Ends.{Outside, Writes, WritesAtMost, WritesUpTo, TooLong, Refusal, Stopped, Refuses, TellsMessage, EndsVerb}
use Rattle.hrthood_top.specs.Fetches.{FetchesAll}
use Rattle.hrthood_top.specs.Writing.{Streams, TellsStop}
use Rattle.hrthood_top.proofs.Fetching.{are-held, if_some-map}

-- files that could not be had
pub ends-stop : {X : Type 0} (view : X → Texts) (v : Verb) (ended : Status) (why : Stop) (x y : Outside)
    → FetchesAll view (Err why) v.files x.told y.told x.read_faults y.read_faults →
    TellsStop ended why x.err y.err x.tell_faults y.tell_faults → y.out ≡ x.out → EndsVerb ended v x y
ends-stop view v ended (stop.TooLong kind) x y h s out =
    let E : Status → Type 0 = λ z. EndsVerb z v x y in
    let T : FileKind → Type 0 = λ z. TellsMessage x y (too_long_line z) in
    let stands = if_some-map x.told (λ t. (texts : Texts) × HoldsAll t h.front texts
    × IsTooLong t h.file) (λ t. Refuses t v (TooLong h.front h.file)) h.held (λ t p. (h.back, h.place, p.0, p.1, p.2)) in
    subst E (sym s.0) (TooLong h.front h.file, stands, h.log, out, subst T h.of s.1)
ends-stop view v ended (stop.ReadFault name) x y h s out =
    let E : Status → Type 0 = λ z. EndsVerb z v x y in
    let T : List ℕ → Type 0 = λ z. TellsMessage x y (fault_line z) in
    subst E (sym s.0) (h.0.front, h.0.file, h.0.back, h.0.place, h.0.held, h.0.log, h.1, out, subst T h.0.called s.1)
ends-stop view v ended stop.NoMemory x y h s out =
    let E : Status → Type 0 = λ z. EndsVerb z v x y in
    subst E (sym s.0) (h.0, h.1, h.2, out, s.1)

-- all of the files that are there
all-held : (files : List File) (texts : Texts) (told : Option Told) → IfSome told (λ t. HoldsAll t files texts)
    → AreHeld told (take (length files) files)
all-held files texts told held =
    let H : List File → Type 0 = λ fs. AreHeld told fs in
    subst H (sym (take-length files)) (are-held told files texts held)

-- what a verb writes, up to its stop
at_most : (v : Verb) (texts : Texts) (text : List ℕ) (t : Told) → HoldsAll t v.files texts
    → v.Makes texts text ⊎ ((stop : v.Stop) × v.Stops texts text stop) → WritesAtMost t v text
at_most v texts text t held (inl made) = inl (texts, held, made)
at_most v texts text t held (inr (stop, stops)) = inr (stop, (texts, held, stops))

-- what was written of files that are there, as it came
pub ends-streamed : (v : Verb) (ended : Status) (texts : Texts) (x y : Outside) → IfSome x.told (λ t. HoldsAll t v.files texts)
    → y.told ≡ grown x.told (fetched v.files)
    → Streams v texts ended x.out y.out x.write_faults y.write_faults x.err y.err x.tell_faults y.tell_faults → EndsVerb ended v x y
ends-streamed v status.Done texts x y held log s =
    (s.0, s.2, if_some-map x.told (λ t. HoldsAll t v.files texts) (λ t. Writes t v s.0) held (λ t p. (texts, p, s.1)), log, s.3)
ends-streamed v status.WriteFault texts x y held log s = (
  s.0,
  s.2.0,
  s.2.1,
  s.2.2,
  if_some-map x.told (λ t. HoldsAll t v.files texts) (λ t. WritesAtMost t v s.0) held (λ t p.
      at_most v texts s.0 t p s.1),
  s.2.3,
  log,
  s.2.4,
)
ends-streamed v status.Refused texts x y held log (inl s) =
    (Refusal s.0, if_some-map x.told (λ t. HoldsAll t v.files texts) (λ t. Refuses t v (Refusal s.0)) held (λ t p. (texts, p, s.1)), log, s.2, s.3)
ends-streamed v status.Refused texts x y held log (inr s) = (
  Stopped s.0,
  if_some-map x.told (λ t. HoldsAll t v.files texts) (λ t. Refuses t v (Stopped s.0)) held (λ t p. (s.1, (texts, p, s.2))),
  log,
  (s.1, s.3, if_some-map x.told (λ t. HoldsAll t v.files texts) (λ t. WritesUpTo t v s.0 s.1) held (λ t p. (texts, p, s.2))),
  s.4,
)
ends-streamed v status.NoMemory texts x y held log s
    = (length v.files, all-held v.files texts x.told held, log ∙ ap (λ z. grown x.told (fetched z)) (sym (take-length v.files)), s.0, s.1)
ends-streamed v status.ReadFault texts x y held log s = absurd s
ends-streamed v status.Usage texts x y held log s = absurd s
