-- What a run promises, where a command is read and where none is.
use Rattle.std.proofs.Common.{◌≡◌, ◌∙◌, List, [], ℕ, true, Option, Some, None, refl, sym, subst}
use Rattle.std.specs.Prelude.{is_some, Err}
use Rattle.hrthood_top.specs.declared.message.Message.TheVariants as message
use Rattle.hrthood_top.specs.declared.status.Status.{Status}
use Rattle.hrthood_top.specs.declared.status.Status.TheVariants as status
use Rattle.hrthood_words.specs.declared.reading.Unread.{Unread}
use Rattle.hrthood_words.specs.declared.reading.Unread.TheVariants as unread
use Rattle.hrthood_words.specs.Views.{ReadsAs}
use Rattle.hrthood_words.specs.Words.{Command, OnDesign, Replay, Verify, Accepts, Sample}
use Rattle.hrthood_top.specs.Files.{Texts}
use Rattle.hrthood_top.specs.Messages.{message_line}
use Rattle.hrthood_top.specs.Ends.{Ends, Outside, TellsMessage}
use Rattle.hrthood_top.specs.Runs.{Runs}
use Rattle.hrthood_top.specs.Samples.{EndsSample}
use Rattle.hrthood_top.specs.Writing.{TellsUnread}
use Rattle.hrthood_top.proofs.Completing.{completed, usage-alone}
use Rattle.hrthood_top.proofs.Fetching.{are-held, grown-nothing, held-none}

-- no file was fetched and nothing written
unread-ends : (is : Option Command) (x y : Outside) → is_some is ≡ true → y.told ≡ x.told → y.out ≡ x.out
    → TellsMessage x y (message_line message.NoMemory) → Ends status.NoMemory is x y
unread-ends None x y some told out tells = absurd (cc some)
unread-ends (Some c) x y some told out tells =
    let none : Texts = λ kind. [] in
    (0, are-held x.told [] none (held-none x.told none), told ∙ grown-nothing x.told, out, tells)

unread-sample : (is : Option Command) (out : Option (List ℕ)) → EndsSample status.NoMemory is out out
unread-sample None out = tt
unread-sample (Some (OnDesign verb design)) out = tt
unread-sample (Some (Replay ada arrivals)) out = tt
unread-sample (Some (Verify design arrivals)) out = tt
unread-sample (Some (Accepts design arrivals trace)) out = tt
unread-sample (Some (Sample threads)) out = refl

-- the ends of a run tell when usage is told and what completes
runs : (ended : Status) (asked : Option Command) (x y : Outside) → Ends ended asked x y → EndsSample ended asked x.out y.out → Runs ended asked x y
runs ended asked x y ends summed = record {
  usage = usage-alone ended asked x y ends;
  ends = ends;
  summed = summed;
  completes = completed ended asked x y ends;
}

-- a command was read, and done
pub runs-done : (ended : Status) (c : Command) (asked : Option Command) (x y : Outside) → asked ≡ Some c → Ends ended (Some c) x y
    → EndsSample ended (Some c) x.out y.out → Runs ended asked x y
runs-done ended c asked x y e ends summed = let R : Option Command → Type 0 = λ z. Runs ended z x y in subst R (sym e) (runs ended (Some c) x y ends summed)

-- none was read, which is told
pub runs-unread : (why : Unread) (ended : Status) (asked : Option Command) (x y : Outside) → ReadsAs (Err why) asked → y.told ≡ x.told → y.out ≡ x.out
    → TellsUnread why ended x.err y.err x.tell_faults y.tell_faults → Runs ended asked x y
runs-unread unread.NoCommand ended asked x y e told out tells =
    let R : Option Command → Type 0 = λ z. Runs status.Usage z x y in
    let S : Status → Type 0 = λ z. Runs z asked x y in
    subst S (sym tells.0) (subst R (sym e) (runs status.Usage None x y (told, out, tells.1) tt))
runs-unread unread.NoMemory ended asked x y some told out tells =
    let S : Status → Type 0 = λ z. Runs z asked x y in
    let E : Option (List ℕ) → Type 0 = λ z. EndsSample status.NoMemory asked x.out z in
    subst S (sym tells.0)
    (runs status.NoMemory asked x y (unread-ends asked x y some told out tells.1) (subst E (sym out) (unread-sample asked x.out)))
