-- Examples of how a command ends, of a made-up verb: each status with an end that holds, and for each condition one that breaks it alone.
use Rattle.std.specs.Prelude.{◌≡◌, ℕ, ◌≤◌, ◌<◌, List, [], ◌∷◌, ◌++◌, length, take, codes, Option, Some, None, refl, if◌then◌else◌}
use Rattle.std.specs.Prelude.{unwrap_or, suc, zero, ◌⊎◌, get_or, sum_by}
use Rattle.std.specs.Str.{bytes_eq}
use Rattle.std.proofs.Common.{arith, lit≤, sym, ap, subst, inl, inr, ◌∙◌}
use Rattle.std.proofs.lemmas.List.{length-take}
use Rattle.hood_io.specs.Causes.{Rose}
use Rattle.hood_io.specs.Shelves.{Told, Entry}
use Rattle.hrthood_top.specs.declared.file_kind.FileKind.TheVariants.{Design, Ada, Arrivals, Trace}
use Rattle.hrthood_top.specs.declared.file_kind.FileKind.{FileKind}
use Rattle.hrthood_top.specs.Messages.{too_long_line, fault_line}
use Rattle.hrthood_top.specs.declared.status.Status.TheVariants.{Done, Refused, Usage, ReadFault, WriteFault, NoMemory}
use Rattle.hrthood_top.specs.Files.{File, Texts, HoldsAll, AreHeld, fetched, failed}
use Rattle.hrthood_top.specs.Tells.{Tells}
use Rattle.hrthood_top.specs.Verbs.{Verb}
use Rattle.hrthood_top.specs.Ends.{Outside, EndsVerb, Refuses, Refusal, TooLong, Stopped, Writes, WritesAtMost, CanDo, CompletesVerb}

-- a design and arrivals, and a shelf on which they have two bytes and one
abbrev pub design : File
design = record { kind = Design; name = codes "d" }

abbrev pub arrivals : File
arrivals = record { kind = Arrivals; name = codes "rr" }

abbrev pub bytes : Texts
bytes Design = codes "ab"
bytes Ada = []
bytes Arrivals = codes "c"
bytes Trace = []

abbrev pub bytes_by : List ℕ → List ℕ → List ℕ → Option (List ℕ)
bytes_by first second name = if bytes_eq name (codes "d") then Some first else if bytes_eq name (codes "rr") then Some second else None

abbrev pub shelf : List ℕ → List ℕ → List Entry → Told
shelf first second log = record { files = bytes_by first second; log = log }

-- and one that holds nothing
abbrev pub bare : List Entry → Told
bare log = record { files = λ name. None; log = log }

-- a verb that writes both files, is refused for the number of bytes of the second, and stops behind the first
abbrev pub joins : Verb
joins = record {
  files = design ∷ arrivals ∷ [];
  Makes = λ texts made. made ≡ texts Design ++ texts Arrivals;
  Refusal = ℕ;
  Refuses = λ texts count. count ≡ length (texts Arrivals);
  line = λ count. count ∷ codes " are too few\n";
  Stop = ℕ;
  Stops = λ texts made count. (made ≡ texts Design) × (count ≡ length made);
  stop_line = λ count. count ∷ codes " bytes were written\n";
  CanDo = λ texts. texts Design ≡ codes "ab";
}

-- what stands outside before
abbrev pub start : Outside
start = record {
  told = Some (shelf (codes "ab") (codes "c") []);
  read_faults = 0;
  out = Some (codes "o");
  write_faults = 0;
  err = Some [];
  tell_faults = 0;
}

-- both files were fetched
abbrev both : Option Told
both = Some (shelf (codes "ab") (codes "c") (fetched (design ∷ arrivals ∷ [])))

pub held : (log : List Entry) → HoldsAll (shelf (codes "ab") (codes "c") log) joins.files bytes
held log = ((refl, lit≤ tt), ((refl, lit≤ tt), tt))

joined : {d r a b text : List ℕ} → ◌≡◌ {A = Option (List ℕ)} (Some a) (Some d) → ◌≡◌ {A = Option (List ℕ)} (Some b) (Some r)
    → text ≡ d ++ r → text ≡ a ++ b
joined e f h = cc

-- what the verb writes of these files, and what it writes before it stops
pub made : (text : List ℕ) → Writes (shelf (codes "ab") (codes "c") []) joins text → text ≡ codes "abc"
made text (texts, all, is) = joined all.0.0 all.1.0.0 is

-- the bytes that were written to standard output
abbrev byte_count : Option (List ℕ) → ℕ
byte_count written = length (unwrap_or written [])

-- the fetches that a shelf tells
abbrev fetch_count : Option Told → ℕ
fetch_count None = 0
fetch_count (Some t) = length t.log

abbrev after_done : Outside
after_done = record start { told = both; out = Some (codes "oabc") }

done : EndsVerb Done joins start after_done
done = (codes "abc", refl, (bytes, held [], refl), refl, refl)

-- the last byte is missing, or what stood there before
done_cut : EndsVerb Done joins start (record after_done { out = Some (codes "oab") }) → ⊥
done_cut (text, appends, writes, log, err) = omega (arith, ap byte_count appends, ap length (made text writes))

done_over : EndsVerb Done joins start (record after_done { out = Some (codes "abc") }) → ⊥
done_over (text, appends, writes, log, err) = omega (arith, ap byte_count appends, ap length (made text writes))

-- a fetch is not in the log
done_unlogged : EndsVerb Done joins start (record after_done { told = start.told }) → ⊥
done_unlogged (text, appends, writes, log, err) = omega (arith, ap fetch_count log)

-- standard error got a line
done_told : EndsVerb Done joins start (record after_done { err = Some (codes "x") }) → ⊥
done_told (text, appends, writes, log, err) = omega (arith, ap byte_count err)

-- no file is there
done_of_nothing : EndsVerb Done joins (record start { told = Some (bare []) })
    (record after_done { told = Some (bare (fetched (design ∷ arrivals ∷ []))) }) → ⊥
done_of_nothing (text, appends, writes, log, err) = absurd (cc writes.1.0.0)

-- a shelf that tells nothing tells nothing afterwards
done_untold : EndsVerb Done joins (record start { told = None }) (record after_done { told = None })
done_untold = (codes "abc", refl, tt, refl, refl)

-- a part of the text was written, behind what stood there
abbrev after_part : Outside
after_part = record start { told = both; out = Some (codes "oab"); write_faults = 1; err = Some (codes "fault writing\n") }

rises : Rose 0 1
rises = lit≤ tt

stays : Rose 0 0 → ⊥
stays h = omega (arith, h)

part : EndsVerb WriteFault joins start after_part
part = (codes "abc", 2, lit≤ tt, refl, inl (bytes, held [], refl), rises, refl, inl refl)

-- of what is written before the stop
part_of_a_stop : EndsVerb WriteFault joins start (record after_part { out = Some (codes "oa") })
part_of_a_stop = (codes "ab", 1, lit≤ tt, refl, inr (2, (bytes, held [], (refl, refl))), rises, refl, inl refl)

-- what the verb writes at most
at_most : (text : List ℕ) → WritesAtMost (shelf (codes "ab") (codes "c") []) joins text → (text ≡ codes "abc") ⊎ (text ≡ codes "ab")
at_most text (inl writes) = inl (made text writes)
at_most text (inr (stop, (texts, all, is))) = inr (is.0 ∙ sym (ap (λ o. unwrap_or o []) all.0.0))

few : (text : List ℕ) → WritesAtMost (shelf (codes "ab") (codes "c") []) joins text → length text ≤ 3
few text h = by (at_most text h)
  where
    by : (text ≡ codes "abc") ⊎ (text ≡ codes "ab") → length text ≤ 3
    by (inl e) = omega (arith, ap length e)
    by (inr e) = omega (arith, ap length e)

-- all of it was written
part_whole : EndsVerb WriteFault joins start (record after_part { out = Some (codes "oabc") }) → ⊥
part_whole (text, n, less, appends, writes, rose, log, err) =
    omega (arith, less, ap byte_count appends, few text writes, length-take n text)

-- no front of it was written
part_other : EndsVerb WriteFault joins start (record after_part { out = Some (codes "ob") }) → ⊥
part_other (text, n, less, appends, writes, rose, log, err) = by n (at_most text writes) (let e : codes "b" ≡ take n text = cc appends in e)
  where
    first : (x : ℕ) (xs : List ℕ) (n : ℕ) → codes "b" ≡ take n (x ∷ xs) → x ≡ 98
    first x xs zero e = absurd (cc e)
    first x xs (suc n) e = sym (ap (λ l. get_or l 0 0) e)

    by : (n : ℕ) → (text ≡ codes "abc") ⊎ (text ≡ codes "ab") → codes "b" ≡ take n text → ⊥
    by n (inl is) e = omega (arith, first 97 (codes "bc") n (subst (λ z. codes "b" ≡ take n z) is e))
    by n (inr is) e = omega (arith, first 97 (codes "b") n (subst (λ z. codes "b" ≡ take n z) is e))

-- no count rose
part_without_a_fault : EndsVerb WriteFault joins start (record after_part { write_faults = 0 }) → ⊥
part_without_a_fault (text, n, less, appends, writes, rose, log, err) = stays rose

-- a fetch is not in the log
part_unlogged : EndsVerb WriteFault joins start (record after_part { told = start.told }) → ⊥
part_unlogged (text, n, less, appends, writes, rose, log, err) = omega (arith, ap fetch_count log)

-- a line that isn't empty is told in part only where faults rose
untold : {line : List ℕ} → Tells (Some []) (Some []) 0 0 line → length line ≡ 0
untold (inl e) = sym (ap byte_count e)
untold (inr (n, less, appends, rose)) = absurd (stays rose)

-- it isn't told
part_untold : EndsVerb WriteFault joins start (record after_part { err = Some [] }) → ⊥
part_untold (text, n, less, appends, writes, rose, log, err) = omega (arith, untold err)

-- the refusal of the verb
abbrev after_refusal : Outside
after_refusal = record start { told = both; err = Some (1 ∷ codes " are too few\n") }

refused : EndsVerb Refused joins start after_refusal
refused = (Refusal 1, (bytes, held [], refl), refl, refl, inl refl)

-- something was written
refused_written : EndsVerb Refused joins start (record after_refusal { out = Some (codes "oabc") }) → ⊥
refused_written (TooLong front file, stands, log, out, err) = omega (arith, ap byte_count out)
refused_written (Refusal refusal, stands, log, out, err) = omega (arith, ap byte_count out)
refused_written (Stopped stop, stands, log, (text, appends, (texts, all, is)), err) =
    omega (arith, ap byte_count appends, ap length is.0, ap byte_count all.0.0)

-- no fetch is in the log
refused_unlogged : EndsVerb Refused joins start (record after_refusal { told = start.told }) → ⊥
refused_unlogged (TooLong front file, stands, log, out, err) = by front (ap fetch_count log)
  where
    by : (front : List File) → 0 ≡ length (fetched (front ++ file ∷ [])) → ⊥
    by [] e = cc
    by (f ∷ front) e = cc
refused_unlogged (Refusal refusal, stands, log, out, err) = omega (arith, ap fetch_count log)
refused_unlogged (Stopped stop, stands, log, out, err) = omega (arith, ap fetch_count log)

-- no line is told
refused_untold : EndsVerb Refused joins start (record after_refusal { err = Some [] }) → ⊥
refused_untold (TooLong front file, stands, log, out, err) = absurd (cc (untold err))
refused_untold (Refusal refusal, stands, log, out, err) = absurd (cc (untold err))
refused_untold (Stopped stop, stands, log, out, err) = absurd (cc (untold err))

-- no file is there
refused_of_nothing : EndsVerb Refused joins (record start { told = Some (bare []) })
    (record after_refusal { told = Some (bare (fetched (design ∷ arrivals ∷ []))) }) → ⊥
refused_of_nothing (TooLong front file, (back, place, texts, all, (text, is, over)), log, out, err) = absurd (cc is)
refused_of_nothing (Refusal refusal, (texts, all, is), log, out, err) = absurd (cc all.0.0)
refused_of_nothing (Stopped stop, (text, (texts, all, is)), log, out, err) = absurd (cc all.0.0)

-- the stop of the verb, behind what it wrote
abbrev after_stop : Outside
after_stop = record start { told = both; out = Some (codes "oab"); err = Some (2 ∷ codes " bytes were written\n") }

stopped : EndsVerb Refused joins start after_stop
stopped = (Stopped 2, (codes "ab", (bytes, held [], (refl, refl))), refl, (codes "ab", refl, (bytes, held [], (refl, refl))), inl refl)

-- nothing was written before the stop, or more than that
stopped_too_soon : EndsVerb Refused joins start (record after_stop { out = start.out; err = Some (2 ∷ codes " bytes were written\n") }) → ⊥
stopped_too_soon (TooLong front file, stands, log, out, (inl e)) = by file.kind (ap byte_count e)
  where
    by : (kind : FileKind) → 21 ≡ length (too_long_line kind) → ⊥
    by Design e = omega (arith, e)
    by Ada e = omega (arith, e)
    by Arrivals e = omega (arith, e)
    by Trace e = omega (arith, e)
stopped_too_soon (Refusal refusal, stands, log, out, (inl e)) = omega (arith, ap byte_count e)
stopped_too_soon (Stopped stop, stands, log, (text, appends, (texts, all, is)), err) =
    omega (arith, ap byte_count appends, ap length is.0, ap byte_count all.0.0)
stopped_too_soon (TooLong front file, stands, log, out, (inr (n, less, appends, rose))) = stays rose
stopped_too_soon (Refusal refusal, stands, log, out, (inr (n, less, appends, rose))) = stays rose

-- the verb refuses and stops for what stands in the files alone
other_refusal : Refuses (shelf (codes "ab") (codes "c") []) joins (Refusal 2) → ⊥
other_refusal (texts, all, is) = omega (arith, is, ap byte_count all.1.0.0)

other_stop : Refuses (shelf (codes "ab") (codes "c") []) joins (Stopped 1) → ⊥
other_stop (text, (texts, all, is)) = omega (arith, is.1, ap length is.0, ap byte_count all.0.0)

-- a file that is too long, behind one that is not, and then nothing is fetched behind it
module _ (long : List ℕ) (over : 1048576 < length long) where
  second_long : EndsVerb Refused joins (record start { told = Some (shelf (codes "ab") long []) })
      (record start { told = Some (shelf (codes "ab") long (fetched (design ∷ arrivals ∷ []))); err = Some (codes "refused S3 arrivals\n") })
  second_long = (TooLong (design ∷ []) arrivals, ([], refl, bytes, ((refl, lit≤ tt), tt), (long, refl, over)), refl, refl, inl refl)

  first_long : EndsVerb Refused joins (record start { told = Some (shelf long long []) })
      (record start { told = Some (shelf long long (fetched (design ∷ []))); err = Some (codes "refused S3 design\n") })
  first_long = (TooLong [] design, (arrivals ∷ [], refl, bytes, tt, (long, refl, over)), refl, refl, inl refl)

  -- what stands before it is not too long
  behind_long : Refuses (shelf long long []) joins (TooLong (design ∷ []) arrivals) → ⊥
  behind_long (back, place, texts, all, h) = omega (arith, over, all.0.1, ap byte_count all.0.0)

  -- it is a file of the verb
  other_long : Refuses (shelf long long []) joins (TooLong [] arrivals) → ⊥
  other_long (back, place, texts, all, h) = (let e : ◌≡◌ {A = FileKind} Design Arrivals = ap (λ files. kind_at files) place in cc)
    where
      kind_at : List File → FileKind
      kind_at [] = Ada
      kind_at (f ∷ fs) = f.kind

-- one that is within its limit is not too long
within : Refuses (shelf (codes "ab") (codes "c") []) joins (TooLong (design ∷ []) arrivals) → ⊥
within (back, place, texts, all, (text, is, over)) = omega (arith, over, ap byte_count is)

-- a file that could not be read, behind one that was
abbrev after_fault : Outside
after_fault = record start {
  told = Some (shelf (codes "ab") (codes "c") (fetched (design ∷ []) ++ failed (codes "rr") ∷ []));
  read_faults = 1;
  err = Some (codes "fault reading rr\n");
}

fault : EndsVerb ReadFault joins start after_fault
fault = (design ∷ [], arrivals, [], refl, (bytes, ((refl, lit≤ tt), tt)), refl, rises, refl, inl refl)

-- no count rose
fault_without_a_fault : EndsVerb ReadFault joins start (record after_fault { read_faults = 0 }) → ⊥
fault_without_a_fault (front, file, back, place, all, log, rose, out, err) = stays rose

-- something was written
fault_written : EndsVerb ReadFault joins start (record after_fault { out = Some (codes "oa") }) → ⊥
fault_written (front, file, back, place, all, log, rose, out, err) = omega (arith, ap byte_count out)

-- it isn't told, or another name is
fault_untold : EndsVerb ReadFault joins start (record after_fault { err = Some [] }) → ⊥
fault_untold (front, file, back, place, all, log, rose, out, err) = absurd (cc (untold err))

-- the numbers of bytes of the names that a log has, of failed fetches and of all
abbrev failed_bytes : Option Told → ℕ
failed_bytes None = 0
failed_bytes (Some t) = sum_by (λ e. if e.failed then length e.name else 0) t.log

-- the verb has two files
no_third : (front : List File) (file : File) (back : List File) → [] ≡ front ++ file ∷ back → ⊥
no_third [] file back e = cc
no_third (f ∷ front) file back e = cc

-- the fetch is not told as failed
fault_fetched : EndsVerb ReadFault joins start (record after_fault { told = both }) → ⊥
fault_fetched (front, file, back, place, all, log, rose, out, err) = by front place (ap failed_bytes log) (ap fetch_count log)
  where
    by : (front : List File) → design ∷ arrivals ∷ [] ≡ front ++ file ∷ back
        → 0 ≡ sum_by (λ e. if e.failed then length e.name else 0) (fetched front ++ failed file.name ∷ [])
        → 2 ≡ length (fetched front ++ failed file.name ∷ []) → ⊥
    by [] p e n = omega (arith, n)
    by (f ∷ []) p e n = (let name : arrivals ≡ file = cc in omega (arith, e, ap (λ z. length z.name) name))
    by (f ∷ g ∷ front) p e n = no_third front file back (let q : [] ≡ front ++ file ∷ back = cc in q)

-- a line with another name is told
fault_misnamed : EndsVerb ReadFault joins start (record after_fault { err = Some (codes "fault reading r\n") }) → ⊥
fault_misnamed (front, file, back, place, all, log, rose, out, (inr (n, less, appends, risen))) = stays risen
fault_misnamed (front, file, back, place, all, log, rose, out, (inl e)) = by front place (ap byte_count e) (ap fetch_count log)
  where
    by : (front : List File) → design ∷ arrivals ∷ [] ≡ front ++ file ∷ back → 16 ≡ length (fault_line file.name)
        → 2 ≡ length (fetched front ++ failed file.name ∷ []) → ⊥
    by [] p e n = omega (arith, n)
    by (f ∷ []) p e n = (let name : arrivals ≡ file = cc in omega (arith, e, ap (λ z. length (fault_line z.name)) name))
    by (f ∷ g ∷ front) p e n = no_third front file back (let q : [] ≡ front ++ file ∷ back = cc in q)

-- a file failed that the verb doesn't have
fault_of_another : EndsVerb ReadFault joins start (record after_fault {
  told = Some (shelf (codes "ab") (codes "c") (failed (codes "other") ∷ []));
  err = Some (codes "fault reading other\n");
}) → ⊥
fault_of_another (front, file, back, place, all, log, rose, out, err) = by front place (ap failed_bytes log) (ap fetch_count log)
  where
    by : (front : List File) → design ∷ arrivals ∷ [] ≡ front ++ file ∷ back
        → 5 ≡ sum_by (λ e. if e.failed then length e.name else 0) (fetched front ++ failed file.name ∷ [])
        → 1 ≡ length (fetched front ++ failed file.name ∷ []) → ⊥
    by [] p e n = (let name : design ≡ file = cc in omega (arith, e, ap (λ z. length z.name) name))
    by (f ∷ []) p e n = omega (arith, n)
    by (f ∷ g ∷ front) p e n = no_third front file back (let q : [] ≡ front ++ file ∷ back = cc in q)

-- the file before it isn't there
fault_behind_nothing : EndsVerb ReadFault joins (record start { told = Some (bare []) })
    (record after_fault { told = Some (bare (fetched (design ∷ []) ++ failed (codes "rr") ∷ [])) }) → ⊥
fault_behind_nothing (front, file, back, place, all, log, rose, out, err) = by front all (ap fetch_count log)
  where
    by : (front : List File) → AreHeld (Some (bare [])) front → 2 ≡ length (fetched front ++ failed file.name ∷ []) → ⊥
    by [] all n = omega (arith, n)
    by (f ∷ front) (texts, all) n = absurd (cc all.0.0)

-- memory was wanted before the second file was fetched
abbrev after_want : Outside
after_want = record start { told = Some (shelf (codes "ab") (codes "c") (fetched (design ∷ []))); err = Some (codes "no memory\n") }

want : EndsVerb NoMemory joins start after_want
want = (1, (bytes, ((refl, lit≤ tt), tt)), refl, refl, inl refl)

want_at_once : EndsVerb NoMemory joins start (record start { err = Some (codes "no memory\n") })
want_at_once = (0, (bytes, tt), refl, refl, inl refl)

-- something was written
want_written : EndsVerb NoMemory joins start (record after_want { out = Some (codes "oa") }) → ⊥
want_written (n, all, log, out, err) = omega (arith, ap byte_count out)

want_untold : EndsVerb NoMemory joins start (record after_want { err = Some [] }) → ⊥
want_untold (n, all, log, out, err) = omega (arith, untold err)

-- a file that isn't there was fetched
want_of_nothing : EndsVerb NoMemory joins (record start { told = Some (bare []) })
    (record after_want { told = Some (bare (fetched (design ∷ []))) }) → ⊥
want_of_nothing (zero, all, log, out, err) = omega (arith, ap fetch_count log)
want_of_nothing (suc n, (texts, all), log, out, err) = absurd (cc all.0.0)

-- a fetch is told as failed
want_failed : EndsVerb NoMemory joins start (record after_want { told = Some (shelf (codes "ab") (codes "c") (failed (codes "d") ∷ [])) }) → ⊥
want_failed (zero, all, log, out, err) = omega (arith, ap fetch_count log)
want_failed (suc zero, all, log, out, err) = omega (arith, ap failed_bytes log)
want_failed (suc (suc zero), all, log, out, err) = omega (arith, ap fetch_count log)
want_failed (suc (suc (suc n)), all, log, out, err) = omega (arith, ap fetch_count log)

-- no verb ends as words that are no command
usage : EndsVerb Usage joins start start → ⊥
usage h = h

-- what can be done is done, or wants memory, where no count rose
completed : CompletesVerb Done joins start start
completed can reads writes = inl refl

completed_without_memory : CompletesVerb NoMemory joins start start
completed_without_memory can reads writes = inr refl

can_be_done : CanDo (shelf (codes "ab") (codes "c") []) joins
can_be_done = (bytes, held [], refl)

not_completed : CompletesVerb Refused joins start start → ⊥
not_completed h = by (h can_be_done stays stays)
  where
    by : (Refused ≡ Done) ⊎ (Refused ≡ NoMemory) → ⊥
    by (inl e) = cc
    by (inr e) = cc

-- where a count rose, or the verb can't be done, nothing is said
read_fault : CompletesVerb ReadFault joins start (record start { read_faults = 1 })
read_fault can reads writes = absurd (reads rises)

write_fault : CompletesVerb WriteFault joins start (record start { write_faults = 1 })
write_fault can reads writes = absurd (writes rises)

other_bytes : CompletesVerb Refused joins (record start { told = Some (shelf (codes "b") (codes "c") []) }) start
other_bytes (texts, all, is) reads writes = absurd (omega (arith, ap length is, ap byte_count all.0.0))

no_files : CompletesVerb Refused joins (record start { told = Some (bare []) }) start
no_files (texts, all, is) reads writes = absurd (cc all.0.0)
