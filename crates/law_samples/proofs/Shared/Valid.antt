-- Each sample is valid.
use Rattle.std.proofs.Common.{◌≡◌, ℕ, ◌+◌, ◌*◌, ◌≤◌, Bool, true, [], length, refl, arith, leb-true, length-append}
use Rattle.std.specs.Prelude.{codes, nat_le}
use Rattle.std.specs.List.{list_all}
use Rattle.seq_tree.specs.Limits.{text_limit, ada_limit}
use Rattle.ods_tree.specs.Designs.{Design}
use Rattle.ods_tree.specs.Flattening.{flat}
use Rattle.ods_tree.specs.Layout.{design_text}
use Rattle.ods_tree.specs.Reading.{Reads}
use Rattle.ods_tree.specs.Spelling.{design_lines}
use Rattle.ods_tree.specs.Walk.{is_empty}
use Rattle.ods_print.specs.Writable.{is_writable}
use Rattle.ods_print.proofs.Shared.PartLaws.{gives-lines, ready-lines}
use Rattle.ods_print.proofs.Shared.SoundLines.{design-sound}
use Rattle.seq_print.proofs.Shared.BackLaws.{read-whole}
use Rattle.analysis.specs.Tables.{table}
use Rattle.arrivals_tree.specs.ArrivalTexts.{said}
use Rattle.arrivals_tree.specs.Arrived.{horizon_limit}
use Rattle.design_rules.specs.Bodies.{idle_actives, bad_bodies}
use Rattle.design_rules.specs.Budgets.{bad_budgets, bad_sizes}
use Rattle.design_rules.specs.Numbers.{bad_numbers}
use Rattle.design_rules.specs.Rings.{calls_object, protected_objects, terminal_ops}
use Rattle.design_rules.proofs.Shared.Rows.{before_rings, after_rings}
use Rattle.design_rules.proofs.Shared.WorkedRules.{TellsNothing, calls_end, objects_end, meets-where-nothing-told}
use Rattle.guarantee.specs.Programs.{program, text}
use Rattle.rt_response.specs.Response.{IsLeastVector}
use Rattle.sample_design.specs.Requests.{requests, request_lines, sample_arrivals}
use Rattle.sample_design.specs.Samples.{from_on, sample_design}
use Rattle.law_samples.specs.Laws.{IsValid, sample_bounds}
use Rattle.law_samples.proofs.Accepted.{arrivals-accepted}
use Rattle.law_samples.proofs.Checked.{all_short, all_writable, all_before, all_calls, all_objects, all_numbers, all_actives, all_bodies}
use Rattle.law_samples.proofs.Checked.{all_budgets, all_sizes, all_bounded, all_threads_there, all_texts_short}
use Rattle.law_samples.proofs.Numbers.{checked}
use Rattle.law_samples.proofs.Proper.{sample-proper}
use Rattle.law_samples.proofs.Requests.{few_requests, lines-short, requests-right}
use Rattle.law_samples.proofs.Spelled.{arrival_tree, arrivals-spelled}
use Rattle.law_samples.proofs.Starts.{starts-end, sources-none, separations-none}
use Rattle.law_samples.proofs.Tests.{bounds-least, least-only, empty-none, has_threads, is_bounded, threads-there}

-- what computing shows of one sample
shown : (test : ℕ → Bool) (n : ℕ) → list_all test (from_on 1 30) ≡ true → 1 ≤ n → n ≤ 30 → test n ≡ true
shown test n all low high = checked test 1 30 n all low (omega (arith, high))

sample-reads : (n : ℕ) → 1 ≤ n → n ≤ 30 → Reads (design_text (sample_design n)) (sample_design n)
sample-reads n low high =
    let x : Design = sample_design n in
    record {
      within = leb-true (length (design_text x)) text_limit
          (shown (λ m. nat_le (length (design_text (sample_design m))) text_limit) n all_short low high);
      proper = sample-proper n high;
      spelled = read-whole _ _ (gives-lines (design_lines x) (ready-lines (design_lines x) (design-sound x)
          (shown (λ m. is_writable (sample_design m)) n all_writable low high)));
    }

nothing_after : (n : ℕ) → 1 ≤ n → n ≤ 30 → after_rings (sample_design n) ≡ []
nothing_after n low high =
    let x : Design = sample_design n in
    let numbers : bad_numbers x ≡ [] = empty-none (bad_numbers x) (shown (λ m. is_empty (bad_numbers (sample_design m))) n all_numbers low high) in
    let actives : idle_actives x ≡ [] = empty-none (idle_actives x) (shown (λ m. is_empty (idle_actives (sample_design m))) n all_actives low high) in
    let bodies : bad_bodies x ≡ [] = empty-none (bad_bodies x) (shown (λ m. is_empty (bad_bodies (sample_design m))) n all_bodies low high) in
    let budgets : bad_budgets x ≡ [] = empty-none (bad_budgets x) (shown (λ m. is_empty (bad_budgets (sample_design m))) n all_budgets low high) in
    let sizes : bad_sizes x ≡ [] = empty-none (bad_sizes x) (shown (λ m. is_empty (bad_sizes (sample_design m))) n all_sizes low high) in
    rw (sources-none n, numbers, actives, bodies, budgets, sizes, separations-none n) refl

nothing_told : (n : ℕ) → 1 ≤ n → n ≤ 30 → TellsNothing (sample_design n) (sample_design n)
nothing_told n low high = record {
  version = refl;
  before = empty-none (before_rings (sample_design n)) (shown (λ m. is_empty (before_rings (sample_design m))) n all_before low high);
  after = nothing_after n low high;
  steps = 1;
  calls = shown (λ m. list_all (calls_end (sample_design m) 1) (terminal_ops (sample_design m))) n all_calls low high;
  objects = shown (λ m. list_all (λ o. objects_end (calls_object (sample_design m)) (protected_objects (sample_design m)) 1 o.name)
      (protected_objects (sample_design m))) n all_objects low high;
  starts = starts-end n;
}

arrivals_short : (n : ℕ) → 1 ≤ n → n ≤ 30 → length (sample_arrivals n) ≤ text_limit
arrivals_short n low high =
    let lines : length (request_lines (requests n)) ≤ 20 * length (requests n)
    = lines-short 10000 n (requests n) (omega arith) (requests-right 10000 n) in
    let few : length (requests n) ≤ 334 * n = few_requests n 10000 low (omega arith) in
    let whole : length (sample_arrivals n) ≡ 13 + length (request_lines (requests n))
    = length-append (codes "UNTIL 10000;\n") (request_lines (requests n)) in
    omega (arith, lines, few, whole, high)

sample-bounded : (n : ℕ) → 1 ≤ n → n ≤ 30 → IsLeastVector (table (flat (sample_design n))).rows (sample_bounds n)
sample-bounded n low high =
    bounds-least (table (flat (sample_design n))).rows (sample_bounds n)
    (shown (λ m. is_bounded (table (flat (sample_design m))).rows (sample_bounds m)) n all_bounded low high)

pub sample-valid : (n : ℕ) → 1 ≤ n → n ≤ 30 → IsValid n
sample-valid n low high = record {
  reads = sample-reads n low high;
  rules = meets-where-nothing-told (sample_design n) (nothing_told n low high);
  bounds = sample-bounded n low high;
  only = λ v least. least-only (table (flat (sample_design n))).rows (sample_bounds n) v (sample-bounded n low high) least;
  arrivals = said (program (sample_design n)) (arrival_tree n);
  arrives = record {
    within = arrivals_short n low high;
    tree = arrival_tree n;
    spelled = arrivals-spelled n high;
    says = refl;
    accepted = arrivals-accepted horizon_limit (program (sample_design n)) n (omega arith) low
        (threads-there (program (sample_design n)) n (shown (λ m. has_threads (program (sample_design m)) m) n all_threads_there low high));
  };
  short = leb-true (length (text (sample_design n) (sample_bounds n))) ada_limit
      (shown (λ m. nat_le (length (text (sample_design m) (sample_bounds m))) ada_limit) n all_texts_short low high);
}
