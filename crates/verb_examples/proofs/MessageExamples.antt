-- Examples: the line that tells each cause. Numbers stand by their decimals.
use Rattle.std.specs.Prelude.{◌≡◌, [], ◌∷◌, ◌++◌, map, Some, None, codes, decimal, refl}
use Rattle.seq_tree.specs.Names.{Name}
use Rattle.seq_tree.specs.declared.token.Place.{Place}
use Rattle.seq_tree.specs.declared.tree.OpName.{OpName}
use Rattle.seq_tree.specs.declared.text_fault.TextFault.TheVariants as fault
use Rattle.seq_check.specs.declared.fault.BodyFault.TheVariants as body
use Rattle.ada_rules.specs.declared.verdict.AdaRule.TheVariants as rules
use Rattle.ods_index.specs.declared.broken.Broken.TheVariants as rule
use Rattle.rt_response.specs.declared.rows.Limit.TheVariants.{Deadline, Separation}
use Rattle.arrivals_read.specs.declared.fault.ArrivalFault.TheVariants as arrival
use Rattle.hrthood_top.specs.declared.file_kind.FileKind.TheVariants.{Design, Ada, Arrivals, Trace}
use Rattle.hrthood_top.specs.Files.{limit_of, kind_text}
use Rattle.hrthood_top.specs.Violations.{violation_line}
use Rattle.hrthood_top.specs.Messages.{body_text, rule_line, miss_line, text_line, place_text, unit_line, arrivals_line, too_long_line, fault_line}
use Rattle.hrthood_top.specs.Messages.{FaultAt}

abbrev n : Name
n = codes "a"

abbrev op : OpName
op = record { object = codes "b"; op = codes "c" }

abbrev place : Place
place = record { line = 3; column = 4 }

-- THE FILES
kinds : map kind_text (Design ∷ Ada ∷ Arrivals ∷ Trace ∷ []) ≡ codes "design" ∷ codes "ada" ∷ codes "arrivals" ∷ codes "trace" ∷ []
kinds = refl

limits : map limit_of (Design ∷ Ada ∷ Arrivals ∷ Trace ∷ []) ≡ 1048576 ∷ 16777216 ∷ 1048576 ∷ 16777216 ∷ []
limits = refl

too_long : map too_long_line (Design ∷ Ada ∷ Arrivals ∷ Trace ∷ [])
    ≡ codes "refused S3 design\n" ∷ codes "refused S3 ada\n" ∷ codes "refused S3 arrivals\n" ∷ codes "refused S3 trace\n" ∷ []
too_long = refl

-- a file that could not be read
reading : fault_line (codes "d") ≡ codes "fault reading d\n"
reading = refl

-- TEXTS
placed : place_text Ada place ≡ codes " " ++ (codes "ada" ++ (codes " line " ++ (decimal 3 ++ (codes " column " ++ (decimal 4 ++ codes "\n")))))
placed = refl

texts : map (text_line Ada) (fault.Byte place ∷ fault.Number place ∷ fault.Long place ∷ fault.Syntax place ∷ fault.TooDeep place ∷ [])
    ≡ map (λ code. codes "refused " ++ (code ++ place_text Ada place)) (codes "L1" ∷ codes "L2" ∷ codes "L3" ∷ codes "S1" ∷ codes "S2" ∷ [])
texts = refl

placed_fault : FaultAt Ada (fault.Byte place) (Some (codes "refused L1", place))
placed_fault = refl

unplaced_fault : FaultAt Ada fault.NoMemory None
unplaced_fault = refl

-- RULES OF A DESIGN
bodies : map body_text (body.Unknown ∷ body.Sort ∷ body.Divisor ∷ body.Exit ∷ body.Assigned ∷ body.Actual ∷ body.Count ∷ [])
    ≡ codes " B1" ∷ codes " B2" ∷ codes " B3" ∷ codes " B4" ∷ codes " B5" ∷ codes " B6" ∷ codes " B7" ∷ []
bodies = refl

names : map rule_line (rule.V01 n ∷ rule.V02 n ∷ rule.V03 n ∷ rule.V04 n ∷ rule.V05 n ∷ rule.V09Objects n ∷ rule.V09Starts n ∷ rule.V11 (Some n)
    ∷ rule.V12 n ∷ rule.V17 n ∷ []) ≡ codes "refused V01 a\n" ∷ codes "refused V02 a\n" ∷ codes "refused V03 a\n" ∷ codes "refused V04 a\n"
    ∷ codes "refused V05 a\n" ∷ codes "refused V09 a\n" ∷ codes "refused V09 a\n" ∷ codes "refused V11 a\n" ∷ codes "refused V12 a\n"
    ∷ codes "refused V17 a\n" ∷ []
names = refl

operations : map rule_line (rule.V06 n op ∷ rule.V07 n op ∷ rule.V08 n op ∷ rule.V09Calls op ∷ [])
    ≡ codes "refused V06 a b.c\n" ∷ codes "refused V07 a b.c\n" ∷ codes "refused V08 a b.c\n" ∷ codes "refused V09 b.c\n" ∷ []
operations = refl

whole : map rule_line (rule.V11 None ∷ rule.V17Tick ∷ rule.V17Priorities ∷ [])
    ≡ codes "refused V11 costs\n" ∷ codes "refused V17 tick\n" ∷ codes "refused V17 priorities\n" ∷ []
whole = refl

faulty_bodies : map rule_line (rule.V13 n (Some (codes "c")) body.Exit ∷ rule.V13 n None body.Sort ∷ rule.V15Cost n (Some (codes "c"))
    ∷ rule.V15Cost n None ∷ [])
    ≡ codes "refused V13 a c B4\n" ∷ codes "refused V13 a thread B2\n" ∷ codes "refused V15 cost a c\n" ∷ codes "refused V15 cost a thread\n" ∷ []
faulty_bodies = refl

sources : rule_line (rule.V10 n 5 6)
    ≡ codes "refused V10 " ++ (n ++ (codes " sources " ++ (decimal 5 ++ (codes " starts " ++ (decimal 6 ++ codes "\n")))))
sources = refl

budget : rule_line (rule.V14 n 5 6)
    ≡ codes "refused V14 " ++ (n ++ (codes " cost " ++ (decimal 5 ++ (codes " budget " ++ (decimal 6 ++ codes "\n")))))
budget = refl

counts : map rule_line (rule.V15Threads 31 ∷ rule.V15Objects 501 ∷ [])
    ≡ (codes "refused V15 threads " ++ (decimal 31 ++ codes "\n")) ∷ (codes "refused V15 objects " ++ (decimal 501 ++ codes "\n")) ∷ []
counts = refl

separation : rule_line (rule.V16 n 5 (codes "b") 6)
    ≡ codes "refused V16 " ++ (n ++ (codes " period "
    ++ (decimal 5 ++ (codes " " ++ (codes "b" ++ (codes " separation " ++ (decimal 6 ++ codes "\n")))))))
separation = refl

-- BOUNDS
missed : map (miss_line n) (record { index = 1; which = Deadline; value = 5; limit = 6; round = 7 } ∷ record {
  index = 1;
  which = Separation;
  value = 5;
  limit = 6;
  round = 7;
} ∷ [])
    ≡ map (λ code. codes "refused "
    ++ (code ++ (n ++ (codes " value " ++ (decimal 5 ++ (codes " limit " ++ (decimal 6 ++ (codes " round " ++ (decimal 7 ++ codes "\n")))))))))
    (codes "U1 " ∷ codes "U2 " ∷ [])
missed = refl

-- RULES OF A PROGRAM
units : map (λ r. unit_line r (Some n)) (rules.G1 ∷ rules.G2 ∷ rules.G3 ∷ rules.G4 body.Exit ∷ rules.G5 ∷ rules.G6 ∷ [])
    ≡ codes "refused G1 a\n" ∷ codes "refused G2 a\n" ∷ codes "refused G3 a\n" ∷ codes "refused G4 a B4\n" ∷ codes "refused G5 a\n"
    ∷ codes "refused G6 a\n" ∷ []
units = refl

unitless : unit_line rules.G5 None ≡ codes "refused G5\n"
unitless = refl

-- ARRIVALS
arrivals : map arrivals_line (arrival.Q1 2 ∷ arrival.Q5 2 ∷ []) ≡ (codes "refused Q1 line " ++ (decimal 2 ++ codes "\n"))
    ∷ (codes "refused Q5 line " ++ (decimal 2 ++ codes "\n")) ∷ []
arrivals = refl

items : map arrivals_line (arrival.Q2 2 n ∷ arrival.Q3 2 n ∷ [])
    ≡ (codes "refused Q2 line " ++ (decimal 2 ++ (codes " " ++ (n ++ codes "\n"))))
    ∷ (codes "refused Q3 line " ++ (decimal 2 ++ (codes " " ++ (n ++ codes "\n")))) ∷ []
items = refl

far : arrivals_line (arrival.Q4 5 6) ≡ codes "refused Q4 value " ++ (decimal 5 ++ (codes " limit " ++ (decimal 6 ++ codes "\n")))
far = refl

misread : arrivals_line (arrival.Text (fault.Syntax place)) ≡ text_line Arrivals (fault.Syntax place)
misread = refl

-- A VIOLATED CEILING
violated : violation_line (record { time = 5; task = n; object = codes "q"; priority = 6; ceiling = 7 })
    ≡ codes "refused C1 time " ++ (decimal 5 ++ (codes " task " ++ (n ++ (codes " object " ++ (codes "q"
    ++ (codes " priority " ++ (decimal 6 ++ (codes " ceiling " ++ (decimal 7 ++ codes "\n")))))))))
violated = refl
