-- The one line that tells why a command was not done: the line of each fault of the crates below, and of what all verbs share.
-- The lines are this project's own.
use Rattle.std.specs.Prelude.{◌≡◌, ℕ, List, [], ◌++◌, codes, decimal, flat_map, Option, Some, None}
use Rattle.std.specs.Borrow.{Bor}
use Rattle.seq_tree.specs.Names.{Name}
use Rattle.seq_tree.specs.declared.token.Place.{Place}
use Rattle.seq_tree.specs.declared.tree.OpName.{OpName}
use Rattle.seq_tree.specs.declared.text_fault.TextFault.{TextFault}
use Rattle.seq_tree.specs.declared.text_fault.TextFault.TheVariants as fault
use Rattle.seq_check.specs.declared.fault.BodyFault.{BodyFault}
use Rattle.seq_check.specs.declared.fault.BodyFault.TheVariants as body
use Rattle.ada_rules.specs.declared.verdict.AdaRule.{AdaRule}
use Rattle.ada_rules.specs.declared.verdict.AdaRule.TheVariants as rules
use Rattle.ods_index.specs.declared.broken.Broken.{Broken}
use Rattle.ods_index.specs.declared.broken.Broken.TheVariants as rule
use Rattle.background.specs.declared.delivery.BackgroundRule.{BackgroundRule}
use Rattle.background.specs.declared.delivery.BackgroundRule.TheVariants as background
use Rattle.rt_response.specs.declared.rows.Limit.{Limit}
use Rattle.rt_response.specs.declared.rows.Limit.TheVariants.{Deadline, Separation}
use Rattle.rt_response.specs.declared.rows.Miss as rows
use Rattle.arrivals_read.specs.declared.fault.ArrivalFault.{ArrivalFault}
use Rattle.arrivals_read.specs.declared.fault.ArrivalFault.TheVariants as arrival
use Rattle.hrthood_top.specs.declared.file_kind.FileKind.{FileKind}
use Rattle.hrthood_top.specs.declared.file_kind.FileKind.TheVariants.{Arrivals}
use Rattle.hrthood_top.specs.declared.message.Message.{Message}
use Rattle.hrthood_top.specs.declared.message.Message.TheVariants.{Usage, TooLong, ReadFault, WriteFault, NoMemory}
use Rattle.hrthood_words.specs.Words.{usage_line}
use Rattle.hrthood_top.specs.Files.{kind_text}

-- pieces of a text, joined
abbrev pub joined : List (Bor (List ℕ)) → List ℕ
joined pieces = flat_map (λ p. p.now) pieces

-- the code of a fault of a body; want of memory is no fault, and is never told so
abbrev pub body_text : BodyFault → List ℕ
body_text body.Unknown = codes " B1"
body_text body.Sort = codes " B2"
body_text body.Divisor = codes " B3"
body_text body.Exit = codes " B4"
body_text body.Assigned = codes " B5"
body_text body.Actual = codes " B6"
body_text body.Count = codes " B7"
body_text body.NoMemory = []

-- a part of an object: the operation, or the thread
abbrev pub part_text : Option Name → List ℕ
part_text (Some op) = op
part_text None = codes "thread"

-- a line of a code and one name
abbrev pub name_line : List ℕ → Name → List ℕ
name_line code name = code ++ (name ++ codes "\n")

-- a line of a code, an object and an operation of another
abbrev pub use_line : List ℕ → Name → OpName → List ℕ
use_line code object target = code ++ (object ++ (codes " " ++ (target.object ++ (codes "." ++ (target.op ++ codes "\n")))))

-- a line of a code and one number
abbrev pub count_line : List ℕ → ℕ → List ℕ
count_line code count = code ++ (decimal count ++ codes "\n")

-- the line of a rule that a design breaks; want of memory is no rule, and is never told so
abbrev pub rule_line : Broken → List ℕ
rule_line (rule.V01 name) = name_line (codes "refused V01 ") name
rule_line (rule.V02 name) = name_line (codes "refused V02 ") name
rule_line (rule.V03 object) = name_line (codes "refused V03 ") object
rule_line (rule.V04 object) = name_line (codes "refused V04 ") object
rule_line (rule.V05 object) = name_line (codes "refused V05 ") object
rule_line (rule.V06 object target) = use_line (codes "refused V06 ") object target
rule_line (rule.V07 object target) = use_line (codes "refused V07 ") object target
rule_line (rule.V08 object target) = use_line (codes "refused V08 ") object target
rule_line (rule.V09Calls name) = codes "refused V09 " ++ (name.object ++ (codes "." ++ (name.op ++ codes "\n")))
rule_line (rule.V09Objects object) = name_line (codes "refused V09 ") object
rule_line (rule.V09Starts thread) = name_line (codes "refused V09 ") thread
rule_line (rule.V10 object sources starts) =
    codes "refused V10 " ++ (object ++ (codes " sources " ++ (decimal sources ++ (codes " starts " ++ (decimal starts ++ codes "\n")))))
rule_line (rule.V11 (Some object)) = name_line (codes "refused V11 ") object
rule_line (rule.V11 None) = codes "refused V11 costs\n"
rule_line (rule.V12 object) = name_line (codes "refused V12 ") object
rule_line (rule.V13 object part fault) = codes "refused V13 " ++ (object ++ (codes " " ++ (part_text part ++ (body_text fault ++ codes "\n"))))
rule_line (rule.V14 thread cost budget) =
    codes "refused V14 " ++ (thread ++ (codes " cost " ++ (decimal cost ++ (codes " budget " ++ (decimal budget ++ codes "\n")))))
rule_line (rule.V15Threads count) = count_line (codes "refused V15 threads ") count
rule_line (rule.V15Objects count) = count_line (codes "refused V15 objects ") count
rule_line (rule.V15Cost object part) = codes "refused V15 cost " ++ (object ++ (codes " " ++ (part_text part ++ codes "\n")))
rule_line (rule.V16 starter period target separation) =
    codes "refused V16 " ++ (starter ++ (codes " period " ++ (decimal period ++ (codes " " ++ (target
    ++ (codes " separation " ++ (decimal separation ++ codes "\n")))))))
rule_line rule.V17Tick = codes "refused V17 tick\n"
rule_line rule.V17Priorities = codes "refused V17 priorities\n"
rule_line (rule.V17 object) = name_line (codes "refused V17 ") object
rule_line rule.NoMemory = codes "refused\n"

-- the line of what is wrong with the background objects of a design
abbrev pub misfit_line : BackgroundRule → List ℕ
misfit_line (background.A1 object) = name_line (codes "refused A1 ") object
misfit_line (background.A2 object target) = use_line (codes "refused A2 ") object target
misfit_line (background.A3 object) = name_line (codes "refused A3 ") object
misfit_line (background.A4 object target) = use_line (codes "refused A4 ") object target
misfit_line (background.A5 object) = name_line (codes "refused A5 ") object
misfit_line (background.A6 object target) = codes "refused A6 " ++ (object ++ (codes " " ++ (target ++ codes "\n")))

-- the code of a limit
abbrev pub limit_text : Limit → List ℕ
limit_text Deadline = codes "U1 "
limit_text Separation = codes "U2 "

-- a value that is over its limit, at the end of a line
abbrev pub value_text : rows.Miss → List ℕ
value_text m =
    codes " value " ++ (decimal m.value ++ (codes " limit " ++ (decimal m.limit ++ (codes " round " ++ (decimal m.round ++ codes "\n")))))

-- the code of its limit and its thread in front of it
abbrev pub miss_text : Name → rows.Miss → List ℕ
miss_text thread m = limit_text m.which ++ (thread ++ value_text m)

-- the line of such a value where nothing is made for it
abbrev pub miss_line : Name → rows.Miss → List ℕ
miss_line thread m = codes "refused " ++ miss_text thread m

-- a place in a file of a kind, at the end of a line
abbrev pub place_text : FileKind → Place → List ℕ
place_text kind p = codes " " ++ (kind_text kind ++ (codes " line " ++ (decimal p.line ++ (codes " column " ++ (decimal p.column ++ codes "\n")))))

-- the line of what is wrong with the text of a file; a file that is too long and want of memory are never told so
abbrev pub text_line : FileKind → TextFault → List ℕ
text_line kind (fault.Byte place) = codes "refused L1" ++ place_text kind place
text_line kind (fault.Number place) = codes "refused L2" ++ place_text kind place
text_line kind (fault.Long place) = codes "refused L3" ++ place_text kind place
text_line kind (fault.Syntax place) = codes "refused S1" ++ place_text kind place
text_line kind (fault.TooDeep place) = codes "refused S2" ++ place_text kind place
text_line kind fault.FileTooLong = codes "refused\n"
text_line kind fault.NoMemory = codes "refused\n"

-- the code of what is wrong with a text, and its place
abbrev pub FaultAt : FileKind → TextFault → Option (List ℕ × Place) → Type 0
FaultAt kind f None = text_line kind f ≡ codes "refused\n"
FaultAt kind f (Some told) = text_line kind f ≡ told.0 ++ place_text kind told.1

-- the code of a rule of a program
abbrev pub rule_text : AdaRule → List ℕ
rule_text rules.G1 = codes "G1"
rule_text rules.G2 = codes "G2"
rule_text rules.G3 = codes "G3"
rule_text (rules.G4 fault) = codes "G4"
rule_text rules.G5 = codes "G5"
rule_text rules.G6 = codes "G6"

-- the fault of a body that a rule tells, behind its unit
abbrev pub fault_text : AdaRule → List ℕ
fault_text (rules.G4 fault) = body_text fault
fault_text _ = []

-- what stands before the name of a unit
abbrev pub gap_text : Option Name → List ℕ
gap_text None = []
gap_text (Some name) = codes " "

-- the name of a unit, where one is told
abbrev pub unit_text : Option Name → List ℕ
unit_text None = []
unit_text (Some name) = name

-- the line of a rule that a program breaks
abbrev pub unit_line : AdaRule → Option Name → List ℕ
unit_line rule unit = codes "refused " ++ (rule_text rule ++ (gap_text unit ++ (unit_text unit ++ (fault_text rule ++ codes "\n"))))

-- a line of a code, the line of an item in an arrivals file, and a name
abbrev pub item_line : List ℕ → ℕ → Name → List ℕ
item_line code line name = code ++ (decimal line ++ (codes " " ++ (name ++ codes "\n")))

-- the line of what is wrong with arrivals; want of memory is never told so
abbrev pub arrivals_line : ArrivalFault → List ℕ
arrivals_line (arrival.Text found) = text_line Arrivals found
arrivals_line (arrival.Q1 line) = count_line (codes "refused Q1 line ") line
arrivals_line (arrival.Q2 line name) = item_line (codes "refused Q2 line ") line name
arrivals_line (arrival.Q3 line object) = item_line (codes "refused Q3 line ") line object
arrivals_line (arrival.Q4 value limit) = codes "refused Q4 value " ++ (decimal value ++ (codes " limit " ++ (decimal limit ++ codes "\n")))
arrivals_line (arrival.Q5 line) = count_line (codes "refused Q5 line ") line
arrivals_line arrival.NoMemory = codes "refused\n"

-- the line of a file that is over its limit
abbrev pub too_long_line : FileKind → List ℕ
too_long_line kind = codes "refused S3 " ++ (kind_text kind ++ codes "\n")

-- the line of a fault of reading
abbrev pub fault_line : List ℕ → List ℕ
fault_line name = codes "fault reading " ++ (name ++ codes "\n")

-- the line of a message that is the same for all verbs
abbrev pub message_line : Message → List ℕ
message_line Usage = usage_line
message_line (TooLong kind) = too_long_line kind
message_line (ReadFault name) = fault_line name.now
message_line WriteFault = codes "fault writing\n"
message_line NoMemory = codes "no memory\n"
