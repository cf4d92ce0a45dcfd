-- The text of arrivals that values of the program stand for.
-- A value keeps the names of the tokens that were read.
use Rattle.std.specs.Prelude.{ℕ, List, ◌∷◌, map}
use Rattle.token_read.specs.Lexemes.{word_bytes}
use Rattle.arrivals_tree.specs.ArrivalTexts.{ArrivalText, WorkText, AtText}
use Rattle.arrivals_read.specs.declared.text.WorkItem.{WorkItem}
use Rattle.arrivals_read.specs.declared.text.RequestItem.{RequestItem}
use Rattle.arrivals_read.specs.declared.text.Text as texts

-- durations for a task
abbrev pub work_text : WorkItem → WorkText
work_text w = record { name = word_bytes w.name; first = w.first; others = w.others.items }

-- all of its durations
abbrev pub ticks_of : WorkItem → List ℕ
ticks_of w = w.first ∷ w.others.items

-- a request from outside
abbrev pub request_text : RequestItem → AtText
request_text r = record { time = r.time; name = word_bytes r.name; value = r.value }

-- a text of arrivals
abbrev pub text_of : texts.Text → ArrivalText
text_of t = record { until = t.until; works = map work_text t.works.items; requests = map request_text t.requests.items }
