-- The bytes of a report.
use Rattle.std.specs.Prelude.{ℕ, ◌+◌, List, [], ◌∷◌, ◌++◌, length, codes, decimal, flat_map, count_by, Bool, true, false}
use Rattle.kn_trace.specs.Text.{text_of}
use Rattle.kn_model.specs.Terms.{Given, Valuation}
use Rattle.kn_model.specs.Nodes.{FailKind, Assert, Bounds, Fuel, Outcome, Running, Halted, Failed}
use Rattle.kn_cond.specs.declared.standing.Standing.{Standing}
use Rattle.kn_cond.specs.declared.standing.Standing.TheVariants.{Inputs, Open}
use Rattle.kn_model.specs.Reports.{Report, StateLine, FailureLine, Mapping, Sds, Cob, Reach, At, Undecided, Nowhere}

abbrev pub mapping_text : Mapping → List ℕ
mapping_text Sds = codes "sds"
mapping_text Cob = codes "cob"

abbrev pub kind_text : FailKind → List ℕ
kind_text Assert = codes "assert"
kind_text Bounds = codes "bounds"
kind_text Fuel = codes "fuel"

-- `running`, `halted`, or the kind, pc and tick of a failure joined by `@`
abbrev pub outcome_text : Outcome → List ℕ
outcome_text Running = codes "running"
outcome_text Halted = codes "halted"
outcome_text (Failed kind pc tick) = kind_text kind ++ (codes "@" ++ (decimal pc ++ (codes "@" ++ decimal tick)))

-- an input as node.index=word
abbrev pub input_text : Given → List ℕ
input_text g = decimal g.node ++ (codes "." ++ (decimal g.index ++ (codes "=" ++ decimal g.word)))

-- the same behind a blank
abbrev pub further : Given → List ℕ
further g = codes " " ++ input_text g

-- `-` where none is listed, else the inputs with a blank between them
abbrev pub inputs_text : Valuation → List ℕ
inputs_text [] = codes "-"
inputs_text (g ∷ a) = input_text g ++ flat_map further a

abbrev pub standing_text : Standing → List ℕ
standing_text (Inputs a) = codes "inputs " ++ inputs_text a
standing_text (Open leaves) = codes "open " ++ decimal leaves

-- the line of a state, without its line feed
abbrev pub state_body : ℕ → StateLine → List ℕ
state_body k line =
    codes "state " ++ (decimal k ++ (codes " node " ++ (decimal line.node ++ (codes " trace " ++ (text_of line.trace
    ++ (codes " outcome " ++ (outcome_text line.outcome ++ (codes " " ++ standing_text line.standing))))))))

abbrev pub state_text : ℕ → StateLine → List ℕ
state_text k line = state_body k line ++ codes "\n"

-- a number behind a comma, and behind a blank
abbrev pub behind_comma : ℕ → List ℕ
behind_comma i = codes "," ++ decimal i

abbrev pub behind_blank : ℕ → List ℕ
behind_blank i = codes " " ++ decimal i

-- the states of a column with a comma between them
abbrev pub column_text : List ℕ → List ℕ
column_text [] = []
column_text (i ∷ is) = decimal i ++ flat_map behind_comma is

-- a column behind a blank
abbrev pub column_word : List ℕ → List ℕ
column_word column = codes " " ++ column_text column

abbrev pub dstate_body : ℕ → List (List ℕ) → List ℕ
dstate_body d columns = codes "dstate " ++ (decimal d ++ (codes " columns" ++ flat_map column_word columns))

abbrev pub dstate_text : ℕ → List (List ℕ) → List ℕ
dstate_text d columns = dstate_body d columns ++ codes "\n"

abbrev pub reach_text : Reach → List ℕ
reach_text (At d pick a) = codes "reached dstate " ++ (decimal d ++ (codes " pick" ++ (flat_map behind_blank pick ++ (codes " inputs " ++ inputs_text a))))
reach_text Undecided = codes "open"
reach_text Nowhere = codes "nowhere"

abbrev pub failure_body : FailureLine → List ℕ
failure_body f = codes "failure " ++ (decimal f.state ++ (codes " " ++ reach_text f.reach))

abbrev pub failure_text : FailureLine → List ℕ
failure_text f = failure_body f ++ codes "\n"

-- one text for each item, numbered from k on
abbrev pub numbered_from : {A : Type 0} → (ℕ → A → List ℕ) → ℕ → List A → List ℕ
numbered_from text k [] = []
numbered_from text k (x ∷ xs) = text k x ++ numbered_from text (k + 1) xs

abbrev pub is_at : Reach → Bool
is_at (At d pick a) = true
is_at Undecided = false
is_at Nowhere = false

abbrev pub is_undecided : Reach → Bool
is_undecided (At d pick a) = false
is_undecided Undecided = true
is_undecided Nowhere = false

abbrev pub is_open : Standing → Bool
is_open (Inputs a) = false
is_open (Open leaves) = true

abbrev pub reached_in : Report → ℕ
reached_in r = count_by (λ (f : FailureLine). is_at f.reach) r.failures

-- open states and open failures
abbrev pub open_in : Report → ℕ
open_in r = count_by (λ (line : StateLine). is_open line.standing) r.states + count_by (λ (f : FailureLine). is_undecided f.reach) r.failures

-- the head, without its line feed
abbrev pub head_body : Mapping → ℕ → ℕ → List ℕ
head_body mapping ticks nodes = codes "report 1 mapping " ++ (mapping_text mapping ++ (codes " ticks " ++ (decimal ticks ++ (codes " nodes " ++ decimal nodes))))

abbrev pub head_text : Report → List ℕ
head_text r = head_body r.mapping r.ticks r.nodes ++ codes "\n"

abbrev pub end_text : Report → List ℕ
end_text r =
    codes "end states " ++ (decimal (length r.states) ++ (codes " dstates " ++ (decimal (length r.dstates)
    ++ (codes " reached " ++ (decimal (reached_in r) ++ (codes " open " ++ (decimal (open_in r) ++ codes "\n")))))))

-- all lines but the end: a head, the states, the dstates and the failures, one behind another
abbrev pub lines_text : Report → List ℕ
lines_text r = head_text r ++ (numbered_from state_text 0 r.states ++ (numbered_from dstate_text 0 r.dstates ++ flat_map failure_text r.failures))

-- how many lines that are
abbrev pub line_count : Report → ℕ
line_count r = 1 + (length r.states + (length r.dstates + length r.failures))

abbrev pub report_text : Report → List ℕ
report_text r = lines_text r ++ end_text r

-- the first line and the last line
abbrev pub summary_text : Report → List ℕ
summary_text r = head_text r ++ end_text r
