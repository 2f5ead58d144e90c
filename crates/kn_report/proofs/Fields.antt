-- The fields of a line, one by one.
use Rattle.std.proofs.Common.{◌≡◌, ℕ, ◌<◌, ◌^◌, ◌+◌, List, [], ◌∷◌, ◌++◌, length, refl, sym, subst, ◌∙◌, arith}
use Rattle.std.specs.Prelude.{codes, flat_map}
use Rattle.std.specs.Fmt.{decimal}
use Rattle.std.proofs.lemmas.List.Concat.{flat_map-cons}
use Rattle.kn_trace.specs.Text.{text_of}
use Rattle.kn_model.specs.Terms.{Given}
use Rattle.kn_model.specs.Nodes.{FailKind, Failed}
use Rattle.kn_model.specs.Reports.{StateLine, FailureLine}
use Rattle.kn_report.specs.Forms.{GivenFits, StateFits, FailureFits}
use Rattle.kn_report.specs.Heads.{HeadView, HeadFits, spelled_body}
use Rattle.kn_report.specs.Texts.{mapping_text, kind_text, outcome_text, input_text, standing_text, state_body, column_word, dstate_body, reach_text, failure_body}
use Rattle.kn_report.specs.Words.{Without, BeginsWith, IsWordBehind}
use Rattle.kn_report.proofs.Cut.{decimal_without, cut_once, decimal_below}
use Rattle.kn_report.proofs.Blanks.{mapping_without, kind_without, outcome_without, trace_without}

-- a word behind a front, where a blank follows
pub word_at : (front word rest text : List ℕ) (skip : ℕ) → length front ≡ skip → Without 32 word → BeginsWith 32 rest → text ≡ front ++ (word ++ rest) → IsWordBehind text skip word rest
word_at front word rest text skip size clear ends is = record {
  front = front;
  size = size;
  no_blank = clear;
  ends = ends;
  whole = is;
}

-- the head: mapping and ticks
pub head_mapping : (h : HeadView) (text : List ℕ) → text ≡ spelled_body h → IsWordBehind text 17 (mapping_text h.mapping) (codes " ticks " ++ (decimal h.ticks ++ (codes " nodes " ++ decimal h.nodes)))
head_mapping h text is = word_at (codes "report 1 mapping ") (mapping_text h.mapping) _ text 17 refl (mapping_without 32 h.mapping (omega arith)) refl is

pub head_ticks : (h : HeadView) (text : List ℕ) → HeadFits h → text ≡ codes " ticks " ++ (decimal h.ticks ++ (codes " nodes " ++ decimal h.nodes)) → IsWordBehind text 7 (decimal h.ticks) (codes " nodes " ++ decimal h.nodes)
head_ticks h text fits is = let small = fits.ticks_fit in word_at (codes " ticks ") (decimal h.ticks) _ text 7 refl (decimal_without 32 h.ticks (omega arith) (omega (arith, small))) refl is

-- a failure: its kind, its pc and its tick
pub failed_kind : (k : FailKind) (p t : ℕ) (word rest text : List ℕ) → text ≡ outcome_text (Failed k p t) → text ≡ word ++ rest → Without 64 word → BeginsWith 64 rest → (word ≡ kind_text k) × (rest ≡ codes "@" ++ (decimal p ++ (codes "@" ++ decimal t)))
failed_kind k p t word rest text is cut w b = cut_once 64 word rest (kind_text k) (codes "@" ++ (decimal p ++ (codes "@" ++ decimal t))) w b (kind_without 64 k (omega arith)) refl (sym cut ∙ is)

pub failed_pc : (p t : ℕ) (word rest text : List ℕ) → p < 2 ^ 16 → text ≡ decimal p ++ (codes "@" ++ decimal t) → text ≡ word ++ rest → Without 64 word → BeginsWith 64 rest → (word ≡ decimal p) × (rest ≡ codes "@" ++ decimal t)
failed_pc p t word rest text small is cut w b = cut_once 64 word rest (decimal p) (codes "@" ++ decimal t) w b (decimal_below 64 p (omega arith) (omega arith) (omega (arith, small))) refl (sym cut ∙ is)

-- an entry: node, index and word
pub given_node : (g : Given) (word rest text : List ℕ) → GivenFits g → text ≡ input_text g → text ≡ word ++ rest → Without 46 word → BeginsWith 46 rest → (word ≡ decimal g.node) × (rest ≡ codes "." ++ (decimal g.index ++ (codes "=" ++ decimal g.word)))
given_node g word rest text fits is cut w b = let small = fits.node in cut_once 46 word rest (decimal g.node) _ w b (decimal_without 46 g.node (omega arith) (omega (arith, small))) refl (sym cut ∙ is)

pub given_index : (g : Given) (word rest text : List ℕ) → GivenFits g → text ≡ decimal g.index ++ (codes "=" ++ decimal g.word) → text ≡ word ++ rest → Without 61 word → BeginsWith 61 rest → (word ≡ decimal g.index) × (rest ≡ codes "=" ++ decimal g.word)
given_index g word rest text fits is cut w b = let small = fits.index in cut_once 61 word rest (decimal g.index) _ w b (decimal_below 61 g.index (omega arith) (omega arith) (omega (arith, small))) refl (sym cut ∙ is)

-- a state: number, node, trace and outcome
module _ (k : ℕ) (x : StateLine) (small : k < 2 ^ 64) (fits : StateFits x) (text : List ℕ) where
  abbrev pub from_standing : List ℕ
  from_standing = codes " " ++ standing_text x.standing

  abbrev pub from_outcome : List ℕ
  from_outcome = codes " outcome " ++ (outcome_text x.outcome ++ from_standing)

  abbrev pub from_trace : List ℕ
  from_trace = codes " trace " ++ (text_of x.trace ++ from_outcome)

  abbrev pub from_node : List ℕ
  from_node = codes " node " ++ (decimal x.node ++ from_trace)

  pub state_number : text ≡ state_body k x → IsWordBehind text 6 (decimal k) from_node
  state_number is = word_at (codes "state ") (decimal k) from_node text 6 refl (decimal_without 32 k (omega arith) small) refl is

  pub state_node : text ≡ from_node → IsWordBehind text 6 (decimal x.node) from_trace
  state_node is = let s = fits.node in word_at (codes " node ") (decimal x.node) from_trace text 6 refl (decimal_without 32 x.node (omega arith) (omega (arith, s))) refl is

  pub state_trace : text ≡ from_trace → IsWordBehind text 7 (text_of x.trace) from_outcome
  state_trace is = word_at (codes " trace ") (text_of x.trace) from_outcome text 7 refl (trace_without 32 x.trace (omega arith)) refl is

  pub state_outcome : text ≡ from_outcome → IsWordBehind text 9 (outcome_text x.outcome) from_standing
  state_outcome is = word_at (codes " outcome ") (outcome_text x.outcome) from_standing text 9 refl (outcome_without 32 x.outcome (omega arith) fits.outcome) refl is

-- columns begin with a blank
pub columns_begin : (cs : List (List ℕ)) → BeginsWith 32 (flat_map column_word cs)
columns_begin [] = tt
columns_begin (c ∷ cs) = subst (BeginsWith 32) (sym (flat_map-cons column_word c cs)) refl

-- a dstate: its number
pub dstate_number : (k : ℕ) (cs : List (List ℕ)) (text : List ℕ) → k < 2 ^ 64 → text ≡ dstate_body k cs → IsWordBehind text 7 (decimal k) (codes " columns" ++ flat_map column_word cs)
dstate_number k cs text small is = word_at (codes "dstate ") (decimal k) _ text 7 refl (decimal_without 32 k (omega arith) small) refl is

-- a failure line: its state
pub failure_number : (f : FailureLine) (text : List ℕ) → FailureFits f → text ≡ failure_body f → IsWordBehind text 8 (decimal f.state) (codes " " ++ reach_text f.reach)
failure_number f text fits is = word_at (codes "failure ") (decimal f.state) _ text 8 refl (decimal_without 32 f.state (omega arith) fits.state) refl is

-- a place: its dstate
pub place_dstate : (d : ℕ) (rest text : List ℕ) → d < 2 ^ 64 → BeginsWith 32 rest → text ≡ codes " dstate " ++ (decimal d ++ rest) → IsWordBehind text 8 (decimal d) rest
place_dstate d rest text small ends is = word_at (codes " dstate ") (decimal d) rest text 8 refl (decimal_without 32 d (omega arith) small) ends is
