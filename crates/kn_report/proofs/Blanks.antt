-- Which bytes do not stand in words and lines.
use Rattle.std.proofs.Common.{◌≡◌, ℕ, ◌<◌, ◌^◌, ◌+◌, Bool, true, false, ◌&&◌, List, [], ◌∷◌, ◌++◌, map, refl, sym, subst, arith}
use Rattle.std.specs.Prelude.{leb, codes, flat_map}
use Rattle.std.specs.Fmt.{decimal}
use Rattle.std.specs.List.{AllByRecursion}
use Rattle.std.proofs.lemmas.Bool.{leb-true, and_parts}
use Rattle.std.proofs.lemmas.List.Concat.{flat_map-cons}
use Rattle.kn_trace.specs.Text.{text_of, digit_of}
use Rattle.kn_model.specs.Terms.{Given, Valuation}
use Rattle.kn_model.specs.Nodes.{FailKind, Assert, Bounds, Fuel, Outcome, Running, Halted, Failed}
use Rattle.kn_cond.specs.declared.standing.Standing.{Standing}
use Rattle.kn_cond.specs.declared.standing.Standing.TheVariants.{Inputs, Open}
use Rattle.kn_model.specs.Reports.{StateLine, FailureLine, Mapping, Sds, Cob, Reach, At, Undecided, Nowhere}
use Rattle.kn_report.specs.Forms.{GivenFits, StandingFits, OutcomeFits, StateFits, ReachFits, FailureFits, ColumnsFit}
use Rattle.kn_report.specs.Heads.{HeadView, HeadFits, spelled_body}
use Rattle.kn_report.specs.Texts.{mapping_text, kind_text, outcome_text, input_text, further, inputs_text, standing_text, state_body, behind_comma, behind_blank, column_text, column_word, dstate_body, reach_text, failure_body}
use Rattle.kn_report.specs.Words.{Without}
use Rattle.kn_report.proofs.Cut.{without_append, decimal_without}

-- all bytes are at least m
abbrev pub is_from : ℕ → List ℕ → Bool
is_from m [] = true
is_from m (c ∷ cs) = leb m c && is_from m cs

pub letters : (m b : ℕ) (xs : List ℕ) → b < m → is_from m xs ≡ true → Without b xs
letters m b [] low e = tt
letters m b (c ∷ cs) low e =
    let parts = and_parts (leb m c) (is_from m cs) e in
    let high = leb-true m c parts.0 in
    (λ same. omega (arith, high, same, low), letters m b cs low parts.1)

-- a list in words, item by item
pub without_all : {A : Type 0} (b : ℕ) (f : A → List ℕ) (P : A → Type 0) → ((x : A) → P x → Without b (f x)) → (xs : List A) → AllByRecursion P xs → Without b (flat_map f xs)
without_all b f P each [] all = tt
without_all b f P each (x ∷ xs) all = subst (Without b) (sym (flat_map-cons f x xs)) (without_append b (f x) (flat_map f xs) (each x all.0) (without_all b f P each xs all.1))

pub mapping_without : (b : ℕ) (m : Mapping) → b < 45 → Without b (mapping_text m)
mapping_without b Sds low = letters 45 b (codes "sds") low refl
mapping_without b Cob low = letters 45 b (codes "cob") low refl

pub kind_without : (b : ℕ) (k : FailKind) → b < 65 → Without b (kind_text k)
kind_without b Assert low = letters 65 b (codes "assert") low refl
kind_without b Bounds low = letters 65 b (codes "bounds") low refl
kind_without b Fuel low = letters 65 b (codes "fuel") low refl

pub outcome_without : (b : ℕ) (o : Outcome) → b < 45 → OutcomeFits o → Without b (outcome_text o)
outcome_without b Running low fits = letters 45 b (codes "running") low refl
outcome_without b Halted low fits = letters 45 b (codes "halted") low refl
outcome_without b (Failed kind pc tick) low fits =
    without_append b (kind_text kind) _ (kind_without b kind (omega (arith, low)))
    (without_append b (codes "@") _ (letters 45 b (codes "@") low refl)
    (without_append b (decimal pc) _ (decimal_without b pc (omega (arith, low)) (omega (arith, fits.0)))
    (without_append b (codes "@") _ (letters 45 b (codes "@") low refl) (decimal_without b tick (omega (arith, low)) (omega (arith, fits.1))))))

digits_without : (b : ℕ) (bits : List Bool) → b < 45 → Without b (map digit_of bits)
digits_without b [] low = tt
digits_without b (false ∷ bits) low = (λ e. omega (arith, e, low), digits_without b bits low)
digits_without b (true ∷ bits) low = (λ e. omega (arith, e, low), digits_without b bits low)

pub trace_without : (b : ℕ) (bits : List Bool) → b < 45 → Without b (text_of bits)
trace_without b [] low = (λ e. omega (arith, e, low), tt)
trace_without b (bit ∷ bits) low = digits_without b (bit ∷ bits) low

pub input_without : (b : ℕ) (g : Given) → b < 45 → GivenFits g → Without b (input_text g)
input_without b g low fits =
    let node = fits.node in
    let index = fits.index in
    let word = fits.word in
    without_append b (decimal g.node) _ (decimal_without b g.node (omega (arith, low)) (omega (arith, node)))
    (without_append b (codes ".") _ (letters 45 b (codes ".") low refl)
    (without_append b (decimal g.index) _ (decimal_without b g.index (omega (arith, low)) (omega (arith, index)))
    (without_append b (codes "=") _ (letters 45 b (codes "=") low refl) (decimal_without b g.word (omega (arith, low)) (omega (arith, word))))))

-- no line feed stands in a list of words
further_without : (g : Given) → GivenFits g → Without 10 (further g)
further_without g fits = without_append 10 (codes " ") (input_text g) (letters 32 10 (codes " ") (omega arith) refl) (input_without 10 g (omega arith) fits)

pub inputs_without : (a : Valuation) → AllByRecursion GivenFits a → Without 10 (inputs_text a)
inputs_without [] fits = letters 32 10 (codes "-") (omega arith) refl
inputs_without (g ∷ a) fits = without_append 10 (input_text g) _ (input_without 10 g (omega arith) fits.0) (without_all 10 further GivenFits further_without a fits.1)

pub standing_without : (s : Standing) → StandingFits s → Without 10 (standing_text s)
standing_without (Inputs a) fits = without_append 10 (codes "inputs ") _ (letters 32 10 (codes "inputs ") (omega arith) refl) (inputs_without a fits.numbers)
standing_without (Open leaves) fits = without_append 10 (codes "open ") _ (letters 32 10 (codes "open ") (omega arith) refl) (decimal_without 10 leaves (omega arith) fits)

-- a text of capital piece and number, then more
piece : (front xs ys : List ℕ) → is_from 32 front ≡ true → Without 10 xs → Without 10 ys → Without 10 (front ++ (xs ++ ys))
piece front xs ys plain p q = without_append 10 front (xs ++ ys) (letters 32 10 front (omega arith) plain) (without_append 10 xs ys p q)

number : (n : ℕ) → n < 2 ^ 64 → Without 10 (decimal n)
number n fits = decimal_without 10 n (omega arith) fits

pub state_without : (k : ℕ) (x : StateLine) → k < 2 ^ 64 → StateFits x → Without 10 (state_body k x)
state_without k x small fits =
    let node = fits.node in
    piece (codes "state ") (decimal k) _ refl (number k small)
    (piece (codes " node ") (decimal x.node) _ refl (number x.node (omega (arith, node)))
    (piece (codes " trace ") (text_of x.trace) _ refl (trace_without 10 x.trace (omega arith))
    (piece (codes " outcome ") (outcome_text x.outcome) _ refl (outcome_without 10 x.outcome (omega arith) fits.outcome)
    (without_append 10 (codes " ") _ (letters 32 10 (codes " ") (omega arith) refl) (standing_without x.standing fits.standing)))))

comma_without : (b : ℕ) → b < 44 → (i : ℕ) → i < 2 ^ 64 → Without b (behind_comma i)
comma_without b low i fits = without_append b (codes ",") (decimal i) (letters 44 b (codes ",") low refl) (decimal_without b i (omega (arith, low)) fits)

pub column_without : (b : ℕ) (c : List ℕ) → b < 44 → AllByRecursion (λ (i : ℕ). i < 2 ^ 64) c → Without b (column_text c)
column_without b [] low fits = tt
column_without b (i ∷ is) low fits = without_append b (decimal i) _ (decimal_without b i (omega (arith, low)) fits.0) (without_all b behind_comma (λ (j : ℕ). j < 2 ^ 64) (comma_without b low) is fits.1)

word_without : (c : List ℕ) → AllByRecursion (λ (i : ℕ). i < 2 ^ 64) c → Without 10 (column_word c)
word_without c fits = without_append 10 (codes " ") (column_text c) (letters 32 10 (codes " ") (omega arith) refl) (column_without 10 c (omega arith) fits)

pub dstate_without : (k : ℕ) (cs : List (List ℕ)) → k < 2 ^ 64 → ColumnsFit cs → Without 10 (dstate_body k cs)
dstate_without k cs small fits =
    piece (codes "dstate ") (decimal k) _ refl (number k small)
    (without_append 10 (codes " columns") _ (letters 32 10 (codes " columns") (omega arith) refl)
    (without_all 10 column_word (AllByRecursion (λ (i : ℕ). i < 2 ^ 64)) word_without cs fits))

blank_without : (i : ℕ) → i < 2 ^ 64 → Without 10 (behind_blank i)
blank_without i fits = without_append 10 (codes " ") (decimal i) (letters 32 10 (codes " ") (omega arith) refl) (number i fits)

pub reach_without : (x : Reach) → ReachFits x → Without 10 (reach_text x)
reach_without (At d pick a) fits =
    piece (codes "reached dstate ") (decimal d) _ refl (number d fits.0)
    (piece (codes " pick") (flat_map behind_blank pick) _ refl (without_all 10 behind_blank (λ (i : ℕ). i < 2 ^ 64) blank_without pick fits.1)
    (without_append 10 (codes " inputs ") _ (letters 32 10 (codes " inputs ") (omega arith) refl) (inputs_without a fits.2.numbers)))
reach_without Undecided fits = letters 32 10 (codes "open") (omega arith) refl
reach_without Nowhere fits = letters 32 10 (codes "nowhere") (omega arith) refl

pub failure_without : (f : FailureLine) → FailureFits f → Without 10 (failure_body f)
failure_without f fits =
    piece (codes "failure ") (decimal f.state) _ refl (number f.state fits.state)
    (without_append 10 (codes " ") _ (letters 32 10 (codes " ") (omega arith) refl) (reach_without f.reach fits.reach))

pub head_without : (h : HeadView) → HeadFits h → Without 10 (spelled_body h)
head_without h fits =
    let ticks = fits.ticks_fit in
    let nodes = fits.nodes_fit in
    piece (codes "report 1 mapping ") (mapping_text h.mapping) _ refl (mapping_without 10 h.mapping (omega arith))
    (piece (codes " ticks ") (decimal h.ticks) _ refl (number h.ticks (omega (arith, ticks)))
    (without_append 10 (codes " nodes ") _ (letters 32 10 (codes " nodes ") (omega arith) refl) (number h.nodes (omega (arith, nodes)))))
