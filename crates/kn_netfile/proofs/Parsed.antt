-- The text of a network is read by toml as the table that it spells.
use Rattle.std.proofs.Common.{◌≡◌, ℕ, suc, ◌^◌, ◌<◌, ◌≤◌, true, false, List, [], ◌∷◌, ◌++◌, length, codes, slice_index_or, Option, Some, refl, sym, subst, arith, append_assoc, append-nil}
use Rattle.std.specs.Fmt.{digits}
use Rattle.std.specs.List.{list_all, flat_map, AllByRecursion}
use Rattle.hex.specs.Hex.{encode_lower, IsBytes}
use Rattle.toml_writer.specs.Text.{key_text}
use Rattle.toml.specs.Data.{array, Members, depth, items_depth, has_valid_dates, items_have_valid_dates}
use Rattle.toml.specs.Tables.{no_nodes, Expression, Document}
use Rattle.toml.specs.Parse.{parse_document, skip_bom, lines}
use Rattle.toml.specs.Text.{IsLinesText}
use Rattle.toml.proofs.ReadLines.{run, AllPrinted, read_lines}
use Rattle.toml.proofs.Lines.{IsLinesText-append}
use Rattle.kn_code.specs.Code.{Code}
use Rattle.kn_code.specs.Rows.{spelling}
use Rattle.kn_term.specs.Terms.{Given}
use Rattle.kn_plan.specs.Nets.{Plan, Link, Limits}
use Rattle.kn_netfile.specs.Tables.{is_name_byte}
use Rattle.kn_netfile.specs.Printing.{limits_text, program_text, node_text, link_text, input_text}
use Rattle.kn_netfile.proofs.Lines.{Pair, pair_lines, element_lines, element_is, numbers, AllFit, list_is, text_is, hex_plain}
use Rattle.kn_netfile.proofs.Defined.{limit_pairs, program_pairs, node_pairs, link_pairs, input_pairs, array_lines, program_lines, node_lines, link_lines, input_lines, whole_lines, whole_table, closed, whole_run}

-- ---- the text of the lines

pub record FitLimits (l : Limits) : Type 0 where
  pub ticks : l.ticks < 2 ^ 63
  pub fuel : l.fuel < 2 ^ 63
  pub conflicts : l.conflicts < 2 ^ 63
  pub states : l.states < 2 ^ 63
  pub dstates : l.dstates < 2 ^ 63

pub record FitsProgram (p : List ℕ × Code) : Type 0 where
  pub named : list_all is_name_byte p.0 ≡ true
  pub bytes : IsBytes (spelling p.1)

pub record FitsNode (names : List (List ℕ)) (p : Plan) : Type 0 where
  pub named : list_all is_name_byte (slice_index_or names p.program []) ≡ true
  pub loss : p.loss < 2 ^ 63
  pub duplicate : p.duplicate < 2 ^ 63
  pub reboot : AllFit p.reboot

pub record FitsLink (l : Link) : Type 0 where
  pub from : l.from < 2 ^ 63
  pub to : l.to < 2 ^ 63
  pub delay : l.delay < 2 ^ 63

pub record FitsInput (g : Given) : Type 0 where
  pub node : g.node < 2 ^ 63
  pub index : g.index < 2 ^ 63
  pub word : g.word < 2 ^ 63

program_is : (p : List ℕ × Code) → FitsProgram p → IsLinesText false true (element_lines (codes "program") (program_pairs p)) (program_text p)
unfolding key_text program_text
program_is p h = element_is (codes "program") (program_pairs p) (text_is p.0 h.named, (text_is (encode_lower (spelling p.1)) (hex_plain (spelling p.1) h.bytes), tt))

node_is : (names : List (List ℕ)) (p : Plan) → FitsNode names p → IsLinesText false true (element_lines (codes "node") (node_pairs names p)) (node_text names p)
unfolding key_text node_text
node_is names p h =
    element_is (codes "node") (node_pairs names p) (text_is (slice_index_or names p.program []) h.named, ((refl, omega (arith, h.loss)), ((refl, omega (arith, h.duplicate)), (list_is p.reboot h.reboot, tt))))

link_is : (l : Link) → FitsLink l → IsLinesText false true (element_lines (codes "link") (link_pairs l)) (link_text l)
unfolding key_text link_text
link_is l h = element_is (codes "link") (link_pairs l) ((refl, omega (arith, h.from)), ((refl, omega (arith, h.to)), ((refl, omega (arith, h.delay)), tt)))

input_is : (g : Given) → FitsInput g → IsLinesText false true (element_lines (codes "input") (input_pairs g)) (input_text g)
unfolding key_text input_text
input_is g h = element_is (codes "input") (input_pairs g) ((refl, omega (arith, h.node)), ((refl, omega (arith, h.index)), ((refl, omega (arith, h.word)), tt)))

array_is : {A : Type 0} (P : A → Type 0) (pairs : A → List Pair) (key : List ℕ) (text : A → List ℕ) → ((x : A) → P x → IsLinesText false true (element_lines key (pairs x)) (text x))
    → (xs : List A) → AllByRecursion P xs → IsLinesText false true (array_lines pairs key xs) (flat_map text xs)
array_is P pairs key text one [] h = refl
array_is P pairs key text one (x ∷ xs) h = IsLinesText-append false true (element_lines key (pairs x)) (array_lines pairs key xs) (text x) (flat_map text xs) (one x h.0) (array_is P pairs key text one xs h.1)

limits_are : (l : Limits) → FitLimits l → IsLinesText false false (pair_lines (limit_pairs l)) (limits_text l)
unfolding key_text digits limits_text
limits_are l h = (
  codes "version = 1\n",
  _,
  refl,
  (codes "1", refl, (refl, omega arith)),
  (_, _, refl, (_, refl, (refl, omega (arith, h.ticks))), (_, _, refl, (_, refl, (refl, omega (arith, h.fuel))), (_, _, refl, (_, refl, (refl, omega (arith, h.conflicts))), (_, _, refl, (_, refl, (refl, omega (arith, h.states))), (_, _, refl, (_, refl, (refl, omega (arith, h.dstates))), refl))))),
)

-- what is printed of a network: its limits, programs with their names, nodes, links and inputs
abbrev pub whole_text : Limits → List (List ℕ × Code) → List (List ℕ) → List Plan → List Link → List Given → List ℕ
whole_text l ps names ns ls gs = limits_text l ++ (flat_map program_text ps ++ (flat_map (node_text names) ns ++ (flat_map link_text ls ++ flat_map input_text gs)))

pub record Fits (l : Limits) (ps : List (List ℕ × Code)) (names : List (List ℕ)) (ns : List Plan) (ls : List Link) (gs : List Given) : Type 0 where
  pub limits : FitLimits l
  pub programs : AllByRecursion FitsProgram ps
  pub nodes : AllByRecursion (FitsNode names) ns
  pub links : AllByRecursion FitsLink ls
  pub inputs : AllByRecursion FitsInput gs

module _ (l : Limits) (ps : List (List ℕ × Code)) (names : List (List ℕ)) (ns : List Plan) (ls : List Link) (gs : List Given) where
  whole_is : Fits l ps names ns ls gs → IsLinesText false false (whole_lines l ps names ns ls gs) (whole_text l ps names ns ls gs)
  whole_is h =
      let inputs = array_is FitsInput input_pairs (codes "input") input_text input_is gs h.inputs in
      let links = array_is FitsLink link_pairs (codes "link") link_text link_is ls h.links in
      let nodes = array_is (FitsNode names) (node_pairs names) (codes "node") (node_text names) (node_is names) ns h.nodes in
      let programs = array_is FitsProgram program_pairs (codes "program") program_text program_is ps h.programs in
      let link_part = IsLinesText-append false true (link_lines ls) (input_lines gs) (flat_map link_text ls) (flat_map input_text gs) links inputs in
      let node_part = IsLinesText-append false true (node_lines names ns) (link_lines ls ++ input_lines gs) (flat_map (node_text names) ns) (flat_map link_text ls ++ flat_map input_text gs) nodes link_part in
      let program_part = IsLinesText-append false true (program_lines ps) (node_lines names ns ++ (link_lines ls ++ input_lines gs)) (flat_map program_text ps) (flat_map (node_text names) ns ++ (flat_map link_text ls ++ flat_map input_text gs)) programs node_part in
      IsLinesText-append false false (pair_lines (limit_pairs l)) (program_lines ps ++ (node_lines names ns ++ (link_lines ls ++ input_lines gs))) (limits_text l) (flat_map program_text ps ++ (flat_map (node_text names) ns ++ (flat_map link_text ls ++ flat_map input_text gs))) (limits_are l h.limits) program_part

-- ---- nothing is too deep

abbrev AllPlain : List Pair → Type 0
AllPlain [] = Unit {0}
AllPlain (p ∷ ps) = ((depth p.shown ≤ 80) × (has_valid_dates p.shown ≡ true)) × AllPlain ps

pairs_printed : (ps : List Pair) (es : List Expression) → AllPlain ps → AllPrinted es → AllPrinted (pair_lines ps ++ es)
pairs_printed [] es h more = more
pairs_printed (p ∷ ps) es h more = ((refl, h.0.0, h.0.1), pairs_printed ps es h.1 more)

numbers_deep : (ns : List ℕ) → (items_depth (numbers ns) ≡ 0) × (items_have_valid_dates (numbers ns) ≡ true)
numbers_deep [] = (refl, refl)
numbers_deep (n ∷ ns) = let rest = numbers_deep ns in (rw (rest.0) refl, rest.1)

array_printed : {A : Type 0} (pairs : A → List Pair) (key : List ℕ) → ((x : A) → AllPlain (pairs x)) → (xs : List A) (es : List Expression) → AllPrinted es → AllPrinted (array_lines pairs key xs ++ es)
array_printed pairs key plain [] es more = more
array_printed pairs key plain (x ∷ xs) es more =
    subst AllPrinted (sym (append_assoc (element_lines key (pairs x)) (array_lines pairs key xs) es))
    (omega arith, pairs_printed (pairs x) (array_lines pairs key xs ++ es) (plain x) (array_printed pairs key plain xs es more))

limits_plain : (l : Limits) → AllPlain (limit_pairs l)
limits_plain l = ((omega arith, refl), ((omega arith, refl), ((omega arith, refl), ((omega arith, refl), ((omega arith, refl), ((omega arith, refl), tt))))))

program_plain : (p : List ℕ × Code) → AllPlain (program_pairs p)
program_plain p = ((omega arith, refl), ((omega arith, refl), tt))

node_plain : (names : List (List ℕ)) (p : Plan) → AllPlain (node_pairs names p)
node_plain names p =
    let deep = numbers_deep p.reboot in
    let reboot : depth (array (numbers p.reboot)) ≤ 80 = omega (arith, deep.0) in
    ((omega arith, refl), ((omega arith, refl), ((omega arith, refl), ((reboot, deep.1), tt))))

link_plain : (l : Link) → AllPlain (link_pairs l)
link_plain l = ((omega arith, refl), ((omega arith, refl), ((omega arith, refl), tt)))

input_plain : (g : Given) → AllPlain (input_pairs g)
input_plain g = ((omega arith, refl), ((omega arith, refl), ((omega arith, refl), tt)))

whole_printed : (l : Limits) (ps : List (List ℕ × Code)) (names : List (List ℕ)) (ns : List Plan) (ls : List Link) (gs : List Given) → AllPrinted (whole_lines l ps names ns ls gs)
whole_printed l ps names ns ls gs =
    let inputs : AllPrinted (input_lines gs) = subst AllPrinted (append-nil (input_lines gs)) (array_printed input_pairs (codes "input") input_plain gs [] tt) in
    let links : AllPrinted (link_lines ls ++ input_lines gs) = array_printed link_pairs (codes "link") link_plain ls (input_lines gs) inputs in
    let nodes : AllPrinted (node_lines names ns ++ (link_lines ls ++ input_lines gs)) = array_printed (node_pairs names) (codes "node") (node_plain names) ns (link_lines ls ++ input_lines gs) links in
    let programs : AllPrinted (program_lines ps ++ (node_lines names ns ++ (link_lines ls ++ input_lines gs))) = array_printed program_pairs (codes "program") program_plain ps (node_lines names ns ++ (link_lines ls ++ input_lines gs)) nodes in
    pairs_printed (limit_pairs l) (program_lines ps ++ (node_lines names ns ++ (link_lines ls ++ input_lines gs))) (limits_plain l) programs

-- ---- the whole text

no_bom : (l : Limits) (ps : List (List ℕ × Code)) (names : List (List ℕ)) (ns : List Plan) (ls : List Link) (gs : List Given) → skip_bom (whole_text l ps names ns ls gs) ≡ whole_text l ps names ns ls gs
unfolding skip_bom limits_text
no_bom l ps names ns ls gs = refl

closed_lines : (text : List ℕ) (o : Option Document) (ms : Members) → lines (suc (length text)) (no_nodes, []) (skip_bom text) ≡ o → closed o ≡ Some ms → parse_document text ≡ Some ms
unfolding parse_document
closed_lines text o ms read is = rw read is

-- with a program and a node at least
pub whole_parsed : (l : Limits) (p : List ℕ × Code) (ps : List (List ℕ × Code)) (names : List (List ℕ)) (n : Plan) (ns : List Plan) (ls : List Link) (gs : List Given)
    → Fits l (p ∷ ps) names (n ∷ ns) ls gs → parse_document (whole_text l (p ∷ ps) names (n ∷ ns) ls gs) ≡ Some (whole_table l (p ∷ ps) names (n ∷ ns) ls gs)
whole_parsed l p ps names n ns ls gs h =
    let text : List ℕ = whole_text l (p ∷ ps) names (n ∷ ns) ls gs in
    let es : List Expression = whole_lines l (p ∷ ps) names (n ∷ ns) ls gs in
    let read = read_lines false false es text text (no_nodes, []) (suc (length text)) (whole_is l (p ∷ ps) names (n ∷ ns) ls gs h) (whole_printed l (p ∷ ps) names (n ∷ ns) ls gs) refl (omega arith) in
    closed_lines text (run (no_nodes, []) es) (whole_table l (p ∷ ps) names (n ∷ ns) ls gs) (rw (no_bom l (p ∷ ps) names (n ∷ ns) ls gs) read) (whole_run l p ps names n ns ls gs)
