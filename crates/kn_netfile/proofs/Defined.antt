-- What the printed lines define.
use Rattle.std.proofs.Common.{◌≡◌, ℕ, pos, List, [], ◌∷◌, ◌++◌, codes, Option, Some, option_map, slice_index_or, refl, sym, ap, ◌∙◌, append_assoc, append-nil}
use Rattle.hex.specs.Hex.{encode_lower}
use Rattle.toml.specs.Data.{string, integer, array, table, Items, no_items, item, push_item, Members, no_members, member}
use Rattle.toml.specs.Tables.{Node, Nodes, no_nodes, node, value, open_array, close, along_header, along_dots, at_key, Expression, Document, define}
use Rattle.toml.proofs.ReadLines.{run}
use Rattle.toml.proofs.ReadValues.{item_join, item_join-none, item_join-push}
use Rattle.kn_code.specs.Code.{Code}
use Rattle.kn_code.specs.Rows.{spelling}
use Rattle.kn_term.specs.Terms.{Given}
use Rattle.kn_plan.specs.Nets.{Plan, Link, Limits}
use Rattle.kn_netfile.proofs.Lines.{Pair, pair_lines, element_lines, number, numbers, text_at, list_at}

-- ---- the pairs of each kind of table

abbrev pub limit_pairs : Limits → List Pair
limit_pairs l =
    number (codes "version") 1 ∷ number (codes "ticks") l.ticks ∷ number (codes "fuel") l.fuel ∷ number (codes "conflicts") l.conflicts ∷ number (codes "states") l.states ∷ number (codes "dstates") l.dstates ∷ []

abbrev pub program_pairs : List ℕ × Code → List Pair
program_pairs p = text_at (codes "name") p.0 ∷ text_at (codes "code") (encode_lower (spelling p.1)) ∷ []

abbrev pub node_pairs : List (List ℕ) → Plan → List Pair
node_pairs names p =
    text_at (codes "program") (slice_index_or names p.program []) ∷ number (codes "loss") p.loss ∷ number (codes "duplicate") p.duplicate ∷ list_at (codes "reboot") p.reboot ∷ []

abbrev pub link_pairs : Link → List Pair
link_pairs l = number (codes "from") l.from ∷ number (codes "to") l.to ∷ number (codes "delay") l.delay ∷ []

abbrev pub input_pairs : Given → List Pair
input_pairs g = number (codes "node") g.node ∷ number (codes "index") g.index ∷ number (codes "value") g.word ∷ []

-- the lines of a list of tables
abbrev pub array_lines : {A : Type 0} → (A → List Pair) → List ℕ → List A → List Expression
array_lines pairs key [] = []
array_lines pairs key (x ∷ xs) = element_lines key (pairs x) ++ array_lines pairs key xs

-- ---- their tables

abbrev pub program_table : List ℕ × Code → Members
program_table p = member (codes "code") (string (encode_lower (spelling p.1))) (member (codes "name") (string p.0) no_members)

abbrev pub node_table : List (List ℕ) → Plan → Members
node_table names p =
    member (codes "duplicate") (integer (pos p.duplicate))
    (member (codes "loss") (integer (pos p.loss))
    (member (codes "program") (string (slice_index_or names p.program [])) (member (codes "reboot") (array (numbers p.reboot)) no_members)))

abbrev pub link_table : Link → Members
link_table l = member (codes "delay") (integer (pos l.delay)) (member (codes "from") (integer (pos l.from)) (member (codes "to") (integer (pos l.to)) no_members))

abbrev pub input_table : Given → Members
input_table g = member (codes "index") (integer (pos g.index)) (member (codes "node") (integer (pos g.node)) (member (codes "value") (integer (pos g.word)) no_members))

abbrev pub tables : {A : Type 0} → (A → Members) → List A → Items
tables f [] = no_items
tables f (x ∷ xs) = item (table (f x)) (tables f xs)

-- the array of tables at a key, where it has any
abbrev pub with_array : {A : Type 0} → (A → Members) → List ℕ → List A → Members → Members
with_array f key [] ms = ms
with_array f key (x ∷ xs) ms = member key (array (tables f (x ∷ xs))) ms

-- the limits before the arrays in order of keys, and those behind them
abbrev pub head_members : Limits → Members → Members
head_members l rest = member (codes "conflicts") (integer (pos l.conflicts)) (member (codes "dstates") (integer (pos l.dstates)) (member (codes "fuel") (integer (pos l.fuel)) rest))

abbrev pub tail_members : Limits → Members
tail_members l = member (codes "states") (integer (pos l.states)) (member (codes "ticks") (integer (pos l.ticks)) (member (codes "version") (integer (pos 1)) no_members))

-- the outermost table, of a first program and others, and of a first node and others
abbrev pub whole_table : Limits → List (List ℕ × Code) → List (List ℕ) → List Plan → List Link → List Given → Members
whole_table l ps names ns ls gs =
    head_members l
    (with_array input_table (codes "input") gs
    (with_array link_table (codes "link") ls
    (member (codes "node") (array (tables (node_table names) ns)) (member (codes "program") (array (tables program_table ps)) (tail_members l)))))

-- ---- an array of tables at a key, in a root that grows at that key alone

-- the root with an array at the key, and what one element does to it
pub record Grows {A : Type 0} (pairs : A → List Pair) (view : A → Members) (key : List ℕ) (root : Items → Nodes → Nodes) (inner : A → Nodes) : Type 0 where
  pub more : (done : Items) (last : Nodes) (x : A) (path : List (List ℕ)) (es : List Expression)
      → run (root done last, path) (element_lines key (pairs x) ++ es) ≡ run (root (push_item done (table (close last))) (inner x), key ∷ []) es
  pub seen : (x : A) → close (inner x) ≡ view x

grown : {A : Type 0} (pairs : A → List Pair) (view : A → Members) (key : List ℕ) (root : Items → Nodes → Nodes) (inner : A → Nodes) → Grows pairs view key root inner
    → (xs : List A) (done : Items) (last : Nodes) (path : List (List ℕ)) (es : List Expression)
    → (all_done : Items) × (all_last : Nodes) × (end_path : List (List ℕ))
    × (run (root done last, path) (array_lines pairs key xs ++ es) ≡ run (root all_done all_last, end_path) es)
    × (push_item all_done (table (close all_last)) ≡ item_join (push_item done (table (close last))) (tables view xs))
grown pairs view key root inner g [] done last path es = (done, last, path, refl, sym (item_join-none _))
grown pairs view key root inner g (x ∷ xs) done last path es =
    let pushed : Items = push_item done (table (close last)) in
    let (all_done, all_last, end_path, ran, shape) = grown pairs view key root inner g xs pushed (inner x) (key ∷ []) es in
    let split : array_lines pairs key (x ∷ xs) ++ es ≡ element_lines key (pairs x) ++ (array_lines pairs key xs ++ es) = append_assoc (element_lines key (pairs x)) (array_lines pairs key xs) es in (
      all_done,
      all_last,
      end_path,
      ap (run (root done last, path)) split ∙ g.more done last x path (array_lines pairs key xs ++ es) ∙ ran,
      shape ∙ ap (λ (t : Members). item_join (push_item pushed (table t)) (tables view xs)) (g.seen x) ∙ item_join-push pushed (table (view x)) (tables view xs),
    )

-- the first element, and the others
begun : {A : Type 0} (pairs : A → List Pair) (view : A → Members) (key : List ℕ) (root : Items → Nodes → Nodes) (inner : A → Nodes) (before : Nodes) → Grows pairs view key root inner
    → ((x : A) (path : List (List ℕ)) (es : List Expression) → run (before, path) (element_lines key (pairs x) ++ es) ≡ run (root no_items (inner x), key ∷ []) es)
    → (x : A) (xs : List A) (path : List (List ℕ)) (es : List Expression)
    → (all_done : Items) × (all_last : Nodes) × (end_path : List (List ℕ))
    × (run (before, path) (array_lines pairs key (x ∷ xs) ++ es) ≡ run (root all_done all_last, end_path) es)
    × (push_item all_done (table (close all_last)) ≡ tables view (x ∷ xs))
begun pairs view key root inner before g first x xs path es =
    let (all_done, all_last, end_path, ran, shape) = grown pairs view key root inner g xs no_items (inner x) (key ∷ []) es in
    let split : array_lines pairs key (x ∷ xs) ++ es ≡ element_lines key (pairs x) ++ (array_lines pairs key xs ++ es) = append_assoc (element_lines key (pairs x)) (array_lines pairs key xs) es in (
      all_done,
      all_last,
      end_path,
      ap (run (before, path)) split ∙ first x path (array_lines pairs key xs ++ es) ∙ ran,
      shape ∙ ap (λ (t : Members). item (table t) (tables view xs)) (g.seen x),
    )

-- ---- the four arrays

abbrev head_nodes : Limits → Nodes → Nodes
head_nodes l rest = node (codes "conflicts") (value (integer (pos l.conflicts))) (node (codes "dstates") (value (integer (pos l.dstates))) (node (codes "fuel") (value (integer (pos l.fuel))) rest))

abbrev tail_nodes : Limits → Nodes
tail_nodes l = node (codes "states") (value (integer (pos l.states))) (node (codes "ticks") (value (integer (pos l.ticks))) (node (codes "version") (value (integer (pos 1))) no_nodes))

abbrev program_nodes : List ℕ × Code → Nodes
program_nodes p = node (codes "code") (value (string (encode_lower (spelling p.1)))) (node (codes "name") (value (string p.0)) no_nodes)

abbrev node_nodes : List (List ℕ) → Plan → Nodes
node_nodes names p =
    node (codes "duplicate") (value (integer (pos p.duplicate)))
    (node (codes "loss") (value (integer (pos p.loss)))
    (node (codes "program") (value (string (slice_index_or names p.program []))) (node (codes "reboot") (value (array (numbers p.reboot))) no_nodes)))

abbrev link_nodes : Link → Nodes
link_nodes l = node (codes "delay") (value (integer (pos l.delay))) (node (codes "from") (value (integer (pos l.from))) (node (codes "to") (value (integer (pos l.to))) no_nodes))

abbrev input_nodes : Given → Nodes
input_nodes g = node (codes "index") (value (integer (pos g.index))) (node (codes "node") (value (integer (pos g.node))) (node (codes "value") (value (integer (pos g.word))) no_nodes))

abbrev program_root : Limits → Items → Nodes → Nodes
program_root l done last = head_nodes l (node (codes "program") (open_array done last) (tail_nodes l))

abbrev node_rest : Limits → Node → Items → Nodes → Nodes
node_rest l programs done last = node (codes "node") (open_array done last) (node (codes "program") programs (tail_nodes l))

abbrev node_root : Limits → Node → Items → Nodes → Nodes
node_root l programs done last = head_nodes l (node_rest l programs done last)

abbrev link_rest : Limits → Node → Node → Items → Nodes → Nodes
link_rest l programs nodes done last = node (codes "link") (open_array done last) (node (codes "node") nodes (node (codes "program") programs (tail_nodes l)))

abbrev link_root : Limits → Node → Node → Items → Nodes → Nodes
link_root l programs nodes done last = head_nodes l (link_rest l programs nodes done last)

-- whatever stands behind the inputs
abbrev input_root : Limits → Nodes → Items → Nodes → Nodes
input_root l rest done last = head_nodes l (node (codes "input") (open_array done last) rest)

program_grows : (l : Limits) → Grows program_pairs program_table (codes "program") (program_root l) program_nodes
unfolding define at_key along_header along_dots
program_grows l = record { more = λ done last x path es. refl; seen = λ x. refl }

node_grows : (names : List (List ℕ)) (l : Limits) (programs : Node) → Grows (node_pairs names) (node_table names) (codes "node") (node_root l programs) (node_nodes names)
unfolding define at_key along_header along_dots
node_grows names l programs = record { more = λ done last x path es. refl; seen = λ x. refl }

link_grows : (l : Limits) (programs nodes : Node) → Grows link_pairs link_table (codes "link") (link_root l programs nodes) link_nodes
unfolding define at_key along_header along_dots
link_grows l programs nodes = record { more = λ done last x path es. refl; seen = λ x. refl }

input_grows : (l : Limits) (rest : Nodes) → Grows input_pairs input_table (codes "input") (input_root l rest) input_nodes
unfolding define at_key along_header along_dots
input_grows l rest = record { more = λ done last x path es. refl; seen = λ x. refl }

program_first : (l : Limits) (p : List ℕ × Code) (path : List (List ℕ)) (es : List Expression)
    → run (head_nodes l (tail_nodes l), path) (element_lines (codes "program") (program_pairs p) ++ es) ≡ run (program_root l no_items (program_nodes p), codes "program" ∷ []) es
unfolding define at_key along_header along_dots
program_first l p path es = refl

node_first : (names : List (List ℕ)) (l : Limits) (done : Items) (last : Nodes) (n : Plan) (path : List (List ℕ)) (es : List Expression)
    → run (program_root l done last, path) (element_lines (codes "node") (node_pairs names n) ++ es) ≡ run (node_root l (open_array done last) no_items (node_nodes names n), codes "node" ∷ []) es
unfolding define at_key along_header along_dots
node_first names l done last n path es = refl

link_first : (l : Limits) (programs : Node) (done : Items) (last : Nodes) (k : Link) (path : List (List ℕ)) (es : List Expression)
    → run (node_root l programs done last, path) (element_lines (codes "link") (link_pairs k) ++ es) ≡ run (link_root l programs (open_array done last) no_items (link_nodes k), codes "link" ∷ []) es
unfolding define at_key along_header along_dots
link_first l programs done last k path es = refl

-- the first input makes its array before what stands behind it
abbrev InputFirst : Limits → Nodes → Type 0
InputFirst l rest =
    (g : Given) (path : List (List ℕ)) (es : List Expression)
    → run (head_nodes l rest, path) (element_lines (codes "input") (input_pairs g) ++ es) ≡ run (input_root l rest no_items (input_nodes g), codes "input" ∷ []) es

input_without_links : (l : Limits) (programs : Node) (done : Items) (last : Nodes) → InputFirst l (node_rest l programs done last)
unfolding define at_key along_header along_dots
input_without_links l programs done last g path es = refl

input_with_links : (l : Limits) (programs nodes : Node) (done : Items) (last : Nodes) → InputFirst l (link_rest l programs nodes done last)
unfolding define at_key along_header along_dots
input_with_links l programs nodes done last g path es = refl

-- ---- all lines

abbrev pub closed : Option Document → Option Members
closed o = option_map (λ d. close d.0) o

abbrev pub program_lines : List (List ℕ × Code) → List Expression
program_lines ps = array_lines program_pairs (codes "program") ps

abbrev pub node_lines : List (List ℕ) → List Plan → List Expression
node_lines names ns = array_lines (node_pairs names) (codes "node") ns

abbrev pub link_lines : List Link → List Expression
link_lines ls = array_lines link_pairs (codes "link") ls

abbrev pub input_lines : List Given → List Expression
input_lines gs = array_lines input_pairs (codes "input") gs

limits_run : (l : Limits) (es : List Expression) → run (no_nodes, []) (pair_lines (limit_pairs l) ++ es) ≡ run (head_nodes l (tail_nodes l), []) es
unfolding define at_key along_header along_dots
limits_run l es = refl

inputs_run : (gs : List Given) (l : Limits) (rest : Nodes) (path : List (List ℕ)) → InputFirst l rest
    → closed (run (head_nodes l rest, path) (input_lines gs)) ≡ Some (head_members l (with_array input_table (codes "input") gs (close rest)))
inputs_run [] l rest path first = refl
inputs_run (g ∷ gs) l rest path first =
    let (all_done, all_last, end_path, ran, shape) = begun input_pairs input_table (codes "input") (input_root l rest) input_nodes (head_nodes l rest) (input_grows l rest) first g gs path [] in
    ap (λ (es : List Expression). closed (run (head_nodes l rest, path) es)) (sym (append-nil (input_lines (g ∷ gs)))) ∙ ap closed ran
    ∙ ap (λ (t : Items). Some (head_members l (member (codes "input") (array t) (close rest)))) shape

links_run : (ls : List Link) (gs : List Given) (l : Limits) (programs : Node) (done : Items) (last : Nodes) (path : List (List ℕ))
    → closed (run (node_root l programs done last, path) (link_lines ls ++ input_lines gs))
    ≡ Some (head_members l (with_array input_table (codes "input") gs (with_array link_table (codes "link") ls (close (node_rest l programs done last)))))
links_run [] gs l programs done last path = inputs_run gs l (node_rest l programs done last) path (input_without_links l programs done last)
links_run (k ∷ ks) gs l programs done last path =
    let (all_done, all_last, end_path, ran, shape) = begun link_pairs link_table (codes "link") (link_root l programs (open_array done last)) link_nodes (node_root l programs done last) (link_grows l programs (open_array done last)) (link_first l programs done last) k ks path (input_lines gs) in
    ap closed ran ∙ inputs_run gs l (link_rest l programs (open_array done last) all_done all_last) end_path (input_with_links l programs (open_array done last) all_done all_last)
    ∙ ap (λ (t : Items). Some (head_members l (with_array input_table (codes "input") gs (member (codes "link") (array t) (close (node_rest l programs done last)))))) shape

abbrev pub whole_lines : Limits → List (List ℕ × Code) → List (List ℕ) → List Plan → List Link → List Given → List Expression
whole_lines l ps names ns ls gs = pair_lines (limit_pairs l) ++ (program_lines ps ++ (node_lines names ns ++ (link_lines ls ++ input_lines gs)))

nodes_run : (names : List (List ℕ)) (n : Plan) (ns : List Plan) (ls : List Link) (gs : List Given) (l : Limits) (done : Items) (last : Nodes) (path : List (List ℕ))
    → closed (run (program_root l done last, path) (node_lines names (n ∷ ns) ++ (link_lines ls ++ input_lines gs)))
    ≡ Some (head_members l (with_array input_table (codes "input") gs (with_array link_table (codes "link") ls (member (codes "node") (array (tables (node_table names) (n ∷ ns))) (member (codes "program") (array (push_item done (table (close last)))) (tail_members l))))))
nodes_run names n ns ls gs l done last path =
    let (all_done, all_last, end_path, ran, shape) = begun (node_pairs names) (node_table names) (codes "node") (node_root l (open_array done last)) (node_nodes names) (program_root l done last) (node_grows names l (open_array done last)) (node_first names l done last) n ns path (link_lines ls ++ input_lines gs) in
    ap closed ran ∙ links_run ls gs l (open_array done last) all_done all_last end_path
    ∙ ap (λ (t : Items). Some (head_members l (with_array input_table (codes "input") gs (with_array link_table (codes "link") ls (member (codes "node") (array t) (member (codes "program") (array (push_item done (table (close last)))) (tail_members l))))))) shape

pub whole_run : (l : Limits) (p : List ℕ × Code) (ps : List (List ℕ × Code)) (names : List (List ℕ)) (n : Plan) (ns : List Plan) (ls : List Link) (gs : List Given)
    → closed (run (no_nodes, []) (whole_lines l (p ∷ ps) names (n ∷ ns) ls gs)) ≡ Some (whole_table l (p ∷ ps) names (n ∷ ns) ls gs)
whole_run l p ps names n ns ls gs =
    let later : List Expression = node_lines names (n ∷ ns) ++ (link_lines ls ++ input_lines gs) in
    let (all_done, all_last, end_path, ran, shape) = begun program_pairs program_table (codes "program") (program_root l) program_nodes (head_nodes l (tail_nodes l)) (program_grows l) (program_first l) p ps [] later in
    ap closed (limits_run l (program_lines (p ∷ ps) ++ later)) ∙ ap closed ran ∙ nodes_run names n ns ls gs l all_done all_last end_path
    ∙ ap (λ (t : Items). Some (head_members l (with_array input_table (codes "input") gs (with_array link_table (codes "link") ls (member (codes "node") (array (tables (node_table names) (n ∷ ns))) (member (codes "program") (array t) (tail_members l))))))) shape
