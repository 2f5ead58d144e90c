-- A network is read from its text.
use Rattle.std.proofs.Common.{◌≡◌, ℕ, ◌≤◌, max, pos, Bool, true, false, leb, ltb, List, [], ◌∷◌, length, map, codes, slice_index_or, Option, Some, None, Ok, refl, sym, ap, subst, ap₂, ◌∙◌, arith}
use Rattle.std.specs.Prelude.{zip}
use Rattle.std.specs.Str.{IsUtf8}
use Rattle.std.specs.List.{AllByRecursion}
use Rattle.std.proofs.lemmas.Bool.Decides.{nat_tests}
use Rattle.std.proofs.lemmas.List.{length-map}
use Rattle.std.proofs.lemmas.Str.{is_utf8-from_IsUtf8, IsUtf8-from_ascii}
use Rattle.toml.specs.Data.{Data, integer, array, Members}
use Rattle.toml.specs.Parse.{parse_document}
use Rattle.kn_code.specs.Code.{Code, IsValid}
use Rattle.kn_term.specs.Terms.{Given}
use Rattle.kn_plan.specs.Nets.{Plan, Link, Limits}
use Rattle.kn_plan.specs.Valid.{IsPlan, IsLink}
use Rattle.kn_plan.specs.Files.{File, IsFile, IsName, AreDifferent, IsInput}
use Rattle.kn_netfile.specs.Faults.{out_of_range, wrong_version}
use Rattle.kn_netfile.specs.Keys.{all_listed, number_at, number_fault, number_or, tables_fault, tables_at}
use Rattle.kn_netfile.specs.Tables.{at_key, top_keys, elements, node_count, top_fault, programs_fault, nodes_fault, links_fault, inputs_fault, file_fault, limits_at, file_at, names_of, programs_of, plans_of, links_of, inputs_of}
use Rattle.kn_netfile.specs.Reading.{file_of, file_of_tables, most_bytes}
use Rattle.kn_netfile.specs.Printing.{file_text}
use Rattle.kn_netfile.proofs.Lines.{AllFit}
use Rattle.kn_netfile.proofs.Defined.{tables, program_table, node_table, link_table, input_table, whole_table}
use Rattle.kn_netfile.proofs.Parsed.{FitsProgram, FitsNode, FitsLink, FitsInput, Fits, whole_text, whole_parsed}
use Rattle.kn_netfile.proofs.Spelled.{spelled_bytes}
use Rattle.kn_netfile.proofs.Elements.{tables_back, all_at, name_bytes, IsNew, IsRight, programs_right, programs_back, names_back, nodes_right, plans_back, links_right, links_back, inputs_right, inputs_back}
use Rattle.kn_netfile.proofs.Ascii.{whole_ascii}

-- ---- what stands at the keys

-- the array of some tables, absent where there are none
abbrev array_or_none : {A : Type 0} → (A → Members) → List A → Option Data
array_or_none f [] = None
array_or_none f (x ∷ xs) = Some (array (tables f (x ∷ xs)))

record Spells (l : Limits) (ps : List (List ℕ × Code)) (names : List (List ℕ)) (ns : List Plan) (ls : List Link) (gs : List Given) (ms : Members) : Type 0 where
  listed : all_listed top_keys ms ≡ true
  version : at_key (codes "version") ms ≡ Some (integer (pos 1))
  ticks : at_key (codes "ticks") ms ≡ Some (integer (pos l.ticks))
  fuel : at_key (codes "fuel") ms ≡ Some (integer (pos l.fuel))
  conflicts : at_key (codes "conflicts") ms ≡ Some (integer (pos l.conflicts))
  states : at_key (codes "states") ms ≡ Some (integer (pos l.states))
  dstates : at_key (codes "dstates") ms ≡ Some (integer (pos l.dstates))
  programs : at_key (codes "program") ms ≡ Some (array (tables program_table ps))
  nodes : at_key (codes "node") ms ≡ Some (array (tables (node_table names) ns))
  links : at_key (codes "link") ms ≡ array_or_none link_table ls
  inputs : at_key (codes "input") ms ≡ array_or_none input_table gs

spells : (l : Limits) (ps : List (List ℕ × Code)) (names : List (List ℕ)) (ns : List Plan) (ls : List Link) (gs : List Given) → Spells l ps names ns ls gs (whole_table l ps names ns ls gs)
spells l ps names ns [] [] = record { listed = refl; version = refl; ticks = refl; fuel = refl; conflicts = refl; states = refl; dstates = refl; programs = refl; nodes = refl; links = refl; inputs = refl }
spells l ps names ns [] (g ∷ gs) = record { listed = refl; version = refl; ticks = refl; fuel = refl; conflicts = refl; states = refl; dstates = refl; programs = refl; nodes = refl; links = refl; inputs = refl }
spells l ps names ns (k ∷ ks) [] = record { listed = refl; version = refl; ticks = refl; fuel = refl; conflicts = refl; states = refl; dstates = refl; programs = refl; nodes = refl; links = refl; inputs = refl }
spells l ps names ns (k ∷ ks) (g ∷ gs) = record { listed = refl; version = refl; ticks = refl; fuel = refl; conflicts = refl; states = refl; dstates = refl; programs = refl; nodes = refl; links = refl; inputs = refl }

number_right : (needed : Bool) (number : ℕ) (place : List ℕ) (low high n : ℕ) (o : Option Data) → o ≡ Some (integer (pos n)) → low ≤ n → n ≤ high → number_fault needed number place (number_at low high o) ≡ None
number_right needed number place low high n o e least most =
    let a : leb low n ≡ true = grind (arith, nat_tests) in
    let b : leb n high ≡ true = grind (arith, nat_tests) in
    rw (e, a, b) refl

number_back : (default low high n : ℕ) (o : Option Data) → o ≡ Some (integer (pos n)) → low ≤ n → n ≤ high → number_or default (number_at low high o) ≡ n
number_back default low high n o e least most =
    let a : leb low n ≡ true = grind (arith, nat_tests) in
    let b : leb n high ≡ true = grind (arith, nat_tests) in
    rw (e, a, b) refl

array_right : {A : Type 0} (least most : ℕ) (place : List ℕ) (f : A → Members) (xs : List A) (o : Option Data) → o ≡ Some (array (tables f xs)) → least ≤ length xs → length xs ≤ most → tables_fault least most place o ≡ None
array_right least most place f xs o e some few =
    let a : ltb (length (map f xs)) least ≡ false = rw (length-map xs f) (grind (arith, nat_tests, some)) in
    let b : ltb most (length (map f xs)) ≡ false = rw (length-map xs f) (grind (arith, nat_tests, few)) in
    rw (e, tables_back f xs, a, b) refl

array_back : {A : Type 0} (f : A → Members) (xs : List A) (o : Option Data) → o ≡ Some (array (tables f xs)) → tables_at o ≡ map f xs
array_back f xs o e = rw (e, tables_back f xs) refl

or_none_right : {A : Type 0} (most : ℕ) (place : List ℕ) (f : A → Members) (xs : List A) (o : Option Data) → o ≡ array_or_none f xs → length xs ≤ most → tables_fault 0 most place o ≡ None
or_none_right most place f [] o e few = rw e refl
or_none_right most place f (x ∷ xs) o e few = array_right 0 most place f (x ∷ xs) o e (omega arith) few

or_none_back : {A : Type 0} (f : A → Members) (xs : List A) (o : Option Data) → o ≡ array_or_none f xs → tables_at o ≡ map f xs
or_none_back f [] o e = rw e refl
or_none_back f (x ∷ xs) o e = array_back f (x ∷ xs) o e

-- ---- a table that spells a file

abbrev programs_in : File → List (List ℕ × Code)
programs_in file = zip file.names file.network.programs

abbrev SpellsFile : File → Members → Type 0
SpellsFile file ms = Spells file.network.limits (programs_in file) file.names file.network.nodes file.network.links file.inputs ms

-- names and programs side by side
firsts : (names : List (List ℕ)) (programs : List Code) → length names ≡ length programs → map (λ p. p.0) (zip names programs) ≡ names
firsts [] programs h = refl
firsts (n ∷ ns) [] h = absurd (omega (arith, h))
firsts (n ∷ ns) (c ∷ cs) h = ap (λ (l : List (List ℕ)). n ∷ l) (firsts ns cs (omega (arith, h)))

seconds : (names : List (List ℕ)) (programs : List Code) → length names ≡ length programs → map (λ p. p.1) (zip names programs) ≡ programs
seconds [] [] h = refl
seconds [] (c ∷ cs) h = absurd (omega (arith, h))
seconds (n ∷ ns) [] h = absurd (omega (arith, h))
seconds (n ∷ ns) (c ∷ cs) h = ap (λ (l : List Code). c ∷ l) (seconds ns cs (omega (arith, h)))

zip_right : (names : List (List ℕ)) (programs : List Code) → AllByRecursion IsName names → AllByRecursion IsValid programs → AllByRecursion IsRight (zip names programs)
zip_right [] programs h v = tt
zip_right (n ∷ ns) [] h v = tt
zip_right (n ∷ ns) (c ∷ cs) h v = (record { named = h.0; valid = v.0 }, zip_right ns cs h.1 v.1)

all_new : (ps : List (List ℕ × Code)) → AllByRecursion (λ p. IsNew [] p.0) ps
all_new [] = tt
all_new (p ∷ ps) = (tt, all_new ps)

module _ (file : File) (h : IsFile file) (valid : AllByRecursion IsValid file.network.programs) (ms : Members) (s : SpellsFile file ms) where
  paired : map (λ p. p.0) (programs_in file) ≡ file.names
  paired = firsts file.names file.network.programs h.each

  right : AllByRecursion IsRight (programs_in file)
  right = zip_right file.names file.network.programs h.names valid

  as_many : length (programs_in file) ≡ length file.network.programs
  as_many = sym (length-map (programs_in file) (λ (p : List ℕ × Code). p.0)) ∙ ap length paired ∙ h.each

  program_elements : elements (codes "program") ms ≡ map program_table (programs_in file)
  program_elements = array_back program_table (programs_in file) (at_key (codes "program") ms) s.programs

  node_elements : elements (codes "node") ms ≡ map (node_table file.names) file.network.nodes
  node_elements = array_back (node_table file.names) file.network.nodes (at_key (codes "node") ms) s.nodes

  link_elements : elements (codes "link") ms ≡ map link_table file.network.links
  link_elements = or_none_back link_table file.network.links (at_key (codes "link") ms) s.links

  input_elements : elements (codes "input") ms ≡ map input_table file.inputs
  input_elements = or_none_back input_table file.inputs (at_key (codes "input") ms) s.inputs

  all_names : names_of (elements (codes "program") ms) ≡ file.names
  all_names = ap names_of program_elements ∙ names_back (programs_in file) ∙ paired

  count : node_count ms ≡ length file.network.nodes
  count = ap length node_elements ∙ length-map file.network.nodes (node_table file.names)

  each_node : max 1 (node_count ms) ≤ file.network.limits.states
  each_node = omega (arith, count, h.network.some_nodes, h.network.limits.each_node)

  top_right : top_fault ms ≡ None
  top_right =
      let l = h.network.limits in
      rw (
        s.listed,
        number_right true wrong_version (codes "version") 1 1 1 (at_key (codes "version") ms) s.version (omega arith) (omega arith),
        number_right true out_of_range (codes "ticks") 0 4096 file.network.limits.ticks (at_key (codes "ticks") ms) s.ticks (omega arith) l.ticks,
        number_right false out_of_range (codes "fuel") 1 4096 file.network.limits.fuel (at_key (codes "fuel") ms) s.fuel l.some_fuel l.fuel,
        number_right false out_of_range (codes "conflicts") 1 1048576 file.network.limits.conflicts (at_key (codes "conflicts") ms) s.conflicts l.some_conflicts l.conflicts,
        number_right false out_of_range (codes "states") (max 1 (node_count ms)) 16384 file.network.limits.states (at_key (codes "states") ms) s.states each_node l.states,
        number_right false out_of_range (codes "dstates") 1 16384 file.network.limits.dstates (at_key (codes "dstates") ms) s.dstates l.some_dstates l.dstates,
        array_right 1 64 (codes "program") program_table (programs_in file) (at_key (codes "program") ms) s.programs (omega (arith, as_many, h.network.some_programs)) (omega (arith, as_many, h.network.programs)),
        array_right 1 64 (codes "node") (node_table file.names) file.network.nodes (at_key (codes "node") ms) s.nodes h.network.some_nodes h.network.nodes,
        or_none_right 1024 (codes "link") link_table file.network.links (at_key (codes "link") ms) s.links h.network.links,
        or_none_right 65536 (codes "input") input_table file.inputs (at_key (codes "input") ms) s.inputs h.few,
      ) refl

  programs_none : programs_fault 0 [] (elements (codes "program") ms) ≡ None
  programs_none = ap (programs_fault 0 []) program_elements ∙ programs_right (programs_in file) 0 [] right (all_new (programs_in file)) (subst AreDifferent (sym paired) h.different)

  plans : AllByRecursion (IsPlan (length file.names)) file.network.nodes
  plans = subst (λ (n : ℕ). AllByRecursion (IsPlan n) file.network.nodes) (sym h.each) h.network.plans

  nodes_none : nodes_fault (names_of (elements (codes "program") ms)) 0 (elements (codes "node") ms) ≡ None
  nodes_none = ap₂ (λ (ns : List (List ℕ)) (ts : List Members). nodes_fault ns 0 ts) all_names node_elements ∙ nodes_right file.network.nodes 0 file.names h.different plans

  links_none : links_fault (node_count ms) 0 [] (elements (codes "link") ms) ≡ None
  links_none = ap₂ (λ (n : ℕ) (ts : List Members). links_fault n 0 [] ts) count link_elements ∙ links_right file.network.links (length file.network.nodes) 0 [] h.network.joins h.network.fan

  inputs_none : inputs_fault (node_count ms) 0 None (elements (codes "input") ms) ≡ None
  inputs_none = ap₂ (λ (n : ℕ) (ts : List Members). inputs_fault n 0 None ts) count input_elements ∙ inputs_right file.inputs (length file.network.nodes) 0 None h.inputs h.order tt

  no_fault : file_fault ms ≡ None
  no_fault = rw (top_right, programs_none, nodes_none, links_none, inputs_none) refl

  limits_back : limits_at ms ≡ file.network.limits
  limits_back =
      let l = h.network.limits in
      rw (
        number_back 0 0 4096 file.network.limits.ticks (at_key (codes "ticks") ms) s.ticks (omega arith) l.ticks,
        number_back 512 1 4096 file.network.limits.fuel (at_key (codes "fuel") ms) s.fuel l.some_fuel l.fuel,
        number_back 65536 1 1048576 file.network.limits.conflicts (at_key (codes "conflicts") ms) s.conflicts l.some_conflicts l.conflicts,
        number_back 4096 (max 1 (node_count ms)) 16384 file.network.limits.states (at_key (codes "states") ms) s.states each_node l.states,
        number_back 4096 1 16384 file.network.limits.dstates (at_key (codes "dstates") ms) s.dstates l.some_dstates l.dstates,
      ) refl

  all_programs : programs_of (elements (codes "program") ms) ≡ file.network.programs
  all_programs = ap programs_of program_elements ∙ programs_back (programs_in file) right ∙ seconds file.names file.network.programs h.each

  all_nodes : plans_of (names_of (elements (codes "program") ms)) (elements (codes "node") ms) ≡ file.network.nodes
  all_nodes = ap₂ plans_of all_names node_elements ∙ plans_back file.network.nodes file.names h.different plans

  all_links : links_of (node_count ms) (elements (codes "link") ms) ≡ file.network.links
  all_links = ap₂ links_of count link_elements ∙ links_back file.network.links (length file.network.nodes) h.network.joins

  all_inputs : inputs_of (node_count ms) (elements (codes "input") ms) ≡ file.inputs
  all_inputs = ap₂ inputs_of count input_elements ∙ inputs_back file.inputs (length file.network.nodes) h.inputs

  same_file : file_at ms ≡ file
  same_file = rw (all_programs, all_nodes, all_links, limits_back, all_names, all_inputs) refl

-- ---- the text is read as the table

fit_names : (names : List (List ℕ)) (programs : List Code) → AllByRecursion IsName names → AllByRecursion IsValid programs → AllByRecursion FitsProgram (zip names programs)
fit_names [] programs h v = tt
fit_names (n ∷ ns) [] h v = tt
fit_names (n ∷ ns) (c ∷ cs) h v = (record { named = name_bytes n h.0; bytes = spelled_bytes c v.0 }, fit_names ns cs h.1 v.1)

fit_ticks : (ts : List ℕ) → AllByRecursion (λ t. t ≤ 4095) ts → AllFit ts
fit_ticks [] h = tt
fit_ticks (t ∷ ts) h = (omega (arith, h.0), fit_ticks ts h.1)

fit_nodes : (ps : List Plan) (names : List (List ℕ)) → AllByRecursion IsName names → AllByRecursion (IsPlan (length names)) ps → AllByRecursion (FitsNode names) ps
fit_nodes [] names n h = tt
fit_nodes (p ∷ ps) names n h = (
  record {
    named = name_bytes (slice_index_or names p.program []) (all_at IsName names p.program [] n h.0.names);
    loss = omega (arith, h.0.loss);
    duplicate = omega (arith, h.0.duplicate);
    reboot = fit_ticks p.reboot h.0.ticks;
  },
  fit_nodes ps names n h.1,
)

fit_links : (ls : List Link) (nodes : ℕ) → nodes ≤ 64 → AllByRecursion (IsLink nodes) ls → AllByRecursion FitsLink ls
fit_links [] nodes few h = tt
fit_links (l ∷ ls) nodes few h = (record { from = omega (arith, few, h.0.from); to = omega (arith, few, h.0.to); delay = omega (arith, h.0.most) }, fit_links ls nodes few h.1)

fit_inputs : (gs : List Given) (nodes : ℕ) → nodes ≤ 64 → AllByRecursion (IsInput nodes) gs → AllByRecursion FitsInput gs
fit_inputs [] nodes few h = tt
fit_inputs (g ∷ gs) nodes few h = (record { node = omega (arith, few, h.0.node); index = omega (arith, h.0.index); word = omega (arith, h.0.word) }, fit_inputs gs nodes few h.1)

fits : (file : File) → IsFile file → AllByRecursion IsValid file.network.programs → Fits file.network.limits (programs_in file) file.names file.network.nodes file.network.links file.inputs
fits file h valid =
    let l = h.network.limits in
    record {
      limits = record { ticks = omega (arith, l.ticks); fuel = omega (arith, l.fuel); conflicts = omega (arith, l.conflicts); states = omega (arith, l.states); dstates = omega (arith, l.dstates) };
      programs = fit_names file.names file.network.programs h.names valid;
      nodes = fit_nodes file.network.nodes file.names h.names (plans file h valid (whole_table file.network.limits (programs_in file) file.names file.network.nodes file.network.links file.inputs) (spells file.network.limits (programs_in file) file.names file.network.nodes file.network.links file.inputs));
      links = fit_links file.network.links (length file.network.nodes) h.network.nodes h.network.joins;
      inputs = fit_inputs file.inputs (length file.network.nodes) h.network.nodes h.inputs;
    }

parsed : (l : Limits) (ps : List (List ℕ × Code)) (names : List (List ℕ)) (ns : List Plan) (ls : List Link) (gs : List Given) → 1 ≤ length ps → 1 ≤ length ns → Fits l ps names ns ls gs
    → parse_document (whole_text l ps names ns ls gs) ≡ Some (whole_table l ps names ns ls gs)
parsed l [] names ns ls gs some_programs some_nodes h = absurd (omega (arith, some_programs))
parsed l (p ∷ ps) names [] ls gs some_programs some_nodes h = absurd (omega (arith, some_nodes))
parsed l (p ∷ ps) names (n ∷ ns) ls gs some_programs some_nodes h = whole_parsed l p ps names n ns ls gs h

of_table : (bytes : List ℕ) (ms : Members) (file : File) → length bytes ≤ most_bytes → IsUtf8 bytes → parse_document bytes ≡ Some ms → file_fault ms ≡ None → file_at ms ≡ file → file_of bytes ≡ Ok file
unfolding file_of file_of_tables
of_table bytes ms file short text is none same =
    let fits : ltb most_bytes (length bytes) ≡ false = grind (arith, nat_tests, short) in
    rw (fits, is_utf8-from_IsUtf8 bytes text, is, none, same) refl

pub text_back : (file : File) → IsFile file → AllByRecursion IsValid file.network.programs → length (file_text file) ≤ most_bytes → file_of (file_text file) ≡ Ok file
unfolding file_text
text_back file h valid short =
    let l = file.network.limits in
    let ps = programs_in file in
    let ms = whole_table l ps file.names file.network.nodes file.network.links file.inputs in
    let text = whole_text l ps file.names file.network.nodes file.network.links file.inputs in
    let s = spells l ps file.names file.network.nodes file.network.links file.inputs in
    let f = fits file h valid in
    let some : 1 ≤ length ps = omega (arith, as_many file h valid ms s, h.network.some_programs) in
    of_table text ms file short (IsUtf8-from_ascii text (whole_ascii l ps file.names file.network.nodes file.network.links file.inputs f))
    (parsed l ps file.names file.network.nodes file.network.links file.inputs some h.network.some_nodes f) (no_fault file h valid ms s) (same_file file h valid ms s)
