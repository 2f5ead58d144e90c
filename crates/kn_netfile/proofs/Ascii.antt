-- The text of a network is ASCII.
use Rattle.std.proofs.Common.{◌≡◌, ℕ, ◌^◌, ◌<◌, true, ltb, List, [], ◌∷◌, ◌++◌, codes, slice_index_or, refl, arith}
use Rattle.std.proofs.lemmas.Bool.{and_parts}
use Rattle.std.proofs.lemmas.Bool.Decides.{nat_tests}
use Rattle.std.proofs.lemmas.Str.{IsAscii-append, IsUtf8-from_ascii}
use Rattle.std.proofs.lemmas.Str.Ascii.{IsAscii-nil, IsAscii-cons}
use Rattle.std.proofs.lemmas.Fmt.{IsAscii-decimal}
use Rattle.std.specs.Str.{IsAscii, IsUtf8}
use Rattle.kn_plan.specs.Files.{IsName}
use Rattle.kn_netfile.proofs.Elements.{name_bytes}
use Rattle.std.specs.List.{list_all, flat_map, AllByRecursion}
use Rattle.std.specs.Fmt.{decimal}
use Rattle.hex.specs.Hex.{encode_lower}
use Rattle.kn_code.specs.Code.{Code}
use Rattle.kn_code.specs.Rows.{spelling}
use Rattle.kn_term.specs.Terms.{Given}
use Rattle.kn_plan.specs.Nets.{Plan, Link, Limits}
use Rattle.kn_netfile.specs.Tables.{is_name_byte}
use Rattle.kn_netfile.specs.Printing.{line_text, number_line, quoted, header_text, more_numbers, numbers_text, limits_text, program_text, node_text, link_text, input_text}
use Rattle.kn_netfile.proofs.Lines.{AllFit, hex_plain}
use Rattle.kn_netfile.proofs.Parsed.{FitLimits, FitsProgram, FitsNode, FitsLink, FitsInput, Fits, whole_text}

literal : (s : List ℕ) → list_all (λ c. ltb c 128) s ≡ true → IsAscii s
literal [] h = IsAscii-nil
literal (c ∷ cs) h =
    let (here, more) = and_parts (ltb c 128) (list_all (λ x. ltb x 128) cs) h in
    IsAscii-cons c cs (grind (arith, nat_tests)) (literal cs more)

ascii_name : (s : List ℕ) → list_all is_name_byte s ≡ true → IsAscii s
ascii_name [] h = IsAscii-nil
ascii_name (c ∷ cs) h =
    let (here, more) = and_parts (is_name_byte c) (list_all is_name_byte cs) h in
    IsAscii-cons c cs (grind (arith, nat_tests)) (ascii_name cs more)

ascii_line : (key value : List ℕ) → list_all (λ c. ltb c 128) key ≡ true → IsAscii value → IsAscii (line_text key value)
ascii_line key value k v = IsAscii-append key _ (literal key k) (IsAscii-append (codes " = ") _ (literal (codes " = ") refl) (IsAscii-append value (10 ∷ []) v (literal (10 ∷ []) refl)))

ascii_number : (key : List ℕ) (n : ℕ) → list_all (λ c. ltb c 128) key ≡ true → n < 2 ^ 63 → IsAscii (number_line key n)
ascii_number key n k h = ascii_line key (decimal n) k (IsAscii-decimal n (omega (arith, h)))

ascii_quoted : (key s : List ℕ) → list_all (λ c. ltb c 128) key ≡ true → list_all is_name_byte s ≡ true → IsAscii (line_text key (quoted s))
ascii_quoted key s k h = ascii_line key (quoted s) k (IsAscii-cons 34 (s ++ 34 ∷ []) (omega arith) (IsAscii-append s (34 ∷ []) (ascii_name s h) (literal (34 ∷ []) refl)))

ascii_more : (ns : List ℕ) → AllFit ns → IsAscii (more_numbers ns)
ascii_more [] h = literal (codes "]") refl
ascii_more (n ∷ ns) h = let fits : n < 2 ^ 63 = h.0 in IsAscii-append (codes ", ") _ (literal (codes ", ") refl) (IsAscii-append (decimal n) (more_numbers ns) (IsAscii-decimal n (omega arith)) (ascii_more ns h.1))

ascii_numbers : (ns : List ℕ) → AllFit ns → IsAscii (numbers_text ns)
ascii_numbers [] h = literal (codes "[]") refl
ascii_numbers (n ∷ ns) h = let fits : n < 2 ^ 63 = h.0 in IsAscii-append (codes "[") _ (literal (codes "[") refl) (IsAscii-append (decimal n) (more_numbers ns) (IsAscii-decimal n (omega arith)) (ascii_more ns h.1))

ascii_each : {A : Type 0} (P : A → Type 0) (text : A → List ℕ) → ((x : A) → P x → IsAscii (text x)) → (xs : List A) → AllByRecursion P xs → IsAscii (flat_map text xs)
ascii_each P text one [] h = IsAscii-nil
ascii_each P text one (x ∷ xs) h = IsAscii-append (text x) (flat_map text xs) (one x h.0) (ascii_each P text one xs h.1)

-- pieces one behind another
ascii_parts : (parts : List (List ℕ)) → AllByRecursion IsAscii parts → IsAscii (flat_map (λ part. part) parts)
ascii_parts parts h = ascii_each IsAscii (λ part. part) (λ part is. is) parts h

ascii_limits : (l : Limits) → FitLimits l → IsAscii (limits_text l)
unfolding limits_text
ascii_limits l h =
    ascii_parts
    (number_line (codes "version") 1 ∷ number_line (codes "ticks") l.ticks ∷ number_line (codes "fuel") l.fuel ∷ number_line (codes "conflicts") l.conflicts ∷ number_line (codes "states") l.states ∷ number_line (codes "dstates") l.dstates ∷ []) (
      ascii_number (codes "version") 1 refl (omega arith),
      (
        ascii_number (codes "ticks") l.ticks refl h.ticks,
        (
          ascii_number (codes "fuel") l.fuel refl h.fuel,
          (ascii_number (codes "conflicts") l.conflicts refl h.conflicts, (ascii_number (codes "states") l.states refl h.states, (ascii_number (codes "dstates") l.dstates refl h.dstates, tt))),
        ),
      ),
    )

ascii_program : (p : List ℕ × Code) → FitsProgram p → IsAscii (program_text p)
unfolding program_text
ascii_program p h =
    ascii_parts (header_text (codes "program") ∷ line_text (codes "name") (quoted p.0) ∷ line_text (codes "code") (quoted (encode_lower (spelling p.1))) ∷ [])
    (literal (header_text (codes "program")) refl, (ascii_quoted (codes "name") p.0 refl h.named, (ascii_quoted (codes "code") (encode_lower (spelling p.1)) refl (hex_plain (spelling p.1) h.bytes), tt)))

ascii_node : (names : List (List ℕ)) (p : Plan) → FitsNode names p → IsAscii (node_text names p)
unfolding node_text
ascii_node names p h =
    ascii_parts
    (header_text (codes "node") ∷ line_text (codes "program") (quoted (slice_index_or names p.program [])) ∷ number_line (codes "loss") p.loss ∷ number_line (codes "duplicate") p.duplicate ∷ line_text (codes "reboot") (numbers_text p.reboot) ∷ []) (
      literal (header_text (codes "node")) refl,
      (
        ascii_quoted (codes "program") (slice_index_or names p.program []) refl h.named,
        (
          ascii_number (codes "loss") p.loss refl h.loss,
          (ascii_number (codes "duplicate") p.duplicate refl h.duplicate, (ascii_line (codes "reboot") (numbers_text p.reboot) refl (ascii_numbers p.reboot h.reboot), tt)),
        ),
      ),
    )

ascii_link : (l : Link) → FitsLink l → IsAscii (link_text l)
unfolding link_text
ascii_link l h =
    ascii_parts (header_text (codes "link") ∷ number_line (codes "from") l.from ∷ number_line (codes "to") l.to ∷ number_line (codes "delay") l.delay ∷ [])
    (literal (header_text (codes "link")) refl, (ascii_number (codes "from") l.from refl h.from, (ascii_number (codes "to") l.to refl h.to, (ascii_number (codes "delay") l.delay refl h.delay, tt))))

ascii_input : (g : Given) → FitsInput g → IsAscii (input_text g)
unfolding input_text
ascii_input g h =
    ascii_parts (header_text (codes "input") ∷ number_line (codes "node") g.node ∷ number_line (codes "index") g.index ∷ number_line (codes "value") g.word ∷ [])
    (literal (header_text (codes "input")) refl, (ascii_number (codes "node") g.node refl h.node, (ascii_number (codes "index") g.index refl h.index, (ascii_number (codes "value") g.word refl h.word, tt))))

pub whole_ascii : (l : Limits) (ps : List (List ℕ × Code)) (names : List (List ℕ)) (ns : List Plan) (ls : List Link) (gs : List Given) → Fits l ps names ns ls gs → IsAscii (whole_text l ps names ns ls gs)
whole_ascii l ps names ns ls gs h =
    IsAscii-append (limits_text l) _ (ascii_limits l h.limits)
    (IsAscii-append (flat_map program_text ps) _ (ascii_each FitsProgram program_text ascii_program ps h.programs)
    (IsAscii-append (flat_map (node_text names) ns) _ (ascii_each (FitsNode names) (node_text names) (ascii_node names) ns h.nodes)
    (IsAscii-append (flat_map link_text ls) (flat_map input_text gs) (ascii_each FitsLink link_text ascii_link ls h.links) (ascii_each FitsInput input_text ascii_input gs h.inputs))))

-- a name is text
pub name_utf8 : (s : List ℕ) → IsName s → IsUtf8 s
name_utf8 s h = IsUtf8-from_ascii s (ascii_name s (name_bytes s h))
