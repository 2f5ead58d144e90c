-- The values of a circuit's nodes, in turn, and what a circuit that became longer keeps of them.
use Rattle.std.proofs.Common.{◌≡◌, ℕ, ◌+◌, ◌<◌, ◌≤◌, Bool, false, List, [], ◌∷◌, ◌++◌, length, get_or, take, drop, refl, ap, sym, ◌∙◌, arith, length-append, append-nil, append_assoc}
use Rattle.std.proofs.lemmas.List.{get_or_append_left, get_or_push, length-take, take-append-drop, drop_more}
use Rattle.kn_aig.specs.declared.gates.AigNode.{AigNode}
use Rattle.kn_aig.specs.Circuits.{node_of, values_behind, values_of, Extends}

-- a circuit begins with itself
pub extends_same : (ns : List AigNode) → Extends ns ns
extends_same ns = ([], sym (append-nil ns))

-- a circuit that became longer twice became longer
pub extends_twice : (a b c : List AigNode) → Extends a b → Extends b c → Extends a c
extends_twice a b c f g = (f.0 ++ g.0, g.1 ∙ (ap (λ (ns : List AigNode). ns ++ g.0) f.1 ∙ append_assoc a f.0 g.0))

-- a longer circuit has at least as many nodes
pub length_extends : (old new : List AigNode) → Extends old new → length old ≤ length new
length_extends old new e = omega (arith, ap length e.1, length-append old e.0)

length_behind : (bits vs : List Bool) (ns : List AigNode) → length (values_behind bits vs ns) ≡ length ns
length_behind bits vs [] = refl
length_behind bits vs (n ∷ ns) = omega (arith, length_behind bits (vs ++ node_of bits vs n ∷ []) ns)

behind-append : (bits vs : List Bool) (xs ys : List AigNode) → values_behind bits vs (xs ++ ys) ≡ values_behind bits vs xs ++ values_behind bits (vs ++ values_behind bits vs xs) ys
behind-append bits vs [] ys = ap (λ (ws : List Bool). values_behind bits ws ys) (sym (append-nil vs))
behind-append bits vs (x ∷ xs) ys =
    let next = vs ++ node_of bits vs x ∷ [] in
    ap (λ (ws : List Bool). node_of bits vs x ∷ ws) (behind-append bits next xs ys ∙ ap (λ (ws : List Bool). values_behind bits next xs ++ values_behind bits ws ys) (append_assoc vs (node_of bits vs x ∷ []) (values_behind bits next xs)))

-- the values of one node more
pub values-push : (bits : List Bool) (ns : List AigNode) (n : AigNode) → values_of bits (ns ++ n ∷ []) ≡ values_of bits ns ++ node_of bits (values_of bits ns) n ∷ []
values-push bits ns n = behind-append bits [] ns (n ∷ [])

value_at-append : (bits : List Bool) (old more : List AigNode) (place : ℕ) → place < length old → get_or (values_of bits (old ++ more)) place false ≡ get_or (values_of bits old) place false
value_at-append bits old more place h =
    let inside : place < length (values_of bits old) = omega (arith, length_behind bits [] old) in
    ap (λ (vs : List Bool). get_or vs place false) (behind-append bits [] old more) ∙ get_or_append_left (values_of bits old) (values_behind bits (values_of bits old) more) false place inside

-- later nodes leave the values of earlier ones
pub value_at-extends : (bits : List Bool) (old new : List AigNode) (place : ℕ) → Extends old new → place < length old → get_or (values_of bits new) place false ≡ get_or (values_of bits old) place false
value_at-extends bits old new place e h = ap (λ (ns : List AigNode). get_or (values_of bits ns) place false) e.1 ∙ value_at-append bits old e.0 place h

-- the value of a node at the end
pub value_at-push : (bits : List Bool) (old new : List AigNode) (n : AigNode) (place : ℕ) → new ≡ old ++ n ∷ [] → length old ≡ place → get_or (values_of bits new) place false ≡ node_of bits (values_of bits old) n
value_at-push bits old new n place e h =
    let same : length (values_of bits old) ≡ place = omega (arith, length_behind bits [] old) in
    ap (λ (ns : List AigNode). get_or (values_of bits ns) place false) e
    ∙ (ap (λ (vs : List Bool). get_or vs place false) (values-push bits old n) ∙ get_or_push (values_of bits old) (node_of bits (values_of bits old) n) false place same)

-- the value of any node, by those of the nodes before it
pub value_at : (bits : List Bool) (ns : List AigNode) (place : ℕ) (d : AigNode) → place < length ns → get_or (values_of bits ns) place false ≡ node_of bits (values_of bits (take place ns)) (get_or ns place d)
value_at bits ns place d h =
    let front = take place ns in
    let n = get_or ns place d in
    let count : length front ≡ place = omega (arith, length-take place ns) in
    let split : ns ≡ (front ++ n ∷ []) ++ drop (place + 1) ns = sym (take-append-drop place ns) ∙ (ap (λ (ms : List AigNode). front ++ ms) (drop_more ns place d h) ∙ sym (append_assoc front (n ∷ []) (drop (place + 1) ns))) in
    let inside : place < length (front ++ n ∷ []) = omega (arith, length-append front (n ∷ []), count) in
    value_at-extends bits (front ++ n ∷ []) ns place (drop (place + 1) ns, split) inside ∙ value_at-push bits front (front ++ n ∷ []) n place refl count

-- the values of the nodes before a place
pub value_before : (bits : List Bool) (ns : List AigNode) (place earlier : ℕ) → earlier < place → place ≤ length ns → get_or (values_of bits (take place ns)) earlier false ≡ get_or (values_of bits ns) earlier false
value_before bits ns place earlier h within =
    let inside : earlier < length (take place ns) = omega (arith, length-take place ns) in
    sym (value_at-extends bits (take place ns) ns earlier (drop place ns, sym (take-append-drop place ns)) inside)
