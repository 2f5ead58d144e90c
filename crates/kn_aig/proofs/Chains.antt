-- Gates made of several and-gates, and the values of all nodes in turn.
use Rattle.std.proofs.Common.{◌≡◌, ℕ, zero, suc, ◌+◌, ◌<◌, Bool, true, false, not, ◌&&◌, List, [], ◌∷◌, ◌++◌, length, get_or, take, refl, ap, subst, ◌∙◌, arith}
use Rattle.std.specs.Prelude.{slice_get, Some, if◌then◌else◌}
use Rattle.std.proofs.lemmas.List.{take_more}
use Rattle.std.proofs.lemmas.Option.{slice_get-get_or}
use Rattle.kn_aig.specs.declared.gates.Edge.{Edge}
use Rattle.kn_aig.specs.declared.gates.AigNode.{AigNode}
use Rattle.kn_aig.specs.declared.gates.AigNode.TheVariants as nodes
use Rattle.kn_aig.specs.Circuits.{differ, flip, node_of, values_of, value_of, input_count, inputs_of, Fits, AllFit, Extends, Stands, IsAnd, IsWithin}
use Rattle.kn_aig.proofs.Values.{extends_twice, length_extends, values-push}
use Rattle.kn_aig.proofs.Longer.{value_of-extends}

-- an edge turned round
abbrev turned : Edge → Edge
turned e = record { node = e.node; inverted = not e.inverted }

flip_not : (i b : Bool) → flip (not i) b ≡ not (flip i b)
flip_not true true = refl
flip_not true false = refl
flip_not false b = refl

turned_value : (bits : List Bool) (ns : List AigNode) (e : Edge) → value_of bits ns (turned e) ≡ not (value_of bits ns e)
turned_value bits ns e = flip_not e.inverted (get_or (values_of bits ns) e.node false)

pub longer : (old new : List AigNode) (e : Edge) → Extends old new → Stands old e → Stands new e
longer old new e more stands = omega (arith, stands, length_extends old new more)

xor_bits : (a b : Bool) → (not (a && b) && not (not a && not b)) ≡ differ a b
xor_bits true true = refl
xor_bits true false = refl
xor_bits false true = refl
xor_bits false false = refl

ite_bits : (c a b : Bool) → not (not (c && a) && not (not c && b)) ≡ (if c then a else b)
ite_bits true true b = refl
ite_bits true false b = refl
ite_bits false a true = refl
ite_bits false a false = refl

-- the circuits along the gates of an exclusive or
pub xor_value : (a b c d : List AigNode) (x y both neither e : Edge) (bits : List Bool) → Stands a x → Stands a y → IsAnd a b x y both → IsAnd b c (turned x) (turned y) neither → IsAnd c d (turned both) (turned neither) e
    → value_of bits d e ≡ differ (value_of bits a x) (value_of bits a y)
xor_value a b c d x y both neither e bits sx sy first second third =
    let p = value_of bits a x in
    let q = value_of bits a y in
    let one : value_of bits c both ≡ (p && q) = value_of-extends bits b c both second.grows first.stands ∙ first.value bits in
    let nx : value_of bits b (turned x) ≡ not p = turned_value bits b x ∙ ap not (value_of-extends bits a b x first.grows sx) in
    let ny : value_of bits b (turned y) ≡ not q = turned_value bits b y ∙ ap not (value_of-extends bits a b y first.grows sy) in
    let two : value_of bits c neither ≡ (not p && not q) = second.value bits ∙ (ap (λ (r : Bool). r && value_of bits b (turned y)) nx ∙ ap (λ (r : Bool). not p && r) ny) in
    let no_one : value_of bits c (turned both) ≡ not (p && q) = turned_value bits c both ∙ ap not one in
    let no_two : value_of bits c (turned neither) ≡ not (not p && not q) = turned_value bits c neither ∙ ap not two in
    third.value bits ∙ (ap (λ (r : Bool). r && value_of bits c (turned neither)) no_one ∙ (ap (λ (r : Bool). not (p && q) && r) no_two ∙ xor_bits p q))

-- the circuits along the gates of a choice
pub ite_value : (a b c d : List AigNode) (k x y first second none : Edge) (bits : List Bool) → Stands a k → Stands a y → IsAnd a b k x first → IsAnd b c (turned k) y second → IsAnd c d (turned first) (turned second) none
    → value_of bits d (turned none) ≡ (if value_of bits a k then value_of bits a x else value_of bits a y)
ite_value a b c d k x y first second none bits sk sy one two three =
    let p = value_of bits a k in
    let q = value_of bits a x in
    let r = value_of bits a y in
    let f : value_of bits c first ≡ (p && q) = value_of-extends bits b c first two.grows one.stands ∙ one.value bits in
    let nk : value_of bits b (turned k) ≡ not p = turned_value bits b k ∙ ap not (value_of-extends bits a b k one.grows sk) in
    let ny : value_of bits b y ≡ r = value_of-extends bits a b y one.grows sy in
    let s : value_of bits c second ≡ (not p && r) = two.value bits ∙ (ap (λ (z : Bool). z && value_of bits b y) nk ∙ ap (λ (z : Bool). not p && z) ny) in
    let no_f : value_of bits c (turned first) ≡ not (p && q) = turned_value bits c first ∙ ap not f in
    let no_s : value_of bits c (turned second) ≡ not (not p && r) = turned_value bits c second ∙ ap not s in
    let n : value_of bits d none ≡ (not (p && q) && not (not p && r)) = three.value bits ∙ (ap (λ (z : Bool). z && value_of bits c (turned second)) no_f ∙ ap (λ (z : Bool). not (p && q) && z) no_s) in
    turned_value bits d none ∙ (ap not n ∙ ite_bits p q r)

-- a gate whose edges are given by equations
gate_of : (a b : List AigNode) (x y p q e : Edge) → p ≡ x → q ≡ y → IsAnd a b p q e → IsAnd a b x y e
gate_of a b x y p q e f g is = subst (λ (z : Edge). IsAnd a b x z e) g (subst (λ (z : Edge). IsAnd a b z q e) f is)

-- three gates make an exclusive or
pub xor_made : (self a b c d : List AigNode) (x y both neither e nx ny nb nn : Edge) → a ≡ self → Stands self x → Stands self y → nx ≡ turned x → ny ≡ turned y → nb ≡ turned both → nn ≡ turned neither
    → IsAnd a b x y both → IsAnd b c nx ny neither → IsAnd c d nb nn e → ((bits : List Bool) → value_of bits d e ≡ differ (value_of bits self x) (value_of bits self y)) × Extends self d
xor_made self a b c d x y both neither e nx ny nb nn is sx sy ex ey eb en first second third =
    let one : IsAnd self b x y both = subst (λ (s : List AigNode). IsAnd s b x y both) is first in
    let two = gate_of b c (turned x) (turned y) nx ny neither ex ey second in
    let three = gate_of c d (turned both) (turned neither) nb nn e eb en third in
    (λ bits. xor_value self b c d x y both neither e bits sx sy one two three, extends_twice self c d (extends_twice self b c one.grows two.grows) three.grows)

-- three gates make a choice
pub ite_made : (self a b c d : List AigNode) (k x y first second none nk nf ns e : Edge) → a ≡ self → Stands self k → Stands self y → nk ≡ turned k → nf ≡ turned first → ns ≡ turned second → e ≡ turned none
    → IsAnd a b k x first → IsAnd b c nk y second → IsAnd c d nf ns none → ((bits : List Bool) → value_of bits d e ≡ (if value_of bits self k then value_of bits self x else value_of bits self y)) × Extends self d
ite_made self a b c d k x y first second none nk nf ns e is sk sy ek ef es ee one two three =
    let one : IsAnd self b k x first = subst (λ (s : List AigNode). IsAnd s b k x first) is one in
    let two = gate_of b c (turned k) y nk y second ek refl two in
    let three = gate_of c d (turned first) (turned second) nf ns none ef es three in
    (λ bits. ap (value_of bits d) ee ∙ ite_value self b c d k x y first second none bits sk sy one two three, extends_twice self c d (extends_twice self b c one.grows two.grows) three.grows)

-- the values of one node more
pub values_more : (bits : List Bool) (front : AigNode) (ns : List AigNode) (i : ℕ) → i < length ns
    → values_of bits (front ∷ take (i + 1) ns) ≡ values_of bits (front ∷ take i ns) ++ node_of bits (values_of bits (front ∷ take i ns)) (get_or ns i nodes.Constant) ∷ []
values_more bits front ns i h =
    ap (λ (xs : List AigNode). values_of bits (front ∷ xs)) (take_more ns i nodes.Constant h) ∙ values-push bits (front ∷ take i ns) (get_or ns i nodes.Constant)

-- the inputs before one of them are fewer than all
pub inputs_before : (ns : List AigNode) (k i : ℕ) → slice_get ns k ≡ Some (nodes.Input i) → inputs_of (take k ns) < inputs_of ns
inputs_before [] k i at = absurd cc
inputs_before (n ∷ ns) zero i at =
    let is : n ≡ nodes.Input i = cc in
    omega (arith, ap input_count is)
inputs_before (n ∷ ns) (suc k) i at = omega (arith, inputs_before ns k i at)

-- a node of a circuit reads what stands before it
pub within : (ns : List AigNode) (i : ℕ) → AllFit (nodes.Constant ∷ ns) → i < length ns → IsWithin (i + 1) (inputs_of ns) (get_or ns i nodes.Constant)
within ns i all h =
    let at : slice_get ns i ≡ Some (get_or ns i nodes.Constant) = slice_get-get_or ns i nodes.Constant h in
    go (get_or ns i nodes.Constant) at (all (suc i) (get_or ns i nodes.Constant) at)
  where
    go : (n : AigNode) → slice_get ns i ≡ Some n → Fits (nodes.Constant ∷ ns) (suc i) n → IsWithin (i + 1) (inputs_of ns) n
    go nodes.Constant at f = omega arith
    go (nodes.Input j) at f = omega (arith, f, inputs_before ns i j at)
    go (nodes.And x y) at f = (omega (arith, f.1, f.2), omega (arith, f.2))
