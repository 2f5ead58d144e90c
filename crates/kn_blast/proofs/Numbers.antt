-- The numbers that edges spell: one more edge, and the same edges in a longer circuit.
use Rattle.std.proofs.Common.{◌≡◌, ℕ, zero, suc, ◌+◌, ◌*◌, ◌^◌, ◌<◌, ◌≤◌, Bool, true, false, List, [], ◌∷◌, ◌++◌, length, take, get_or, refl, ap, sym, subst, ◌∙◌, arith, length-append}
use Rattle.std.proofs.Math.Nat.{pow-suc}
use Rattle.std.proofs.lemmas.List.{take_more, length-take-le}
use Rattle.std.proofs.lemmas.Option.{slice_get-get_or, slice_get_within}
use Rattle.kn_word.specs.Words.{one_if}
use Rattle.kn_aig.specs.declared.gates.Edge.{Edge}
use Rattle.kn_aig.specs.declared.gates.AigNode.{AigNode}
use Rattle.kn_aig.specs.declared.gates.AigNode.TheVariants as nodes
use Rattle.kn_aig.specs.Circuits.{flip, value_of, Stands, IsCircuit}
use Rattle.kn_aig.proofs.Ands.{constant_value}
use Rattle.kn_blast.specs.Spelling.{number, weight, AllStand, Grows, Spells, Has, Carries}
use Rattle.kn_blast.proofs.Growing.{edge_kept, stands_kept}

pub double : (i : ℕ) → 2 ^ (i + 1) ≡ 2 ^ i * 2
double i = ap (λ (k : ℕ). 2 ^ k) (omega arith) ∙ pow-suc 2 i

pub weight-suc : (b : Bool) (i : ℕ) → weight b (i + 1) ≡ 2 * weight b i
weight-suc true i = omega (arith, double i)
weight-suc false i = refl

pub weight-zero : (b : Bool) → weight b 0 ≡ one_if b
weight-zero true = refl
weight-zero false = refl

pub number-push : (bits : List Bool) (ns : List AigNode) (es : List Edge) (e : Edge) → number bits ns (es ++ e ∷ []) ≡ number bits ns es + weight (value_of bits ns e) (length es)
number-push bits ns [] e = omega (arith, weight-zero (value_of bits ns e))
number-push bits ns (x ∷ es) e =
    let next : weight (value_of bits ns e) (suc (length es)) ≡ 2 * weight (value_of bits ns e) (length es) = ap (weight (value_of bits ns e)) (omega arith) ∙ weight-suc (value_of bits ns e) (length es) in
    omega (arith, number-push bits ns es e, next)

pub one_if-lt : (b : Bool) → one_if b < 2
one_if-lt true = omega arith
one_if-lt false = omega arith

pub number-lt : (bits : List Bool) (ns : List AigNode) (es : List Edge) → number bits ns es < 2 ^ length es
number-lt bits ns [] = omega arith
number-lt bits ns (e ∷ es) = omega (arith, number-lt bits ns es, one_if-lt (value_of bits ns e), pow-suc 2 (length es))

pub AllStand-rest : (ns : List AigNode) (e : Edge) (es : List Edge) → AllStand ns (e ∷ es) → AllStand ns es
AllStand-rest ns e es all place f is = all (suc place) f is

pub AllStand-at : (ns : List AigNode) (es : List Edge) (i : ℕ) (d : Edge) → AllStand ns es → i < length es → Stands ns (get_or es i d)
AllStand-at ns es i d all h = all i (get_or es i d) (slice_get-get_or es i d h)

pub AllStand-kept : (a b : List AigNode) (es : List Edge) → Grows a b → AllStand a es → AllStand b es
AllStand-kept a b es g all place e is = stands_kept a b e g (all place e is)

pub AllStand-none : (ns : List AigNode) → AllStand ns []
AllStand-none ns place e is = absurd (omega (arith, slice_get_within [] place e is))

pub AllStand-first : (ns : List AigNode) (e : Edge) (es : List Edge) → Stands ns e → AllStand ns es → AllStand ns (e ∷ es)
AllStand-first ns e es s all zero f is = let same : e ≡ f = cc in subst (Stands ns) same s
AllStand-first ns e es s all (suc place) f is = all place f is

pub AllStand-push : (ns : List AigNode) (es : List Edge) (e : Edge) → AllStand ns es → Stands ns e → AllStand ns (es ++ e ∷ [])
AllStand-push ns [] e all s = AllStand-first ns e [] s all
AllStand-push ns (x ∷ es) e all s = AllStand-first ns x (es ++ e ∷ []) (all zero x refl) (AllStand-push ns es e (AllStand-rest ns x es all) s)

pub number-kept : (bits : List Bool) (a b : List AigNode) (es : List Edge) → Grows a b → AllStand a es → number bits b es ≡ number bits a es
number-kept bits a b [] g all = refl
number-kept bits a b (e ∷ es) g all =
    omega (arith, ap one_if (edge_kept bits a b e g (all zero e refl)), number-kept bits a b es g (AllStand-rest a e es all))

-- one more edge of a list
pub number-more : (bits : List Bool) (ns : List AigNode) (es : List Edge) (i : ℕ) (d : Edge) → i < length es
    → number bits ns (take (i + 1) es) ≡ number bits ns (take i es) + weight (value_of bits ns (get_or es i d)) i
number-more bits ns es i d h =
    ap (number bits ns) (take_more es i d h)
    ∙ (number-push bits ns (take i es) (get_or es i d) ∙ ap (λ (k : ℕ). number bits ns (take i es) + weight (value_of bits ns (get_or es i d)) k) (length-take-le i es (omega (arith, h))))

-- the first edges spell a number below their power
pub number-front : (bits : List Bool) (ns : List AigNode) (es : List Edge) (i : ℕ) → i ≤ length es → number bits ns (take i es) < 2 ^ i
number-front bits ns es i h = subst (λ (k : ℕ). number bits ns (take i es) < 2 ^ k) (length-take-le i es h) (number-lt bits ns (take i es))

pub spells_kept : (a b : List AigNode) (es : List Edge) (width : ℕ) (m : List Bool → ℕ) → Grows a b → Spells a es width m → Spells b es width m
spells_kept a b es width m g s = record {
  stand = AllStand-kept a b es g s.stand;
  many = s.many;
  value = λ bits. number-kept bits a b es g s.stand ∙ s.value bits;
}

pub has_kept : (a b : List AigNode) (e : Edge) (m : List Bool → Bool) → Grows a b → Has a e m → Has b e m
has_kept a b e m g h = record { stands = stands_kept a b e g h.stands; value = λ bits. edge_kept bits a b e g h.stands ∙ h.value bits }

pub spells_is : (ns : List AigNode) (es : List Edge) (width : ℕ) (m n : List Bool → ℕ) → Spells ns es width m → ((bits : List Bool) → m bits ≡ n bits) → Spells ns es width n
spells_is ns es width m n s e = record { stand = s.stand; many = s.many; value = λ bits. s.value bits ∙ e bits }

pub has_is : (ns : List AigNode) (e : Edge) (m n : List Bool → Bool) → Has ns e m → ((bits : List Bool) → m bits ≡ n bits) → Has ns e n
has_is ns e m n h s = record { stands = h.stands; value = λ bits. h.value bits ∙ s bits }

-- the constant
pub constant_has : (ns : List AigNode) (b : Bool) → IsCircuit ns → Has ns (record { node = 0; inverted = b }) (λ bits. b)
constant_has [] b is = absurd (omega (arith, slice_get_within [] 0 nodes.Constant is.0))
constant_has (n ∷ ns) b is =
    let first : n ≡ nodes.Constant = let h = is.0 in cc in
    record {
      stands = omega arith;
      value = λ bits. ap (λ (m : AigNode). value_of bits (m ∷ ns) (record { node = 0; inverted = b })) first ∙ (ap (flip b) (constant_value bits ns) ∙ plain b);
    }
  where
    plain : (b : Bool) → flip b false ≡ b
    plain true = refl
    plain false = refl

-- one more edge behind those that spell a number
pub spells_push : (a b : List AigNode) (es : List Edge) (e : Edge) (i : ℕ) (m n : List Bool → ℕ) → Grows a b → Spells a es i m → Stands b e
    → ((bits : List Bool) → m bits + weight (value_of bits b e) i ≡ n bits) → Spells b (es ++ e ∷ []) (i + 1) n
spells_push a b es e i m n g s se step = record {
  stand = AllStand-push b es e (AllStand-kept a b es g s.stand) se;
  many = omega (arith, length-append es (e ∷ []), s.many);
  value = λ bits.
      number-push bits b es e
      ∙ (ap (λ (k : ℕ). number bits b es + weight (value_of bits b e) k) s.many
      ∙ (ap (λ (k : ℕ). k + weight (value_of bits b e) i) (number-kept bits a b es g s.stand ∙ s.value bits) ∙ step bits));
}

-- what a word was, where its edge is read in a longer circuit
pub more_kept : (bits : List Bool) (a b : List AigNode) (es : List Edge) (i : ℕ) (d : Edge) → Grows a b → AllStand a es → i < length es
    → number bits a (take (i + 1) es) ≡ number bits a (take i es) + weight (value_of bits b (get_or es i d)) i
more_kept bits a b es i d g all h =
    number-more bits a es i d h ∙ ap (λ (v : Bool). number bits a (take i es) + weight v i) (sym (edge_kept bits a b (get_or es i d) g (AllStand-at a es i d all h)))

-- the same edges
pub spells_items : (ns : List AigNode) (out es : List Edge) (width : ℕ) (m : List Bool → ℕ) → out ≡ es → Spells ns es width m → Spells ns out width m
spells_items ns out es width m is s = record {
  stand = subst (AllStand ns) (sym is) s.stand;
  many = ap length is ∙ s.many;
  value = λ bits. ap (number bits ns) is ∙ s.value bits;
}

pub carries_items : (ns : List AigNode) (out es : List Edge) (carry : Edge) (width : ℕ) (m : List Bool → ℕ) → out ≡ es → Carries ns es carry width m → Carries ns out carry width m
carries_items ns out es carry width m is s = record {
  stand = subst (AllStand ns) (sym is) s.stand;
  many = ap length is ∙ s.many;
  stands = s.stands;
  value = λ bits. ap (λ (l : List Edge). number bits ns l + weight (value_of bits ns carry) width) is ∙ s.value bits;
}
