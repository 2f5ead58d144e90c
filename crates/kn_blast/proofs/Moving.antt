-- Words that are moved place by place.
use Rattle.std.proofs.Common.{◌≡◌, ℕ, zero, suc, ◌+◌, ◌-◌, ◌*◌, ◌/◌, ◌%◌, ◌^◌, ◌<◌, ◌≤◌, Bool, true, false, List, [], ◌∷◌, ◌++◌, length, take, drop, get_or, refl, ap, sym, subst, ◌∙◌, arith, length-append, replicate, not}
use Rattle.std.specs.Prelude.{min, nat_eq, if◌then◌else◌}
use Rattle.std.proofs.Math.Nat.{div-div-eq-div-mul, div-le_self}
use Rattle.std.proofs.lemmas.Nat.{pow-add, mul-mod_second}
use Rattle.std.proofs.Math.Pow.{pow-lt}
use Rattle.std.proofs.lemmas.List.{take_all, length-take-le, length-drop}
use Rattle.kn_word.specs.Words.{one_if}
use Rattle.kn_aig.specs.declared.gates.Edge.{Edge}
use Rattle.kn_aig.specs.declared.gates.AigNode.{AigNode}
use Rattle.kn_aig.specs.Circuits.{value_of, Stands}
use Rattle.kn_blast.specs.Spelling.{number, weight, AllStand, Grows, Spells, Has}
use Rattle.kn_blast.specs.declared.shifts.Way.{Way}
use Rattle.kn_blast.specs.declared.shifts.Way.TheVariants as ways
use Rattle.kn_blast.specs.Shifting.{comes_in, moved_word}
use Rattle.kn_blast.proofs.Numbers.{number-more, number-push, number-lt, number-front, AllStand-rest, AllStand-first, AllStand-push, spells_is, more_kept}
use Rattle.kn_blast.proofs.Growing.{edge_kept}

-- dividing twice
div_twice : (x p q : ℕ) → x / 2 ^ p / 2 ^ q ≡ x / 2 ^ (p + q)
div_twice x p q = div-div-eq-div-mul x (2 ^ p) (2 ^ q) ∙ ap (λ (z : ℕ). x / z) (sym (pow-add 2 p q))

-- moved by no place
pub moved_none : (way : Way) (b : Bool) (x : ℕ) → x < 65536 → moved_word way b 0 x ≡ x
moved_none ways.Left b x h = omega (arith, h)
moved_none ways.Right true x h = omega (arith, h)
moved_none ways.Right false x h = omega (arith, h)

-- moved twice
pub moved_twice : (way : Way) (b : Bool) (p q x : ℕ) → x < 65536 → moved_word way b q (moved_word way b p x) ≡ moved_word way b (p + q) x
moved_twice ways.Left b p q x h =
    let first : (x * 2 ^ p % 65536) * 2 ^ q ≡ 2 ^ q * (x * 2 ^ p % 65536) = omega arith in
    let all : 2 ^ q * (x * 2 ^ p) ≡ x * (2 ^ p * 2 ^ q) = omega arith in
    ap (λ (z : ℕ). z % 65536) first ∙ (mul-mod_second (2 ^ q) (x * 2 ^ p) 65536 ∙ (ap (λ (z : ℕ). z % 65536) all ∙ ap (λ (z : ℕ). x * z % 65536) (sym (pow-add 2 p q))))
moved_twice ways.Right false p q x h = div_twice x p q
moved_twice ways.Right true p q x h =
    let y = (65535 - x) / 2 ^ p in
    let small : y ≤ 65535 = omega (arith, div-le_self (65535 - x) (2 ^ p)) in
    let back : 65535 - (65535 - y) ≡ y = omega (arith, small) in
    ap (λ (z : ℕ). 65535 - z / 2 ^ q) back ∙ ap (λ (z : ℕ). 65535 - z) (div_twice (65535 - x) p q)

-- one place up
moved_up : (x t : ℕ) (b : Bool) → x ≡ t + weight b 15 → t < 2 ^ 15 → one_if false + 2 * t ≡ x * 2 ^ 1 % 65536
moved_up x t true e h = omega (arith, e, h)
moved_up x t false e h = omega (arith, e, h)

-- one place down
moved_down : (r : ℕ) (b f : Bool) → r < 2 ^ 15 → r + weight f 15 ≡ moved_word ways.Right f 1 (one_if b + 2 * r)
moved_down r true true h = omega (arith, h)
moved_down r true false h = omega (arith, h)
moved_down r false true h = omega (arith, h)
moved_down r false false h = omega (arith, h)

pub AllStand-take : (ns : List AigNode) (es : List Edge) (i : ℕ) → AllStand ns es → AllStand ns (take i es)
AllStand-take ns [] i all = subst (AllStand ns) (sym (take_all i [] (omega arith))) all
AllStand-take ns (e ∷ es) zero all = λ place f is. absurd cc
AllStand-take ns (e ∷ es) (suc i) all = AllStand-first ns e (take i es) (all zero e refl) (AllStand-take ns es i (AllStand-rest ns e es all))

pub spells_up : (ns : List AigNode) (xs word : List Edge) (e above : Edge) → AllStand ns xs → length xs ≡ 16 → Has ns e (λ bits. false)
    → word ≡ e ∷ take 15 xs → Spells ns word 16 (λ bits. moved_word ways.Left (value_of bits ns above) 1 (number bits ns xs))
spells_up ns xs word e above all many has is = record {
  stand = subst (AllStand ns) (sym is) (AllStand-first ns e (take 15 xs) has.stands (AllStand-take ns xs 15 all));
  many = ap length is ∙ omega (arith, length-take-le 15 xs (omega (arith, many)));
  value = λ bits.
      let b = value_of bits ns (get_or xs 15 e) in
      let whole : number bits ns xs ≡ number bits ns (take 15 xs) + weight b 15 = ap (number bits ns) (sym (take_all 16 xs (omega (arith, many)))) ∙ number-more bits ns xs 15 e (omega (arith, many)) in
      ap (number bits ns) is ∙ (ap (λ (v : Bool). one_if v + 2 * number bits ns (take 15 xs)) (has.value bits) ∙ moved_up (number bits ns xs) (number bits ns (take 15 xs)) b whole (number-front bits ns xs 15 (omega (arith, many))));
}

pub spells_down : (ns : List AigNode) (xs word : List Edge) (e above : Edge) (k : ℕ) → 15 ≤ k → AllStand ns xs → length xs ≡ 16 → Has ns e (λ bits. value_of bits ns above)
    → word ≡ take k (drop 1 xs) ++ e ∷ [] → Spells ns word 16 (λ bits. moved_word ways.Right (value_of bits ns above) 1 (number bits ns xs))
spells_down ns [] word e above k enough all many has is = absurd (omega (arith, many))
spells_down ns (x ∷ xs) word e above k enough all many has seen =
    let is : word ≡ xs ++ e ∷ [] = seen ∙ ap (λ (l : List Edge). l ++ e ∷ []) (take_all k xs (omega (arith, many, enough))) in
    record {
      stand = subst (AllStand ns) (sym is) (AllStand-push ns xs e (AllStand-rest ns x xs all) has.stands);
      many = ap length is ∙ omega (arith, length-append xs (e ∷ []), many);
      value = λ bits.
          let f = value_of bits ns above in
          let count : length xs ≡ 15 = omega (arith, many) in
          let below : number bits ns xs < 2 ^ 15 = subst (λ (k : ℕ). number bits ns xs < 2 ^ k) count (number-lt bits ns xs) in
          ap (number bits ns) is
          ∙ (number-push bits ns xs e
          ∙ (ap (λ (k : ℕ). number bits ns xs + weight (value_of bits ns e) k) count
          ∙ (ap (λ (v : Bool). number bits ns xs + weight v 15) (has.value bits) ∙ moved_down (number bits ns xs) (value_of bits ns x) f below)));
    }

-- one place more
pub spells_moved : (ns : List AigNode) (xs word seen out : List Edge) (way : Way) (above : Edge) (i : ℕ) → length xs ≡ 16 → seen ≡ word
    → Spells ns word 16 (λ bits. moved_word way (value_of bits ns above) i (number bits ns xs))
    → Spells ns out 16 (λ bits. moved_word way (value_of bits ns above) 1 (number bits ns seen))
    → Spells ns out 16 (λ bits. moved_word way (value_of bits ns above) (i + 1) (number bits ns xs))
spells_moved ns xs word seen out way above i many is so_far one = record {
  stand = one.stand;
  many = one.many;
  value = λ bits.
      let below : number bits ns xs < 65536 = subst (λ (k : ℕ). number bits ns xs < 2 ^ k) many (number-lt bits ns xs) in
      one.value bits ∙ (ap (moved_word way (value_of bits ns above) 1) (ap (number bits ns) is ∙ so_far.value bits) ∙ moved_twice way (value_of bits ns above) i 1 (number bits ns xs) below);
}

pub spells_still : (ns : List AigNode) (xs word : List Edge) (way : Way) (above : Edge) → AllStand ns xs → length xs ≡ 16 → word ≡ xs
    → Spells ns word 16 (λ bits. moved_word way (value_of bits ns above) 0 (number bits ns xs))
spells_still ns xs word way above all many is = record {
  stand = subst (AllStand ns) (sym is) all;
  many = ap length is ∙ many;
  value = λ bits.
      let below : number bits ns xs < 65536 = subst (λ (k : ℕ). number bits ns xs < 2 ^ k) many (number-lt bits ns xs) in
      ap (number bits ns) is ∙ sym (moved_none way (value_of bits ns above) (number bits ns xs) below);
}

fills : (ns : List AigNode) (e : Edge) (bits : List Bool) → number bits ns (replicate 16 e) ≡ (if value_of bits ns e then 65535 else 0)
fills ns e bits = plain (value_of bits ns e) refl where
  plain : (b : Bool) → value_of bits ns e ≡ b → number bits ns (replicate 16 e) ≡ (if b then 65535 else 0)
  plain true is = rw is refl
  plain false is = rw is refl

pub AllStand-replicate : (ns : List AigNode) (count : ℕ) (e : Edge) → Stands ns e → AllStand ns (replicate count e)
AllStand-replicate ns zero e s = λ place f is. absurd cc
AllStand-replicate ns (suc count) e s = AllStand-first ns e (replicate count e) s (AllStand-replicate ns count e s)

pub spells_filled : (ns : List AigNode) (word : List Edge) (e : Edge) → Stands ns e → word ≡ replicate 16 e → Spells ns word 16 (λ bits. if value_of bits ns e then 65535 else 0)
spells_filled ns word e s is = record {
  stand = subst (AllStand ns) (sym is) (AllStand-replicate ns 16 e s);
  many = ap length is;
  value = λ bits. ap (number bits ns) is ∙ fills ns e bits;
}

-- what a choice spells, where its words were seen through slices
pub choice_seen : (b d : List AigNode) (out fs ws further word : List Edge) (v : List Bool → Bool) (width : ℕ) → fs ≡ further → ws ≡ word → length further ≡ width
    → Spells d out (length fs) (λ bits. if v bits then number bits b fs else number bits b ws) → Spells d out width (λ bits. if v bits then number bits b further else number bits b word)
choice_seen b d out fs ws further word v width ef ew many s = record {
  stand = s.stand;
  many = s.many ∙ (ap length ef ∙ many);
  value = λ bits. s.value bits ∙ (ap (λ (l : List Edge). if v bits then number bits b l else number bits b ws) ef ∙ ap (λ (l : List Edge). if v bits then number bits b further else number bits b l) ew);
}

pub power_is : (i : ℕ) → i < 4 → 1 * 2 ^ i % 18446744073709551616 ≡ 2 ^ i
power_is i h = let bound : 2 ^ i < 2 ^ 4 = pow-lt h in omega (arith, bound)

-- a stage moves by a power of two or not at all
pub stage_more : (a b d : List AigNode) (way : Way) (xs ys word further seen out : List Edge) (above u : Edge) (i places : ℕ) → Grows a b → Grows b d
    → Stands a above → AllStand a xs → AllStand a ys → length xs ≡ 16 → i < length ys → places ≡ 2 ^ i → seen ≡ word
    → Spells b word 16 (λ bits. moved_word way (value_of bits a above) (number bits a (take i ys)) (number bits a xs))
    → Spells b further 16 (λ bits. moved_word way (value_of bits b above) places (number bits b seen))
    → Spells d out 16 (λ bits. if value_of bits b (get_or ys i u) then number bits b further else number bits b word)
    → Spells d out 16 (λ bits. moved_word way (value_of bits a above) (number bits a (take (i + 1) ys)) (number bits a xs))
stage_more a b d way xs ys word further seen out above u i places g h sa sx sy many within power is so_far far made = spells_is d out 16 _ _ made (λ bits.
    let f = value_of bits a above in
    let x = number bits a xs in
    let n = number bits a (take i ys) in
    let p = value_of bits b (get_or ys i u) in
    let more : number bits a (take (i + 1) ys) ≡ n + weight p i = more_kept bits a b ys i u g sy within in
    let below : x < 65536 = subst (λ (k : ℕ). x < 2 ^ k) many (number-lt bits a xs) in
    let moved : number bits b further ≡ moved_word way f (n + 2 ^ i) x =
    far.value bits ∙ (ap (λ (v : Bool). moved_word way v places (number bits b seen)) (edge_kept bits a b above g sa)
    ∙ (ap (λ (k : ℕ). moved_word way f k (number bits b seen)) power
    ∙ (ap (moved_word way f (2 ^ i)) (ap (number bits b) is ∙ so_far.value bits) ∙ moved_twice way f n (2 ^ i) x below))) in
    let either : (v : Bool) → (if v then number bits b further else number bits b word) ≡ moved_word way f (n + weight v i) x =
    λ v. chosen v (number bits b further) (number bits b word) (moved_word way f (n + 2 ^ i) x) (moved_word way f n x) moved (so_far.value bits) ∙ at way f n i x v in
    either p ∙ ap (λ (k : ℕ). moved_word way f k x) (sym more))
  where
    chosen : (v : Bool) (k l m n : ℕ) → k ≡ m → l ≡ n → (if v then k else l) ≡ (if v then m else n)
    chosen true k l m n e g = e
    chosen false k l m n e g = g

    at : (way : Way) (f : Bool) (n i x : ℕ) (v : Bool) → (if v then moved_word way f (n + 2 ^ i) x else moved_word way f n x) ≡ moved_word way f (n + weight v i) x
    at way f n i x true = refl
    at way f n i x false = ap (λ (k : ℕ). moved_word way f k x) (omega arith)

-- by 16 places or more only what comes in is left
far_gone : (way : Way) (f : Bool) (x : ℕ) → x < 65536 → (if comes_in way f then 65535 else 0) ≡ moved_word way f 16 x
far_gone ways.Left f x h = omega arith
far_gone ways.Right true x h = omega (arith, h)
far_gone ways.Right false x h = omega (arith, h)

-- the low four bits or the test of the others
shift_is : (way : Way) (f : Bool) (x low high y : ℕ) (far : Bool) → x < 65536 → y ≡ low + 16 * high → low < 16 → far ≡ not (nat_eq high 0)
    → (if far then (if comes_in way f then 65535 else 0) else moved_word way f low x) ≡ moved_word way f (min y 16) x
shift_is way f x low zero y far h e l is =
    let near : min y 16 ≡ low = omega (arith, e, l) in
    ap (λ (v : Bool). if v then (if comes_in way f then 65535 else 0) else moved_word way f low x) is ∙ ap (λ (k : ℕ). moved_word way f k x) (sym near)
shift_is way f x low (suc high) y far h e l is =
    let past : min y 16 ≡ 16 = omega (arith, e) in
    let test : not (nat_eq (suc high) 0) ≡ true = grind arith in
    ap (λ (v : Bool). if v then (if comes_in way f then 65535 else 0) else moved_word way f low x) (is ∙ test)
    ∙ (far_gone way f x h ∙ ap (λ (k : ℕ). moved_word way f k x) (sym past))

-- all that stands from a place on
pub tail_is : (es : List Edge) (i k : ℕ) → length es ≤ i + k → take k (drop i es) ≡ drop i es
tail_is es i k h = take_all k (drop i es) (omega (arith, length-drop i es, h))

pub AllStand-drop : (ns : List AigNode) (es : List Edge) (i : ℕ) → AllStand ns es → AllStand ns (drop i es)
AllStand-drop ns [] zero all = all
AllStand-drop ns [] (suc i) all = all
AllStand-drop ns (e ∷ es) zero all = all
AllStand-drop ns (e ∷ es) (suc i) all = AllStand-drop ns es i (AllStand-rest ns e es all)

number-split : (bits : List Bool) (ns : List AigNode) (es : List Edge) → 4 ≤ length es → number bits ns es ≡ number bits ns (take 4 es) + 16 * number bits ns (drop 4 es)
number-split bits ns [] h = absurd (omega (arith, h))
number-split bits ns (a ∷ []) h = absurd (omega (arith, h))
number-split bits ns (a ∷ b ∷ []) h = absurd (omega (arith, h))
number-split bits ns (a ∷ b ∷ c ∷ []) h = absurd (omega (arith, h))
number-split bits ns (a ∷ b ∷ c ∷ d ∷ es) h = omega arith

-- near or far
pub shift_whole : (a c d : List AigNode) (way : Way) (xs ys near far out nears fars : List Edge) (above is_far edge : Edge) → Grows a c → Stands a above → AllStand a ys → length xs ≡ 16 → length ys ≡ 16
    → nears ≡ near → fars ≡ far
    → Spells c near 16 (λ bits. moved_word way (value_of bits a above) (number bits a (take 4 ys)) (number bits a xs))
    → ((bits : List Bool) → value_of bits c is_far ≡ not (nat_eq (number bits a (drop 4 ys)) 0))
    → ((bits : List Bool) → value_of bits c edge ≡ comes_in way (value_of bits c above))
    → Spells c far 16 (λ bits. if value_of bits c edge then 65535 else 0)
    → Spells d out 16 (λ bits. if value_of bits c is_far then number bits c fars else number bits c nears)
    → Spells d out 16 (λ bits. moved_word way (value_of bits a above) (min (number bits a ys) 16) (number bits a xs))
shift_whole a c d way xs ys near far out nears fars above is_far edge g sa sy many same en ef n test comes f made = spells_is d out 16 _ _ made (λ bits.
    let v = value_of bits a above in
    let x = number bits a xs in
    let low = number bits a (take 4 ys) in
    let in_c : value_of bits c edge ≡ comes_in way v = comes bits ∙ ap (comes_in way) (edge_kept bits a c above g sa) in
    let fs : number bits c fars ≡ (if comes_in way v then 65535 else 0) = ap (number bits c) ef ∙ (f.value bits ∙ ap (λ (t : Bool). if t then 65535 else 0) in_c) in
    let near_is : number bits c nears ≡ moved_word way v low x = ap (number bits c) en ∙ n.value bits in
    let below : x < 65536 = subst (λ (k : ℕ). x < 2 ^ k) many (number-lt bits a xs) in
    let four : 4 ≤ length ys = omega (arith, same) in
    rw (fs, near_is) (shift_is way v x low (number bits a (drop 4 ys)) (number bits a ys) (value_of bits c is_far) below (number-split bits a ys four) (number-front bits a ys 4 four) (test bits)))
