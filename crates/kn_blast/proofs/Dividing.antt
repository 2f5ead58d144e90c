-- Division by subtracting steps.
use Rattle.std.proofs.Common.{◌≡◌, ℕ, zero, suc, ◌+◌, ◌-◌, ◌*◌, ◌/◌, ◌%◌, ◌^◌, ◌<◌, ◌≤◌, Bool, true, false, not, List, [], ◌∷◌, ◌++◌, length, take, drop, get_or, refl, ap, sym, subst, ◌∙◌, arith}
use Rattle.std.specs.Prelude.{nat_eq, nat_lt, if◌then◌else◌}
use Rattle.std.proofs.Math.Seq.{drop-cons}
use Rattle.std.proofs.lemmas.Nat.{div-mul-add, mod-mul-add}
use Rattle.std.proofs.lemmas.List.{take_all}
use Rattle.kn_word.specs.Words.{one_if}
use Rattle.kn_aig.specs.declared.gates.Edge.{Edge}
use Rattle.kn_aig.specs.declared.gates.AigNode.{AigNode}
use Rattle.kn_aig.specs.Circuits.{value_of}
use Rattle.kn_blast.specs.Spelling.{number, weight, AllStand, Grows, Spells, Has, Carries}
use Rattle.kn_blast.proofs.Numbers.{number-more, number-push, number-front, number-kept, AllStand-first, AllStand-kept, double, number-lt, has_kept, AllStand-at, one_if-lt}
use Rattle.kn_blast.proofs.Growing.{edge_kept}
use Rattle.kn_blast.proofs.Arithmetic.{word-lt}

-- where something is borrowed of 17 bits, the divisor is not reached
pub reach_test : (n r y : ℕ) (c : Bool) → n < 131072 → r < 131072 → y < 65536 → n + weight c 17 ≡ r + 131072 - y → c ≡ not (nat_lt r y)
reach_test n r y true h k l e = let reaches : y ≤ r = omega (arith, e, h, k, l) in grind (arith, reaches)
reach_test n r y false h k l e = let less : r < y = omega (arith, e, h, k, l) in grind (arith, less)

-- what is left
pub left_is : (n r y : ℕ) (c : Bool) → n < 131072 → r < 131072 → y < 65536 → n + weight c 17 ≡ r + 131072 - y
    → (if c then n % 65536 else r % 65536) ≡ (if nat_lt r y then r else r - y) % 65536
left_is n r y true h k l e =
    let test : nat_lt r y ≡ false = let reaches : y ≤ r = omega (arith, e, h, k, l) in grind (arith, reaches) in
    let is : n ≡ r - y = omega (arith, e, h, k, l) in
    rw (test, is) refl
left_is n r y false h k l e =
    let test : nat_lt r y ≡ true = let less : r < y = omega (arith, e, h, k, l) in grind (arith, less) in
    rw test refl

-- the low 16 of 17 bits
pub low_bits : (bits : List Bool) (ns : List AigNode) (es : List Edge) (d : Edge) → length es ≡ 17 → number bits ns (take 16 es) ≡ number bits ns es % 65536
low_bits bits ns es d many =
    let b = value_of bits ns (get_or es 16 d) in
    let whole : number bits ns es ≡ number bits ns (take 16 es) + weight b 16 = ap (number bits ns) (sym (take_all 17 es (omega (arith, many)))) ∙ number-more bits ns es 16 d (omega (arith, many)) in
    cut (number bits ns es) (number bits ns (take 16 es)) b whole (number-front bits ns es 16 (omega (arith, many)))
  where
    cut : (n t : ℕ) (b : Bool) → n ≡ t + weight b 16 → t < 2 ^ 16 → t ≡ n % 65536
    cut n t true e h = omega (arith, e, h)
    cut n t false e h = omega (arith, e, h)

-- quotient and rest so far
pub record Parts (n y q r k : ℕ) : Type 0 where
  pub whole : n ≡ q * y + r
  pub below : 0 < y → r < y
  pub ones : y ≡ 0 → q + 1 ≡ 2 ^ k

-- one more step
pub parts_more : (n y q r k : ℕ) (b : Bool) → Parts n y q r k → one_if b + 2 * n < 65536
    → Parts (one_if b + 2 * n) y (one_if (not (nat_lt (one_if b + 2 * r) y)) + 2 * q) ((if nat_lt (one_if b + 2 * r) y then one_if b + 2 * r else one_if b + 2 * r - y) % 65536) (k + 1)
parts_more n y q r k b p small = go (nat_lt w y) refl where
  w : ℕ
  w = one_if b + 2 * r

  go : (t : Bool) → nat_lt w y ≡ t → Parts (one_if b + 2 * n) y (one_if (not (nat_lt w y)) + 2 * q) ((if nat_lt w y then w else w - y) % 65536) (k + 1)
  go true e =
      let less : w < y = grind (arith, e) in
      let whole : one_if b + 2 * n ≡ 2 * (q * y) + w = omega (arith, p.whole) in
      let times : 2 * q * y ≡ 2 * (q * y) = omega arith in
      let fits : w % 65536 ≡ w = omega (arith, whole, small) in
      rw (e, fits) (record { whole = omega (arith, whole, times); below = λ h. less; ones = λ h. absurd (omega (arith, h, less)) })
  go false e =
      let reaches : y ≤ w = grind (arith, e) in
      let whole : one_if b + 2 * n ≡ 2 * (q * y) + w = omega (arith, p.whole) in
      let times : (1 + 2 * q) * y ≡ y + 2 * (q * y) = omega arith in
      let fits : (w - y) % 65536 ≡ w - y = omega (arith, whole, small) in
      rw (e, fits) (record { whole = omega (arith, whole, times, reaches); below = λ h. omega (arith, p.below h, one_if-lt b); ones = λ h. omega (arith, p.ones h, double k) })

-- at the end these are the quotient and the remainder
pub quotient_is : (x y q r : ℕ) → Parts x y q r 16 → q ≡ (if nat_eq y 0 then 65535 else x / y)
quotient_is x zero q r p = omega (arith, p.ones refl)
quotient_is x (suc y) q r p =
    let test : nat_eq (suc y) 0 ≡ false = grind arith in
    rw test (sym (ap (λ (n : ℕ). n / suc y) p.whole ∙ div-mul-add q (suc y) r (p.below (omega arith))))

pub rest_is : (x y q r : ℕ) → Parts x y q r 16 → r ≡ (if nat_eq y 0 then x else x % y)
rest_is x zero q r p = let none : q * 0 ≡ 0 = omega arith in omega (arith, p.whole, none)
rest_is x (suc y) q r p =
    let test : nat_eq (suc y) 0 ≡ false = grind arith in
    rw test (sym (ap (λ (n : ℕ). n % suc y) p.whole ∙ mod-mul-add q (suc y) r (p.below (omega arith))))

-- what a step has: the rest with one more bit, and the divisor, both of 17 bits
module _ (a d : List AigNode) (bit z reaches : Edge) (rest ys wide divisor wides divs less : List Edge) (many : length rest ≡ 16) (same : length ys ≡ 16)
    (is_wide : wide ≡ bit ∷ rest) (is_divisor : divisor ≡ ys ++ z ∷ []) (seen_wide : wides ≡ wide) (seen_divisor : divs ≡ divisor) (none : Has a z (λ bits. false))
    (made : Carries d less reaches (length wides) (λ bits. number bits a wides + 2 ^ length wides - number bits a divs)) where
  pub long_wide : length wide ≡ 17
  long_wide = ap length is_wide ∙ omega (arith, many)

  pub long_less : length less ≡ 17
  long_less = made.many ∙ (ap length seen_wide ∙ long_wide)

  wide_is : (bits : List Bool) → number bits a wide ≡ one_if (value_of bits a bit) + 2 * number bits a rest
  wide_is bits = ap (number bits a) is_wide

  divisor_is : (bits : List Bool) → number bits a divs ≡ number bits a ys
  divisor_is bits =
      ap (number bits a) (seen_divisor ∙ is_divisor)
      ∙ (number-push bits a ys z ∙ (ap (λ (v : Bool). number bits a ys + weight v (length ys)) (none.value bits) ∙ omega arith))

  wide-lt : (bits : List Bool) → one_if (value_of bits a bit) + 2 * number bits a rest < 131072
  wide-lt bits = omega (arith, word-lt bits a rest many, one_if-lt (value_of bits a bit))

  less-lt : (bits : List Bool) → number bits d less < 131072
  less-lt bits = subst (λ (k : ℕ). number bits d less < 2 ^ k) long_less (number-lt bits d less)

  borrow : (bits : List Bool) → number bits d less + weight (value_of bits d reaches) 17 ≡ one_if (value_of bits a bit) + 2 * number bits a rest + 131072 - number bits a ys
  borrow bits =
      let long : length wides ≡ 17 = ap length seen_wide ∙ long_wide in
      let w : number bits a wides ≡ one_if (value_of bits a bit) + 2 * number bits a rest = ap (number bits a) seen_wide ∙ wide_is bits in
      ap (λ (k : ℕ). number bits d less + weight (value_of bits d reaches) k) (sym long)
      ∙ (made.value bits
      ∙ (ap (λ (k : ℕ). number bits a wides + 2 ^ k - number bits a divs) long
      ∙ (ap (λ (k : ℕ). k + 131072 - number bits a divs) w ∙ ap (λ (k : ℕ). one_if (value_of bits a bit) + 2 * number bits a rest + 131072 - k) (divisor_is bits))))

  pub step_reaches : (e : List AigNode) → Grows d e → Has e reaches (λ bits. not (nat_lt (one_if (value_of bits a bit) + 2 * number bits a rest) (number bits a ys)))
  step_reaches e g = has_kept d e reaches _ g (record {
    stands = made.stands;
    value = λ bits. reach_test (number bits d less) _ (number bits a ys) (value_of bits d reaches) (less-lt bits) (wide-lt bits) (word-lt bits a ys same) (borrow bits);
  })

  pub step_left : (e : List AigNode) (next lesss wides2 : List Edge) (width : ℕ) → Grows a d → AllStand a wide → lesss ≡ less → wides2 ≡ wide → width ≡ 16
      → Spells e next width (λ bits. if value_of bits d reaches then number bits d (take 16 lesss) else number bits d (take 16 wides2))
      → Spells e next 16 (λ bits. (if nat_lt (one_if (value_of bits a bit) + 2 * number bits a rest) (number bits a ys) then one_if (value_of bits a bit) + 2 * number bits a rest else one_if (value_of bits a bit) + 2 * number bits a rest - number bits a ys) % 65536)
  step_left e next lesss wides2 width g all el ew w16 s = record {
    stand = s.stand;
    many = s.many ∙ w16;
    value = λ bits.
        let w = one_if (value_of bits a bit) + 2 * number bits a rest in
        let low_less : number bits d (take 16 lesss) ≡ number bits d less % 65536 = ap (λ (es : List Edge). number bits d (take 16 es)) el ∙ low_bits bits d less bit long_less in
        let low_wide : number bits d (take 16 wides2) ≡ w % 65536 =
        ap (λ (es : List Edge). number bits d (take 16 es)) ew
        ∙ (low_bits bits d wide bit long_wide ∙ ap (λ (k : ℕ). k % 65536) (number-kept bits a d wide g all ∙ wide_is bits)) in
        s.value bits
        ∙ (ap (λ (k : ℕ). if value_of bits d reaches then k else number bits d (take 16 wides2)) low_less
        ∙ (ap (λ (k : ℕ). if value_of bits d reaches then number bits d less % 65536 else k) low_wide
        ∙ left_is (number bits d less) w (number bits a ys) (value_of bits d reaches) (less-lt bits) (wide-lt bits) (word-lt bits a ys same) (borrow bits)));
  }

-- quotient and rest after so many steps
pub record Divides (a now : List AigNode) (xs ys quotient rest : List Edge) (k : ℕ) : Type 0 where
  pub stand : AllStand now quotient
  pub many : length quotient ≡ k
  pub rest_stand : AllStand now rest
  pub rest_many : length rest ≡ 16
  pub parts : (bits : List Bool) → Parts (number bits a (drop (16 - k) xs)) (number bits a ys) (number bits now quotient) (number bits now rest) k

number-drop : (bits : List Bool) (ns : List AigNode) (es : List Edge) (i : ℕ) → number bits ns (drop i es) ≤ number bits ns es
number-drop bits ns [] zero = omega arith
number-drop bits ns [] (suc i) = omega arith
number-drop bits ns (e ∷ es) zero = omega arith
number-drop bits ns (e ∷ es) (suc i) = omega (arith, number-drop bits ns es i)

-- one more step
pub divides_more : (a b e : List AigNode) (xs ys quotient rest next out seen : List Edge) (u reaches : Edge) (k : ℕ) → Grows a b → Grows b e → AllStand a xs → AllStand a ys → length xs ≡ 16 → k < 16
    → Divides a b xs ys quotient rest k → seen ≡ rest → out ≡ reaches ∷ quotient
    → Has e reaches (λ bits. not (nat_lt (one_if (value_of bits b (get_or xs (15 - k) u)) + 2 * number bits b seen) (number bits b ys)))
    → Spells e next 16 (λ bits. (if nat_lt (one_if (value_of bits b (get_or xs (15 - k) u)) + 2 * number bits b seen) (number bits b ys) then one_if (value_of bits b (get_or xs (15 - k) u)) + 2 * number bits b seen
    else one_if (value_of bits b (get_or xs (15 - k) u)) + 2 * number bits b seen - number bits b ys) % 65536)
    → Divides a e xs ys out next (k + 1)
divides_more a b e xs ys quotient rest next out seen u reaches k g h sx sy many less so_far es eo test left = record {
  stand = subst (AllStand e) (sym eo) (AllStand-first e reaches quotient test.stands (AllStand-kept b e quotient h so_far.stand));
  many = ap length eo ∙ omega (arith, so_far.many);
  rest_stand = left.stand;
  rest_many = left.many;
  parts = λ bits.
      let i = 15 - k in
      let within : i < length xs = omega (arith, many) in
      let x = get_or xs i u in
      let b0 = value_of bits a x in
      let kept : value_of bits b x ≡ b0 = edge_kept bits a b x g (AllStand-at a xs i u sx within) in
      let y : number bits b ys ≡ number bits a ys = number-kept bits a b ys g sy in
      let r : number bits b seen ≡ number bits b rest = ap (number bits b) es in
      let n = number bits a (drop (16 - k) xs) in
      let here : 16 - (k + 1) ≡ i = omega (arith, less) in
      let after : suc i ≡ 16 - k = omega (arith, less) in
      let more : number bits a (drop (16 - (k + 1)) xs) ≡ one_if b0 + 2 * n =
      ap (λ (j : ℕ). number bits a (drop j xs)) here ∙ (ap (number bits a) (drop-cons xs i u within) ∙ ap (λ (j : ℕ). one_if b0 + 2 * number bits a (drop j xs)) after) in
      let small : one_if b0 + 2 * n < 65536 = omega (arith, more, number-drop bits a xs (16 - (k + 1)), word-lt bits a xs many) in
      let w : one_if (value_of bits b x) + 2 * number bits b seen ≡ one_if b0 + 2 * number bits b rest = omega (arith, ap one_if kept, r) in
      let q : number bits e out ≡ one_if (not (nat_lt (one_if b0 + 2 * number bits b rest) (number bits a ys))) + 2 * number bits b quotient =
      ap (number bits e) eo
      ∙ (ap (λ (v : Bool). one_if v + 2 * number bits e quotient) (test.value bits)
      ∙ (ap (λ (j : ℕ). one_if (not (nat_lt (one_if (value_of bits b x) + 2 * number bits b seen) (number bits b ys))) + 2 * j) (number-kept bits b e quotient h so_far.stand)
      ∙ (ap (λ (j : ℕ). one_if (not (nat_lt j (number bits b ys))) + 2 * number bits b quotient) w
      ∙ ap (λ (j : ℕ). one_if (not (nat_lt (one_if b0 + 2 * number bits b rest) j)) + 2 * number bits b quotient) y))) in
      let l : number bits e next ≡ (if nat_lt (one_if b0 + 2 * number bits b rest) (number bits a ys) then one_if b0 + 2 * number bits b rest else one_if b0 + 2 * number bits b rest - number bits a ys) % 65536 =
      left.value bits
      ∙ (ap (λ (j : ℕ). (if nat_lt j (number bits b ys) then j else j - number bits b ys) % 65536) w
      ∙ ap (λ (j : ℕ). (if nat_lt (one_if b0 + 2 * number bits b rest) j then one_if b0 + 2 * number bits b rest else one_if b0 + 2 * number bits b rest - j) % 65536) y) in
      rw (more, q, l) (parts_more n (number bits a ys) (number bits b quotient) (number bits b rest) k b0 (so_far.parts bits) small);
}

pub divided_quotient : (a now : List AigNode) (xs ys quotient rest : List Edge) (k : ℕ) → k ≡ 16 → Divides a now xs ys quotient rest k → Spells now quotient 16 (λ bits. if nat_eq (number bits a ys) 0 then 65535 else number bits a xs / number bits a ys)
divided_quotient a now xs ys quotient rest k last d =
    let e : Divides a now xs ys quotient rest 16 = subst (Divides a now xs ys quotient rest) last d in
    record { stand = e.stand; many = e.many; value = λ bits. quotient_is (number bits a xs) (number bits a ys) (number bits now quotient) (number bits now rest) (e.parts bits) }

pub divided_rest : (a now : List AigNode) (xs ys quotient rest : List Edge) (k : ℕ) → k ≡ 16 → Divides a now xs ys quotient rest k → Spells now rest 16 (λ bits. if nat_eq (number bits a ys) 0 then number bits a xs else number bits a xs % number bits a ys)
divided_rest a now xs ys quotient rest k last d =
    let e : Divides a now xs ys quotient rest 16 = subst (Divides a now xs ys quotient rest) last d in
    record { stand = e.rest_stand; many = e.rest_many; value = λ bits. rest_is (number bits a xs) (number bits a ys) (number bits now quotient) (number bits now rest) (e.parts bits) }
