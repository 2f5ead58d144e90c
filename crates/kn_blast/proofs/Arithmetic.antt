-- Words of 16 bits: sums, differences, comparisons and products.
use Rattle.std.proofs.Common.{◌≡◌, ℕ, zero, suc, ◌+◌, ◌-◌, ◌*◌, ◌/◌, ◌%◌, ◌^◌, ◌<◌, ◌≤◌, Bool, true, false, not, List, [], ◌∷◌, ◌++◌, length, take, get_or, replicate, refl, ap, sym, subst, ◌∙◌, arith, length-append}
use Rattle.std.specs.Prelude.{nat_eq, nat_lt, if◌then◌else◌}
use Rattle.std.proofs.Math.Nat.{pow-suc}
use Rattle.std.proofs.lemmas.Nat.{mod-pow-add}
use Rattle.std.proofs.lemmas.List.{take_all, length-take-le}
use Rattle.kn_word.specs.Words.{one_if, one_of, by_digits, raised}
use Rattle.kn_aig.specs.declared.gates.Edge.{Edge}
use Rattle.kn_aig.specs.declared.gates.AigNode.{AigNode}
use Rattle.kn_aig.specs.Circuits.{value_of, Stands}
use Rattle.kn_blast.specs.Spelling.{number, weight, AllStand, Grows, Spells, Has, Carries}
use Rattle.kn_blast.proofs.Growing.{turned_value, turned_stands}
use Rattle.kn_blast.proofs.Numbers.{number-more, number-push, number-lt, number-front, number-kept, more_kept, spells_is, AllStand-at, AllStand-first, AllStand-push}
use Rattle.kn_blast.specs.declared.shifts.Way.TheVariants as ways
use Rattle.kn_blast.specs.Shifting.{moved_word}
use Rattle.kn_blast.proofs.Moving.{AllStand-take, AllStand-replicate, moved_twice}

pub word-lt : (bits : List Bool) (ns : List AigNode) (es : List Edge) → length es ≡ 16 → number bits ns es < 65536
word-lt bits ns es many = subst (λ (k : ℕ). number bits ns es < 2 ^ k) many (number-lt bits ns es)

pub spells_flag : (ns : List AigNode) (word : List Edge) (e z : Edge) → Stands ns e → Has ns z (λ bits. false) → word ≡ e ∷ replicate 15 z → Spells ns word 16 (λ bits. one_if (value_of bits ns e))
spells_flag ns word e z s none_of is = record {
  stand = subst (AllStand ns) (sym is) (AllStand-first ns e (replicate 15 z) s (AllStand-replicate ns 15 z none_of.stands));
  many = ap length is;
  value = λ bits.
      let none : number bits ns (replicate 15 z) ≡ 0 = rw (none_of.value bits) refl in
      ap (number bits ns) is ∙ omega (arith, none);
}

-- what is carried is left out
cut_off : (n t : ℕ) (c : Bool) → n < 65536 → n + weight c 16 ≡ t → n ≡ t % 65536
cut_off n t true h e = omega (arith, h, e)
cut_off n t false h e = omega (arith, h, e)

pub spells_cut : (ns : List AigNode) (es : List Edge) (carry : Edge) (width : ℕ) (t u : List Bool → ℕ) → width ≡ 16 → Carries ns es carry width t → ((bits : List Bool) → t bits ≡ u bits) → Spells ns es 16 (λ bits. u bits % 65536)
spells_cut ns es carry width t u is c same = record {
  stand = c.stand;
  many = c.many ∙ is;
  value = λ bits.
      let whole : number bits ns es + weight (value_of bits ns carry) 16 ≡ t bits = ap (λ (k : ℕ). number bits ns es + weight (value_of bits ns carry) k) (sym is) ∙ c.value bits in
      cut_off (number bits ns es) (t bits) (value_of bits ns carry) (word-lt bits ns es (c.many ∙ is)) whole ∙ ap (λ (k : ℕ). k % 65536) (same bits);
}

-- numbers are equal where no digit differs
pub xor_none : (count x y : ℕ) → x < 2 ^ count → y < 2 ^ count → by_digits one_of count x y ≡ 0 → x ≡ y
xor_none zero x y h k e = omega (arith, h, k)
xor_none (suc count) x y h k e =
    let rest = xor_none count (x / 2) (y / 2) (omega (arith, h, pow-suc 2 count)) (omega (arith, k, pow-suc 2 count)) (omega (arith, e)) in
    omega (arith, e, rest)

xor_itself : (count x : ℕ) → by_digits one_of count x x ≡ 0
xor_itself zero x = refl
xor_itself (suc count) x = omega (arith, xor_itself count (x / 2))

pub xor_test : (count x y : ℕ) → x < 2 ^ count → y < 2 ^ count → not (not (nat_eq (by_digits one_of count x y) 0)) ≡ nat_eq x y
xor_test count x y h k = go (nat_eq x y) refl where
  go : (b : Bool) → nat_eq x y ≡ b → not (not (nat_eq (by_digits one_of count x y) 0)) ≡ nat_eq x y
  go true e =
      let same : x ≡ y = grind (arith, e) in
      let none : by_digits one_of count x y ≡ 0 = ap (λ (z : ℕ). by_digits one_of count x z) (sym same) ∙ xor_itself count x in
      rw (none, e) refl
  go false e =
      let test : nat_eq (by_digits one_of count x y) 0 ≡ false = other (nat_eq (by_digits one_of count x y) 0) refl in
      rw (test, e) refl
    where
      other : (b : Bool) → nat_eq (by_digits one_of count x y) 0 ≡ b → b ≡ false
      other true f = let same : x ≡ y = xor_none count x y h k (grind (arith, f)) in absurd (grind (arith, e, same))
      other false f = refl

-- a borrow tells which is below
pub borrow_test : (n x y : ℕ) (c : Bool) → n < 65536 → x < 65536 → y < 65536 → n + weight c 16 ≡ x + 65536 - y → not c ≡ nat_lt x y
borrow_test n x y true h k l e = let reaches : y ≤ x = omega (arith, e, h, k, l) in grind (arith, reaches)
borrow_test n x y false h k l e = let less : x < y = omega (arith, e, h, k, l) in grind (arith, less)

raised_top : (x t : ℕ) (b : Bool) → x ≡ t + weight b 15 → t < 2 ^ 15 → t + weight (not b) 15 ≡ raised x
raised_top x t true e h = omega (arith, e, h)
raised_top x t false e h = omega (arith, e, h)

pub spells_raised : (ns : List AigNode) (xs word : List Edge) (d e : Edge) → AllStand ns xs → length xs ≡ 16 → e ≡ record (get_or xs 15 d) { inverted = not (get_or xs 15 d).inverted }
    → word ≡ take 15 xs ++ e ∷ [] → Spells ns word 16 (λ bits. raised (number bits ns xs))
spells_raised ns xs word d e all many turned is =
    let top = get_or xs 15 d in
    let within : 15 < length xs = omega (arith, many) in
    let front : length (take 15 xs) ≡ 15 = length-take-le 15 xs (omega (arith, many)) in
    record {
      stand = subst (AllStand ns) (sym is) (AllStand-push ns (take 15 xs) e (AllStand-take ns xs 15 all) (turned_stands ns top e turned (AllStand-at ns xs 15 d all within)));
      many = ap length is ∙ omega (arith, length-append (take 15 xs) (e ∷ []), front);
      value = λ bits.
          let b = value_of bits ns top in
          let t = number bits ns (take 15 xs) in
          let whole : number bits ns xs ≡ t + weight b 15 = ap (number bits ns) (sym (take_all 16 xs (omega (arith, many)))) ∙ number-more bits ns xs 15 d within in
          ap (number bits ns) is
          ∙ (number-push bits ns (take 15 xs) e
          ∙ (ap (λ (k : ℕ). t + weight (value_of bits ns e) k) front
          ∙ (ap (λ (v : Bool). t + weight v 15) (turned_value bits ns top e turned) ∙ raised_top (number bits ns xs) t b whole (number-front bits ns xs 15 (omega (arith, many))))));
    }

-- one more bit of a product
pub product-more : (x n i : ℕ) (b : Bool) → (x * n % 65536 + (if b then x * 2 ^ i % 65536 else 0)) % 65536 ≡ x * (n + weight b i) % 65536
product-more x n i true = let parts : x * (n + 2 ^ i) ≡ x * n + x * 2 ^ i = omega arith in omega (arith, parts)
product-more x n i false = let parts : x * (n + 0) ≡ x * n = omega arith in omega (arith, parts)

pub zeros_spell : (ns : List AigNode) (z : Edge) (m : List Bool → ℕ) → Has ns z (λ bits. false) → ((bits : List Bool) → m bits ≡ 0) → Spells ns (replicate 16 z) 16 m
zeros_spell ns z m none_of is = record {
  stand = AllStand-replicate ns 16 z none_of.stands;
  many = refl;
  value = λ bits. let none : number bits ns (replicate 16 z) ≡ 0 = rw (none_of.value bits) refl in none ∙ sym (is bits);
}

-- the total with one more shifted word
pub product_total : (a b d e : List AigNode) (xs ys total shifted part out totals parts shifteds zeros : List Edge) (u : Edge) (i width : ℕ) → Grows a b → Grows b d → AllStand a ys → i < length ys
    → totals ≡ total → parts ≡ part → shifteds ≡ shifted → ((bits : List Bool) → number bits b zeros ≡ 0)
    → Spells b total 16 (λ bits. number bits a xs * number bits a (take i ys) % 65536) → Spells b shifted 16 (λ bits. number bits a xs * 2 ^ i % 65536)
    → Spells d part width (λ bits. if value_of bits b (get_or ys i u) then number bits b shifteds else number bits b zeros)
    → Spells e out 16 (λ bits. (number bits d totals + number bits d parts) % 65536)
    → Spells e out 16 (λ bits. number bits a xs * number bits a (take (i + 1) ys) % 65536)
product_total a b d e xs ys total shifted part out totals parts shifteds zeros u i width g h sy within et ep es none t s p made = spells_is e out 16 _ _ made (λ bits.
    let x = number bits a xs in
    let n = number bits a (take i ys) in
    let v = value_of bits b (get_or ys i u) in
    let more : number bits a (take (i + 1) ys) ≡ n + weight v i = more_kept bits a b ys i u g sy within in
    let one : number bits d totals ≡ x * n % 65536 = ap (number bits d) et ∙ (number-kept bits b d total h t.stand ∙ t.value bits) in
    let up : number bits b shifteds ≡ x * 2 ^ i % 65536 = ap (number bits b) es ∙ s.value bits in
    let two : number bits d parts ≡ (if v then x * 2 ^ i % 65536 else 0) = ap (number bits d) ep ∙ (p.value bits ∙ (ap (λ (k : ℕ). if v then k else number bits b zeros) up ∙ ap (λ (k : ℕ). if v then x * 2 ^ i % 65536 else k) (none bits))) in
    rw (one, two, more) (product-more x n i v))

pub product_shifted : (a b e : List AigNode) (xs shifted shifteds out : List Edge) (z : Edge) (i : ℕ) → length xs ≡ 16 → Grows b e → shifteds ≡ shifted
    → Spells b shifted 16 (λ bits. number bits a xs * 2 ^ i % 65536)
    → Spells e out 16 (λ bits. moved_word ways.Left (value_of bits e z) 1 (number bits e shifteds))
    → Spells e out 16 (λ bits. number bits a xs * 2 ^ (i + 1) % 65536)
product_shifted a b e xs shifted shifteds out z i many h is s made = spells_is e out 16 _ _ made (λ bits.
    ap (moved_word ways.Left (value_of bits e z) 1) (ap (number bits e) is ∙ (number-kept bits b e shifted h s.stand ∙ s.value bits))
    ∙ moved_twice ways.Left (value_of bits e z) i 1 (number bits a xs) (word-lt bits a xs many))

-- the width of a word by that of another
pub spells_wide : (ns : List AigNode) (es : List Edge) (width : ℕ) (f : ℕ → List Bool → ℕ) → width ≡ 16 → Spells ns es width (f width) → Spells ns es 16 (f 16)
spells_wide ns es width f is s = subst (λ (k : ℕ). Spells ns es k (f k)) is s

-- the highest bit tells whether a word is below 32768
pub top_test : (bits : List Bool) (ns : List AigNode) (xs : List Edge) (d : Edge) → length xs ≡ 16 → nat_lt (number bits ns xs) 32768 ≡ not (value_of bits ns (get_or xs 15 d))
top_test bits ns xs d many =
    let whole : number bits ns xs ≡ number bits ns (take 15 xs) + weight (value_of bits ns (get_or xs 15 d)) 15 = ap (number bits ns) (sym (take_all 16 xs (omega (arith, many)))) ∙ number-more bits ns xs 15 d (omega (arith, many)) in
    go (number bits ns xs) (number bits ns (take 15 xs)) (value_of bits ns (get_or xs 15 d)) whole (number-front bits ns xs 15 (omega (arith, many)))
  where
    go : (x t : ℕ) (b : Bool) → x ≡ t + weight b 15 → t < 2 ^ 15 → nat_lt x 32768 ≡ not b
    go x t true e h = let over : 32768 ≤ x = omega (arith, e) in grind (arith, over)
    go x t false e h = let less : x < 32768 = omega (arith, e, h) in grind (arith, less)

pub other_side : {A : Type 0} (b : Bool) (m n : A) → (if not b then m else n) ≡ (if b then n else m)
other_side true m n = refl
other_side false m n = refl

-- the lowest bits of a word, and one bit more
pub constant_more : (w i : ℕ) (b : Bool) → b ≡ nat_eq (w / 2 ^ i % 2) 1 → w % 2 ^ i + weight b i ≡ w % 2 ^ (i + 1)
constant_more w i b is =
    let split : w % 2 ^ (1 + i) ≡ (w / 2 ^ i % 2 ^ 1) * 2 ^ i + w % 2 ^ i = mod-pow-add w 1 i in
    let next : w % 2 ^ (i + 1) ≡ w % 2 ^ (1 + i) = ap (λ (k : ℕ). w % 2 ^ k) (omega arith) in
    go b (w / 2 ^ i % 2) (omega arith) is (next ∙ split)
  where
    go : (b : Bool) (d : ℕ) → d < 2 → b ≡ nat_eq d 1 → w % 2 ^ (i + 1) ≡ d * 2 ^ i + w % 2 ^ i → w % 2 ^ i + weight b i ≡ w % 2 ^ (i + 1)
    go true d h e f = let one : d ≡ 1 = grind (arith, e) in let s : d * 2 ^ i ≡ 1 * 2 ^ i = ap (λ (k : ℕ). k * 2 ^ i) one in omega (arith, f, s)
    go false d h e f = let none : d ≡ 0 = grind (arith, e, h) in let s : d * 2 ^ i ≡ 0 * 2 ^ i = ap (λ (k : ℕ). k * 2 ^ i) none in omega (arith, f, s)

pub chosen_is : (c x y : ℕ) → (if not (nat_eq c 0) then x else y) ≡ (if nat_eq c 0 then y else x)
chosen_is c x y = other_side (nat_eq c 0) x y
