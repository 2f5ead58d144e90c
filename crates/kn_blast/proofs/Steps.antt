-- One more bit of each word that is made bit by bit.
use Rattle.std.proofs.Common.{◌≡◌, ℕ, suc, ◌+◌, ◌-◌, ◌*◌, ◌^◌, ◌<◌, Bool, true, not, ◌&&◌, List, [], ◌∷◌, ◌++◌, length, take, get_or, ap, sym, subst, ◌∙◌, arith, length-append}
use Rattle.std.specs.Prelude.{◌||◌, nat_eq, if◌then◌else◌}
use Rattle.kn_word.specs.Words.{one_if, by_digits}
use Rattle.kn_aig.specs.declared.gates.Edge.{Edge}
use Rattle.kn_aig.specs.declared.gates.AigNode.{AigNode}
use Rattle.kn_aig.specs.Circuits.{differ, value_of, Stands}
use Rattle.kn_blast.specs.Spelling.{number, weight, AllStand, Grows, Spells, Has, Carries}
use Rattle.kn_blast.proofs.Growing.{edge_kept, turned_value}
use Rattle.kn_blast.proofs.Numbers.{number-push, number-more, number-front, number-kept, AllStand-none, AllStand-kept, AllStand-push, weight-zero, spells_push, more_kept, has_is}
use Rattle.kn_blast.proofs.Digits.{by_digits-more, weight-digit, sum-more, choice-more, some-more, complement-more}

module _ (a b d : List AigNode) (xs ys word : List Edge) (i : ℕ) (u v : Edge) (to_b : Grows a b) (to_d : Grows b d) (sx : AllStand a xs) (sy : AllStand a ys) (same : length ys ≡ length xs) (h : i < length xs) where
  -- of a gate
  pub gate_more : (f : ℕ → ℕ → ℕ) (e : Edge) → Spells b word i (λ bits. by_digits f i (number bits a (take i xs)) (number bits a (take i ys)))
      → Stands d e → ((bits : List Bool) → one_if (value_of bits d e) ≡ f (one_if (value_of bits b (get_or xs i u))) (one_if (value_of bits b (get_or ys i v))))
      → Spells d (word ++ e ∷ []) (i + 1) (λ bits. by_digits f (i + 1) (number bits a (take (i + 1) xs)) (number bits a (take (i + 1) ys)))
  gate_more f e so_far se made = spells_push b d word e i _ _ to_d so_far se (λ bits.
      let p = value_of bits b (get_or xs i u) in
      let q = value_of bits b (get_or ys i v) in
      let x = number bits a (take i xs) in
      let y = number bits a (take i ys) in
      let mx : number bits a (take (i + 1) xs) ≡ x + weight p i = more_kept bits a b xs i u to_b sx h in
      let my : number bits a (take (i + 1) ys) ≡ y + weight q i = more_kept bits a b ys i v to_b sy (omega (arith, h, same)) in
      let w : weight (value_of bits d e) i ≡ f (one_if p) (one_if q) * 2 ^ i = weight-digit f p q (value_of bits d e) i (made bits) in
      let step = by_digits-more f i x y p q (number-front bits a xs i (omega (arith, h))) (number-front bits a ys i (omega (arith, h, same))) in
      let next : i + 1 ≡ suc i = omega arith in
      rw (mx, my, next) (ap (λ (k : ℕ). by_digits f i x y + k) w ∙ sym step))

  -- of a choice
  pub choice_more : (c e : Edge) → Stands a c → Spells b word i (λ bits. if value_of bits a c then number bits a (take i xs) else number bits a (take i ys))
      → Stands d e → ((bits : List Bool) → value_of bits d e ≡ (if value_of bits b c then value_of bits b (get_or xs i u) else value_of bits b (get_or ys i v)))
      → Spells d (word ++ e ∷ []) (i + 1) (λ bits. if value_of bits a c then number bits a (take (i + 1) xs) else number bits a (take (i + 1) ys))
  choice_more c e sc so_far se made = spells_push b d word e i _ _ to_d so_far se (λ bits.
      let p = value_of bits b (get_or xs i u) in
      let q = value_of bits b (get_or ys i v) in
      let x = number bits a (take i xs) in
      let y = number bits a (take i ys) in
      let mx : number bits a (take (i + 1) xs) ≡ x + weight p i = more_kept bits a b xs i u to_b sx h in
      let my : number bits a (take (i + 1) ys) ≡ y + weight q i = more_kept bits a b ys i v to_b sy (omega (arith, h, same)) in
      let kept : value_of bits b c ≡ value_of bits a c = edge_kept bits a b c to_b sc in
      let here : value_of bits d e ≡ (if value_of bits a c then p else q) = made bits ∙ ap (λ (t : Bool). if t then p else q) kept in
      rw (mx, my) (ap (λ (t : Bool). (if value_of bits a c then x else y) + weight t i) here ∙ choice-more i x y (value_of bits a c) p q))

  -- of a sum
  pub sum_more : (first carry s t : Edge) → Carries b word carry i (λ bits. number bits a (take i xs) + number bits a (take i ys) + one_if (value_of bits a first))
      → Has d s (λ bits. differ (differ (value_of bits b (get_or xs i u)) (value_of bits b (get_or ys i v))) (value_of bits b carry))
      → Has d t (λ bits. value_of bits b (get_or xs i u) && value_of bits b (get_or ys i v) || differ (value_of bits b (get_or xs i u)) (value_of bits b (get_or ys i v)) && value_of bits b carry)
      → Carries d (word ++ s ∷ []) t (i + 1) (λ bits. number bits a (take (i + 1) xs) + number bits a (take (i + 1) ys) + one_if (value_of bits a first))
  sum_more first carry s t so_far one two = record {
    stand = AllStand-push d word s (AllStand-kept b d word to_d so_far.stand) one.stands;
    many = omega (arith, length-append word (s ∷ []), so_far.many);
    stands = two.stands;
    value = λ bits.
        let p = value_of bits b (get_or xs i u) in
        let q = value_of bits b (get_or ys i v) in
        let x = number bits a (take i xs) in
        let y = number bits a (take i ys) in
        let mx : number bits a (take (i + 1) xs) ≡ x + weight p i = more_kept bits a b xs i u to_b sx h in
        let my : number bits a (take (i + 1) ys) ≡ y + weight q i = more_kept bits a b ys i v to_b sy (omega (arith, h, same)) in
        let o = number bits b word in
        let pushed : number bits d (word ++ s ∷ []) ≡ o + weight (value_of bits d s) i =
        number-push bits d word s ∙ (ap (λ (k : ℕ). number bits d word + weight (value_of bits d s) k) so_far.many ∙ ap (λ (k : ℕ). k + weight (value_of bits d s) i) (number-kept bits b d word to_d so_far.stand)) in
        let step = sum-more i x y (one_if (value_of bits a first)) o p q (value_of bits b carry) (value_of bits d s) (value_of bits d t) (so_far.value bits) (one.value bits) (two.value bits) in
        rw (mx, my) (ap (λ (k : ℕ). k + weight (value_of bits d t) (i + 1)) pushed ∙ step);
  }

-- whether some bit is 1
pub zero_more : (a b d : List AigNode) (xs : List Edge) (i : ℕ) (u some e : Edge) → Grows a b → AllStand a xs → i < length xs
    → Has b some (λ bits. not (nat_eq (number bits a (take i xs)) 0)) → Has d e (λ bits. value_of bits b some || value_of bits b (get_or xs i u))
    → Has d e (λ bits. not (nat_eq (number bits a (take (i + 1) xs)) 0))
zero_more a b d xs i u some e g sx h so_far made = has_is d e _ _ made (λ bits.
    let mx = more_kept bits a b xs i u g sx h in
    some-more i (number bits a (take i xs)) (value_of bits b some) (value_of bits b (get_or xs i u)) (so_far.value bits) ∙ ap (λ (k : ℕ). not (nat_eq k 0)) (sym mx))

-- one more edge turned round
pub turned_more : (bits : List Bool) (ns : List AigNode) (xs word : List Edge) (i : ℕ) (u e : Edge) → i < length xs → length word ≡ i
    → e ≡ record (get_or xs i u) { inverted = not (get_or xs i u).inverted }
    → number bits ns word + number bits ns (take i xs) + 1 ≡ 2 ^ i → number bits ns (word ++ e ∷ []) + number bits ns (take (i + 1) xs) + 1 ≡ 2 ^ (i + 1)
turned_more bits ns xs word i u e h many is so_far =
    let p = value_of bits ns (get_or xs i u) in
    let mx : number bits ns (take (i + 1) xs) ≡ number bits ns (take i xs) + weight p i = number-more bits ns xs i u h in
    let pushed : number bits ns (word ++ e ∷ []) ≡ number bits ns word + weight (not p) i =
    number-push bits ns word e ∙ (ap (λ (k : ℕ). number bits ns word + weight (value_of bits ns e) k) many ∙ ap (λ (t : Bool). number bits ns word + weight t i) (turned_value bits ns (get_or xs i u) e is)) in
    rw (mx, pushed) (complement-more i (number bits ns (take i xs)) (number bits ns word) p so_far)

-- a sum of no bits
pub sum_begun : (ns : List AigNode) (xs ys word : List Edge) (first : Edge) → word ≡ [] → Stands ns first
    → Carries ns word first 0 (λ bits. number bits ns (take 0 xs) + number bits ns (take 0 ys) + one_if (value_of bits ns first))
sum_begun ns xs ys word first none s = record {
  stand = subst (AllStand ns) (sym none) (AllStand-none ns);
  many = ap length none;
  stands = s;
  value = λ bits. rw none (omega (arith, weight-zero (value_of bits ns first)));
}

-- a difference is a sum with the complement
pub borrows : (ns : List AigNode) (es : List Edge) (carry one : Edge) (width : ℕ) (xs ys turned : List Edge) (old : List AigNode)
    → length ys ≡ width → ((bits : List Bool) → number bits old turned + number bits old ys + 1 ≡ 2 ^ length ys) → Has old one (λ bits. true)
    → Carries ns es carry width (λ bits. number bits old xs + number bits old turned + one_if (value_of bits old one))
    → Carries ns es carry width (λ bits. number bits old xs + 2 ^ width - number bits old ys)
borrows ns es carry one width xs ys turned old same whole is made = record {
  stand = made.stand;
  many = made.many;
  stands = made.stands;
  value = λ bits.
      let all : number bits old turned + number bits old ys + 1 ≡ 2 ^ width = whole bits ∙ ap (λ (k : ℕ). 2 ^ k) same in
      made.value bits ∙ omega (arith, all, ap one_if (is.value bits));
}
