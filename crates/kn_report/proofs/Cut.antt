-- Texts that are cut at a byte.
use Rattle.std.proofs.Common.{◌≡◌, ◌≢◌, ℕ, ◌+◌, ◌<◌, ◌^◌, List, [], ◌∷◌, ◌++◌, length, take, drop, get_or, refl, ap, sym, subst, ◌∙◌, arith}
use Rattle.std.specs.Prelude.{Some, None}
use Rattle.std.specs.Fmt.{decimal}
use Rattle.std.specs.Str.Parse.{AllDigits}
use Rattle.std.proofs.lemmas.Fmt.{decimal_is_IsNumeral}
use Rattle.std.proofs.lemmas.Str.Parse.{digit_from_value}
use Rattle.std.proofs.lemmas.List.{take_more}
use Rattle.std.proofs.Math.Seq.{drop-append_seam}
use Rattle.kn_report.specs.Words.{Without, BeginsWith}

-- what is there is one thing
pub some_is : {X : Type 0} (x y : X) → Some x ≡ Some y → x ≡ y
some_is x y e = cc

pub none_is : {X P : Type 0} (x : X) → None ≡ Some x → P
none_is x e = absurd cc

-- the digits of a number
pub decimal_digits : (n : ℕ) → n < 2 ^ 64 → AllDigits 10 (decimal n)
decimal_digits n h = (decimal_is_IsNumeral n h).0.1

pub decimal_some : (n : ℕ) → n < 2 ^ 64 → 0 < length (decimal n)
decimal_some n h = (decimal_is_IsNumeral n h).0.0

-- digits are not bytes below 48, nor such above 57
digits_without : (b : ℕ) (ds : List ℕ) → b < 48 → AllDigits 10 ds → Without b ds
digits_without b [] h d = tt
digits_without b (c ∷ ds) h d = (λ e. let r = digit_from_value c d.0 in omega (arith, r, e, h), digits_without b ds h d.1)

digits_below : (b : ℕ) (ds : List ℕ) → 57 < b → b < 65 → AllDigits 10 ds → Without b ds
digits_below b [] h l d = tt
digits_below b (c ∷ ds) h l d = (λ e. let r = digit_from_value c d.0 in omega (arith, r, e, h, l), digits_below b ds h l d.1)

pub decimal_without : (b n : ℕ) → b < 48 → n < 2 ^ 64 → Without b (decimal n)
decimal_without b n low small = digits_without b (decimal n) low (decimal_digits n small)

-- nor `=` and `@`
pub decimal_below : (b n : ℕ) → 57 < b → b < 65 → n < 2 ^ 64 → Without b (decimal n)
decimal_below b n high low small = digits_below b (decimal n) high low (decimal_digits n small)

pub without_append : (b : ℕ) (xs ys : List ℕ) → Without b xs → Without b ys → Without b (xs ++ ys)
without_append b [] ys p q = q
without_append b (x ∷ xs) ys p q = (p.0, without_append b xs ys p.1 q)

-- one byte more
pub without_more : (b : ℕ) (text : List ℕ) (place : ℕ) → place < length text → Without b (take place text) → get_or text place 0 ≢ b → Without b (take (place + 1) text)
without_more b text place inside so_far other =
    subst (Without b) (sym (take_more text place 0 inside)) (without_append b (take place text) (get_or text place 0 ∷ []) so_far (other, tt))

-- the heads and the tails of equal lists
pub head_is : (x y : ℕ) (xs ys : List ℕ) → x ∷ xs ≡ y ∷ ys → x ≡ y
head_is x y xs ys e = ap (λ (l : List ℕ). get_or l 0 0) e

pub tail_is : (x y : ℕ) (xs ys : List ℕ) → x ∷ xs ≡ y ∷ ys → xs ≡ ys
tail_is x y xs ys e = ap (λ (l : List ℕ). drop 1 l) e

-- a text is cut in one way at the first such byte
pub cut_once : (b : ℕ) (xs ys us vs : List ℕ) → Without b xs → BeginsWith b ys → Without b us → BeginsWith b vs → xs ++ ys ≡ us ++ vs → (xs ≡ us) × (ys ≡ vs)
cut_once b [] ys [] vs p q r s e = (refl, e)
cut_once b [] [] (u ∷ us) vs p q r s e = absurd cc
cut_once b [] (y ∷ ys) (u ∷ us) vs p q r s e = absurd (r.0 (sym (head_is y u ys (us ++ vs) e) ∙ q))
cut_once b (x ∷ xs) ys [] [] p q r s e = absurd cc
cut_once b (x ∷ xs) ys [] (v ∷ vs) p q r s e = absurd (p.0 (head_is x v (xs ++ ys) vs e ∙ s))
cut_once b (x ∷ xs) ys (u ∷ us) vs p q r s e =
    let rest = cut_once b xs ys us vs p.1 q r.1 s (tail_is x u (xs ++ ys) (us ++ vs) e) in
    (ap (λ (n : ℕ). n ∷ xs) (head_is x u (xs ++ ys) (us ++ vs) e) ∙ ap (λ (l : List ℕ). u ∷ l) rest.0, rest.1)

-- what stands behind a front of a known size
pub behind_front : (skip : ℕ) (text front rest : List ℕ) → length front ≡ skip → text ≡ front ++ rest → drop skip text ≡ rest
behind_front skip text front rest size is = ap (λ (n : ℕ). drop n text) (sym size) ∙ (ap (drop (length front)) is ∙ drop-append_seam front rest)

-- fronts are taken off alike
pub same_rest : (front xs ys : List ℕ) → front ++ xs ≡ front ++ ys → xs ≡ ys
same_rest front xs ys e = sym (drop-append_seam front xs) ∙ (ap (drop (length front)) e ∙ drop-append_seam front ys)
