-- The inputs in order.
use Rattle.std.proofs.Common.{◌≡◌, ℕ, zero, suc, ◌+◌, Bool, true, false, not, List, [], ◌∷◌, ◌++◌, refl, ap, sym, subst, ◌∙◌, inl, inr, arith}
use Rattle.std.specs.Prelude.{Some, None, is_some, unwrap_or}
use Rattle.std.specs.declared.option.Option.{Option}
use Rattle.std.specs.Option.{option_map}
use Rattle.std.proofs.lemmas.Bool.{cases_eq}
use Rattle.kn_cnf.specs.declared.clauses.Lit.{Lit}
use Rattle.kn_cnf.specs.Encoding.{bits_from}
use Rattle.kn_cnf.specs.Units.{valued, lit_value}
use Rattle.kn_sat.specs.Trails.{bit}
use Rattle.kn_sat.specs.Propagating.{AreAssigned}

-- the value of the literal that is a variable
pub plain_value : (ls : List Lit) (q : ℕ) → lit_value ls (record { var = q; neg = false }) ≡ valued ls q
plain_value ls q = go (valued ls q)
  where
    go : (o : Option Bool) → option_map (λ b. b) o ≡ o
    go None = refl
    go (Some b) = refl

-- an input more that is assigned
pub assigned_more : (n : ℕ) (ls : List Lit) (o : Option Bool) (none : Bool) → o ≡ lit_value ls (record { var = n; neg = false }) → is_some o ≡ not none → none ≡ false → AreAssigned n ls → AreAssigned (n + 1) ls
assigned_more n ls o none value test is so_far i low = elim (cases_eq i n) [
  | inl e ↦ subst (λ k. (b : Bool) × (valued ls k ≡ Some b)) (sym e) (go o (value ∙ plain_value ls n) (test ∙ ap not is))
  | inr d ↦ so_far i (omega arith)
]
  where
    go : (o : Option Bool) → o ≡ valued ls n → is_some o ≡ true → (b : Bool) × (valued ls n ≡ Some b)
    go None v s = absurd cc
    go (Some b) v s = (b, sym v)

-- one value more
pub bits_more : (f : ℕ → Bool) (i n : ℕ) → bits_from f i (n + 1) ≡ bits_from f i n ++ f (i + n) ∷ []
bits_more f i n = subst (λ k. bits_from f i k ≡ bits_from f i n ++ f (i + n) ∷ []) (suc_is n) (go i n)
  where
    suc_is : (n : ℕ) → suc n ≡ n + 1
    suc_is n = omega arith

    go : (i n : ℕ) → bits_from f i (suc n) ≡ bits_from f i n ++ f (i + n) ∷ []
    go i zero = let e : i + 0 ≡ i = omega arith in ap (λ k. f k ∷ []) (sym e)
    go i (suc n) = let e : (i + 1) + n ≡ i + suc n = omega arith in ap (λ (bs : List Bool). f i ∷ bs) (go (i + 1) n ∙ ap (λ k. bits_from f (i + 1) n ++ f k ∷ []) e)

pub bits_push : (ls : List Lit) (n : ℕ) (bits more : List Bool) (o : Option Bool) (b : Bool) → bits ≡ bits_from (bit ls) 0 n → o ≡ lit_value ls (record { var = n; neg = false }) → b ≡ unwrap_or o false → more ≡ bits ++ b ∷ [] → more ≡ bits_from (bit ls) 0 (n + 1)
bits_push ls n bits more o b so_far value is push =
    let own : b ≡ bit ls n = is ∙ ap (λ p. unwrap_or p false) (value ∙ plain_value ls n) in
    let e : 0 + n ≡ n = omega arith in
    push ∙ (ap (λ (bs : List Bool). bs ++ b ∷ []) so_far ∙ (ap (λ (c : Bool). bits_from (bit ls) 0 n ++ c ∷ []) (own ∙ ap (bit ls) (sym e)) ∙ sym (bits_more (bit ls) 0 n)))
