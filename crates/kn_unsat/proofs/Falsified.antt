-- What is assigned after the literals of a clause are assigned false.
use Rattle.std.proofs.Common.{◌≡◌, ℕ, Bool, true, false, not, cond, eqb, List, [], ◌∷◌, ◌++◌, take, drop, refl, ap, sym, subst, ◌∙◌, inl, inr}
use Rattle.std.specs.Prelude.{Some, None, ◌⊎◌, if◌then◌else◌}
use Rattle.std.specs.declared.option.Option.{Option}
use Rattle.std.specs.Option.{option_map}
use Rattle.std.proofs.lemmas.Bool.{cases_Bool, eq-eqb}
use Rattle.std.proofs.lemmas.List.{take-append-drop}
use Rattle.kn_cnf.specs.declared.clauses.Lit.{Lit}
use Rattle.kn_cnf.specs.Units.{negated, valued, lit_value, Has}
use Rattle.kn_cnf.specs.Good.{falsified, HasBoth}
use Rattle.kn_cnf.proofs.Literals.{twice, has_more, has_front, has_last}
use Rattle.kn_cnf.proofs.Sound.{valued_has}

abbrev literal : ℕ → Bool → Lit
literal q n = record { var = q; neg = n }

not_own : (b : Bool) → b ≡ not b → ⊥
not_own true e = cc
not_own false e = cc

-- the last literal is assigned last
pub falsified_more : (ls xs : List Lit) (y : Lit) → falsified ls (xs ++ y ∷ []) ≡ negated y ∷ falsified ls xs
falsified_more ls [] y = refl
falsified_more ls (x ∷ xs) y = falsified_more (negated x ∷ ls) xs y

-- what is assigned is the negation of a literal
falsified_has : (ls xs : List Lit) (m : Lit) → Has (falsified ls xs) m → Has ls m ⊎ Has xs (negated m)
falsified_has ls [] m h = inl h
falsified_has ls (x ∷ xs) m h = elim (falsified_has (negated x ∷ ls) xs m h) [
  | inl g ↦ elim g [ inl e ↦ inr (inl (sym (twice x) ∙ ap (λ (k : Lit). negated k) e)) | inr k ↦ inl k ]
  | inr k ↦ inr (inr k)
]

has_falsified : (ls xs : List Lit) (m : Lit) → Has ls m ⊎ Has xs m → Has (falsified ls xs) m ⊎ Has (falsified ls xs) (negated m)
has_falsified ls [] m h = elim h [ inl g ↦ inl g | inr g ↦ absurd g ]
has_falsified ls (x ∷ xs) m h = elim h [
  | inl g ↦ has_falsified (negated x ∷ ls) xs m (inl (inr g))
  | inr g ↦ elim g [
    | inl e ↦ turned (has_falsified (negated x ∷ ls) xs (negated m) (inl (inl (ap (λ (k : Lit). negated k) e))))
    | inr k ↦ has_falsified (negated x ∷ ls) xs m (inr k)
  ]
]
  where
    turned : Has (falsified (negated x ∷ ls) xs) (negated m) ⊎ Has (falsified (negated x ∷ ls) xs) (negated (negated m)) → Has (falsified (negated x ∷ ls) xs) m ⊎ Has (falsified (negated x ∷ ls) xs) (negated m)
    turned h = elim h [ inl g ↦ inr g | inr g ↦ inl (subst (Has (falsified (negated x ∷ ls) xs)) (twice m) g) ]

-- the value of a literal says which literal is assigned
value_has : (ls : List Lit) (y : Lit) (b : Bool) → lit_value ls y ≡ Some b → Has ls (literal y.var (if b then y.neg else not y.neg))
value_has ls y b e = go (valued ls y.var) refl e
  where
    is : (n a : Bool) → Some (if n then not a else a) ≡ Some b → not a ≡ (if b then n else not n)
    is true true e = let same : false ≡ b = cc in rw (← same) refl
    is true false e = let same : true ≡ b = cc in rw (← same) refl
    is false true e = let same : true ≡ b = cc in rw (← same) refl
    is false false e = let same : false ≡ b = cc in rw (← same) refl

    go : (o : Option Bool) → valued ls y.var ≡ o → option_map (λ b. if y.neg then not b else b) (valued ls y.var) ≡ Some b → Has ls (literal y.var (if b then y.neg else not y.neg))
    go None at h = absurd (let wrong : None ≡ Some b = sym (ap (option_map (λ b. if y.neg then not b else b)) at) ∙ h in cc)
    go (Some a) at h =
        let found = valued_has ls y.var a at in
        let value : Some (if y.neg then not a else a) ≡ Some b = sym (ap (option_map (λ b. if y.neg then not b else b)) at) ∙ h in
        subst (λ (n : Bool). Has ls (literal y.var n)) (is y.neg a value) found

-- a literal that is assigned has a value
has_value : (ls : List Lit) (y : Lit) → Has ls y → lit_value ls y ≡ None → ⊥
has_value [] y h e = h
has_value (l ∷ ls) y h e =
    elim (cases_Bool (eqb l.var y.var)) [
      | inl is ↦ let wrong : Some (if y.neg then not (not l.neg) else not l.neg) ≡ None = sym (ap (λ (t : Bool). option_map (λ b. if y.neg then not b else b) (if t then Some (not l.neg) else valued ls y.var)) is) ∙ e in cc
      | inr is ↦
          let rest : lit_value ls y ≡ None = sym (ap (λ (t : Bool). option_map (λ b. if y.neg then not b else b) (if t then Some (not l.neg) else valued ls y.var)) is) ∙ e in
          elim h [
            | inl same ↦ let yes_it : eqb l.var y.var ≡ true = eq-eqb l.var y.var (ap (λ (k : Lit). k.var) same) in let wrong : true ≡ false = sym yes_it ∙ is in cc
            | inr g ↦ has_value ls y g rest
          ]
    ]

-- a literal that is true by then stands in the clause with its negation
pub both_here : (xs : List Lit) (y : Lit) → lit_value (falsified [] xs) y ≡ Some true → HasBoth (xs ++ y ∷ [])
both_here xs y e =
    elim (falsified_has [] xs y (value_has (falsified [] xs) y true e)) [
      | inl g ↦ absurd g
      | inr g ↦ (y, has_last xs y, has_front xs (y ∷ []) (negated y) g)
    ]

-- a literal whose negation stands in the clause is true by then
value_of_turned : (xs : List Lit) (y : Lit) → (HasBoth xs → ⊥) → Has xs (negated y) → lit_value (falsified [] xs) y ≡ Some true
value_of_turned xs y apart h = go (lit_value (falsified [] xs) y) refl
  where
    go : (o : Option Bool) → lit_value (falsified [] xs) y ≡ o → lit_value (falsified [] xs) y ≡ Some true
    go (Some true) e = e
    go (Some false) e = absurd (elim (falsified_has [] xs (negated y) (value_has (falsified [] xs) y false e)) [
      | inl g ↦ g
      | inr g ↦ apart (y, subst (Has xs) (twice y) g, h)
    ])
    go None e = absurd (elim (has_falsified [] xs (negated y) (inr h)) [
      | inl g ↦ elim (falsified_has [] xs (negated y) g) [
        | inl k ↦ k
        | inr k ↦ apart (y, subst (Has xs) (twice y) k, h)
      ]
      | inr g ↦ has_value (falsified [] xs) y (subst (Has (falsified [] xs)) (twice y) g) e
    ])

pub none_here : (xs : List Lit) (y : Lit) → (HasBoth xs → ⊥) → (lit_value (falsified [] xs) y ≡ Some true → ⊥) → HasBoth (xs ++ y ∷ []) → ⊥
none_here xs y apart opens both =
    elim (has_more xs y both.0 both.1) [
      | inl first ↦ elim (has_more xs y (negated both.0) both.2) [
        | inl second ↦ apart (both.0, first, second)
        | inr e ↦ opens (value_of_turned xs y apart (subst (Has xs) (sym (twice both.0) ∙ ap (λ (k : Lit). negated k) (sym e)) first))
      ]
      | inr e ↦ elim (has_more xs y (negated both.0) both.2) [
        | inl second ↦ opens (value_of_turned xs y apart (subst (Has xs) (ap (λ (k : Lit). negated k) (sym e)) second))
        | inr f ↦ not_own (both.0).neg (ap (λ (k : Lit). k.neg) (sym e ∙ f))
      ]
    ]

-- the literals of the front are the clause's
pub both_whole : (n : ℕ) (c : List Lit) → HasBoth (take n c) → HasBoth c
both_whole n c h =
    let has : (l : Lit) → Has (take n c) l → Has c l = λ l g. subst (λ (d : List Lit). Has d l) (take-append-drop n c) (has_front (take n c) (drop n c) l g) in
    (h.0, has h.0 h.1, has (negated h.0) h.2)

-- a variable more
pub valued_more : (before after : ℕ → Option Bool) (ls : List Lit) (m : Lit) (b : Bool) → ((q : ℕ) → before q ≡ valued ls q) → b ≡ not m.neg → ((q : ℕ) → after q ≡ cond (eqb m.var q) (Some b) (before q)) → (q : ℕ) → after q ≡ valued (m ∷ ls) q
valued_more before after ls m b so_far is updates q =
    updates q ∙ (ap (λ (o : Option Bool). cond (eqb m.var q) (Some b) o) (so_far q) ∙ ap (λ (n : Bool). cond (eqb m.var q) (Some n) (valued ls q)) is)
