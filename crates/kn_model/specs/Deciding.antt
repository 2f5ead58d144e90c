-- How conditions on constants and one-bit inputs are decided, literal by literal.
use Rattle.std.specs.Prelude.{◌≡◌, ℕ, Bool, true, false, not, ◌&&◌, ◌||◌, nat_eq, nat_lt, if◌then◌else◌, List, [], ◌∷◌, flat_map}
use Rattle.std.specs.List.{AllByRecursion}
use Rattle.kn_model.specs.Values.{Literal}
use Rattle.kn_model.specs.Terms.{Term, Word, Input, Apply, Choice, Valuation, word_holds}
use Rattle.kn_model.specs.Nodes.{State}
use Rattle.kn_model.specs.Conditions.{Condition}

-- a constant, or an input of one bit
abbrev pub IsPlainTerm : Term → Type 0
IsPlainTerm (Word w) = Unit {0}
IsPlainTerm (Input n k width) = width ≡ 1
IsPlainTerm (Apply op x y) = ⊥
IsPlainTerm (Choice c x y) = ⊥

-- each literal is on such a term
abbrev pub IsPlain : Condition → Type 0
IsPlain c = AllByRecursion (λ (l : Literal Term). IsPlainTerm l.value) c

-- a literal on a constant that does not hold
abbrev pub is_false_on : Term → Bool → Bool
is_false_on (Word w) truth = not (word_holds (record { value = w; truth = truth }))
is_false_on (Input n k width) truth = false
is_false_on (Apply op x y) truth = false
is_false_on (Choice c x y) truth = false

-- a literal that no inputs meet by itself
abbrev pub is_false : Literal Term → Bool
is_false l = is_false_on l.value l.truth

-- one is true and the other is not
abbrev pub differ : Bool → Bool → Bool
differ true c = not c
differ false c = c

-- two literals with different truths on one input of one bit
abbrev pub opposes_on : Term → Bool → Term → Bool → Bool
opposes_on (Input n k width) truth (Input m j other) truth' = nat_eq width 1 && (nat_eq other 1 && (nat_eq n m && (nat_eq k j && differ truth truth')))
opposes_on t truth u truth' = false

-- the same of two literals
abbrev pub opposes : Literal Term → Literal Term → Bool
opposes l m = opposes_on l.value l.truth m.value m.truth

-- a literal of the condition opposes this one
abbrev pub some_opposes : Literal Term → Condition → Bool
some_opposes l [] = false
some_opposes l (m ∷ c) = opposes l m || some_opposes l c

-- A literal on a constant that does not hold, or two that oppose each other: then no inputs meet the condition.
abbrev pub clashes : Condition → Bool
clashes [] = false
clashes (l ∷ c) = is_false l || (some_opposes l c || clashes c)

-- an input that is 1, in order of node and index; one that is listed stays as it is
abbrev pub put_one : ℕ → ℕ → Valuation → Valuation
put_one n k [] = record { node = n; index = k; word = 1 } ∷ []
put_one n k (g ∷ a) =
    if nat_lt n g.node || nat_eq n g.node && nat_lt k g.index then record { node = n; index = k; word = 1 } ∷ (g ∷ a)
    else (if nat_eq n g.node && nat_eq k g.index then g ∷ a else g ∷ put_one n k a)

-- the inputs that literals force to be 1
abbrev pub forced_by : Term → Bool → Valuation → Valuation
forced_by (Input n k width) true a = put_one n k a
forced_by t truth a = a

-- of a plain condition that does not clash these are the least inputs
abbrev pub forced : Condition → Valuation
forced [] = []
forced (l ∷ c) = forced_by l.value l.truth (forced c)

-- no node's own condition clashes
abbrev pub none_clashes : List (State Term) → Bool
none_clashes [] = true
none_clashes (s ∷ ss) = not (clashes s.own) && none_clashes ss

-- the own conditions of some states, joined
abbrev pub joined : List (State Term) → Condition
joined ss = flat_map (λ (s : State Term). s.own) ss
