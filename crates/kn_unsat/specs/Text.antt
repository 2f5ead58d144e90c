-- The text of logs.
use Rattle.std.specs.Prelude.{◌≡◌, ◌≢◌, ◌<◌, ◌+◌, ◌^◌, ℕ, suc, if◌then◌else◌, List, [], ◌∷◌, ◌++◌, length, flat_map}
use Rattle.std.specs.Fmt.{decimal}
use Rattle.std.specs.List.{AllByRecursion}
use Rattle.kn_cnf.specs.declared.clauses.Lit.{Lit}
use Rattle.kn_cnf.specs.Formulas.{Step}

-- a literal: the variable plus 1, with a minus in front where it is negated
abbrev pub literal_text : Lit → List ℕ
literal_text l = (if l.neg then 45 ∷ [] else []) ++ decimal (l.var + 1)

-- a literal, and a hint, behind a space
abbrev pub literal_word : Lit → List ℕ
literal_word l = 32 ∷ literal_text l

abbrev pub hint_word : ℕ → List ℕ
hint_word h = 32 ∷ decimal h

-- `h` and the hints
abbrev pub hints_text : List ℕ → List ℕ
hints_text hs = 32 ∷ (104 ∷ flat_map hint_word hs)

-- a line, without its end
abbrev pub body_text : Step → List ℕ
body_text s = 99 ∷ (flat_map literal_word s.clause ++ hints_text s.hints)

-- a line and its end
abbrev pub line_text : Step → List ℕ
line_text s = body_text s ++ 10 ∷ []

-- all lines
abbrev pub text_of : List Step → List ℕ
text_of log = flat_map line_text log

-- each number of the line fits in 64 bits
pub record IsNumbered (s : Step) : Type 0 where
  pub variables : AllByRecursion (λ (l : Lit). l.var < 2 ^ 64) s.clause
  pub hints : AllByRecursion (λ (h : ℕ). h < 2 ^ 64) s.hints

-- the text begins with lines of the form, and this is the number, from 1, of the first line that is not
pub record IsBadAt (text : List ℕ) (line : ℕ) : Type 0 where
  pub front : List Step
  pub rest : List ℕ
  pub whole : text ≡ text_of front ++ rest
  pub numbered : AllByRecursion IsNumbered front
  pub number : line ≡ suc (length front)
  pub more : rest ≢ []
  pub wrong : (s : Step) (after : List ℕ) → IsNumbered s → rest ≡ line_text s ++ after → ⊥
