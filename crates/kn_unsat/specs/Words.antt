-- How a text is taken apart.
use Rattle.std.specs.Prelude.{◌≡◌, ◌≢◌, ℕ, ⊤, List, [], ◌∷◌, ◌++◌, Some, None, flat_map, Vec}
use Rattle.std.specs.declared.option.Option.{Option}
use Rattle.std.specs.declared.alloc.Global.{Global}
use denote.Ref.{Bor}
use Rattle.kn_cnf.specs.declared.clauses.Lit.{Lit}
use Rattle.kn_cnf.specs.Formulas.{Step}
use Rattle.kn_unsat.specs.Text.{hint_word, line_text, IsNumbered}

-- no byte is this one
abbrev pub Without : ℕ → List ℕ → Type 0
Without b [] = ⊤
Without b (c ∷ cs) = (c ≢ b) × Without b cs

-- the text is empty or begins with this byte
abbrev pub BeginsWith : ℕ → List ℕ → Type 0
BeginsWith b [] = ⊤
BeginsWith b (c ∷ cs) = c ≡ b

-- the literals were read, and the hints follow
abbrev pub IsLiteralsRead : List Lit → List ℕ → Option (Vec Lit Global × Bor (List ℕ)) → Type 0
IsLiteralsRead c hs None = ⊥
IsLiteralsRead c hs (Some p) = ((p.0).items ≡ c) × ((p.1).now ≡ flat_map hint_word hs)

-- the hints were read
abbrev pub IsHintsRead : List ℕ → Option (Vec ℕ Global) → Type 0
IsHintsRead hs None = ⊥
IsHintsRead hs (Some v) = v.items ≡ hs

-- the line stands at the front of the text, and this follows it
pub record IsLineRead (text : List ℕ) (line : Step) (after : List ℕ) : Type 0 where
  pub whole : text ≡ line_text line ++ after
  pub numbered : IsNumbered line
  pub one : (s : Step) (more : List ℕ) → IsNumbered s → text ≡ line_text s ++ more → (s ≡ line) × (more ≡ after)
