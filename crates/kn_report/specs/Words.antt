-- How a text is taken apart: words of a line, lines of a section.
use Rattle.std.specs.Prelude.{◌≡◌, ◌≢◌, ℕ, ◌+◌, ⊤, List, [], ◌∷◌, ◌++◌, length, ◌⊎◌, codes, Option, Some, None}
use denote.Ref.{Bor}
use Rattle.kn_report.specs.Texts.{numbered_from}

-- no byte is this one
abbrev pub Without : ℕ → List ℕ → Type 0
Without b [] = ⊤
Without b (c ∷ cs) = (c ≢ b) × Without b cs

-- the text is empty or begins with this byte
abbrev pub BeginsWith : ℕ → List ℕ → Type 0
BeginsWith b [] = ⊤
BeginsWith b (c ∷ cs) = c ≡ b

-- a text is a front of so many bytes, a word, and a rest
pub record IsWordBehind (text : List ℕ) (skip : ℕ) (word rest : List ℕ) : Type 0 where
  pub front : List ℕ
  pub size : length front ≡ skip
  pub no_blank : Without 32 word
  pub ends : BeginsWith 32 rest
  pub whole : text ≡ front ++ (word ++ rest)

-- what may stand behind numbers: nothing, or the word `inputs`
abbrev pub EndsNumbers : ℕ → List ℕ → Type 0
EndsNumbers byte more = (more ≡ []) ⊎ ((tail : List ℕ) × (more ≡ byte ∷ (codes "inputs" ++ tail)) × BeginsWith byte tail)

-- what was read has this view
abbrev pub Reads : {A B : Type 0} → (A → B) → B → Option A → Type 0
Reads view b None = ⊥
Reads view b (Some a) = view a ≡ b

-- An item stands at the front of a text, and this follows it. Any item that stands there is this one.
pub record IsItemRead {A : Type 0} (spelled : A → List ℕ) (P : A → Type 0) (text : List ℕ) (x : A) (after : List ℕ) : Type 0 where
  pub whole : text ≡ spelled x ++ after
  pub good : P x
  pub one : (y : A) (more : List ℕ) → P y → text ≡ spelled y ++ more → (y ≡ x) × (more ≡ after)

-- the next item of a text, or that there is none
abbrev pub IsNextItem : {A : Type 0} → (A → List ℕ) → (A → Type 0) → List ℕ → Option (A × Bor (List ℕ)) → Type 0
IsNextItem {A} spelled P text None = (y : A) (more : List ℕ) → P y → text ≡ spelled y ++ more → ⊥
IsNextItem {A} spelled P text (Some p) = IsItemRead spelled P text p.0 p.1.now

-- each item is good, by its number
abbrev pub AllFrom : {A : Type 0} → (ℕ → A → Type 0) → ℕ → List A → Type 0
AllFrom P k [] = ⊤
AllFrom P k (x ∷ xs) = P k x × AllFrom P (k + 1) xs

-- Items stand one behind another at the front of a text, and this follows them. Any items that stand there are the first ones of these.
pub record AreRead {A : Type 0} (spelled : ℕ → A → List ℕ) (P : ℕ → A → Type 0) (text : List ℕ) (xs : List A) (after : List ℕ) : Type 0 where
  pub whole : text ≡ numbered_from spelled 0 xs ++ after
  pub good : AllFrom P 0 xs
  pub most : (ys : List A) (more : List ℕ) → AllFrom P 0 ys → text ≡ numbered_from spelled 0 ys ++ more
      → (tail : List A) × (xs ≡ ys ++ tail) × (more ≡ numbered_from spelled (length ys) tail ++ after)
