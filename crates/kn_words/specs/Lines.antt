-- The command lines.
use Rattle.std.specs.Prelude.{◌≡◌, ◌≤◌, ℕ, List, [], ◌∷◌, Option, Some, None, map, codes, decimal}
use denote.Ref.{Bor}
use Rattle.kn_words.specs.Options.{AreOptions, most_made}
use Rattle.kn_words.specs.declared.line.Line.{Line}
use Rattle.kn_words.specs.declared.line.Line.TheVariants as lines

-- the bytes of each word
abbrev pub words_of : List (Bor (List ℕ)) → List (List ℕ)
words_of words = map (λ (w : Bor (List ℕ)). w.now) words

-- the words are `explore` with options
abbrev pub Explores : Option ℕ → List (List ℕ) → Type 0
Explores made words = (options : List (List ℕ)) × (words ≡ codes "explore" ∷ options) × AreOptions made options

-- The words ask for this: `explore` with options, `replay`, or `make` with a number.
abbrev pub IsLine : Line → List (List ℕ) → Type 0
IsLine lines.Explore words = Explores None words
IsLine (lines.ExploreMade number) words = Explores (Some number) words
IsLine lines.Replay words = words ≡ codes "replay" ∷ []
IsLine (lines.Make number) words = (words ≡ codes "make" ∷ decimal number ∷ []) × (number ≤ most_made)

-- the words are a command line
abbrev pub IsCommandLine : List (List ℕ) → Type 0
IsCommandLine words = (line : Line) × IsLine line words
