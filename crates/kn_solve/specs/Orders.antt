-- The place of words in the order of least inputs.
use Rattle.std.specs.Prelude.{ℕ, ◌+◌, ◌*◌, ◌/◌, ◌%◌, ◌^◌, ◌<◌, ◌&&◌, nat_eq, if◌then◌else◌, List, [], ◌∷◌, sum_by}
use Rattle.kn_cond.specs.Conditions.{Read, Query, MeetsWith}

-- how many bits inputs have together
abbrev pub width_of : List Read → ℕ
width_of rs = sum_by (λ (r : Read). r.width) rs

-- how many lists of words come before this one: a digit for each input, the first one highest
abbrev pub rank : List Read → List ℕ → ℕ
rank [] ws = 0
rank (r ∷ rs) [] = 0
rank (r ∷ rs) (w ∷ ws) = w * 2 ^ width_of rs + rank rs ws

-- the words of a number, which is their place in the order of least inputs where it is low enough
abbrev pub words_for : List Read → ℕ → List ℕ
words_for [] i = []
words_for (r ∷ rs) i = i / 2 ^ width_of rs % 2 ^ r.width ∷ words_for rs i

-- the word of an input among words
abbrev pub word_at : List Read → List ℕ → ℕ → ℕ → ℕ
word_at [] ws n k = 0
word_at (r ∷ rs) [] n k = 0
word_at (r ∷ rs) (w ∷ ws) n k = if nat_eq r.node n && nat_eq r.index k then w else word_at rs ws n k

-- no words that meet what is asked come before this place
abbrev pub NoneBelow : Query → ℕ → Type 0
NoneBelow q i = (ws : List ℕ) → MeetsWith q ws → rank q.reads ws < i → ⊥
