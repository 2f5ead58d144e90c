-- Conditions on the inputs of a network: which inputs they read, which inputs meet them, and which of these are the least.
use Rattle.std.specs.Prelude.{◌≡◌, ℕ, ◌^◌, ◌<◌, ◌≤◌, max, Bool, true, ◌&&◌, ◌||◌, false, if◌then◌else◌, List, [], ◌∷◌, ◌++◌, length, flat_map, sum_by, nat_eq, Contains}
use Rattle.std.specs.List.{AllByRecursion}
use Rattle.std.specs.declared.cmp.Ordering.{Ordering}
use Rattle.std.specs.declared.cmp.Ordering.TheVariants.{Less, Equal, Greater}
use Rattle.std.specs.Ordering.{nat_cmp, ordering_then}
use Rattle.std.specs.Cmp.Lexicographic.{slice_cmp}
use Rattle.kn_term.specs.Terms.{Term, Word, Input, Apply, Choice, Valuation, ev}
use Rattle.kn_cond.specs.Literals.{Literal, word_holds}
use Rattle.kn_cond.specs.declared.standing.Standing.{Standing}
use Rattle.kn_cond.specs.declared.standing.Standing.TheVariants.{Inputs, Open}

-- a list of literals; it holds where each of them does
abbrev pub Condition : Type 0
Condition = List (Literal Term)

-- a literal over words, under a valuation
abbrev pub literal_in : Valuation → Literal Term → Literal ℕ
literal_in a l = record { value = ev a l.value; truth = l.truth }

-- a literal holds under a valuation
abbrev pub literal_holds : Valuation → Literal Term → Bool
literal_holds a l = word_holds (literal_in a l)

-- each literal holds
abbrev pub holds : Valuation → Condition → Bool
holds a [] = true
holds a (l ∷ c) = literal_holds a l && holds a c

-- an input, and a width with which it is read
pub record Read : Type 0 where
  pub node : ℕ
  pub index : ℕ
  pub width : ℕ

-- the inputs that a term reads
abbrev pub reads_in : Term → List Read
reads_in (Word w) = []
reads_in (Input n k width) = record { node = n; index = k; width = width } ∷ []
reads_in (Apply op x y) = reads_in x ++ reads_in y
reads_in (Choice c x y) = reads_in c ++ (reads_in x ++ reads_in y)

-- by node, then by index
abbrev pub read_cmp : Read → Read → Ordering
read_cmp r s = ordering_then (nat_cmp r.node s.node) (nat_cmp r.index s.index)

-- in order of node and index, each input once, with its greatest width
abbrev pub put_before : Ordering → Read → Read → List Read → List Read → List Read
put_before Less r s ss more = r ∷ s ∷ ss
put_before Equal r s ss more = record s { width = max r.width s.width } ∷ ss
put_before Greater r s ss more = s ∷ more

-- one more read, in its place
abbrev pub put_read : Read → List Read → List Read
put_read r [] = r ∷ []
put_read r (s ∷ ss) = put_before (read_cmp r s) r s ss (put_read r ss)

-- all reads, in order
abbrev pub widest : List Read → List Read
widest [] = []
widest (r ∷ rs) = put_read r (widest rs)

-- the inputs that a condition reads
abbrev pub reads_of : Condition → List Read
reads_of c = flat_map (λ (l : Literal Term). reads_in l.value) c

-- What is asked of the inputs: those that it reads, and which valuations meet it.
pub record Query : Type 0 where
  pub reads : List Read
  pub meets : Valuation → Bool

-- what a condition asks
abbrev pub that : Condition → Query
that c = record { reads = widest (reads_of c); meets = λ a. holds a c }

-- some alternative of each column holds
abbrev pub some_holds : Valuation → List Condition → Bool
some_holds a [] = false
some_holds a (c ∷ cs) = holds a c || some_holds a cs

-- each column has an alternative that holds
abbrev pub columns_hold : Valuation → List (List Condition) → Bool
columns_hold a [] = true
columns_hold a (cs ∷ css) = some_holds a cs && columns_hold a css

-- a condition, and columns of alternatives
abbrev pub that_with : Condition → List (List Condition) → Query
that_with c columns = record {
  reads = widest (reads_of c ++ flat_map (λ cs. flat_map reads_of cs) columns);
  meets = λ a. holds a c && columns_hold a columns;
}

-- some valuation meets it
abbrev pub IsPossible : Query → Type 0
IsPossible q = (a : Valuation) × (q.meets a ≡ true)

-- no valuation meets it
abbrev pub IsImpossible : Query → Type 0
IsImpossible q = (a : Valuation) → q.meets a ≡ false

-- how many bits it reads
abbrev pub bits_of : Query → ℕ
bits_of q = sum_by (λ (r : Read). r.width) q.reads

-- it has at most so many valuations
abbrev pub IsSmall : ℕ → Query → Type 0
IsSmall conflicts q = 2 ^ bits_of q ≤ conflicts

-- possible, or not small
abbrev pub IsLive : ℕ → Query → Type 0
IsLive conflicts q = IsImpossible q → IsSmall conflicts q → ⊥

-- one word for each input that is read, of its width
abbrev pub AreWords : List Read → List ℕ → Type 0
AreWords [] [] = Unit {0}
AreWords [] (w ∷ ws) = ⊥
AreWords (r ∷ rs) [] = ⊥
AreWords (r ∷ rs) (w ∷ ws) = (w < 2 ^ r.width) × AreWords rs ws

-- the valuation of these words, 0 to all others; words that are 0 are not listed
abbrev pub listing : Read → ℕ → Valuation → Valuation
listing r w a = if nat_eq w 0 then a else record { node = r.node; index = r.index; word = w } ∷ a

-- these words, one for each read
abbrev pub valuation_of : List Read → List ℕ → Valuation
valuation_of [] ws = []
valuation_of (r ∷ rs) [] = []
valuation_of (r ∷ rs) (w ∷ ws) = listing r w (valuation_of rs ws)

-- input by input, in order of node and index
abbrev pub ComesBefore : List ℕ → List ℕ → Type 0
ComesBefore ws vs = slice_cmp nat_cmp ws vs ≡ Less

-- these words are of its reads, and meet it
abbrev pub MeetsWith : Query → List ℕ → Type 0
MeetsWith q ws = AreWords q.reads ws × (q.meets (valuation_of q.reads ws) ≡ true)

-- the least inputs that meet it
pub record IsLeast (q : Query) (a : Valuation) : Type 0 where
  pub given_words : List ℕ
  pub is : a ≡ valuation_of q.reads given_words
  pub meet : MeetsWith q given_words
  pub least : (ws : List ℕ) → MeetsWith q ws → ComesBefore ws given_words → ⊥

-- no two members are the same
abbrev pub AreDistinct : {A : Type 0} → List A → Type 0
AreDistinct [] = Unit {0}
AreDistinct (x ∷ xs) = (Contains xs x → ⊥) × AreDistinct xs

-- not small, and so many different valuations come before each one that meets it
pub record IsFar (conflicts : ℕ) (q : Query) : Type 0 where
  pub large : IsSmall conflicts q → ⊥
  pub tried : List (List ℕ)
  pub many : length tried ≡ conflicts
  pub distinct : AreDistinct tried
  pub each : AllByRecursion (AreWords q.reads) tried
  pub before : AllByRecursion (λ ws. (vs : List ℕ) → MeetsWith q vs → ComesBefore ws vs) tried

-- the least inputs, or the mark of a condition that is far
abbrev pub StandsFor : ℕ → Query → Standing → Type 0
StandsFor conflicts q (Inputs a) = IsLeast q a
StandsFor conflicts q (Open leaves) = (leaves ≡ conflicts) × IsFar conflicts q
