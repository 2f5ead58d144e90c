-- The options of `explore`: their names, their values, and their words.
use Rattle.std.specs.Prelude.{◌≡◌, ◌≤◌, ◌⊎◌, ◌++◌, ℕ, Bool, List, [], ◌∷◌, Option, Some, IfSome, option_map, find, count_by, codes, decimal, bytes_eq}
use Rattle.kn_words.specs.declared.options.Name.{Name}
use Rattle.kn_words.specs.declared.options.Name.TheVariants as names

-- the greatest number of which the generator makes a network
abbrev pub most_made : ℕ
most_made = 35

abbrev pub name_text : Name → List ℕ
name_text names.Mapping = codes "--mapping"
name_text names.Workers = codes "--workers"
name_text names.Make = codes "--make"

-- an option, and the value that it is given
pub record Setting : Type 0 where
  pub name : Name
  pub value : List ℕ

-- two words, or one word with `=` between name and value
abbrev pub IsSpelled : Setting → List (List ℕ) → Type 0
IsSpelled s words = (words ≡ name_text s.name ∷ s.value ∷ []) ⊎ (words ≡ (name_text s.name ++ (codes "=" ++ s.value)) ∷ [])

-- the words of each setting, one setting after the other
abbrev pub AreSpelled : List Setting → List (List ℕ) → Type 0
AreSpelled [] words = words ≡ []
AreSpelled (s ∷ rest) words = (front back : List (List ℕ)) × (words ≡ front ++ back) × IsSpelled s front × AreSpelled rest back

abbrev pub is_of : Name → Setting → Bool
is_of name s = bytes_eq (name_text s.name) (name_text name)

-- what an option is given, if it is given
abbrev pub value_of : Name → List Setting → Option (List ℕ)
value_of name settings = option_map (λ (s : Setting). s.value) (find (is_of name) settings)

-- The words are options, in any order and each at most once: the mapping `cob`, which has to be there, one worker, and the
-- number that is made, written as `0` or as digits that do not begin with 0. Each may be left out but the mapping.
pub record AreOptions (made : Option ℕ) (words : List (List ℕ)) : Type 0 where
  pub settings : List Setting
  pub spelled : AreSpelled settings words
  pub once : (name : Name) → count_by (is_of name) settings ≤ 1
  pub mapping : value_of names.Mapping settings ≡ Some (codes "cob")
  pub workers : IfSome (value_of names.Workers settings) (λ value. value ≡ codes "1")
  pub making : value_of names.Make settings ≡ option_map decimal made
  pub range : IfSome made (λ number. number ≤ most_made)
