-- Options read word by word, and the settings that the words spell.
use Rattle.std.proofs.Common.{◌≡◌, ◌∙◌, ℕ, suc, ◌+◌, ◌==◌, ◌||◌, not, cond, if◌then◌else◌, Bool, true, false, List, [], ◌∷◌, ◌++◌, refl, ap, arith, Option, Some, None, codes, inl, inr, take, drop}
use Rattle.std.specs.Option.{option_map, option_and_then}
use Rattle.std.specs.List.{before_first, after_first, position_or_len}
use Rattle.std.proofs.lemmas.Bool.{eqb-true}
use Rattle.std.proofs.lemmas.Slice.Eq.{bytes_eq-Decides}
use Rattle.kn_words.specs.Options.{Setting, AreSpelled, name_text}
use Rattle.kn_words.specs.Reading.{name_in, with_option, between, before_value, after_both, after_option, has_equals, read_from}
use Rattle.kn_words.specs.declared.options.Given.{Given}
use Rattle.kn_words.specs.declared.options.Name.{Name}
use Rattle.kn_words.specs.declared.options.Name.TheVariants as names
use Rattle.kn_words.specs.declared.options.Reading.{Reading}

-- which options are given after these settings
abbrev pub taken : List Setting → Given → Option Given
taken [] g = Some g
taken (s ∷ rest) g = option_and_then (taken rest) (with_option s.name s.value g)

-- ---- what is spelled is read

first_word : (n : Name) (g : Given) → after_option g (name_text n) ≡ Some (before_value g n)
first_word names.Mapping g = refl
first_word names.Workers g = refl
first_word names.Make g = refl

one_word : (n : Name) (g : Given) (value : List ℕ) → after_option g (name_text n ++ (codes "=" ++ value)) ≡ option_map between (with_option n value g)
one_word names.Mapping g value = refl
one_word names.Workers g value = refl
one_word names.Make g value = refl

-- after a setting the rest is read
rest_read : (o : Option Given) (words : List (List ℕ)) (f : Given → Option Given) → ((g : Given) → read_from (between g) words ≡ f g)
    → option_and_then (λ q. read_from q words) (option_map between o) ≡ option_and_then f o
rest_read None words f same = refl
rest_read (Some g) words f same = same g

pub spelled_read : (settings : List Setting) (words : List (List ℕ)) (g : Given) → AreSpelled settings words → read_from (between g) words ≡ taken settings g
spelled_read [] words g spelled = ap (read_from (between g)) spelled
spelled_read (s ∷ rest) words g (front, back, joined, spelled, more) = ap (read_from (between g)) joined ∙ elim spelled [
  | inl two ↦
      ap (λ (f : List (List ℕ)). read_from (between g) (f ++ back)) two
      ∙ ap (option_and_then (λ (q : Reading). read_from q (s.value ∷ back))) (first_word s.name g)
      ∙ rest_read (with_option s.name s.value g) back (taken rest) (λ h. spelled_read rest back h more)
  | inr one ↦
      ap (λ (f : List (List ℕ)). read_from (between g) (f ++ back)) one
      ∙ ap (option_and_then (λ (q : Reading). read_from q back)) (one_word s.name g s.value)
      ∙ rest_read (with_option s.name s.value g) back (taken rest) (λ h. spelled_read rest back h more)
]

-- ---- what is read is spelled

choose : (text : List ℕ) (n m : Name) (b : Bool) (rest : Option Name) → (b ≡ true → text ≡ name_text m) → (rest ≡ Some n → text ≡ name_text n)
    → (if b then Some m else rest) ≡ Some n → text ≡ name_text n
choose text n m true rest here there e = let same : m ≡ n = cc in here refl ∙ ap name_text same
choose text n m false rest here there e = there e

name_tells : (text : List ℕ) (n : Name) → name_in text ≡ Some n → text ≡ name_text n
name_tells text n =
    choose text n names.Mapping _ _ (bytes_eq-Decides text (name_text names.Mapping)).0
    (choose text n names.Workers _ _ (bytes_eq-Decides text (name_text names.Workers)).0
    (choose text n names.Make _ None (bytes_eq-Decides text (name_text names.Make)).0 (λ e. absurd cc)))

-- a word with `=` is what stands before it, and what stands after it
cut_word : (word : List ℕ) → has_equals word ≡ true → word ≡ before_first (λ x. x == 61) word ++ (61 ∷ after_first (λ x. x == 61) word)
cut_word [] e = absurd cc
cut_word (x ∷ xs) e = go (x == 61) refl (λ has. cut_word xs has) e
  where
    go : (b : Bool) → (x == 61) ≡ b
        → (has_equals xs ≡ true → xs ≡ take (position_or_len (λ y. y == 61) xs) xs ++ (61 ∷ drop (position_or_len (λ y. y == 61) xs + 1) xs))
        → (b || has_equals xs) ≡ true
        → x ∷ xs ≡ take (cond (not b) (1 + position_or_len (λ y. y == 61) xs) 0) (x ∷ xs) ++ (61 ∷ drop (cond (not b) (1 + position_or_len (λ y. y == 61) xs) 0 + 1) (x ∷ xs))
    go true is rest has = ap (λ (y : ℕ). y ∷ xs) (eqb-true x 61 is)
    go false is rest has =
        let one : 1 + position_or_len (λ y. y == 61) xs ≡ suc (position_or_len (λ y. y == 61) xs) = omega arith in
        let two : suc (position_or_len (λ y. y == 61) xs) + 1 ≡ suc (position_or_len (λ y. y == 61) xs + 1) = omega arith in
        rw (one, two) (ap (λ (ys : List ℕ). x ∷ ys) (rest has))

after_value : (o : Option Given) (words : List (List ℕ)) (h : Given) → option_and_then (λ q. read_from q words) (option_map between o) ≡ Some h
    → (g : Given) × (read_from (between g) words ≡ Some h)
after_value None words h e = absurd cc
after_value (Some g) words h e = (g, e)

record Named (text : List ℕ) (o : Name → Option Given) (words : List (List ℕ)) (h : Given) : Type 0 where
  name : Name
  is : text ≡ name_text name
  given : Given
  left : read_from (between given) words ≡ Some h

named_value : (text : List ℕ) (o : Option Name) (f : Name → Option Given) (words : List (List ℕ)) (h : Given) → name_in text ≡ o
    → option_and_then (λ q. read_from q words) (option_and_then (λ n. option_map between (f n)) o) ≡ Some h → Named text f words h
named_value text None f words h is e = absurd cc
named_value text (Some n) f words h is e = let after = after_value (f n) words h e in record { name = n; is = name_tells text n is; given = after.0; left = after.1 }

-- the words spell settings
record Spells (words : List (List ℕ)) : Type 0 where
  settings : List Setting
  spelled : AreSpelled settings words

-- the words are a value, and then spell settings
record SpellsAfter (words : List (List ℕ)) : Type 0 where
  value : List ℕ
  left : List (List ℕ)
  split : words ≡ value ∷ left
  more : Spells left

-- without a value that is waited for, and with one
record Reads (words : List (List ℕ)) : Type 0 where
  between_options : (g h : Given) → read_from (between g) words ≡ Some h → Spells words
  before_values : (g h : Given) (n : Name) → read_from (before_value g n) words ≡ Some h → SpellsAfter words

in_one : (word : List ℕ) (rest : List (List ℕ)) (g h : Given) → has_equals word ≡ true → Reads rest
    → option_and_then (λ q. read_from q rest) (after_both g (before_first (λ x. x == 61) word) (after_first (λ x. x == 61) word)) ≡ Some h → Spells (word ∷ rest)
in_one word rest g h has reads e =
    let named = named_value (before_first (λ x. x == 61) word) (name_in (before_first (λ x. x == 61) word)) (λ n. with_option n (after_first (λ x. x == 61) word) g) rest h refl e in
    let more = reads.between_options named.given h named.left in record {
      settings = record { name = named.name; value = after_first (λ x. x == 61) word } ∷ more.settings;
      spelled = (
        word ∷ [],
        rest,
        refl,
        inr (ap (λ (w : List ℕ). w ∷ []) (cut_word word has ∙ ap (λ (t : List ℕ). t ++ (61 ∷ after_first (λ x. x == 61) word)) named.is)),
        more.spelled,
      );
    }

in_two : (word : List ℕ) (rest : List (List ℕ)) (g h : Given) (o : Option Name) → name_in word ≡ o → Reads rest
    → option_and_then (λ q. read_from q rest) (option_map (before_value g) o) ≡ Some h → Spells (word ∷ rest)
in_two word rest g h None is reads e = absurd cc
in_two word rest g h (Some n) is reads e =
    let after = reads.before_values g h n e in record {
      settings = record { name = n; value = after.value } ∷ after.more.settings;
      spelled = (
        word ∷ after.value ∷ [],
        after.left,
        ap (λ (ws : List (List ℕ)). word ∷ ws) after.split,
        inl (ap (λ (w : List ℕ). w ∷ after.value ∷ []) (name_tells word n is)),
        after.more.spelled,
      );
    }

reads_option : (word : List ℕ) (rest : List (List ℕ)) (g h : Given) (b : Bool) → has_equals word ≡ b → Reads rest
    → option_and_then (λ q. read_from q rest) (if b then after_both g (before_first (λ x. x == 61) word) (after_first (λ x. x == 61) word) else option_map (before_value g) (name_in word)) ≡ Some h
    → Spells (word ∷ rest)
reads_option word rest g h true has reads e = in_one word rest g h has reads e
reads_option word rest g h false has reads e = in_two word rest g h (name_in word) refl reads e

reads : (words : List (List ℕ)) → Reads words
reads [] = record { between_options = λ g h e. record { settings = []; spelled = refl }; before_values = λ g h n e. absurd cc }
reads (word ∷ rest) = record {
  between_options = λ g h e. reads_option word rest g h (has_equals word) refl (reads rest) e;
  before_values = λ g h n e. let after = after_value (with_option n word g) rest h e in
      record { value = word; left = rest; split = refl; more = (reads rest).between_options after.0 h after.1 };
}

pub read_spelled : (words : List (List ℕ)) (g h : Given) → read_from (between g) words ≡ Some h → (settings : List Setting) × AreSpelled settings words
read_spelled words g h e = let spells = (reads words).between_options g h e in (spells.settings, spells.spelled)
