-- What clap makes of the options of `explore`, word by word.
use Rattle.std.proofs.Common.{◌≡◌, ◌∙◌, ℕ, ◌==◌, Bool, true, false, ◌&&◌, not, List, [], ◌∷◌, ◌++◌, refl, ap, Some, None, codes, append-nil}
use Rattle.std.specs.Str.{bytes_eq}
use Rattle.std.proofs.lemmas.Bool.{not-true, or_parts}
use Rattle.clap.specs.Walk.{Held, Row, Rule, Text, Walk, at_row, has_row, more_values, option, reacted, reading_by, settled, used, walk_from, walked, with_values, without}
use Rattle.clap.specs.Simple.{Shape, built, filled}
use Rattle.clap.specs.Takes.{react_passes, settle_passes, turn_passes, use_passes, value_passes}
use Rattle.clap.specs.declared.builder.value_parser.Reading.{Reading}
use Rattle.clap.specs.declared.parser.matches.ValueSource.TheVariants.{CommandLine}
use Rattle.kn_words.specs.Commands.{byte_parser, explore_app, text_rule}
use Rattle.kn_words.specs.Options.{Setting, name_text}
use Rattle.kn_words.specs.declared.options.Name.{Name}
use Rattle.kn_words.specs.declared.options.Name.TheVariants as names

-- the options, built
abbrev pub rule_for : Name → Rule
rule_for names.Mapping = filled (text_rule (codes "mapping"))
rule_for names.Workers = filled (text_rule (codes "workers"))
rule_for names.Make = filled (record (text_rule (codes "make")) { parser = Some byte_parser })

abbrev pub rules : List Rule
rules = rule_for names.Mapping ∷ rule_for names.Workers ∷ rule_for names.Make ∷ []

pub rules_are : (built explore_app).top.rules ≡ rules
rules_are = refl

-- ---- one word

pub one_word : (n : Name) (value : List ℕ) (h : Held) → walked rules [] (walk_from h) (name_text n ++ (codes "=" ++ value)) ≡ walk_from (reacted rules (rule_for n) (value ∷ []) h)
unfolding walked
one_word names.Mapping value h = refl
one_word names.Workers value h = refl
one_word names.Make value h = refl

-- an option of which the value is to come
abbrev pub waits_from : Name → Held → Walk
waits_from n h = record (walk_from (record (settled rules h) { pending = Some ((rule_for n).id, []) })) { waiting = option (rule_for n).id }

pub name_word : (n : Name) (h : Held) → walked rules [] (walk_from h) (name_text n) ≡ waits_from n h
unfolding walked
name_word names.Mapping h = refl
name_word names.Workers h = refl
name_word names.Make h = refl

-- the word is no flag
abbrev pub no_flag : List ℕ → Bool
no_flag [] = false
no_flag (x ∷ xs) = not (x == 45)

pub value_word : (n : Name) (h : Held) (value : List ℕ) → no_flag value ≡ true
    → walked rules [] (waits_from n h) value ≡ walk_from (record (settled rules h) { pending = Some ((rule_for n).id, value ∷ []) })
unfolding walked
value_word n h [] plain = absurd cc
value_word names.Mapping h (x ∷ xs) plain = let other : (x == 45) ≡ false = not-true _ plain in rw (other, other) refl
value_word names.Workers h (x ∷ xs) plain = let other : (x == 45) ≡ false = not-true _ plain in rw (other, other) refl
value_word names.Make h (x ∷ xs) plain = let other : (x == 45) ≡ false = not-true _ plain in rw (other, other) refl

-- ---- each word passes

abbrev pub top : Shape
top = (built explore_app).top

pub one_passes : (n : Name) (value : List ℕ) (h : Held) → turn_passes top [] (walk_from h) (name_text n ++ (codes "=" ++ value)) ≡ (react_passes rules false (rule_for n) (value ∷ []) h && true)
one_passes names.Mapping value h = refl
one_passes names.Workers value h = refl
one_passes names.Make value h = refl

pub name_passes : (n : Name) (h : Held) → turn_passes top [] (walk_from h) (name_text n) ≡ (settle_passes rules false h && true)
name_passes names.Mapping h = refl
name_passes names.Workers h = refl
name_passes names.Make h = refl

pub word_passes : (n : Name) (h : Held) (value : List ℕ) → no_flag value ≡ true → turn_passes top [] (waits_from n h) value ≡ true
word_passes n h [] plain = absurd cc
word_passes names.Mapping h (x ∷ xs) plain = let other : (x == 45) ≡ false = not-true _ plain in rw (other, other) refl
word_passes names.Workers h (x ∷ xs) plain = let other : (x == 45) ≡ false = not-true _ plain in rw (other, other) refl
word_passes names.Make h (x ∷ xs) plain = let other : (x == 45) ≡ false = not-true _ plain in rw (other, other) refl

-- a first use passes, of a value that the option takes
pub use_first : (n : Name) (value : List ℕ) (rows : List Row) → has_row (rule_for n).id rows ≡ false → value_passes (rule_for n) value ≡ true
    → use_passes false (rule_for n) (value ∷ []) rows ≡ true
use_first names.Mapping value rows new right = rw new refl
use_first names.Workers value rows new right = rw new refl
use_first names.Make value rows new right = rw (new, right) refl

-- ---- the rows

-- the row of an option with its value
abbrev pub row_for : Setting → Row
row_for s = record {
  id = (rule_for s.name).id;
  values = s.value ∷ [];
  count = None;
  source = Some CommandLine;
  reading = reading_by (rule_for s.name);
}

at_missing : (id : Text) (change : Row → List Row) (missing rows : List Row) → has_row id rows ≡ false → at_row id change missing rows ≡ rows ++ missing
at_missing id change missing [] none = refl
at_missing id change missing (r ∷ rows) none =
    let both = or_parts (bytes_eq r.id id) (has_row id rows) none in
    let here : bytes_eq r.id id ≡ false = both.0 in
    rw here (ap (λ (rs : List Row). r ∷ rs) (at_missing id change missing rows both.1))

used_with : (id : Text) (how : Reading) (value : List ℕ) (rows : List Row) → has_row id rows ≡ false
    → with_values id how CommandLine (value ∷ []) (without id rows) ≡ rows ++ record { id = id; values = value ∷ []; count = None; source = Some CommandLine; reading = how } ∷ []
used_with id how value rows none =
    let gone : without id rows ≡ rows = at_missing id (λ _. []) [] rows none ∙ append-nil rows in
    ap (with_values id how CommandLine (value ∷ [])) gone ∙ at_missing id (more_values CommandLine (value ∷ [])) _ rows none

pub used_first : (s : Setting) (rows : List Row) → has_row (rule_for s.name).id rows ≡ false → used (rule_for s.name) (s.value ∷ []) rows ≡ rows ++ row_for s ∷ []
used_first s rows none = go s.name s.value none
  where
    go : (n : Name) (value : List ℕ) → has_row (rule_for n).id rows ≡ false → used (rule_for n) (value ∷ []) rows ≡ rows ++ row_for (record { name = n; value = value }) ∷ []
    go names.Mapping value none = used_with (codes "mapping") _ value rows none
    go names.Workers value none = used_with (codes "workers") _ value rows none
    go names.Make value none = used_with (codes "make") _ value rows none
