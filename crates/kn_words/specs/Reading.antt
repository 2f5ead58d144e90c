-- Options as the code reads them, word by word.
use Rattle.std.specs.Prelude.{ℕ, Bool, true, false, not, ◌&&◌, ◌||◌, ◌==◌, nat_le, if◌then◌else◌, List, [], ◌∷◌, Option, Some, None, option_map, option_and_then, is_some, length, slice_index, codes, decimal, bytes_eq}
use Rattle.std.specs.List.{list_any, before_first, after_first}
use Rattle.std.specs.Str.Parse.{digits_value}
use Rattle.kn_words.specs.Options.{most_made, name_text}
use Rattle.kn_words.specs.declared.options.Given.{Given}
use Rattle.kn_words.specs.declared.options.Name.{Name}
use Rattle.kn_words.specs.declared.options.Name.TheVariants as names
use Rattle.kn_words.specs.declared.options.Reading.{Reading}
use Rattle.kn_words.specs.declared.words.Verb.{Verb}
use Rattle.kn_words.specs.declared.words.Verb.TheVariants as verbs

-- the option of this name
abbrev pub name_in : List ℕ → Option Name
name_in text = if bytes_eq text (name_text names.Mapping) then Some names.Mapping
    else (if bytes_eq text (name_text names.Workers) then Some names.Workers
    else (if bytes_eq text (name_text names.Make) then Some names.Make else None))

-- digits in their one form: without a sign, and without a zero in front
abbrev pub is_plain : List ℕ → Bool
is_plain text = not (slice_index text 0 == 43) && (not (slice_index text 0 == 48) || nat_le (length text) 1)

-- the text is a number that may be made, in its one form
abbrev pub is_number : List ℕ → Bool
is_number text = nat_le (digits_value 10 text) most_made && bytes_eq text (decimal (digits_value 10 text))

-- the option takes the value
abbrev pub is_value : Name → List ℕ → Bool
is_value names.Mapping text = bytes_eq text (codes "cob")
is_value names.Workers text = bytes_eq text (codes "1")
is_value names.Make text = is_number text

abbrev pub is_given : Name → Given → Bool
is_given names.Mapping g = g.mapping
is_given names.Workers g = g.workers
is_given names.Make g = g.make

abbrev pub giving : Name → Given → Given
giving names.Mapping g = record g { mapping = true }
giving names.Workers g = record g { workers = true }
giving names.Make g = record g { make = true }

-- one option more, unless it is given already or does not take the value
abbrev pub with_option : Name → List ℕ → Given → Option Given
with_option name value g = if not (is_given name g) && is_value name value then Some (giving name g) else None

abbrev pub between : Given → Reading
between g = record { given = g; waiting = None }

abbrev pub before_value : Given → Name → Reading
before_value g name = record { given = g; waiting = Some name }

-- after `--name=value`
abbrev pub after_both : Given → List ℕ → List ℕ → Option Reading
after_both g name value = option_and_then (λ n. option_map between (with_option n value g)) (name_in name)

abbrev pub has_equals : List ℕ → Bool
has_equals = list_any (λ x. x == 61)

-- after the first word of an option
abbrev pub after_option : Given → List ℕ → Option Reading
after_option g word = if has_equals word then after_both g (before_first (λ x. x == 61) word) (after_first (λ x. x == 61) word)
    else option_map (before_value g) (name_in word)

abbrev pub after_name : Option Name → Given → List ℕ → Option Reading
after_name (Some name) g word = option_map between (with_option name word g)
after_name None g word = after_option g word

-- after one word more
abbrev pub after_word : Reading → List ℕ → Option Reading
after_word r word = after_name r.waiting r.given word

-- which options are given at the end, unless a value is missing
abbrev pub at_end : Reading → Option Given
at_end r = if is_some r.waiting then None else Some r.given

-- which options the words give
abbrev pub read_from : Reading → List (List ℕ) → Option Given
read_from r [] = at_end r
read_from r (word ∷ words) = option_and_then (λ q. read_from q words) (after_word r word)

abbrev pub nothing_given : Given
nothing_given = record { mapping = false; workers = false; make = false }

abbrev pub has_mapping : Option Given → Bool
has_mapping None = false
has_mapping (Some g) = g.mapping

-- the words are options
abbrev pub are_options : List (List ℕ) → Bool
are_options words = has_mapping (read_from (between nothing_given) words)

-- what the first word asks for
abbrev pub verb_text : Verb → List ℕ
verb_text verbs.Explore = codes "explore"
verb_text verbs.Replay = codes "replay"
verb_text verbs.Make = codes "make"

abbrev pub verb_named : List ℕ → Option Verb
verb_named text = if bytes_eq text (verb_text verbs.Explore) then Some verbs.Explore
    else (if bytes_eq text (verb_text verbs.Replay) then Some verbs.Replay
    else (if bytes_eq text (verb_text verbs.Make) then Some verbs.Make else None))

abbrev pub verb_in : List (List ℕ) → Option Verb
verb_in [] = None
verb_in (word ∷ words) = verb_named word

-- the words are one number
abbrev pub is_one_number : List (List ℕ) → Bool
is_one_number [] = false
is_one_number (word ∷ []) = is_number word
is_one_number (word ∷ next ∷ words) = false

-- what may stand after a first word
abbrev pub rest_ok : Verb → List (List ℕ) → Bool
rest_ok verbs.Explore rest = are_options rest
rest_ok verbs.Replay rest = length rest == 0
rest_ok verbs.Make rest = is_one_number rest

abbrev pub line_ok : Option Verb → List (List ℕ) → Bool
line_ok None rest = false
line_ok (Some verb) rest = rest_ok verb rest

-- the words are a command line
abbrev pub are_line : List (List ℕ) → Bool
are_line [] = false
are_line (word ∷ rest) = line_ok (verb_named word) rest
