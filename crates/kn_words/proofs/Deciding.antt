-- What the code reads decides what a command line is.
use Rattle.std.proofs.Common.{◌≡◌, ◌∙◌, ◌↔◌, ℕ, ◌+◌, ◌==◌, ◌≤◌, Bool, true, false, if◌then◌else◌, IsTrue, List, [], ◌∷◌, length, refl, sym, ap, subst, arith, Option, Some, None, is_some, IfSome, codes, decimal, take, drop, get_or, take_all, eqb-true}
use Rattle.std.specs.Option.{option_map}
use Rattle.std.proofs.lemmas.Slice.Eq.{bytes_eq-Decides}
use denote.Ref.{Bor}
use Rattle.kn_words.specs.Lines.{IsCommandLine, words_of}
use Rattle.kn_words.specs.Options.{AreOptions, Setting, AreSpelled, most_made, value_of}
use Rattle.kn_words.specs.Reading.{between, read_from, nothing_given, has_mapping, are_options, is_given, is_value, is_one_number, are_line, line_ok, rest_ok, verb_named, verb_text}
use Rattle.kn_words.specs.declared.line.Line.TheVariants as lines
use Rattle.kn_words.specs.declared.options.Given.{Given}
use Rattle.kn_words.specs.declared.options.Name.{Name}
use Rattle.kn_words.specs.declared.options.Name.TheVariants as names
use Rattle.kn_words.specs.declared.words.Verb.{Verb}
use Rattle.kn_words.specs.declared.words.Verb.TheVariants as verbs
use Rattle.kn_words.proofs.Numbers.{number_from, number_tells}
use Rattle.kn_words.proofs.Spelling.{spelled_read, read_spelled}
use Rattle.kn_words.proofs.Taking.{Fits, Takes, all_taken, taken_all}

-- ---- options

made_value : (made : Option ℕ) → IfSome made (λ n. n ≤ most_made) → IfSome (option_map decimal made) (λ value. is_value names.Make value ≡ true)
made_value None small = tt
made_value (Some n) small = number_from (decimal n) (n, refl, small)

worker_value : (o : Option (List ℕ)) → IfSome o (λ value. value ≡ codes "1") → IfSome o (λ value. is_value names.Workers value ≡ true)
worker_value None one = tt
worker_value (Some value) one = (bytes_eq-Decides value (codes "1")).1 one

right_values : (made : Option ℕ) (words : List (List ℕ)) (options : AreOptions made words) (name : Name) → IfSome (value_of name options.settings) (λ value. is_value name value ≡ true)
right_values made words options names.Mapping = rw options.mapping refl
right_values made words options names.Workers = worker_value _ options.workers
right_values made words options names.Make = rw options.making (made_value made options.range)

pub nothing_loaded : (name : Name) → is_given name nothing_given ≡ false
nothing_loaded names.Mapping = refl
nothing_loaded names.Workers = refl
nothing_loaded names.Make = refl

pub options_fit : (made : Option ℕ) (words : List (List ℕ)) (options : AreOptions made words) → Fits nothing_given options.settings
options_fit made words options = record {
  once = λ name. rw (nothing_loaded name) (omega (arith, options.once name));
  values = right_values made words options;
}

-- options are read
pub options_read : (made : Option ℕ) (words : List (List ℕ)) → AreOptions made words → are_options words ≡ true
options_read made words options =
    let fits = options_fit made words options in
    let end = all_taken options.settings nothing_given fits in
    let takes = taken_all options.settings nothing_given end.0 end.1 in
    ap has_mapping (spelled_read options.settings words nothing_given options.spelled ∙ end.1)
    ∙ takes.given names.Mapping ∙ ap is_some options.mapping

made_in : (o : Option (List ℕ)) → IfSome o (λ value. is_value names.Make value ≡ true)
    → (made : Option ℕ) × (o ≡ option_map decimal made) × IfSome made (λ n. n ≤ most_made)
made_in None right = (None, refl, tt)
made_in (Some value) right = let number = number_tells value right in (Some number.0, ap Some number.1, number.2)

worker_in : (o : Option (List ℕ)) → IfSome o (λ value. is_value names.Workers value ≡ true) → IfSome o (λ value. value ≡ codes "1")
worker_in None right = tt
worker_in (Some value) right = (bytes_eq-Decides value (codes "1")).0 right

mapping_in : (o : Option (List ℕ)) → is_some o ≡ true → IfSome o (λ value. is_value names.Mapping value ≡ true) → o ≡ Some (codes "cob")
mapping_in None there right = absurd cc
mapping_in (Some value) there right = ap Some ((bytes_eq-Decides value (codes "cob")).0 right)

read_options : (words : List (List ℕ)) (settings : List Setting) (g : Given) → AreSpelled settings words → Takes nothing_given settings g → g.mapping ≡ true
    → (made : Option ℕ) × AreOptions made words
read_options words settings g spelled takes given =
    let making = made_in (value_of names.Make settings) (takes.fits.values names.Make) in (
      making.0,
      record {
        settings = settings;
        spelled = spelled;
        once = λ name. omega (arith, takes.fits.once name);
        mapping = mapping_in (value_of names.Mapping settings) (sym (takes.given names.Mapping) ∙ given) (takes.fits.values names.Mapping);
        workers = worker_in (value_of names.Workers settings) (takes.fits.values names.Workers);
        making = making.1;
        range = making.2;
      },
    )

-- what is read are options
pub options_from : (words : List (List ℕ)) → are_options words ≡ true → (made : Option ℕ) × AreOptions made words
options_from words holds = go (read_from (between nothing_given) words) refl holds
  where
    go : (o : Option Given) → read_from (between nothing_given) words ≡ o → has_mapping o ≡ true → (made : Option ℕ) × AreOptions made words
    go None is given = absurd cc
    go (Some g) is given =
        let spells = read_spelled words nothing_given g is in
        read_options words spells.0 g spells.1 (taken_all spells.0 nothing_given g (sym (spelled_read spells.0 words nothing_given spells.1) ∙ is)) given

-- ---- lines

-- what may stand after a first word
abbrev IsRest : Verb → List (List ℕ) → Type 0
IsRest verbs.Explore rest = (made : Option ℕ) × AreOptions made rest
IsRest verbs.Replay rest = rest ≡ []
IsRest verbs.Make rest = (number : ℕ) × (rest ≡ decimal number ∷ []) × (number ≤ most_made)

one_number_from : (words : List (List ℕ)) → is_one_number words ≡ true → (number : ℕ) × (words ≡ decimal number ∷ []) × (number ≤ most_made)
one_number_from [] e = absurd cc
one_number_from (word ∷ []) e = let number = number_tells word e in (number.0, ap (λ (w : List ℕ). w ∷ []) number.1, number.2)
one_number_from (word ∷ next ∷ words) e = absurd cc

nothing_left : (rest : List (List ℕ)) → (length rest == 0) ≡ true → rest ≡ []
nothing_left [] e = refl
nothing_left (word ∷ rest) e = let none : length (word ∷ rest) ≡ 0 = eqb-true _ _ e in absurd (omega (arith, none))

rest_from : (verb : Verb) (rest : List (List ℕ)) → rest_ok verb rest ≡ true → IsRest verb rest
rest_from verbs.Explore rest e = options_from rest e
rest_from verbs.Replay rest e = nothing_left rest e
rest_from verbs.Make rest e = one_number_from rest e

rest_read : (verb : Verb) (rest : List (List ℕ)) → IsRest verb rest → rest_ok verb rest ≡ true
rest_read verbs.Explore rest (made, options) = options_read made rest options
rest_read verbs.Replay rest none = ap (λ (ws : List (List ℕ)). length ws == 0) none
rest_read verbs.Make rest (number, is, small) = ap is_one_number is ∙ number_from (decimal number) (number, refl, small)

explore_line : (made : Option ℕ) (rest : List (List ℕ)) → AreOptions made rest → IsCommandLine (codes "explore" ∷ rest)
explore_line None rest options = (lines.Explore, (rest, refl, options))
explore_line (Some number) rest options = (lines.ExploreMade number, (rest, refl, options))

line_from : (verb : Verb) (rest : List (List ℕ)) → IsRest verb rest → IsCommandLine (verb_text verb ∷ rest)
line_from verbs.Explore rest (made, options) = explore_line made rest options
line_from verbs.Replay rest none = (lines.Replay, ap (λ (ws : List (List ℕ)). codes "replay" ∷ ws) none)
line_from verbs.Make rest (number, is, small) = (lines.Make number, (ap (λ (ws : List (List ℕ)). codes "make" ∷ ws) is, small))

-- a command line is a first word with what may stand after it
pub record Parts (words : List (List ℕ)) : Type 0 where
  pub verb : Verb
  pub rest : List (List ℕ)
  pub split : words ≡ verb_text verb ∷ rest
  pub is_rest : IsRest verb rest

pub parts_of : (words : List (List ℕ)) → IsCommandLine words → Parts words
parts_of words (lines.Explore, (options, is, right)) = record { verb = verbs.Explore; rest = options; split = is; is_rest = (None, right) }
parts_of words (lines.ExploreMade number, (options, is, right)) = record { verb = verbs.Explore; rest = options; split = is; is_rest = (Some number, right) }
parts_of words (lines.Replay, is) = record { verb = verbs.Replay; rest = []; split = is; is_rest = refl }
parts_of words (lines.Make number, (is, small)) = record { verb = verbs.Make; rest = decimal number ∷ []; split = is; is_rest = (number, refl, small) }

named_verb : (verb : Verb) → verb_named (verb_text verb) ≡ Some verb
named_verb verbs.Explore = refl
named_verb verbs.Replay = refl
named_verb verbs.Make = refl

choose : (text : List ℕ) (n m : Verb) (b : Bool) (rest : Option Verb) → (b ≡ true → text ≡ verb_text m) → (rest ≡ Some n → text ≡ verb_text n)
    → (if b then Some m else rest) ≡ Some n → text ≡ verb_text n
choose text n m true rest here there e = let same : m ≡ n = cc in here refl ∙ ap verb_text same
choose text n m false rest here there e = there e

pub verb_tells : (text : List ℕ) (verb : Verb) → verb_named text ≡ Some verb → text ≡ verb_text verb
verb_tells text verb =
    choose text verb verbs.Explore _ _ (bytes_eq-Decides text (verb_text verbs.Explore)).0
    (choose text verb verbs.Replay _ _ (bytes_eq-Decides text (verb_text verbs.Replay)).0
    (choose text verb verbs.Make _ None (bytes_eq-Decides text (verb_text verbs.Make)).0 (λ e. absurd cc)))

line_read : (words : List (List ℕ)) → IsCommandLine words → are_line words ≡ true
line_read words line =
    let parts = parts_of words line in
    ap are_line parts.split ∙ ap (λ (o : Option Verb). line_ok o parts.rest) (named_verb parts.verb) ∙ rest_read parts.verb parts.rest parts.is_rest

named_line : (word : List ℕ) (verb : Verb) (rest : List (List ℕ)) → verb_named word ≡ Some verb → rest_ok verb rest ≡ true → IsCommandLine (word ∷ rest)
named_line word verb rest named holds = subst (λ (w : List ℕ). IsCommandLine (w ∷ rest)) (sym (verb_tells word verb named)) (line_from verb rest (rest_from verb rest holds))

-- the test on the words, where the first names a verb
pub words_decided : (words : List (Bor (List ℕ))) (first : Bor (List ℕ)) (count : ℕ) (verb : Verb) (r : Bool) → 1 ≤ length words → length words ≤ 1 + count
    → Some verb ≡ verb_named (get_or words 0 first).now → r ≡ rest_ok verb (words_of (take count (drop 1 words))) → IsTrue r ↔ IsCommandLine (words_of words)
words_decided [] first count verb r some many named is = absurd (omega arith)
words_decided (word ∷ rest) first count verb r some many named is =
    let all : take count rest ≡ rest = take_all count rest (omega arith) in
    let reads : r ≡ rest_ok verb (words_of rest) = is ∙ ap (λ (ws : List (Bor (List ℕ))). rest_ok verb (words_of ws)) all in (
      (λ holds. named_line word.now verb (words_of rest) (sym named) (sym reads ∙ holds)),
      (λ line. reads ∙ ap (λ (o : Option Verb). line_ok o (words_of rest)) named ∙ line_read (words_of (word ∷ rest)) line),
    )
