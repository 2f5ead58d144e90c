-- The laws of command lines. What words ask for is a function of the words, so they ask for one thing.
use Rattle.std.proofs.Common.{◌≡◌, ◌∙◌, ℕ, ◌≤◌, arith, List, refl, sym, ap, ap₂, Option, Some, None, IfSome, codes, decimal, slice_get}
use Rattle.std.specs.Option.{option_map}
use Rattle.clap.specs.Walk.{one_of}
use Rattle.clap.specs.Simple.{matches_of}
use Rattle.kn_words.specs.Commands.{explore_app}
use Rattle.kn_words.specs.Laws.{MadeInRange, OneLine}
use Rattle.kn_words.specs.Lines.{IsLine}
use Rattle.kn_words.specs.Options.{most_made}
use Rattle.kn_words.specs.Reading.{verb_in}
use Rattle.kn_words.specs.declared.line.Line.{Line}
use Rattle.kn_words.specs.declared.line.Line.TheVariants as lines
use Rattle.kn_words.specs.declared.words.Verb.{Verb}
use Rattle.kn_words.specs.declared.words.Verb.TheVariants as verbs
use Rattle.kn_words.proofs.Numbers.{one_number}
use Rattle.kn_words.proofs.Parsing.{options_parse}

-- a line, by its verb and its number
abbrev verb_for : Line → Verb
verb_for lines.Explore = verbs.Explore
verb_for (lines.ExploreMade number) = verbs.Explore
verb_for lines.Replay = verbs.Replay
verb_for (lines.Make number) = verbs.Make

abbrev number_for : Line → Option ℕ
number_for lines.Explore = None
number_for (lines.ExploreMade number) = Some number
number_for lines.Replay = None
number_for (lines.Make number) = Some number

abbrev line_for : Verb → Option ℕ → Line
line_for verbs.Explore None = lines.Explore
line_for verbs.Explore (Some number) = lines.ExploreMade number
line_for verbs.Replay o = lines.Replay
line_for verbs.Make None = lines.Replay
line_for verbs.Make (Some number) = lines.Make number

line_again : (line : Line) → line_for (verb_for line) (number_for line) ≡ line
line_again lines.Explore = refl
line_again (lines.ExploreMade number) = refl
line_again lines.Replay = refl
line_again (lines.Make number) = refl

-- both are found in the words
verb_found : (line : Line) (words : List (List ℕ)) → IsLine line words → verb_in words ≡ Some (verb_for line)
verb_found lines.Explore words (options, is, right) = ap verb_in is
verb_found (lines.ExploreMade number) words (options, is, right) = ap verb_in is
verb_found lines.Replay words is = ap verb_in is
verb_found (lines.Make number) words (is, small) = ap verb_in is

abbrev text_in : Verb → List (List ℕ) → Option (List ℕ)
text_in verbs.Explore words = one_of (codes "make") (matches_of explore_app words)
text_in verbs.Replay words = None
text_in verbs.Make words = slice_get words 1

number_found : (line : Line) (words : List (List ℕ)) → IsLine line words → text_in (verb_for line) words ≡ option_map decimal (number_for line)
number_found lines.Explore words (options, is, right) = ap (text_in verbs.Explore) is ∙ (options_parse None (codes "explore") options right).number
number_found (lines.ExploreMade number) words (options, is, right) = ap (text_in verbs.Explore) is ∙ (options_parse (Some number) (codes "explore") options right).number
number_found lines.Replay words is = refl
number_found (lines.Make number) words (is, small) = ap (text_in verbs.Make) is

in_range : (line : Line) (words : List (List ℕ)) → IsLine line words → IfSome (number_for line) (λ n. n ≤ most_made)
in_range lines.Explore words is = tt
in_range (lines.ExploreMade number) words (options, is, right) = right.range
in_range lines.Replay words is = tt
in_range (lines.Make number) words (is, small) = small

pub same_number : (m n : Option ℕ) → IfSome m (λ k. k ≤ most_made) → IfSome n (λ k. k ≤ most_made) → option_map decimal m ≡ option_map decimal n → m ≡ n
same_number None None small little e = refl
same_number None (Some n) small little e = absurd cc
same_number (Some m) None small little e = absurd cc
same_number (Some m) (Some n) small little e = let texts : decimal m ≡ decimal n = cc in ap Some (one_number m n small little texts)

pub one_line : OneLine
one_line a b words is_a is_b =
    let both : Some (verb_for a) ≡ Some (verb_for b) = sym (verb_found a words is_a) ∙ verb_found b words is_b in
    let verb : verb_for a ≡ verb_for b = cc in
    let number : number_for a ≡ number_for b = same_number (number_for a) (number_for b) (in_range a words is_a) (in_range b words is_b)
    (sym (number_found a words is_a) ∙ ap (λ (v : Verb). text_in v words) verb ∙ number_found b words is_b) in
    sym (line_again a) ∙ ap₂ line_for verb number ∙ line_again b

pub made_in_range : MadeInRange
made_in_range number words = ((λ line. omega (arith, line.1)), (λ line. omega (arith, line.2.range)))
