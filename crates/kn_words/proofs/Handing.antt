-- The number that clap hands out is the one of the words.
use Rattle.std.proofs.Common.{◌≡◌, ◌∙◌, ℕ, ◌≤◌, true, List, refl, sym, ap, ap₂, subst, Option, Some, None, IfSome, IfErr, Result, Ok, Err, codes, decimal}
use Rattle.std.specs.Option.{option_map}
use Rattle.std.specs.Result.{IsErrAnd}
use Rattle.std.specs.Str.Parse.{ParsesUnsigned}
use Rattle.clap.specs.Words.{App, HasMatchesOf, ReadsOne, found_of, is_simple, matches_of, one_of, one_text, takes}
use Rattle.clap.specs.declared.parser.matches.ArgMatches.{ArgMatches}
use Rattle.clap.proofs.WalkLemmas.{one_text-rows}
use Rattle.kn_words.specs.Commands.{explore_app, make_app}
use Rattle.kn_words.specs.Lines.{Explores, IsLine}
use Rattle.kn_words.specs.Options.{AreOptions, most_made}
use Rattle.kn_words.specs.declared.line.Line.TheVariants as lines
use Rattle.kn_words.proofs.Making.{number_made}
use Rattle.kn_words.proofs.Numbers.{number_read}
use Rattle.kn_words.proofs.Parsing.{options_parse}

-- an error that is handed on
pub handed_on : {X E : Type 0} (r : Result X E) (G P : E → Type 0) → IsErrAnd r G → ((e : E) → G e → P e) → IfErr r P
handed_on (Ok x) G P is each = absurd is
handed_on (Err e) G P is each = each e is

-- ---- what `get_one` reads

read_one : {E : Type 0} (G : List ℕ → Result ℕ E → Type 0) (n : ℕ) (result : Option ℕ) → ((t : List ℕ) (r : Result ℕ E) → G t r → ParsesUnsigned 8 10 t r) → n ≤ most_made
    → ReadsOne G (decimal n) result → result ≡ Some n
read_one {E} G n (Some v) parses small reads =
    let same : ◌≡◌ {A = Result ℕ E} (Ok v) (Ok n) = number_read (decimal n) (Ok v) (parses (decimal n) (Ok v) reads) (n, refl, small) in
    let equal : v ≡ n = cc in
    ap Some equal
read_one {E} G n None parses small (e, reads) =
    let same : Err e ≡ Ok n = number_read (decimal n) (Err e) (parses (decimal n) (Err e) reads) (n, refl, small) in
    absurd cc

read_made : {E : Type 0} (G : List ℕ → Result ℕ E → Type 0) (made : Option ℕ) (o : Option (List ℕ)) (result : Option ℕ) → ((t : List ℕ) (r : Result ℕ E) → G t r → ParsesUnsigned 8 10 t r)
    → IfSome made (λ n. n ≤ most_made) → o ≡ option_map decimal made
    → (o ≡ None → result ≡ None) → ((t : List ℕ) → o ≡ Some t → ReadsOne G t result) → result ≡ made
read_made G None o result parses small is none some = none is
read_made G (Some n) o result parses small is none some = read_one G n result parses small (some (decimal n) is)

-- ---- what clap finds

simple_explore : is_simple explore_app ≡ true
simple_explore = refl

simple_make : is_simple make_app ≡ true
simple_make = refl

-- what is found in the words of a simple command
text_found : (id : List ℕ) (app known : App) (words : List (List ℕ)) (m : ArgMatches) → app ≡ known → is_simple known ≡ true → HasMatchesOf app words m
    → one_text (found_of m) id ≡ one_of id (matches_of known words)
text_found id app known words m is simple found =
    one_text-rows (found_of m) id ∙ ap (one_of id) (found (ap is_simple is ∙ simple)).0 ∙ ap (λ (a : App). one_of id (matches_of a words)) is

-- ---- `explore`

pub explored : {E : Type 0} (G : List ℕ → Result ℕ E → Type 0) (app : App) (m : ArgMatches) (words : List (List ℕ)) (result : Option ℕ)
    → ((t : List ℕ) (r : Result ℕ E) → G t r → ParsesUnsigned 8 10 t r) → ((made : Option ℕ) × Explores made words) → app ≡ explore_app → HasMatchesOf app words m
    → (one_text (found_of m) (codes "make") ≡ None → result ≡ None) → ((t : List ℕ) → one_text (found_of m) (codes "make") ≡ Some t → ReadsOne G t result)
    → Explores result words
explored G app m words result parses (made, (options, is, right)) known found none some =
    let text : one_text (found_of m) (codes "make") ≡ option_map decimal made =
    text_found (codes "make") app explore_app words m known simple_explore found
    ∙ ap (λ (ws : List (List ℕ)). one_of (codes "make") (matches_of explore_app ws)) is
    ∙ (options_parse made (codes "explore") options right).number in
    let number : result ≡ made = read_made G made _ result parses right.range text none some in
    (options, is, subst (λ (o : Option ℕ). AreOptions o options) (sym number) right)

pub explore_taken : (app : App) (words : List (List ℕ)) → ((made : Option ℕ) × Explores made words) → app ≡ explore_app → takes app words ≡ true
explore_taken app words (made, (options, is, right)) known = ap₂ takes known is ∙ (options_parse made (codes "explore") options right).taken

-- ---- `make`

pub made : {E : Type 0} (G : List ℕ → Result ℕ E → Type 0) (app : App) (m : ArgMatches) (words : List (List ℕ)) (result : Option ℕ)
    → ((t : List ℕ) (r : Result ℕ E) → G t r → ParsesUnsigned 8 10 t r) → ((number : ℕ) × IsLine (lines.Make number) words) → app ≡ make_app → HasMatchesOf app words m
    → (one_text (found_of m) (codes "number") ≡ None → result ≡ None) → ((t : List ℕ) → one_text (found_of m) (codes "number") ≡ Some t → ReadsOne G t result)
    → (number : ℕ) × (result ≡ Some number) × IsLine (lines.Make number) words
made G app m words result parses (number, (is, small)) known found none some =
    let text : one_text (found_of m) (codes "number") ≡ option_map decimal (Some number) =
    text_found (codes "number") app make_app words m known simple_make found
    ∙ ap (λ (ws : List (List ℕ)). one_of (codes "number") (matches_of make_app ws)) is
    ∙ (number_made number (codes "make") small).found in
    (number, read_made G (Some number) _ result parses small text none some, (is, small))

pub made_line : (words : List (List ℕ)) (result : Option ℕ) (n : ℕ) → ((number : ℕ) × (result ≡ Some number) × IsLine (lines.Make number) words) → result ≡ Some n → IsLine (lines.Make n) words
made_line words result n (number, found, line) is =
    let same : number ≡ n = cc in
    subst (λ (k : ℕ). IsLine (lines.Make k) words) same line

pub make_taken : (app : App) (words : List (List ℕ)) → ((number : ℕ) × IsLine (lines.Make number) words) → app ≡ make_app → takes app words ≡ true
make_taken app words (number, (is, small)) known = ap₂ takes known is ∙ (number_made number (codes "make") small).taken
