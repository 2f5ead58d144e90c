-- clap takes the options of `explore`, and what it makes of them.
use Rattle.std.proofs.Common.{◌≡◌, ◌∙◌, ℕ, ◌==◌, ◌≤◌, Bool, true, false, ◌||◌, ◌&&◌, if◌then◌else◌, List, [], ◌∷◌, ◌++◌, refl, sym, ap, ap₂, subst, arith, Option, Some, None, is_some, IfSome, codes, decimal, append_assoc, append-nil, inl, inr, map}
use Rattle.std.specs.Fmt.{digits}
use Rattle.std.specs.List.{fold, list_all}
use Rattle.std.specs.Option.{option_map}
use Rattle.std.specs.Str.{bytes_eq}
use Rattle.std.proofs.lemmas.Bool.{agree_below, agree_below_at, and_from, and_parts, not-true}
use Rattle.std.proofs.lemmas.List.Sums.{fold-append}
use Rattle.std.proofs.lemmas.Slice.Eq.{bytes_eq-Decides}
use Rattle.clap.specs.Lexer.{without_minus}
use Rattle.clap.specs.Walk.{Held, Row, Text, Walk, finished, has_row, nothing_held, one_of, reacted, settled, settled_rows, used, with_default, walk_from, walked}
use Rattle.clap.specs.Simple.{built, entered, matches_of}
use Rattle.clap.specs.Takes.{default_passes, entered_passes, is_valid, settle_passes, takes, turn_passes, use_passes, value_passes, walk_passes}
use Rattle.kn_words.specs.Commands.{explore_app}
use Rattle.kn_words.specs.Options.{AreOptions, AreSpelled, IsSpelled, Setting, most_made, name_text, value_of}
use Rattle.kn_words.specs.Reading.{giving, is_given, is_value, nothing_given}
use Rattle.kn_words.specs.declared.options.Given.{Given}
use Rattle.kn_words.specs.declared.options.Name.{Name}
use Rattle.kn_words.specs.declared.options.Name.TheVariants as names
use Rattle.kn_words.proofs.Numbers.{number_tells}
use Rattle.kn_words.proofs.Deciding.{nothing_loaded, options_fit}
use Rattle.kn_words.proofs.Taking.{Fits, fits_after, given_after, new_option, right_value, same}
use Rattle.kn_words.proofs.Walking.{name_passes, name_word, no_flag, one_passes, one_word, row_for, rule_for, rules, top, use_first, used_first, value_word, word_passes}

-- ---- values

plain_below : agree_below (λ n. no_flag (decimal n)) (λ _. true) 36 ≡ true
unfolding digits
plain_below = refl

passed_below : agree_below (λ n. value_passes (rule_for names.Make) (decimal n)) (λ _. true) 36 ≡ true
unfolding digits
passed_below = refl

-- a number of which a network is made is no flag, and clap takes it
pub number_plain : (n : ℕ) → n ≤ most_made → no_flag (decimal n) ≡ true
number_plain n small = agree_below_at (λ m. no_flag (decimal m)) (λ _. true) 36 n plain_below (omega arith)

pub number_passes : (n : ℕ) → n ≤ most_made → value_passes (rule_for names.Make) (decimal n) ≡ true
number_passes n small = agree_below_at (λ m. value_passes (rule_for names.Make) (decimal m)) (λ _. true) 36 n passed_below (omega arith)

-- so is each value of an option
plain_value : (name : Name) (value : List ℕ) → is_value name value ≡ true → no_flag value ≡ true
plain_value names.Mapping value right = ap no_flag ((bytes_eq-Decides value (codes "cob")).0 right)
plain_value names.Workers value right = ap no_flag ((bytes_eq-Decides value (codes "1")).0 right)
plain_value names.Make value right = let number = number_tells value right in ap no_flag number.1 ∙ number_plain number.0 number.2

passed_value : (name : Name) (value : List ℕ) → is_value name value ≡ true → value_passes (rule_for name) value ≡ true
passed_value names.Mapping value right = refl
passed_value names.Workers value right = refl
passed_value names.Make value right = let number = number_tells value right in ap (value_passes (rule_for names.Make)) number.1 ∙ number_passes number.0 number.2

-- ---- where clap stands between two options

-- these rows are found, once what waits is used, and that passes
record Stands (h : Held) (rows : List Row) : Type 0 where
  found : (settled rules h).rows ≡ rows
  passes : settle_passes rules false h ≡ true

-- a row stands for each option that is given
abbrev Agree : List Row → Given → Type 0
Agree rows g = (name : Name) → has_row (rule_for name).id rows ≡ is_given name g

-- what one option more comes to
record Goes (h : Held) (rows : List Row) (words : List (List ℕ)) : Type 0 where
  end : Held
  walks : fold (walked rules []) (walk_from h) words ≡ walk_from end
  stands : Stands end rows
  passes : walk_passes top [] (walk_from h) words ≡ true

use_passed : (s : Setting) (h : Held) (rows : List Row) → Stands h rows → has_row (rule_for s.name).id rows ≡ false → is_value s.name s.value ≡ true
    → use_passes false (rule_for s.name) (s.value ∷ []) (settled rules h).rows ≡ true
use_passed s h rows stands new right = ap (use_passes false (rule_for s.name) (s.value ∷ [])) stands.found ∙ use_first s.name s.value rows new (passed_value s.name s.value right)

one_goes : (s : Setting) (h : Held) (rows : List Row) → Stands h rows → has_row (rule_for s.name).id rows ≡ false → is_value s.name s.value ≡ true
    → Goes h (rows ++ row_for s ∷ []) ((name_text s.name ++ (codes "=" ++ s.value)) ∷ [])
unfolding walk_passes
one_goes s h rows stands new right = record {
  end = reacted rules (rule_for s.name) (s.value ∷ []) h;
  walks = one_word s.name s.value h;
  stands = record { found = ap (used (rule_for s.name) (s.value ∷ [])) stands.found ∙ used_first s rows new; passes = refl };
  passes = and_from _ _ (one_passes s.name s.value h ∙ and_from _ _ (and_from _ _ stands.passes (use_passed s h rows stands new right)) refl) refl;
}

waiting_rows : (n : Name) (values : List Text) (rows : List Row) → settled_rows rules (Some ((rule_for n).id, values)) rows ≡ used (rule_for n) values rows
waiting_rows names.Mapping values rows = refl
waiting_rows names.Workers values rows = refl
waiting_rows names.Make values rows = refl

waiting_passes : (n : Name) (values : List Text) (h : Held) → settle_passes rules false (record h { pending = Some ((rule_for n).id, values) }) ≡ use_passes false (rule_for n) values h.rows
waiting_passes names.Mapping values h = refl
waiting_passes names.Workers values h = refl
waiting_passes names.Make values h = refl

two_goes : (s : Setting) (h : Held) (rows : List Row) → Stands h rows → has_row (rule_for s.name).id rows ≡ false → is_value s.name s.value ≡ true
    → Goes h (rows ++ row_for s ∷ []) (name_text s.name ∷ s.value ∷ [])
unfolding walk_passes
two_goes s h rows stands new right = let plain = plain_value s.name s.value right in record {
  end = record (settled rules h) { pending = Some ((rule_for s.name).id, s.value ∷ []) };
  walks = ap (λ (w : Walk). walked rules [] w s.value) (name_word s.name h) ∙ value_word s.name h s.value plain;
  stands = record {
    found = waiting_rows s.name (s.value ∷ []) (settled rules h).rows ∙ ap (used (rule_for s.name) (s.value ∷ [])) stands.found ∙ used_first s rows new;
    passes = waiting_passes s.name (s.value ∷ []) (settled rules h) ∙ use_passed s h rows stands new right;
  };
  passes = and_from _ _ (name_passes s.name h ∙ and_from _ _ stands.passes refl)
      (and_from _ _ (ap (λ (w : Walk). turn_passes top [] w s.value) (name_word s.name h) ∙ word_passes s.name h s.value plain) refl);
}

-- ---- all options

setting_goes : (s : Setting) (words : List (List ℕ)) (h : Held) (rows : List Row) → IsSpelled s words → Stands h rows → has_row (rule_for s.name).id rows ≡ false → is_value s.name s.value ≡ true
    → Goes h (rows ++ row_for s ∷ []) words
setting_goes s words h rows spelled stands new right = elim spelled [
  | inl two ↦ subst (Goes h (rows ++ row_for s ∷ [])) (sym two) (two_goes s h rows stands new right)
  | inr one ↦ subst (Goes h (rows ++ row_for s ∷ [])) (sym one) (one_goes s h rows stands new right)
]

passes-append : (w : Walk) (xs ys : List (List ℕ)) → walk_passes top [] w xs ≡ true → walk_passes top [] (fold (walked rules []) w xs) ys ≡ true → walk_passes top [] w (xs ++ ys) ≡ true
unfolding walk_passes
passes-append w [] ys first next = next
passes-append w (x ∷ xs) ys first next =
    let both = and_parts _ _ first in
    and_from _ _ both.0 (passes-append (walked rules [] w x) xs ys both.1 next)

goes-append : (h : Held) (middle rows : List Row) (xs ys : List (List ℕ)) (first : Goes h middle xs) → Goes first.end rows ys → Goes h rows (xs ++ ys)
goes-append h middle rows xs ys first next = record {
  end = next.end;
  walks = fold-append (walked rules []) (walk_from h) xs ys ∙ ap (λ (w : Walk). fold (walked rules []) w ys) first.walks ∙ next.walks;
  stands = next.stands;
  passes = passes-append (walk_from h) xs ys first.passes (subst (λ (w : Walk). walk_passes top [] w ys ≡ true) (sym first.walks) next.passes);
}

or_swap : (a b c : Bool) → (a || (b || c)) ≡ (b || (a || c))
or_swap true true c = refl
or_swap true false c = refl
or_swap false b c = refl

-- one row more, for one option more
has_row-append : (id : Text) (rows : List Row) (r : Row) → has_row id (rows ++ r ∷ []) ≡ (bytes_eq r.id id || has_row id rows)
has_row-append id [] r = refl
has_row-append id (x ∷ rows) r = ap (λ (b : Bool). bytes_eq x.id id || b) (has_row-append id rows r) ∙ or_swap (bytes_eq x.id id) (bytes_eq r.id id) (has_row id rows)

same_id : (n name : Name) → bytes_eq (rule_for n).id (rule_for name).id ≡ same n name
same_id names.Mapping names.Mapping = refl
same_id names.Mapping names.Workers = refl
same_id names.Mapping names.Make = refl
same_id names.Workers names.Mapping = refl
same_id names.Workers names.Workers = refl
same_id names.Workers names.Make = refl
same_id names.Make names.Mapping = refl
same_id names.Make names.Workers = refl
same_id names.Make names.Make = refl

agree_after : (s : Setting) (rows : List Row) (g : Given) → Agree rows g → Agree (rows ++ row_for s ∷ []) (giving s.name g)
agree_after s rows g agree name =
    has_row-append (rule_for name).id rows (row_for s)
    ∙ ap₂ (λ (a b : Bool). a || b) (same_id s.name name) (agree name)
    ∙ sym (given_after s.name name g)

options_go : (settings : List Setting) (words : List (List ℕ)) (h : Held) (rows : List Row) (g : Given) → AreSpelled settings words → Stands h rows → Agree rows g → Fits g settings
    → Goes h (rows ++ map row_for settings) words
unfolding walk_passes
options_go [] words h rows g spelled stands agree fits = subst (Goes h (rows ++ [])) (sym spelled) (record {
  end = h;
  walks = refl;
  stands = subst (Stands h) (sym (append-nil rows)) stands;
  passes = refl;
})
options_go (s ∷ rest) words h rows g (front, back, joined, spelled, more) stands agree fits =
    let new : has_row (rule_for s.name).id rows ≡ false = agree s.name ∙ new_option s rest g fits in
    let first = setting_goes s front h rows spelled stands new (right_value s rest g fits) in
    let next = options_go rest back first.end (rows ++ row_for s ∷ []) (giving s.name g) more first.stands (agree_after s rows g agree) (fits_after s rest g fits) in
    subst (Goes h (rows ++ map row_for (s ∷ rest))) (sym joined)
    (goes-append h (rows ++ row_for s ∷ []) (rows ++ map row_for (s ∷ rest)) front back first
    (subst (λ (rs : List Row). Goes first.end rs back) (append_assoc rows (row_for s ∷ []) (map row_for rest)) next))

-- ---- what is found

same_rows : (b : Bool) (rows : List Row) → (if b then rows else rows) ≡ rows
same_rows true rows = refl
same_rows false rows = refl

no_default : (n : Name) (rows : List Row) → with_default rows (rule_for n) ≡ rows
no_default names.Mapping rows = same_rows _ rows
no_default names.Workers rows = same_rows _ rows
no_default names.Make rows = same_rows _ rows

finished_rows : (h : Held) → finished rules h ≡ (settled rules h).rows
finished_rows h = no_default names.Make _ ∙ no_default names.Workers _ ∙ no_default names.Mapping _

made_row : (settings : List Setting) → one_of (codes "make") (map row_for settings) ≡ option_map without_minus (value_of names.Make settings)
made_row [] = refl
made_row (s ∷ rest) = go s.name s.value (made_row rest)
  where
    go : (n : Name) (value : List ℕ) → one_of (codes "make") (map row_for rest) ≡ option_map without_minus (value_of names.Make rest)
        → one_of (codes "make") (map row_for (record { name = n; value = value } ∷ rest)) ≡ option_map without_minus (value_of names.Make (record { name = n; value = value } ∷ rest))
    go names.Mapping value e = e
    go names.Workers value e = e
    go names.Make value e = refl

plain_text : (text : List ℕ) → no_flag text ≡ true → without_minus text ≡ text
plain_text [] plain = refl
plain_text (x ∷ xs) plain = let other : (x == 45) ≡ false = not-true _ plain in rw other refl

-- a number is read as it is written
bare_number : (n : ℕ) → n ≤ most_made → without_minus (decimal n) ≡ decimal n
bare_number n small = plain_text (decimal n) (number_plain n small)

bare_made : (made : Option ℕ) → IfSome made (λ n. n ≤ most_made) → option_map without_minus (option_map decimal made) ≡ option_map decimal made
bare_made None small = refl
bare_made (Some n) small = ap Some (bare_number n small)

-- what clap makes of options after any first word: it takes them, and finds their number
pub record Parses (made : Option ℕ) (word : List ℕ) (words : List (List ℕ)) : Type 0 where
  pub number : one_of (codes "make") (matches_of explore_app (word ∷ words)) ≡ option_map decimal made
  pub taken : takes explore_app (word ∷ words) ≡ true

goes_from : (made : Option ℕ) (words : List (List ℕ)) (options : AreOptions made words) → Goes nothing_held (map row_for options.settings) words
goes_from made words options = options_go options.settings words nothing_held [] nothing_given options.spelled
    (record { found = refl; passes = refl })
    (λ name. sym (nothing_loaded name))
    (options_fit made words options)

-- that clap takes the words, by where its walk ends
abbrev passes_at : List (List ℕ) → Walk → Bool
passes_at words w = entered_passes (built explore_app) w.stopped && (walk_passes top [] (walk_from nothing_held) words
    && (settle_passes rules false w.held && (list_all default_passes rules && is_valid top (finished rules w.held) (is_some (entered (built explore_app) w.stopped)))))

pub options_parse : (made : Option ℕ) (word : List ℕ) (words : List (List ℕ)) → AreOptions made words → Parses made word words
options_parse made word words options = let goes = goes_from made words options in record {
  number =
      ap (λ (w : Walk). one_of (codes "make") (finished rules w.held)) goes.walks
      ∙ ap (one_of (codes "make")) (finished_rows goes.end ∙ goes.stands.found)
      ∙ made_row options.settings
      ∙ ap (option_map without_minus) options.making
      ∙ bare_made made options.range;
  taken = ap (passes_at words) goes.walks ∙ and_from _ _ goes.passes (and_from _ _ goes.stands.passes refl);
}
