-- clap takes the number of `make`.
use Rattle.std.proofs.Common.{◌≡◌, ℕ, ◌==◌, ◌≤◌, true, false, List, [], ◌∷◌, refl, Some, codes, decimal}
use Rattle.std.proofs.lemmas.Bool.{and_from, not-true}
use Rattle.clap.specs.Walk.{one_of, walked}
use Rattle.clap.specs.Simple.{matches_of}
use Rattle.clap.specs.Takes.{takes, walk_passes}
use Rattle.clap.specs.ValueTests.{accepts}
use Rattle.kn_words.specs.Commands.{byte_parser, make_app}
use Rattle.kn_words.specs.Options.{most_made}
use Rattle.kn_words.proofs.Parsing.{number_passes, number_plain}
use Rattle.kn_words.proofs.Walking.{no_flag}

found_number : (word value : List ℕ) → no_flag value ≡ true → one_of (codes "number") (matches_of make_app (word ∷ value ∷ [])) ≡ Some value
unfolding walked
found_number word [] plain = absurd cc
found_number word (x ∷ xs) plain = let other : (x == 45) ≡ false = not-true _ plain in rw (other, other, other) refl

takes_number : (word value : List ℕ) → no_flag value ≡ true → accepts false byte_parser value ≡ true → takes make_app (word ∷ value ∷ []) ≡ true
unfolding walked walk_passes
takes_number word [] plain right = absurd cc
takes_number word (x ∷ xs) plain right = let other : (x == 45) ≡ false = not-true _ plain in rw (other, other) (and_from _ _ (and_from _ _ right refl) refl)

-- what clap makes of a number after any first word
pub record Makes (number : ℕ) (word : List ℕ) : Type 0 where
  pub found : one_of (codes "number") (matches_of make_app (word ∷ decimal number ∷ [])) ≡ Some (decimal number)
  pub taken : takes make_app (word ∷ decimal number ∷ []) ≡ true

pub number_made : (number : ℕ) (word : List ℕ) → number ≤ most_made → Makes number word
number_made number word small = record {
  found = found_number word (decimal number) (number_plain number small);
  taken = takes_number word (decimal number) (number_plain number small) (number_passes number small);
}
