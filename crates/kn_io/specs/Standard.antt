-- What a reader and a writer of std are seen as, where they are a source and a sink.
use Rattle.std.specs.Prelude.{ℕ, List, take, MatchResult}
use Rattle.std.specs.declared.option.Option.{Option}
use Rattle.std.specs.declared.result.Result.{Result}
use Rattle.std.specs.Io.KnownBytes.{Appends}

-- the bytes left, where the reader tells them, and the count of faults
pub record StandardLeft : Type 0 where
  pub left : Option (List ℕ)
  pub faults : ℕ

-- the bytes that the writer holds, where it tells them, and the count of faults
pub record StandardTaken : Type 0 where
  pub held : Option (List ℕ)
  pub faults : ℕ

-- the first n bytes of the piece came to those that the writer holds, and at a failure some of its first bytes
abbrev pub PutsFront : {E : Type 0} → Option (List ℕ) → Option (List ℕ) → Result ℕ E → List ℕ → Type 0
PutsFront old new result piece = MatchResult result (λ n. Appends old new (take n piece)) (λ _. (n : ℕ) × Appends old new (take n piece))
